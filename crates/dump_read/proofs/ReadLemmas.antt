-- The lines so far, and the answer at their end.
use Rattle.std.proofs.Common.{ℕ, suc, ◌+◌, ◌≤◌, ◌≡◌, inl, inr, Bool, true, false, cond, None, Some, Option, List, [], ◌∷◌, length, map, refl, sym, ap, subst, ◌∙◌, arith, length-append}
use Rattle.std.specs.Prelude.{filter, All}
use Rattle.std.specs.List.{AllByRecursion}
use Rattle.std.proofs.lemmas.List.Elements.{All-from_recursion, All-weaker}
use Rattle.limits.specs.declared.TheConstants.{MOST_BYTES}
use Rattle.primitives.specs.declared.prim.Prim_.{Prim_}
use Rattle.fw_rule.specs.declared.rule.Rule.{Rule}
use Rattle.fw_rule.specs.declared.rule.Chain.{Chain}
use Rattle.fw_rule.specs.declared.rule.Dump.{Dump}
use Rattle.fw_rule.specs.Calls.{RuleHasRoom, ChainHasRoom, HasRoom}
use Rattle.dump_grammar.specs.Lines.{Text, Word, Numbered, AreLines, numbered_from}
use Rattle.dump_grammar.specs.declared.chains.Declared.{Declared}
use Rattle.dump_grammar.specs.Printable.{IsPrintableLiteral}
use Rattle.dump_grammar.specs.ChainLines.{IsChainLine}
use Rattle.dump_grammar.specs.declared.rule.RuleLine.{RuleLine}
use Rattle.dump_grammar.specs.RuleLines.{IsRuleLine}
use Rattle.dump_grammar.specs.Tables.{Placed, names_of, IsBadLine}
use Rattle.dump_grammar.specs.Reads.{rule_of, is_in, dump_of, HasFilter, IsDump}
use Rattle.dump_read.specs.declared.fault.ReadFault.{ReadFault}
use Rattle.dump_read.specs.declared.state.Part.{Part}
use Rattle.dump_read.specs.declared.state.State.{State}
use Rattle.dump_read.specs.inner.Positions.{Filter, Position, Opens, Adds, Moves, Step, Leads}
use Rattle.dump_read.specs.inner.States.{AreWritable, IsFirstUndeclared, Shows, EndsWith, EndsAs}
use Rattle.dump_read.specs.Answers.{IsFaultOf, IsPrintableDump, RuleHasAtMost, ChainHasAtMost, HasAtMost}
use Rattle.dump_read.proofs.FitLemmas.{start, bad_at_end}
use Rattle.dump_read.proofs.ReadingLemmas.{has_filter_of, no_filter_of}

length_names : (cs : List Declared) → length (names_of cs) ≡ length cs
length_names [] = refl
length_names (c ∷ cs) = ap (λ n. suc n) (length_names cs)

length_numbered : (n : ℕ) (lines : List Text) → length (numbered_from n lines) ≡ length lines
length_numbered n [] = refl
length_numbered n (line ∷ lines) = ap (λ m. suc m) (length_numbered (n + 1) lines)

module _ {W : ℕ} where
  -- how many chains and rules came
  abbrev size : Position W → ℕ
  size (Position.Outside None) = 0
  size (Position.Outside (Some (cs, rs))) = length cs + length rs
  size (Position.Passing None) = 0
  size (Position.Passing (Some (cs, rs))) = length cs + length rs
  size (Position.Inside cs rs) = length cs + length rs

  found_size : (found : Option (Filter W)) → size (Position.Outside found) ≡ size (Position.Passing found)
  found_size None = refl
  found_size (Some (cs, rs)) = refl

module _ (W : ℕ) (Reads : Text → ℕ → Type 0) where
  opens_size : (found : Option (Filter W)) (name : Text) (q : Position W) → Opens W Reads found name q → size q ≤ size (Position.Outside found)
  opens_size found name q (inl a) = omega (arith, ap size a.2)
  opens_size found name q (inr a) = omega (arith, ap size a.1, found_size found)

  adds_size : (cs : List Declared) (rs : List (Placed W)) (n : ℕ) (words : List Word) (q : Position W) → Adds W Reads cs rs n words q → size q ≤ length cs + length rs + 1
  adds_size cs rs n words q (inl a) = omega (arith, ap size a.1)
  adds_size cs rs n words q (inr (inl a)) = omega (arith, ap size a.1.3, length-append cs (a.0 ∷ []))
  adds_size cs rs n words q (inr (inr a)) = omega (arith, ap size a.1.1, length-append rs (record { number = n; rule = a.0 } ∷ []))

  moves_size : (p : Position W) (line : Numbered) (q : Position W) → Moves W Reads p line q → size q ≤ size p + 1
  moves_size (Position.Outside found) line q a = let h = opens_size found a.0 q a.1.2 in omega (arith, h)
  moves_size (Position.Passing found) line q (inl a) = omega (arith, ap size a.1, found_size found)
  moves_size (Position.Passing found) line q (inr a) = omega (arith, ap size a.1)
  moves_size (Position.Inside cs rs) line q a = adds_size cs rs line.number a.0 q a.1.1

  step_size : (p : Position W) (line : Numbered) (q : Position W) → Step W Reads p line q → size q ≤ size p + 1
  step_size p line q (inl a) = omega (arith, ap size a.1)
  step_size p line q (inr a) = moves_size p line q a.1

  leads_size : (p : Position W) (lines : List Numbered) (q : Position W) → Leads W Reads p lines q → size q ≤ size p + length lines
  leads_size p [] q a = omega (arith, ap size a)
  leads_size p (line ∷ lines) q a =
      let first = step_size p line a.0 a.1.0 in
      let more = leads_size a.0 lines q a.1.1 in
      omega (arith, first, more)

  names_few : (state : State W) (p : Position W) → Shows state p → length state.names ≤ size p
  names_few state (Position.Outside None) s = omega (arith, ap length s.1.1.names)
  names_few state (Position.Outside (Some (cs, rs))) s = omega (arith, ap length s.1.1.names, length_names cs)
  names_few state (Position.Passing None) s = omega (arith, ap length s.1.1.names)
  names_few state (Position.Passing (Some (cs, rs))) s = omega (arith, ap length s.1.1.names, length_names cs)
  names_few state (Position.Inside cs rs) s = omega (arith, ap length s.2.names, length_names cs)

  -- how many names there are, at most
  pub names_below : (state : State W) (p : Position W) (lines : List Text) → Leads W Reads (start W Reads) (numbered_from 1 lines) p → Shows state p → length state.names ≤ length lines
  names_below state p lines x s =
      let a = names_few state p s in
      let b = leads_size (start W Reads) (numbered_from 1 lines) p x in
      omega (arith, a, b, length_numbered 1 lines)

  -- the text is these lines, and they lead to where the state stands
  pub record IsRead (state : State W) (text : Text) (lines : ℕ) : Type 0 where
    pub done : List Text
    pub position : Position W
    pub leads : Leads W Reads (start W Reads) (numbered_from 1 done) position
    pub shows : Shows state position
    pub count : lines ≡ length done
    pub fits : length done ≤ length text
    pub parted : AreLines done text

  -- the most that a text gives
  abbrev Small : Rule (Prim_ W) → Type 0
  Small = RuleHasAtMost MOST_BYTES

  small_rules : (f : Placed W → Bool) (rs : List (Placed W)) → AreWritable rs → AllByRecursion Small (map rule_of (filter f rs)) × (length (map rule_of (filter f rs)) ≤ length rs)
  small_rules f [] h = (tt, omega arith)
  small_rules f (r ∷ rs) h = by (f r) (small_rules f rs h.1)
    where
      by : (b : Bool) → AllByRecursion Small (map rule_of (filter f rs)) × (length (map rule_of (filter f rs)) ≤ length rs) →
          AllByRecursion Small (map rule_of (cond b (r ∷ filter f rs) (filter f rs))) × (length (map rule_of (cond b (r ∷ filter f rs) (filter f rs))) ≤ length (r ∷ rs))
      by true m = ((h.0.0, m.0), omega (arith, m.1))
      by false m = (m.0, omega (arith, m.1))

  small_chains : (cs : List Declared) (rs : List (Placed W)) → AreWritable rs → length rs ≤ MOST_BYTES →
      AllByRecursion (ChainHasAtMost MOST_BYTES) ((dump_of cs rs).chains)
      × (length ((dump_of cs rs).chains) ≡ length cs)
  small_chains [] rs h few = (tt, refl)
  small_chains (c ∷ cs) rs h few =
      let m = small_rules (is_in c.name) rs h in
      let more = small_chains cs rs h few in
      (((omega (arith, m.1, few), All-from_recursion Small (map rule_of (filter (is_in c.name) rs)) m.0), more.0), ap (λ n. suc n) more.1)

  few_of : (cs : List Declared) (rs : List (Placed W)) → AreWritable rs → length cs ≤ MOST_BYTES
      → length rs ≤ MOST_BYTES → HasAtMost MOST_BYTES (dump_of cs rs)
  few_of cs rs h few less =
      let m = small_chains cs rs h less in
      (omega (arith, m.1, few), All-from_recursion (ChainHasAtMost MOST_BYTES) ((dump_of cs rs).chains) m.0)

  -- what is so small has room
  chain_room : (here : Chain (Prim_ W)) → ChainHasAtMost MOST_BYTES here → ChainHasRoom here
  chain_room here few = (omega (arith, few.0), All-weaker Small RuleHasRoom (λ rule small. omega (arith, small)) here.rules few.1)

  pub small_room : (dump : Dump (Prim_ W)) → HasAtMost MOST_BYTES dump → HasRoom dump
  small_room dump few = (
    omega (arith, few.0),
    All-weaker
        (ChainHasAtMost MOST_BYTES) ChainHasRoom chain_room dump.chains few.1,
  )

  printable_rules : (f : Placed W → Bool) (rs : List (Placed W)) → AreWritable rs → AllByRecursion (λ (rule : Rule (Prim_ W)). AllByRecursion IsPrintableLiteral rule.lits) (map rule_of (filter f rs))
  printable_rules f [] h = tt
  printable_rules f (r ∷ rs) h = by (f r) (printable_rules f rs h.1)
    where
      by : (b : Bool) → AllByRecursion (λ (rule : Rule (Prim_ W)). AllByRecursion IsPrintableLiteral rule.lits) (map rule_of (filter f rs)) →
          AllByRecursion (λ (rule : Rule (Prim_ W)). AllByRecursion IsPrintableLiteral rule.lits) (map rule_of (cond b (r ∷ filter f rs) (filter f rs)))
      by true m = (h.0.1, m)
      by false m = m

  printable_chains : (cs : List Declared) (rs : List (Placed W)) → AreWritable rs →
      AllByRecursion (λ (here : Chain (Prim_ W)). All (λ (rule : Rule (Prim_ W)). AllByRecursion IsPrintableLiteral rule.lits) here.rules) ((dump_of cs rs).chains)
  printable_chains [] rs h = tt
  printable_chains (c ∷ cs) rs h = (
    All-from_recursion (λ (rule : Rule (Prim_ W)). AllByRecursion IsPrintableLiteral rule.lits) (map rule_of (filter (is_in c.name) rs)) (printable_rules (is_in c.name) rs h),
    printable_chains cs rs h,
  )

  printable_of : (cs : List Declared) (rs : List (Placed W)) → AreWritable rs → IsPrintableDump (dump_of cs rs)
  printable_of cs rs h =
      All-from_recursion (λ (here : Chain (Prim_ W)). All (λ (rule : Rule (Prim_ W)). AllByRecursion IsPrintableLiteral rule.lits) here.rules) ((dump_of cs rs).chains) (printable_chains cs rs h)

  pub read_printable : (state : State W) (text : Text) (lines : ℕ) (dump : Dump (Prim_ W)) → IsRead state text lines →
      ((p : Position W) → Shows state p → EndsAs p dump) → IsPrintableDump dump
  read_printable state text lines dump r answers =
      let a = answers r.position r.shows in
      subst IsPrintableDump (sym a.dump_is) (printable_of a.chains a.rules a.writable)

  -- the whole text is read
  pub read_dump_of : (state : State W) (text : Text) (lines : ℕ) (dump : Dump (Prim_ W)) → IsRead state text lines →
      ((p : Position W) → Shows state p → EndsAs p dump) → IsDump W Reads text dump
  read_dump_of state text lines dump r answers =
      let a = answers r.position r.shows in
      record {
        chains = a.chains;
        rules = a.rules;
        filter_is = has_filter_of W Reads text r.done a.chains a.rules r.parted (subst (Leads W Reads (start W Reads) (numbered_from 1 r.done)) a.there r.leads);
        declared = a.declared;
        dump_is = a.dump_is;
      }

  pub read_small : (state : State W) (text : Text) (lines : ℕ) (dump : Dump (Prim_ W))
      → IsRead state text lines → length text ≤ MOST_BYTES →
      ((p : Position W) → Shows state p → EndsAs p dump) → HasAtMost MOST_BYTES dump
  read_small state text lines dump r small answers =
      let a = answers r.position r.shows in
      let b = leads_size (start W Reads) (numbered_from 1 r.done) r.position r.leads in
      let d = r.fits in
      let few : length a.chains + length a.rules ≤ length text = omega (arith, b, d, length_numbered 1 r.done, ap size a.there) in
      subst (HasAtMost MOST_BYTES) (sym a.dump_is)
      (few_of a.chains a.rules a.writable (omega (arith, few, small)) (omega (arith, few, small)))

module _ (W : ℕ) (Reads : Text → ℕ → Type 0)
    (one_chain : (words : List Word) (a b : Declared) → IsChainLine words a → IsChainLine words b → a ≡ b)
    (one_rule : (names : List Text) (words : List Word) (a b : RuleLine W) → IsRuleLine Reads names words a → IsRuleLine Reads names words b → a ≡ b) where
  -- what is told at the end of the text is the text's own fault
  pub read_fault : (state : State W) (text : Text) (lines : ℕ) (fault : ReadFault) → IsRead W Reads state text lines →
      ((p : Position W) → Shows state p → EndsWith p lines fault) → IsFaultOf W Reads text fault
  read_fault state text lines (ReadFault.Malformed n) r ends =
      let t = ends r.position r.shows in
      let m : length r.done + 1 ≡ n = omega (arith, r.count, t.0) in
      record { lines = r.done; parted = r.parted; bad = subst (IsBadLine W Reads r.done) m (bad_at_end W Reads one_chain one_rule r.done r.position r.leads t.1) }
  read_fault state text lines ReadFault.NoFilter r ends =
      let t = ends r.position r.shows in
      no_filter_of W Reads text r.done r.parted (subst (Leads W Reads (start W Reads) (numbered_from 1 r.done)) t r.leads)
  read_fault state text lines (ReadFault.UndefinedChain n) r ends =
      let t = ends r.position r.shows in
      let u = t.2.1 in
      let there = subst (Leads W Reads (start W Reads) (numbered_from 1 r.done)) t.2.0 r.leads in
      let is = has_filter_of W Reads text r.done t.0 t.1 r.parted there in
      record {
        chains = t.0;
        before = u.0;
        placed = u.1;
        after = u.2;
        filter_is = subst (λ (z : List (Placed W)). HasFilter W Reads text t.0 z) u.3.0 is;
        declared = u.3.1;
        undeclared = u.3.2;
        number_is = u.3.3;
      }
  read_fault state text lines ReadFault.Memory r ends = tt

module _ {W : ℕ} where
  -- outside a table at the end, a line is undefined
  pub ends_undefined : (state : State W) (p : Position W) (lines n : ℕ) → state.part ≡ Part.Outside → state.has_filter ≡ true → state.undefined ≡ Some n → Shows state p → EndsWith p lines (ReadFault.UndefinedChain n)
  ends_undefined state (Position.Outside None) lines n part found undefined s = absurd (let d : true ≡ false = sym found ∙ s.1.0 in cc)
  ends_undefined state (Position.Outside (Some (cs, rs))) lines n part found undefined s = (cs, rs, (refl, subst (IsFirstUndeclared cs rs) undefined s.1.1.undefined))
  ends_undefined state (Position.Passing f) lines n part found undefined s = absurd (let d : Part.Outside ≡ Part.Passed = sym part ∙ s.0 in cc)
  ends_undefined state (Position.Inside cs rs) lines n part found undefined s = absurd (let d : Part.Outside ≡ Part.Filter = sym part ∙ s.0 in cc)
