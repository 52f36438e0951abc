-- Where a line leads from what is kept, and what is kept then.
use Rattle.std.proofs.Common.{ℕ, ◌≡◌, ◌≢◌, inl, inr, Bool, true, false, None, Some, Option, List, [], ◌∷◌, ◌++◌, refl, sym, ap, subst, ◌∙◌, codes}
use Rattle.dump_token.specs.declared.token.Token.{Token}
use Rattle.dump_grammar.specs.Lines.{Text, Word, Numbered, is_passed_over, bare, words_of, HasWords}
use Rattle.dump_grammar.specs.declared.chains.Declared.{Declared}
use Rattle.dump_grammar.specs.ChainLines.{IsChainLine, is_among}
use Rattle.dump_grammar.specs.declared.rule.RuleLine.{RuleLine}
use Rattle.dump_grammar.specs.RuleLines.{IsRuleLine}
use Rattle.dump_grammar.specs.Tables.{IsCommit, Placed, names_of}
use Rattle.dump_read.specs.declared.fault.LineFault.{LineFault}
use Rattle.dump_read.specs.declared.state.Part.{Part}
use Rattle.dump_read.specs.declared.state.State.{State}
use Rattle.dump_read.specs.inner.Parts.{OnMalformed}
use Rattle.dump_read.specs.inner.Positions.{Filter, Position, Adds, Moves, Step}
use Rattle.dump_read.specs.inner.States.{Keeps, Knows, Shows}
use Rattle.basics.proofs.Lists.{head_same, tail_same}
use Rattle.basics.proofs.Truths.{clash}
use Rattle.dump_read.proofs.StepLemmas.{one_words, close_chain, chain_rule}

-- what a malformed line says says less
pub malformed_less : (P Q : Type 0) (fault : LineFault) → (P → Q) → OnMalformed P fault → OnMalformed Q fault
malformed_less P Q LineFault.Malformed f h = f h
malformed_less P Q LineFault.Memory f h = tt

same_name : (line : Text) (a b : Text) → HasWords line (bare (42 ∷ a) ∷ []) → HasWords line (bare (42 ∷ b) ∷ []) → a ≡ b
same_name line a b p q =
    let e : bare (42 ∷ a) ∷ [] ≡ bare (42 ∷ b) ∷ [] = one_words line (bare (42 ∷ a) ∷ []) (bare (42 ∷ b) ∷ []) p q in
    tail_same 42 42 a b (ap (λ (w : Word). w.text) (head_same (bare (42 ∷ a)) (bare (42 ∷ b)) [] [] e))

-- the words are those of the line
pub words_has : (line : Text) (tokens words : List Token) → words ≡ tokens → HasWords line (words_of tokens) → HasWords line (words_of words)
words_has line tokens words e h = subst (λ (z : List Token). HasWords line (words_of z)) (sym e) h

module _ {W : ℕ} where
  -- what is kept doesn't hang on the part
  pub keeps_moved : (old : State W) (part : Part) (has_filter : Bool) (cs : List Declared) (rs : List (Placed W)) → Keeps old cs rs →
      Keeps (record old { part = part; has_filter = has_filter }) cs rs
  keeps_moved old part has_filter cs rs k =
      record { names = k.names; differ = k.differ; dumped = k.dumped; ruled = k.ruled; undefined = k.undefined; writable = k.writable }

  knows_moved : (old : State W) (part : Part) (found : Option (Filter W)) → Knows old found → Knows (record old { part = part }) found
  knows_moved old part None h = (h.0, keeps_moved old part old.has_filter [] [] h.1)
  knows_moved old part (Some f) h = (h.0, keeps_moved old part old.has_filter f.0 f.1 h.1)

  not_found : (old : State W) (found : Option (Filter W)) → old.has_filter ≡ false → Knows old found → (found ≡ None) × Keeps old [] []
  not_found old None h k = (refl, k.1)
  not_found old (Some f) h k = absurd (clash old.has_filter k.0 h)

module _ (W : ℕ) (Reads : Text → ℕ → Type 0) where
  abbrev pub Goes : Position W → Numbered → State W → Type 0
  Goes p line new = (q : Position W) × (Moves W Reads p line q × Shows new q)

  -- in a table that is passed over
  pub pass_commit : (old : State W) (found : Option (Filter W)) (n : ℕ) (line : Text) → IsCommit line → Shows old (Position.Passing found) →
      Goes (Position.Passing found) (record { number = n; bytes = line }) (record old { part = Part.Outside })
  pass_commit old found n line is s = (Position.Outside found, (inl (is, refl), (refl, knows_moved old Part.Outside found s.1)))

  pub pass_other : (old : State W) (found : Option (Filter W)) (n : ℕ) (line : Text) → (IsCommit line → ⊥) → Shows old (Position.Passing found) →
      Goes (Position.Passing found) (record { number = n; bytes = line }) old
  pass_other old found n line is s = (Position.Passing found, (inr (is, refl), s))

  -- outside a table
  pub open_other : (old : State W) (found : Option (Filter W)) (n : ℕ) (line name : Text) → HasWords line (bare (42 ∷ name) ∷ []) → name ≢ [] → name ≢ codes "filter" →
      Shows old (Position.Outside found) → Goes (Position.Outside found) (record { number = n; bytes = line }) (record old { part = Part.Passed })
  open_other old found n line name has some never s =
      (Position.Passing found, ((name, (some, has, inr (never, refl))), (refl, knows_moved old Part.Passed found s.1)))

  pub open_filter : (old : State W) (found : Option (Filter W)) (n : ℕ) (line name : Text) → HasWords line (bare (42 ∷ name) ∷ []) → name ≢ [] → name ≡ codes "filter" →
      old.has_filter ≡ false → Shows old (Position.Outside found) →
      Goes (Position.Outside found) (record { number = n; bytes = line }) (record old { part = Part.Filter; has_filter = true })
  open_filter old found n line name has some is none s =
      let k = not_found old found none s.1 in
      (Position.Inside [] [], ((name, (some, has, inl (is, k.0, refl))), (refl, refl, keeps_moved old Part.Filter true [] [] k.1)))

  pub open_twice : (old : State W) (found : Option (Filter W)) (n : ℕ) (line name : Text) (q : Position W) → HasWords line (bare (42 ∷ name) ∷ []) → name ≡ codes "filter" →
      old.has_filter ≡ true → Shows old (Position.Outside found) → Moves W Reads (Position.Outside found) (record { number = n; bytes = line }) q → ⊥
  open_twice old found n line name q has is some s (other, (full, has', inl (a, none, e))) =
      let k : Knows old None = subst (Knows old) none s.1 in
      clash old.has_filter some k.0
  open_twice old found n line name q has is some s (other, (full, has', inr (never, e))) = never (same_name line other name has' has ∙ is)

  pub open_none : (old : State W) (found : Option (Filter W)) (n : ℕ) (line : Text) (words : List Word) (q : Position W) → HasWords line words →
      ((name : Text) → words ≡ bare (42 ∷ name) ∷ [] → name ≢ [] → ⊥) → Moves W Reads (Position.Outside found) (record { number = n; bytes = line }) q → ⊥
  open_none old found n line words q has never m = never m.0 (one_words line words (bare (42 ∷ m.0) ∷ []) has m.1.1) m.1.0

  -- in filter
  pub add_close : (old : State W) (cs : List Declared) (rs : List (Placed W)) (n : ℕ) (line : Text) (words : List Word) → HasWords line words → words ≡ bare (codes "COMMIT") ∷ [] →
      Shows old (Position.Inside cs rs) → Goes (Position.Inside cs rs) (record { number = n; bytes = line }) (record old { part = Part.Outside })
  add_close old cs rs n line words has is s =
      (Position.Outside (Some (cs, rs)), ((words, (has, inl (is, refl))), (refl, (s.1, keeps_moved old Part.Outside old.has_filter cs rs s.2))))

  pub chain_goes : (old new : State W) (cs : List Declared) (rs : List (Placed W)) (n : ℕ) (line : Text) (words : List Word) (chain : Declared) → HasWords line words → IsChainLine words chain →
      ((chains : List Declared) (rules : List (Placed W)) → Keeps old chains rules → (rules ≡ []) × (is_among (names_of chains) chain.name ≡ false) × Keeps new (chains ++ chain ∷ []) []) →
      new.part ≡ old.part → new.has_filter ≡ old.has_filter → Shows old (Position.Inside cs rs) → Goes (Position.Inside cs rs) (record { number = n; bytes = line }) new
  chain_goes old new cs rs n line words chain has is added part found s =
      let k = added cs rs s.2 in
      (Position.Inside (cs ++ chain ∷ []) [], ((words, (has, inr (inl (chain, (k.0, is, k.1, refl))))), (part ∙ s.0, found ∙ s.1, k.2)))

  pub rule_goes : (old new : State W) (cs : List Declared) (rs : List (Placed W)) (n : ℕ) (line : Text) (words : List Word) (rule : RuleLine W) → HasWords line words → IsRuleLine Reads old.names words rule →
      ((chains : List Declared) (rules : List (Placed W)) → Keeps old chains rules → Keeps new chains (rules ++ record { number = n; rule = rule } ∷ [])) →
      new.part ≡ old.part → new.has_filter ≡ old.has_filter → Shows old (Position.Inside cs rs) → Goes (Position.Inside cs rs) (record { number = n; bytes = line }) new
  rule_goes old new cs rs n line words rule has is added part found s =
      let here : IsRuleLine Reads (names_of cs) words rule = subst (λ (z : List Text). IsRuleLine Reads z words rule) s.2.names is in
      (Position.Inside cs (rs ++ record { number = n; rule = rule } ∷ []), ((words, (has, inr (inr (rule, (here, refl))))), (part ∙ s.0, found ∙ s.1, added cs rs s.2)))

  pub add_none : (old : State W) (cs : List Declared) (rs : List (Placed W)) (n : ℕ) (line : Text) (words : List Word) (q : Position W) → HasWords line words →
      (words ≡ bare (codes "COMMIT") ∷ [] → ⊥) → ((chain : Declared) → IsChainLine words chain → ⊥) → ((rule : RuleLine W) → IsRuleLine Reads old.names words rule → ⊥) →
      Shows old (Position.Inside cs rs) → Moves W Reads (Position.Inside cs rs) (record { number = n; bytes = line }) q → ⊥
  add_none old cs rs n line words q has no_close no_chain no_rule s (other, (has', a)) =
      by (subst (λ (ws : List Word). Adds W Reads cs rs n ws q) (one_words line other words has' has) a)
    where
      by : Adds W Reads cs rs n words q → ⊥
      by (inl b) = no_close b.0
      by (inr (inl b)) = no_chain b.0 b.1.1
      by (inr (inr b)) = no_rule b.0 (subst (λ (z : List Text). IsRuleLine Reads z words b.0) (sym s.2.names) b.1.0)

  pub chain_stuck : (one_chain : (words : List Word) (a b : Declared) → IsChainLine words a → IsChainLine words b → a ≡ b)
      (old : State W) (cs : List Declared) (rs : List (Placed W)) (n : ℕ) (line : Text) (words : List Word) (chain : Declared) (q : Position W) → HasWords line words → IsChainLine words chain →
      ((chains : List Declared) (rules : List (Placed W)) → Keeps old chains rules → rules ≡ [] → is_among (names_of chains) chain.name ≡ false → ⊥) →
      Shows old (Position.Inside cs rs) → Moves W Reads (Position.Inside cs rs) (record { number = n; bytes = line }) q → ⊥
  chain_stuck one_chain old cs rs n line words chain q has is stuck s (other, (has', a)) =
      by (subst (λ (ws : List Word). Adds W Reads cs rs n ws q) (one_words line other words has' has) a)
    where
      by : Adds W Reads cs rs n words q → ⊥
      by (inl b) = close_chain W Reads words chain b.0 is
      by (inr (inl b)) = stuck cs rs s.2 b.1.0 (ap (λ (c : Declared). is_among (names_of cs) c.name) (one_chain words chain b.0 is b.1.1) ∙ b.1.2)
      by (inr (inr b)) = chain_rule W Reads words (names_of cs) chain b.0 is b.1.0

  -- a line that isn't passed over, by the part in which it stands
  abbrev pub Takes : State W → State W → Numbered → Type 0
  Takes old new line = (p : Position W) → Shows old p → (q : Position W) × (Step W Reads p line q × Shows new q)

  abbrev pub Sticks : State W → Numbered → Type 0
  Sticks old line = (p q : Position W) → Shows old p → Step W Reads p line q → ⊥

  taken : (p : Position W) (line : Numbered) (new : State W) → is_passed_over line.bytes ≡ false → Goes p line new → (q : Position W) × (Step W Reads p line q × Shows new q)
  taken p line new kept g = (g.0, (inr (kept, g.1.0), g.1.1))

  stuck_by : (p q : Position W) (line : Numbered) → is_passed_over line.bytes ≡ false → (Moves W Reads p line q → ⊥) → Step W Reads p line q → ⊥
  stuck_by p q line kept never (inl a) = clash (is_passed_over line.bytes) a.0 kept
  stuck_by p q line kept never (inr a) = never a.1

  pub outside_takes : (old new : State W) (line : Numbered) → old.part ≡ Part.Outside → is_passed_over line.bytes ≡ false →
      ((found : Option (Filter W)) → Shows old (Position.Outside found) → Goes (Position.Outside found) line new) → Takes old new line
  outside_takes old new line e kept goes (Position.Outside f) s = taken (Position.Outside f) line new kept (goes f s)
  outside_takes old new line e kept goes (Position.Passing f) s = absurd (let d : Part.Outside ≡ Part.Passed = sym e ∙ s.0 in cc)
  outside_takes old new line e kept goes (Position.Inside cs rs) s = absurd (let d : Part.Outside ≡ Part.Filter = sym e ∙ s.0 in cc)

  pub outside_sticks : (old : State W) (line : Numbered) → old.part ≡ Part.Outside → is_passed_over line.bytes ≡ false →
      ((found : Option (Filter W)) (q : Position W) → Shows old (Position.Outside found) → Moves W Reads (Position.Outside found) line q → ⊥) → Sticks old line
  outside_sticks old line e kept never (Position.Outside f) q s = stuck_by (Position.Outside f) q line kept (never f q s)
  outside_sticks old line e kept never (Position.Passing f) q s = absurd (let d : Part.Outside ≡ Part.Passed = sym e ∙ s.0 in cc)
  outside_sticks old line e kept never (Position.Inside cs rs) q s = absurd (let d : Part.Outside ≡ Part.Filter = sym e ∙ s.0 in cc)

  pub passing_takes : (old new : State W) (line : Numbered) → old.part ≡ Part.Passed → is_passed_over line.bytes ≡ false →
      ((found : Option (Filter W)) → Shows old (Position.Passing found) → Goes (Position.Passing found) line new) → Takes old new line
  passing_takes old new line e kept goes (Position.Outside f) s = absurd (let d : Part.Passed ≡ Part.Outside = sym e ∙ s.0 in cc)
  passing_takes old new line e kept goes (Position.Passing f) s = taken (Position.Passing f) line new kept (goes f s)
  passing_takes old new line e kept goes (Position.Inside cs rs) s = absurd (let d : Part.Passed ≡ Part.Filter = sym e ∙ s.0 in cc)

  pub inside_takes : (old new : State W) (line : Numbered) → old.part ≡ Part.Filter → is_passed_over line.bytes ≡ false →
      ((cs : List Declared) (rs : List (Placed W)) → Shows old (Position.Inside cs rs) → Goes (Position.Inside cs rs) line new) → Takes old new line
  inside_takes old new line e kept goes (Position.Outside f) s = absurd (let d : Part.Filter ≡ Part.Outside = sym e ∙ s.0 in cc)
  inside_takes old new line e kept goes (Position.Passing f) s = absurd (let d : Part.Filter ≡ Part.Passed = sym e ∙ s.0 in cc)
  inside_takes old new line e kept goes (Position.Inside cs rs) s = taken (Position.Inside cs rs) line new kept (goes cs rs s)

  pub inside_sticks : (old : State W) (line : Numbered) → old.part ≡ Part.Filter → is_passed_over line.bytes ≡ false →
      ((cs : List Declared) (rs : List (Placed W)) (q : Position W) → Shows old (Position.Inside cs rs) → Moves W Reads (Position.Inside cs rs) line q → ⊥) → Sticks old line
  inside_sticks old line e kept never (Position.Outside f) q s = absurd (let d : Part.Filter ≡ Part.Outside = sym e ∙ s.0 in cc)
  inside_sticks old line e kept never (Position.Passing f) q s = absurd (let d : Part.Filter ≡ Part.Passed = sym e ∙ s.0 in cc)
  inside_sticks old line e kept never (Position.Inside cs rs) q s = stuck_by (Position.Inside cs rs) q line kept (never cs rs q s)

  -- what is kept in filter
  pub inside_keeps : (old : State W) (p : Position W) → Shows old p → (cs : List Declared) × (rs : List (Placed W)) × Keeps old cs rs
  inside_keeps old (Position.Outside None) s = ([], [], s.1.1)
  inside_keeps old (Position.Outside (Some f)) s = (f.0, f.1, s.1.1)
  inside_keeps old (Position.Passing None) s = ([], [], s.1.1)
  inside_keeps old (Position.Passing (Some f)) s = (f.0, f.1, s.1.1)
  inside_keeps old (Position.Inside cs rs) s = (cs, rs, s.2)
