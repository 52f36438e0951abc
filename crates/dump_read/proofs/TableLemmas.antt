-- Lines that are tables lead from outside to outside, and lines that lead so are tables.
use Rattle.std.proofs.Common.{ℕ, zero, suc, ◌<◌, ◌≡◌, ◌≢◌, inl, inr, ◌⊎◌, Bool, true, false, not, cond, None, Some, Option, List, [], ◌∷◌, ◌++◌, length, get_or, slice_get, refl, sym, ap, subst, ◌∙◌, arith, codes, append_assoc}
use Rattle.std.specs.Prelude.{filter, Contains}
use Rattle.std.specs.List.{AllByRecursion, flat_map}
use Rattle.std.proofs.lemmas.List.{append-nil}
use Rattle.dump_grammar.specs.Lines.{Text, Word, Numbered, is_passed_over, bare, HasWords}
use Rattle.dump_grammar.specs.declared.chains.Declared.{Declared}
use Rattle.dump_grammar.specs.ChainLines.{IsChainLine, is_among}
use Rattle.dump_grammar.specs.Groups.{all_differ}
use Rattle.dump_grammar.specs.declared.rule.RuleLine.{RuleLine}
use Rattle.dump_grammar.specs.RuleLines.{IsRuleLine}
use Rattle.dump_grammar.specs.Tables.{IsCommit, DumpTable, lines_of, IsFilter, Placed, names_of, AreChainLines, AreRuleLines, IsFilterBody, IsTable, AreTables}
use Rattle.dump_read.specs.inner.Positions.{Filter, Position, Opens, Adds, Moves, Step, Leads}
use Rattle.basics.proofs.Lists.{each_at, each_placed, in_bounds, no_cons}
use Rattle.dump_read.proofs.NameLemmas.{differ_push, differ_middle}
use Rattle.dump_read.proofs.StepLemmas.{leads_append}

-- the lines that aren't passed over
abbrev pub kept : List Numbered → List Numbered
kept lines = filter (λ (line : Numbered). not (is_passed_over line.bytes)) lines

abbrev pub AreKept : List Numbered → Type 0
AreKept lines = AllByRecursion (λ (line : Numbered). is_passed_over line.bytes ≡ false) lines

abbrev pub NoFilter : List DumpTable → Type 0
NoFilter tables = AllByRecursion (λ (t : DumpTable). IsFilter t → ⊥) tables

abbrev pub HasOneFilter : List DumpTable → Type 0
HasOneFilter tables = (i j : ℕ) (s t : DumpTable) → slice_get tables i ≡ Some s → slice_get tables j ≡ Some t
    → IsFilter s → IsFilter t → i ≡ j

pub names_push : (cs : List Declared) (c : Declared) → names_of (cs ++ c ∷ []) ≡ names_of cs ++ c.name ∷ []
names_push [] c = refl
names_push (d ∷ cs) c = ap (λ z. d.name ∷ z) (names_push cs c)

names_middle : (cs : List Declared) (c : Declared) (ds : List Declared) → names_of (cs ++ c ∷ ds) ≡ names_of cs ++ c.name ∷ names_of ds
names_middle [] c ds = refl
names_middle (d ∷ cs) c ds = ap (λ z. d.name ∷ z) (names_middle cs c ds)

one_more : (A : Type 0) (xs : List A) (y : A) (zs : List A) → (xs ++ y ∷ []) ++ zs ≡ xs ++ y ∷ zs
one_more A xs y zs = append_assoc xs (y ∷ []) zs

kept_over : (l : Numbered) (ls : List Numbered) → is_passed_over l.bytes ≡ true → kept (l ∷ ls) ≡ kept ls
kept_over l ls e = ap (λ b. cond (not b) (l ∷ kept ls) (kept ls)) e

kept_here : (l : Numbered) (ls : List Numbered) → is_passed_over l.bytes ≡ false → kept (l ∷ ls) ≡ l ∷ kept ls
kept_here l ls e = ap (λ b. cond (not b) (l ∷ kept ls) (kept ls)) e

pub kept_left : (a b : List Numbered) → AreKept (a ++ b) → AreKept a
kept_left [] b h = tt
kept_left (l ∷ a) b h = (h.0, kept_left a b h.1)

pub kept_right : (a b : List Numbered) → AreKept (a ++ b) → AreKept b
kept_right [] b h = h
kept_right (l ∷ a) b h = kept_right a b h.1

pub all_kept : (ls : List Numbered) → AreKept (kept ls)
all_kept [] = tt
all_kept (l ∷ ls) = by (is_passed_over l.bytes) refl (all_kept ls)
  where
    by : (b : Bool) → is_passed_over l.bytes ≡ b → AreKept (kept ls) → AreKept (cond (not (is_passed_over l.bytes)) (l ∷ kept ls) (kept ls))
    by true e more = subst AreKept (sym (kept_over l ls e)) more
    by false e more = subst AreKept (sym (kept_here l ls e)) (e, more)

-- the lines of one of the tables are among the lines of all
pub kept_there : (ts : List DumpTable) (t : DumpTable) (k : ℕ) → AreKept (flat_map lines_of ts) → k < length ts → get_or ts k t ≡ t → AreKept (lines_of t)
kept_there [] t k h lt e = absurd (omega (arith, lt))
kept_there (u ∷ ts) t zero h lt e = subst (λ (z : DumpTable). AreKept (lines_of z)) e (kept_left (lines_of u) (flat_map lines_of ts) h)
kept_there (u ∷ ts) t (suc k) h lt e = kept_there ts t k (kept_right (lines_of u) (flat_map lines_of ts) h) (omega (arith, lt)) e

module _ (W : ℕ) (Reads : Text → ℕ → Type 0) where
  -- what is known of filter after this table, where `f` is known before it
  abbrev pub Turns : DumpTable → Option (Filter W) → Option (Filter W) → Type 0
  Turns t f g =
      (IsFilter t × (f ≡ None) × ((chains : List Declared) × (rules : List (Placed W)) × (IsFilterBody W Reads t.body chains rules × (g ≡ Some (chains, rules)))))
      ⊎ ((IsFilter t → ⊥) × (g ≡ f))

  -- what is known of filter after these tables
  abbrev pub Finds : List DumpTable → Option (Filter W) → Option (Filter W) → Type 0
  Finds [] f g = g ≡ f
  Finds (t ∷ ts) f g = (m : Option (Filter W)) × (Turns t f m × Finds ts m g)

  -- whole tables
  record OutsideRest (found : Option (Filter W)) (ks : List Numbered) (g : Option (Filter W)) : Type 0 where
    pub tables : List DumpTable
    pub whole : ks ≡ flat_map lines_of tables
    pub each : AllByRecursion (IsTable W Reads) tables
    pub finds : Finds tables found g

  -- the rest of a table other than filter, and whole tables
  record PassingRest (found : Option (Filter W)) (ks : List Numbered) (g : Option (Filter W)) : Type 0 where
    pub body : List Numbered
    pub close : Numbered
    pub tables : List DumpTable
    pub whole : ks ≡ body ++ close ∷ flat_map lines_of tables
    pub none : AllByRecursion (λ (line : Numbered). IsCommit line.bytes → ⊥) body
    pub commit : IsCommit close.bytes
    pub each : AllByRecursion (IsTable W Reads) tables
    pub finds : Finds tables found g

  -- the rest of filter, and whole tables
  record InsideRest (chains : List Declared) (rules : List (Placed W)) (ks : List Numbered) (g : Option (Filter W)) : Type 0 where
    pub chain_lines : List Numbered
    pub more_chains : List Declared
    pub rule_lines : List Numbered
    pub more_rules : List (Placed W)
    pub close : Numbered
    pub tables : List DumpTable
    pub whole : ks ≡ (chain_lines ++ rule_lines) ++ close ∷ flat_map lines_of tables
    pub order : (rules ≡ []) ⊎ (chain_lines ≡ [])
    pub declares : AreChainLines chain_lines more_chains
    pub once : all_differ (names_of (chains ++ more_chains)) ≡ true
    pub spells : AreRuleLines W Reads (names_of (chains ++ more_chains)) rule_lines more_rules
    pub closes : HasWords close.bytes (bare (codes "COMMIT") ∷ [])
    pub each : AllByRecursion (IsTable W Reads) tables
    pub finds : Finds tables (Some (chains ++ more_chains, rules ++ more_rules)) g

  abbrev Rest : Position W → List Numbered → Option (Filter W) → Type 0
  Rest (Position.Outside found) ks g = OutsideRest found ks g
  Rest (Position.Passing found) ks g = PassingRest found ks g
  Rest (Position.Inside chains rules) ks g = InsideRest chains rules ks g

  -- no chain is declared twice
  abbrev pub IsSound : Position W → Type 0
  IsSound (Position.Outside found) = Unit {0}
  IsSound (Position.Passing found) = Unit {0}
  IsSound (Position.Inside chains rules) = all_differ (names_of chains) ≡ true

  opens_sound : (found : Option (Filter W)) (name : Text) (q : Position W) → Opens W Reads found name q → IsSound q
  opens_sound found name q (inl a) = subst IsSound (sym a.2) refl
  opens_sound found name q (inr a) = subst IsSound (sym a.1) tt

  adds_sound : (chains : List Declared) (rules : List (Placed W)) (n : ℕ) (words : List Word) (q : Position W) → all_differ (names_of chains) ≡ true → Adds W Reads chains rules n words q → IsSound q
  adds_sound chains rules n words q s (inl a) = subst IsSound (sym a.1) tt
  adds_sound chains rules n words q s (inr (inl a)) =
      subst IsSound (sym a.1.3) (ap all_differ (names_push chains a.0) ∙ differ_push (names_of chains) a.0.name s a.1.2)
  adds_sound chains rules n words q s (inr (inr a)) = subst IsSound (sym a.1.1) s

  moves_sound : (p : Position W) (l : Numbered) (q : Position W) → IsSound p → Moves W Reads p l q → IsSound q
  moves_sound (Position.Outside found) l q s a = opens_sound found a.0 q a.1.2
  moves_sound (Position.Passing found) l q s (inl a) = subst IsSound (sym a.1) tt
  moves_sound (Position.Passing found) l q s (inr a) = subst IsSound (sym a.1) tt
  moves_sound (Position.Inside chains rules) l q s a = adds_sound chains rules l.number a.0 q s a.1.1

  step_sound : (p : Position W) (l : Numbered) (q : Position W) → IsSound p → Step W Reads p l q → IsSound q
  step_sound p l q s (inl a) = subst IsSound (sym a.1) s
  step_sound p l q s (inr a) = moves_sound p l q s a.1

  pub leads_sound : (p : Position W) (ls : List Numbered) (q : Position W) → IsSound p → Leads W Reads p ls q → IsSound q
  leads_sound p [] q s a = subst IsSound (sym a) s
  leads_sound p (l ∷ ls) q s a = leads_sound a.0 ls q (step_sound p l a.0 s a.1.0) a.1.1

  -- a table closes, and whole tables follow
  regrouped : (l : Numbered) (body : List Numbered) (close : Numbered) (tables : List DumpTable) (ks : List Numbered) → ks ≡ body ++ close ∷ flat_map lines_of tables →
      l ∷ ks ≡ (l ∷ (body ++ close ∷ [])) ++ flat_map lines_of tables
  regrouped l body close tables ks e = ap (λ z. l ∷ z) (e ∙ sym (one_more Numbered body close (flat_map lines_of tables)))

  opens_rest : (found : Option (Filter W)) (l : Numbered) (name : Text) (q : Position W) (ks : List Numbered) (g : Option (Filter W)) →
      name ≢ [] → HasWords l.bytes (bare (42 ∷ name) ∷ []) → Opens W Reads found name q → Rest q ks g → OutsideRest found (l ∷ ks) g
  opens_rest found l name q ks g ne words (inl a) rest =
      let r : InsideRest [] [] ks g = subst (λ (z : Position W). Rest z ks g) a.2 rest in
      let t : DumpTable = record { name = name; opener = l; body = r.chain_lines ++ r.rule_lines; close = r.close } in
      let body : IsFilterBody W Reads (r.chain_lines ++ r.rule_lines) r.more_chains r.more_rules = record {
        chain_lines = r.chain_lines;
        rule_lines = r.rule_lines;
        whole = refl;
        declares = r.declares;
        once = r.once;
        spells = r.spells;
      } in
      record {
        tables = t ∷ r.tables;
        whole = regrouped l (r.chain_lines ++ r.rule_lines) r.close r.tables ks r.whole;
        each = (record { named = ne; opens = words; inside = inl (a.0, (r.more_chains, r.more_rules, body), r.closes) }, r.each);
        finds = (Some (r.more_chains, r.more_rules), (inl (a.0, a.1, (r.more_chains, r.more_rules, (body, refl))), r.finds));
      }
  opens_rest found l name q ks g ne words (inr a) rest =
      let r : PassingRest found ks g = subst (λ (z : Position W). Rest z ks g) a.1 rest in
      let t : DumpTable = record { name = name; opener = l; body = r.body; close = r.close } in
      record {
        tables = t ∷ r.tables;
        whole = regrouped l r.body r.close r.tables ks r.whole;
        each = (record { named = ne; opens = words; inside = inr (a.0, r.none, r.commit) }, r.each);
        finds = (found, (inr (a.0, refl), r.finds));
      }

  commit_rest : (found : Option (Filter W)) (l : Numbered) (ks : List Numbered) (g : Option (Filter W)) → IsCommit l.bytes → OutsideRest found ks g → PassingRest found (l ∷ ks) g
  commit_rest found l ks g c r = record {
    body = [];
    close = l;
    tables = r.tables;
    whole = ap (λ z. l ∷ z) r.whole;
    none = tt;
    commit = c;
    each = r.each;
    finds = r.finds;
  }

  passing_rest : (found : Option (Filter W)) (l : Numbered) (ks : List Numbered) (g : Option (Filter W)) → (IsCommit l.bytes → ⊥) → PassingRest found ks g → PassingRest found (l ∷ ks) g
  passing_rest found l ks g c r = record {
    body = l ∷ r.body;
    close = r.close;
    tables = r.tables;
    whole = ap (λ z. l ∷ z) r.whole;
    none = (c, r.none);
    commit = r.commit;
    each = r.each;
    finds = r.finds;
  }

  close_rest : (chains : List Declared) (rules : List (Placed W)) (l : Numbered) (ks : List Numbered) (g : Option (Filter W)) → all_differ (names_of chains) ≡ true →
      HasWords l.bytes (bare (codes "COMMIT") ∷ []) → OutsideRest (Some (chains, rules)) ks g → InsideRest chains rules (l ∷ ks) g
  close_rest chains rules l ks g s c r =
      let cs : chains ++ [] ≡ chains = append-nil chains in
      let rs : rules ++ [] ≡ rules = append-nil rules in
      record {
        chain_lines = [];
        more_chains = [];
        rule_lines = [];
        more_rules = [];
        close = l;
        tables = r.tables;
        whole = ap (λ z. l ∷ z) r.whole;
        order = inr refl;
        declares = tt;
        once = ap (λ (z : List Declared). all_differ (names_of z)) cs ∙ s;
        spells = tt;
        closes = c;
        each = r.each;
        finds = subst (λ (z : Option (Filter W)). Finds r.tables z g) (λ i. Some (sym cs i, sym rs i)) r.finds;
      }

  chain_rest : (chains : List Declared) (rules : List (Placed W)) (l : Numbered) (words : List Word) (chain : Declared) (ks : List Numbered) (g : Option (Filter W)) → rules ≡ [] →
      HasWords l.bytes words → IsChainLine words chain → InsideRest (chains ++ chain ∷ []) [] ks g → InsideRest chains rules (l ∷ ks) g
  chain_rest chains rules l words chain ks g none has is r =
      let e : (chains ++ chain ∷ []) ++ r.more_chains ≡ chains ++ chain ∷ r.more_chains = one_more Declared chains chain r.more_chains in
      let rs : r.more_rules ≡ rules ++ r.more_rules = ap (λ (z : List (Placed W)). z ++ r.more_rules) (sym none) in
      record {
        chain_lines = l ∷ r.chain_lines;
        more_chains = chain ∷ r.more_chains;
        rule_lines = r.rule_lines;
        more_rules = r.more_rules;
        close = r.close;
        tables = r.tables;
        whole = ap (λ z. l ∷ z) r.whole;
        order = inl none;
        declares = ((words, has, is), r.declares);
        once = ap (λ (z : List Declared). all_differ (names_of z)) (sym e) ∙ r.once;
        spells = subst (λ (z : List Declared). AreRuleLines W Reads (names_of z) r.rule_lines r.more_rules) e r.spells;
        closes = r.closes;
        each = r.each;
        finds = subst (λ (z : Option (Filter W)). Finds r.tables z g) (λ i. Some (e i, rs i)) r.finds;
      }

  no_lines : (rules : List (Placed W)) (x : Placed W) (ls : List Numbered) → (rules ++ x ∷ [] ≡ []) ⊎ (ls ≡ []) → ls ≡ []
  no_lines rules x ls (inl e) = absurd (no_cons rules x [] e)
  no_lines rules x ls (inr e) = e

  no_chains : (ls : List Numbered) (cs : List Declared) → ls ≡ [] → AreChainLines ls cs → cs ≡ []
  no_chains [] [] e h = refl
  no_chains [] (c ∷ cs) e h = absurd h
  no_chains (l ∷ ls) cs e h = cc

  rule_rest : (chains : List Declared) (rules : List (Placed W)) (l : Numbered) (words : List Word) (rule : RuleLine W) (ks : List Numbered) (g : Option (Filter W)) →
      HasWords l.bytes words → IsRuleLine Reads (names_of chains) words rule → InsideRest chains (rules ++ record { number = l.number; rule = rule } ∷ []) ks g → InsideRest chains rules (l ∷ ks) g
  rule_rest chains rules l words rule ks g has is r =
      let x : Placed W = record { number = l.number; rule = rule } in
      let none : r.chain_lines ≡ [] = no_lines rules x r.chain_lines r.order in
      let nothing : r.more_chains ≡ [] = no_chains r.chain_lines r.more_chains none r.declares in
      let same : chains ++ r.more_chains ≡ chains = ap (λ (z : List Declared). chains ++ z) nothing ∙ append-nil chains in
      let rs : (rules ++ x ∷ []) ++ r.more_rules ≡ rules ++ x ∷ r.more_rules = one_more (Placed W) rules x r.more_rules in
      record {
        chain_lines = [];
        more_chains = r.more_chains;
        rule_lines = l ∷ r.rule_lines;
        more_rules = x ∷ r.more_rules;
        close = r.close;
        tables = r.tables;
        whole = ap (λ z. l ∷ z) (r.whole ∙ ap (λ (z : List Numbered). (z ++ r.rule_lines) ++ r.close ∷ flat_map lines_of r.tables) none);
        order = inr refl;
        declares = subst (λ (z : List Numbered). AreChainLines z r.more_chains) none r.declares;
        once = r.once;
        spells = ((refl, (words, has, subst (λ (z : List Declared). IsRuleLine Reads (names_of z) words rule) (sym same) is)), r.spells);
        closes = r.closes;
        each = r.each;
        finds = subst (λ (z : Option (Filter W)). Finds r.tables z g) (λ i. Some (chains ++ r.more_chains, rs i)) r.finds;
      }

  adds_rest : (chains : List Declared) (rules : List (Placed W)) (l : Numbered) (words : List Word) (q : Position W) (ks : List Numbered) (g : Option (Filter W)) → all_differ (names_of chains) ≡ true →
      HasWords l.bytes words → Adds W Reads chains rules l.number words q → Rest q ks g → InsideRest chains rules (l ∷ ks) g
  adds_rest chains rules l words q ks g s has (inl a) rest =
      close_rest chains rules l ks g s (subst (HasWords l.bytes) a.0 has) (subst (λ (z : Position W). Rest z ks g) a.1 rest)
  adds_rest chains rules l words q ks g s has (inr (inl a)) rest =
      chain_rest chains rules l words a.0 ks g a.1.0 has a.1.1 (subst (λ (z : Position W). Rest z ks g) a.1.3 rest)
  adds_rest chains rules l words q ks g s has (inr (inr a)) rest =
      rule_rest chains rules l words a.0 ks g has a.1.0 (subst (λ (z : Position W). Rest z ks g) a.1.1 rest)

  moves_rest : (p : Position W) (l : Numbered) (q : Position W) (ks : List Numbered) (g : Option (Filter W)) → IsSound p → Moves W Reads p l q → Rest q ks g → Rest p (l ∷ ks) g
  moves_rest (Position.Outside found) l q ks g s a rest = opens_rest found l a.0 q ks g a.1.0 a.1.1 a.1.2 rest
  moves_rest (Position.Passing found) l q ks g s (inl a) rest = commit_rest found l ks g a.0 (subst (λ (z : Position W). Rest z ks g) a.1 rest)
  moves_rest (Position.Passing found) l q ks g s (inr a) rest = passing_rest found l ks g a.0 (subst (λ (z : Position W). Rest z ks g) a.1 rest)
  moves_rest (Position.Inside chains rules) l q ks g s a rest = adds_rest chains rules l a.0 q ks g s a.1.0 a.1.1 rest

  step_rest : (p : Position W) (l : Numbered) (q : Position W) (ls : List Numbered) (g : Option (Filter W)) → IsSound p → Step W Reads p l q → Rest q (kept ls) g → Rest p (kept (l ∷ ls)) g
  step_rest p l q ls g s (inl a) rest = subst (λ (z : List Numbered). Rest p z g) (sym (kept_over l ls a.0)) (subst (λ (z : Position W). Rest z (kept ls) g) a.1 rest)
  step_rest p l q ls g s (inr a) rest = subst (λ (z : List Numbered). Rest p z g) (sym (kept_here l ls a.0)) (moves_rest p l q (kept ls) g s a.1 rest)

  end_rest : (p : Position W) (g : Option (Filter W)) → Position.Outside g ≡ p → Rest p [] g
  end_rest (Position.Outside f) g e = record { tables = []; whole = refl; each = tt; finds = cc }
  end_rest (Position.Passing f) g e = absurd cc
  end_rest (Position.Inside chains rules) g e = absurd cc

  rest_of : (p : Position W) (ls : List Numbered) (g : Option (Filter W)) → IsSound p → Leads W Reads p ls (Position.Outside g) → Rest p (kept ls) g
  rest_of p [] g s e = end_rest p g e
  rest_of p (l ∷ ls) g s a = step_rest p l a.0 ls g s a.1.0 (rest_of a.0 ls g (step_sound p l a.0 s a.1.0) a.1.1)

  -- the other way: lines of tables lead so
  chains_lead : (cs more : List Declared) (ls : List Numbered) → AreKept ls → AreChainLines ls more → all_differ (names_of (cs ++ more)) ≡ true →
      Leads W Reads (Position.Inside cs []) ls (Position.Inside (cs ++ more) [])
  chains_lead cs [] [] k h s = let to : List Declared → Position W = λ z. Position.Inside z [] in ap to (append-nil cs)
  chains_lead cs (c ∷ more) [] k h s = absurd h
  chains_lead cs [] (l ∷ ls) k h s = absurd h
  chains_lead cs (c ∷ more) (l ∷ ls) k h s =
      let e : (cs ++ c ∷ []) ++ more ≡ cs ++ c ∷ more = one_more Declared cs c more in
      let new : is_among (names_of cs) c.name ≡ false = differ_middle (names_of cs) c.name (names_of more) (ap all_differ (sym (names_middle cs c more)) ∙ s) in
      let rest = chains_lead (cs ++ c ∷ []) more ls k.1 h.1 (ap (λ (z : List Declared). all_differ (names_of z)) e ∙ s) in (
        Position.Inside (cs ++ c ∷ []) [],
        (
          inr (k.0, (h.0.0, (h.0.1, inr (inl (c, (refl, h.0.2, new, refl)))))),
          subst (λ (z : List Declared). Leads W Reads (Position.Inside (cs ++ c ∷ []) []) ls (Position.Inside z [])) e rest,
        ),
      )

  rules_lead : (cs : List Declared) (rs more : List (Placed W)) (ls : List Numbered) → AreKept ls → AreRuleLines W Reads (names_of cs) ls more →
      Leads W Reads (Position.Inside cs rs) ls (Position.Inside cs (rs ++ more))
  rules_lead cs rs [] [] k h = let to : List (Placed W) → Position W = λ z. Position.Inside cs z in ap to (append-nil rs)
  rules_lead cs rs (r ∷ more) [] k h = absurd h
  rules_lead cs rs [] (l ∷ ls) k h = absurd h
  rules_lead cs rs (r ∷ more) (l ∷ ls) k h =
      let e : (rs ++ r ∷ []) ++ more ≡ rs ++ r ∷ more = one_more (Placed W) rs r more in
      let rest = rules_lead cs (rs ++ r ∷ []) more ls k.1 h.1 in
      let n : r.number ≡ l.number = sym h.0.0 in
      let q : Position.Inside cs (rs ++ r ∷ []) ≡ Position.Inside cs (rs ++ record { number = l.number; rule = r.rule } ∷ []) =
      λ i. Position.Inside cs (rs ++ record { number = n i; rule = r.rule } ∷ []) in (
        Position.Inside cs (rs ++ r ∷ []),
        (
          inr (k.0, (h.0.1.0, (h.0.1.1, inr (inr (r.rule, (h.0.1.2, q)))))),
          subst (λ (z : List (Placed W)). Leads W Reads (Position.Inside cs (rs ++ r ∷ [])) ls (Position.Inside cs z)) e rest,
        ),
      )

  passing_leads : (f : Option (Filter W)) (ls : List Numbered) → AreKept ls → AllByRecursion (λ (line : Numbered). IsCommit line.bytes → ⊥) ls →
      Leads W Reads (Position.Passing f) ls (Position.Passing f)
  passing_leads f [] k h = refl
  passing_leads f (l ∷ ls) k h = (Position.Passing f, (inr (k.0, inr (h.0, refl)), passing_leads f ls k.1 h.1))

  pub body_leads : (body : List Numbered) (chains : List Declared) (rules : List (Placed W)) → AreKept body → IsFilterBody W Reads body chains rules →
      Leads W Reads (Position.Inside [] []) body (Position.Inside chains rules)
  body_leads body chains rules k b =
      let here : AreKept (b.chain_lines ++ b.rule_lines) = subst AreKept b.whole k in
      subst (λ (z : List Numbered). Leads W Reads (Position.Inside [] []) z (Position.Inside chains rules)) (sym b.whole)
      (leads_append W Reads (Position.Inside [] []) b.chain_lines b.rule_lines (Position.Inside chains []) (Position.Inside chains rules)
      (chains_lead [] chains b.chain_lines (kept_left b.chain_lines b.rule_lines here) b.declares b.once)
      (rules_lead chains [] rules b.rule_lines (kept_right b.chain_lines b.rule_lines here) b.spells))

  closed : (t : DumpTable) → IsFilter t → IsTable W Reads t → HasWords t.close.bytes (bare (codes "COMMIT") ∷ [])
  closed t f is = by is.inside
    where
      by : (IsFilter t × ((chains : List Declared) × (rules : List (Placed W)) × IsFilterBody W Reads t.body chains rules) × HasWords t.close.bytes (bare (codes "COMMIT") ∷ []))
          ⊎ ((IsFilter t → ⊥) × AllByRecursion (λ (line : Numbered). IsCommit line.bytes → ⊥) t.body × IsCommit t.close.bytes) → HasWords t.close.bytes (bare (codes "COMMIT") ∷ [])
      by (inl a) = a.2
      by (inr a) = absurd (a.0 f)

  passed : (t : DumpTable) → (IsFilter t → ⊥) → IsTable W Reads t → AllByRecursion (λ (line : Numbered). IsCommit line.bytes → ⊥) t.body × IsCommit t.close.bytes
  passed t f is = by is.inside
    where
      by : (IsFilter t × ((chains : List Declared) × (rules : List (Placed W)) × IsFilterBody W Reads t.body chains rules) × HasWords t.close.bytes (bare (codes "COMMIT") ∷ []))
          ⊎ ((IsFilter t → ⊥) × AllByRecursion (λ (line : Numbered). IsCommit line.bytes → ⊥) t.body × IsCommit t.close.bytes) →
          AllByRecursion (λ (line : Numbered). IsCommit line.bytes → ⊥) t.body × IsCommit t.close.bytes
      by (inl a) = absurd (f a.0)
      by (inr a) = (a.1, a.2)

  table_leads : (t : DumpTable) (f m : Option (Filter W)) → AreKept (lines_of t) → IsTable W Reads t → Turns t f m → Leads W Reads (Position.Outside f) (lines_of t) (Position.Outside m)
  table_leads t f m k is (inl a) =
      let chains = a.2.0 in
      let rules = a.2.1 in
      let last : AreKept (t.close ∷ []) = kept_right t.body (t.close ∷ []) k.1 in
      let to : Option (Filter W) → Position W = λ z. Position.Outside z in (
        Position.Inside [] [],
        (
          inr (k.0, (t.name, (is.named, is.opens, inl (a.0, a.1, refl)))),
          leads_append W Reads (Position.Inside [] []) t.body (t.close ∷ []) (Position.Inside chains rules) (Position.Outside m)
              (body_leads t.body chains rules (kept_left t.body (t.close ∷ []) k.1) a.2.2.0)
              (Position.Outside (Some (chains, rules)), (inr (last.0, (bare (codes "COMMIT") ∷ [], (closed t a.0 is, inl (refl, refl)))), ap to a.2.2.1)),
        ),
      )
  table_leads t f m k is (inr a) =
      let rest = passed t a.0 is in
      let last : AreKept (t.close ∷ []) = kept_right t.body (t.close ∷ []) k.1 in
      let to : Option (Filter W) → Position W = λ z. Position.Outside z in (
        Position.Passing f,
        (
          inr (k.0, (t.name, (is.named, is.opens, inr (a.0, refl)))),
          leads_append W Reads (Position.Passing f) t.body (t.close ∷ []) (Position.Passing f) (Position.Outside m)
              (passing_leads f t.body (kept_left t.body (t.close ∷ []) k.1) rest.0)
              (Position.Outside f, (inr (last.0, inl (rest.1, refl)), ap to a.1)),
        ),
      )

  pub tables_lead : (ts : List DumpTable) (f g : Option (Filter W)) → AreKept (flat_map lines_of ts) → AllByRecursion (IsTable W Reads) ts → Finds ts f g →
      Leads W Reads (Position.Outside f) (flat_map lines_of ts) (Position.Outside g)
  tables_lead [] f g k each x = let to : Option (Filter W) → Position W = λ z. Position.Outside z in ap to x
  tables_lead (t ∷ ts) f g k each x =
      leads_append W Reads (Position.Outside f) (lines_of t) (flat_map lines_of ts) (Position.Outside x.0) (Position.Outside g)
      (table_leads t f x.0 (kept_left (lines_of t) (flat_map lines_of ts) k) each.0 x.1.0)
      (tables_lead ts x.0 g (kept_right (lines_of t) (flat_map lines_of ts) k) each.1 x.1.1)

  -- a line that is passed over leads nowhere else
  spread : (p q : Position W) (ls : List Numbered) → Leads W Reads p (kept ls) q → Leads W Reads p ls q
  spread p q [] x = x
  spread p q (l ∷ ls) x = by (is_passed_over l.bytes) refl (λ m y. spread m q ls y)
    where
      by : (b : Bool) → is_passed_over l.bytes ≡ b → ((m : Position W) → Leads W Reads m (kept ls) q → Leads W Reads m ls q) → Leads W Reads p (l ∷ ls) q
      by true e more = (p, (inl (e, refl), more p (subst (λ (z : List Numbered). Leads W Reads p z q) (kept_over l ls e) x)))
      by false e more =
          let y : Leads W Reads p (l ∷ kept ls) q = subst (λ (z : List Numbered). Leads W Reads p z q) (kept_here l ls e) x in
          (y.0, (y.1.0, more y.0 y.1.1))

  -- what filter was found decides that there is one
  pub some_ends : (ts : List DumpTable) (x : Filter W) (g : Option (Filter W)) → Finds ts (Some x) g → NoFilter ts × (g ≡ Some x)
  some_ends [] x g h = (tt, h)
  some_ends (t ∷ ts) x g (m, (inl a, h)) = absurd (let e : Some x ≡ None = a.1 in cc)
  some_ends (t ∷ ts) x g (m, (inr a, h)) =
      let rest = some_ends ts x g (subst (λ (z : Option (Filter W)). Finds ts z g) a.1 h) in
      ((a.0, rest.0), rest.1)

  pub none_left : (ts : List DumpTable) (f g : Option (Filter W)) → Finds ts f g → NoFilter ts → g ≡ f
  none_left [] f g h no_one = h
  none_left (t ∷ ts) f g (m, (inl a, h)) no_one = absurd (no_one.0 a.0)
  none_left (t ∷ ts) f g (m, (inr a, h)) no_one = none_left ts m g h no_one.1 ∙ a.1

  pub finds_none : (ts : List DumpTable) (f g : Option (Filter W)) → Finds ts f g → f ≡ None → g ≡ None → NoFilter ts
  finds_none [] f g h e d = tt
  finds_none (t ∷ ts) f g (m, (inl a, h)) e d =
      let s : g ≡ Some (a.2.0, a.2.1) = (some_ends ts (a.2.0, a.2.1) g (subst (λ (z : Option (Filter W)). Finds ts z g) a.2.2.1 h)).1 in
      absurd (let w : None ≡ Some (a.2.0, a.2.1) = sym d ∙ s in cc)
  finds_none (t ∷ ts) f g (m, (inr a, h)) e d = (a.0, finds_none ts m g h (a.1 ∙ e) d)

  no_more : (u : DumpTable) (ts : List DumpTable) (f g : Option (Filter W)) → Finds (u ∷ ts) f g → IsFilter u
      → NoFilter ts
  no_more u ts f g (m, (inl a, h)) is =
      (some_ends ts (a.2.0, a.2.1) g (subst (λ (z : Option (Filter W)). Finds ts z g) a.2.2.1 h)).0
  no_more u ts f g (m, (inr a, h)) is = absurd (a.0 is)

  nothing_there : (i : ℕ) (s : DumpTable) → slice_get [] i ≡ Some s → ⊥
  nothing_there i s e = let n : i < length {A = DumpTable} [] = in_bounds [] i s e in omega (arith, n)

  -- of two places, of which one is the first, with a table filter
  not_later : (u : DumpTable) (ts : List DumpTable) (f g : Option (Filter W)) → Finds (u ∷ ts) f g
      → (j : ℕ) (s t : DumpTable) → Some u ≡ Some s → slice_get ts j ≡ Some t
      → IsFilter s → IsFilter t → ⊥
  not_later u ts f g h j s t e d a b =
      let same : u ≡ s = cc in
      each_at (λ (v : DumpTable). IsFilter v → ⊥) ts j t (no_more u ts f g h (subst IsFilter (sym same) a)) d b

  finds_one : (ts : List DumpTable) (f g : Option (Filter W)) → Finds ts f g → HasOneFilter ts
  finds_one [] f g h i j s t e d a b = absurd (nothing_there i s e)
  finds_one (u ∷ ts) f g h zero zero s t e d a b = refl
  finds_one (u ∷ ts) f g h zero (suc j) s t e d a b = absurd (not_later u ts f g h j s t e d a b)
  finds_one (u ∷ ts) f g h (suc i) zero s t e d a b = absurd (not_later u ts f g h i t s d e b a)
  finds_one (u ∷ ts) f g h (suc i) (suc j) s t e d a b = ap suc (finds_one ts h.0 g h.1.1 i j s t e d a b)

  -- a filter that was found is the one that is there
  pub finds_filter : (ts : List DumpTable) (f g : Option (Filter W)) (x : Filter W) → Finds ts f g → f ≡ None → g ≡ Some x →
      (t : DumpTable) × (Contains ts t × IsFilter t × IsFilterBody W Reads t.body x.0 x.1)
  finds_filter [] f g x h e d = absurd (let w : None ≡ Some x = sym e ∙ sym h ∙ d in cc)
  finds_filter (t ∷ ts) f g x (m, (inl a, h)) e d =
      let s : g ≡ Some (a.2.0, a.2.1) = (some_ends ts (a.2.0, a.2.1) g (subst (λ (z : Option (Filter W)). Finds ts z g) a.2.2.1 h)).1 in
      let same : (a.2.0, a.2.1) ≡ x = some_same (a.2.0, a.2.1) x (sym s ∙ d) in
      (t, ((0, omega arith, refl), a.0, subst (λ (z : Filter W). IsFilterBody W Reads t.body z.0 z.1) same a.2.2.0))
    where
      some_same : (y z : Filter W) → Some y ≡ Some z → y ≡ z
      some_same y z w = cc
  finds_filter (t ∷ ts) f g x (m, (inr a, h)) e d =
      let r = finds_filter ts m g x h (a.1 ∙ e) d in
      (r.0, ((suc r.1.0.0, omega (arith, r.1.0.1), r.1.0.2), r.1.1, r.1.2))

  -- the filter that is there is found
  pub there_found : (ts : List DumpTable) (f g : Option (Filter W)) (t : DumpTable) (k : ℕ) → Finds ts f g → k < length ts → get_or ts k t ≡ t → IsFilter t →
      (chains : List Declared) × (rules : List (Placed W)) × (IsFilterBody W Reads t.body chains rules × (g ≡ Some (chains, rules)))
  there_found [] f g t k h lt e is = absurd (omega (arith, lt))
  there_found (u ∷ ts) f g t zero (m, (inl a, h)) lt e is =
      let s : g ≡ Some (a.2.0, a.2.1) = (some_ends ts (a.2.0, a.2.1) g (subst (λ (z : Option (Filter W)). Finds ts z g) a.2.2.1 h)).1 in
      (a.2.0, a.2.1, (subst (λ (z : DumpTable). IsFilterBody W Reads z.body a.2.0 a.2.1) e a.2.2.0, s))
  there_found (u ∷ ts) f g t zero (m, (inr a, h)) lt e is = absurd (a.0 (subst IsFilter (sym e) is))
  there_found (u ∷ ts) f g t (suc k) (m, (x, h)) lt e is = there_found ts m g t k h (omega (arith, lt)) e is

  -- tables of which at most one is filter find what there is
  finds_of : (ts : List DumpTable) (f : Option (Filter W)) → AllByRecursion (IsTable W Reads) ts → HasOneFilter ts → (f ≡ None) ⊎ NoFilter ts → (g : Option (Filter W)) × Finds ts f g
  finds_of [] f each one ok = (f, refl)
  finds_of (t ∷ ts) f each one ok =
      by each.0.inside ok (λ m start. finds_of ts m each.1
      (λ i j s u e d a b. let n = one (suc i) (suc j) s u e d a b in omega (arith, n)) start)
    where
      by : (IsFilter t × ((chains : List Declared) × (rules : List (Placed W)) × IsFilterBody W Reads t.body chains rules) × HasWords t.close.bytes (bare (codes "COMMIT") ∷ []))
          ⊎ ((IsFilter t → ⊥) × AllByRecursion (λ (line : Numbered). IsCommit line.bytes → ⊥) t.body × IsCommit t.close.bytes) →
          (f ≡ None) ⊎ NoFilter (t ∷ ts) → ((m : Option (Filter W)) → (m ≡ None) ⊎ NoFilter ts → (g : Option (Filter W)) × Finds ts m g) → (g : Option (Filter W)) × Finds (t ∷ ts) f g
      by (inl a) (inl none) more =
          let m : Option (Filter W) = Some (a.1.0, a.1.1) in
          let rest = more m (inr (each_placed (λ (v : DumpTable). IsFilter v → ⊥) ts
          (λ i v e is. let n = one zero (suc i) t v refl e a.0 is in omega (arith, n)))) in
          (rest.0, (m, (inl (a.0, none, (a.1.0, a.1.1, (a.1.2, refl))), rest.1)))
      by (inl a) (inr no_one) more = absurd (no_one.0 a.0)
      by (inr a) (inl none) more = let rest = more f (inl none) in (rest.0, (f, (inr (a.0, refl), rest.1)))
      by (inr a) (inr no_one) more = let rest = more f (inr no_one.1) in (rest.0, (f, (inr (a.0, refl), rest.1)))

  -- lines lead from outside to outside exactly where they are tables
  pub leads_of : (ls : List Numbered) (tables : List DumpTable) → AreTables W Reads ls tables →
      (g : Option (Filter W)) × (Leads W Reads (Position.Outside None) ls (Position.Outside g) × Finds tables None g)
  leads_of ls tables are =
      let found = finds_of tables None are.each are.one_filter (inl refl) in
      let here : AreKept (flat_map lines_of tables) = subst AreKept are.whole (all_kept ls) in (
        found.0,
        (
          spread (Position.Outside None) (Position.Outside found.0) ls
              (subst (λ (z : List Numbered). Leads W Reads (Position.Outside None) z (Position.Outside found.0)) (sym are.whole)
              (tables_lead tables None found.0 here are.each found.1)),
          found.1,
        ),
      )

  pub tables_of : (ls : List Numbered) (g : Option (Filter W)) → Leads W Reads (Position.Outside None) ls (Position.Outside g) →
      (tables : List DumpTable) × (AreTables W Reads ls tables × Finds tables None g)
  tables_of ls g leads =
      let r : OutsideRest None (kept ls) g = rest_of (Position.Outside None) ls g tt leads in
      (r.tables, (record { whole = r.whole; each = r.each; one_filter = finds_one r.tables None g r.finds }, r.finds))
