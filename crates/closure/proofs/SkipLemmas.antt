-- The rules that give no item can be passed over.
use Rattle.std.proofs.Common.{◌≡◌, ℕ, zero, suc, ◌+◌, ◌-◌, ◌<◌, ◌≤◌, Bool, true, false, if◌then◌else◌, List, [], ◌∷◌, ◌++◌, length, drop, Some, slice_get, inl, inr, refl, sym, ◌∙◌, ap, subst, arith}
use Rattle.std.proofs.lemmas.Bool.{cases_lt}
use Rattle.std.proofs.lemmas.Option.{same_Some}
use Rattle.fw_rule.specs.declared.rule.Rule.{Rule}
use Rattle.fw_rule.specs.declared.rule.Chain.{Chain}
use Rattle.fw_rule.specs.declared.rule.Dump.{Dump}
use Rattle.fw_rule.specs.Matching.{doubt_in}
use Rattle.fw_rule.specs.declared.side.Side.{Side}
use Rattle.rewriting.specs.declared.kinds.ActionKind.{ActionKind}
use Rattle.rewriting.specs.declared.kinds.ActionKind.TheVariants.{GoodVerdict, BadVerdict, GoOn, GoBack, CallTo, GoTo}
use Rattle.rewriting.specs.declared.rows.Mode.{Mode}
use Rattle.rewriting.specs.declared.rows.Mode.TheVariants.{Hard, Soft}
use Rattle.rewriting.specs.declared.rows.Row.{Row}
use Rattle.closure.specs.declared.skips.Skips.{Skips}
use Rattle.closure.specs.Rewriting.{items, rules_at, rules_of}
use Rattle.rewriting.specs.Table.{kind, row_of}
use Rattle.closure.specs.inner.Skips.{is_softest, list_in, HaveSame, Leads, IsSkips, AreSkips}
use Rattle.closure.proofs.FlatLemmas.{items_at}

-- what is true of each element is true after one more
pub each_pushed : {X : Type 0} (Q : ℕ → X → Type 0) (xs : List X) (y : X) → ((p : ℕ) (k : X) → slice_get xs p ≡ Some k → Q p k) → Q (length xs) y →
    (p : ℕ) (k : X) → slice_get (xs ++ y ∷ []) p ≡ Some k → Q p k
each_pushed Q [] y h q zero k e = subst (Q 0) (same_Some y k e) q
each_pushed Q [] y h q (suc p) k e = cc
each_pushed Q (x ∷ xs) y h q zero k e = h 0 k e
each_pushed {X} Q (x ∷ xs) y h q (suc p) k e = each_pushed (λ (i : ℕ) (z : X). Q (suc i) z) xs y (λ i z f. h (suc i) z f) q p k e

pub length_pushed : {X : Type 0} (xs : List X) (y : X) → length (xs ++ y ∷ []) ≡ length xs + 1
length_pushed [] y = refl
length_pushed (x ∷ xs) y = let h = length_pushed xs y in omega (arith, h)

-- a rule is skipped in a mode where it is in another that is the softest one where this is
pub skipped_alike : (side : Side) (m n : Mode) → is_softest n ≡ is_softest m → (d : Bool) (what : ActionKind) → row_of side d what m ≡ Row.Skip → row_of side d what n ≡ Row.Skip
skipped_alike side m n same true GoodVerdict e = cc
skipped_alike side m n same false GoodVerdict e = cc
skipped_alike side m n same true BadVerdict e = refl
skipped_alike side Hard n same false BadVerdict e = cc
skipped_alike side (Soft j) n same false BadVerdict e = cc
skipped_alike side m n same true GoOn e = refl
skipped_alike side m n same false GoOn e = refl
skipped_alike side m n same false GoBack e = cc
skipped_alike side Hard n same true GoBack e = cc
skipped_alike side (Soft (suc j)) n same true GoBack e = cc
skipped_alike side (Soft zero) Hard same true GoBack e = cc
skipped_alike side (Soft zero) (Soft zero) same true GoBack e = refl
skipped_alike side (Soft zero) (Soft (suc j)) same true GoBack e = cc
skipped_alike side Hard n same false (CallTo c) e = cc
skipped_alike side (Soft j) n same false (CallTo c) e = cc
skipped_alike side m n same true (CallTo c) e = cc
skipped_alike side Hard n same false (GoTo c) e = cc
skipped_alike side (Soft j) n same false (GoTo c) e = cc
skipped_alike side Hard n same true (GoTo c) e = cc
skipped_alike side (Soft zero) n same true (GoTo c) e = cc
skipped_alike side (Soft (suc j)) n same true (GoTo c) e = cc

module _ {P : Type 0} (side : Side) (rules : List (Rule P)) (mode : Mode) where
  -- the list so far, and the place that comes next, where so many last rules were looked at
  pub record Leading (passed next : ℕ) (list : List ℕ) : Type 0 where
    pub long : length list ≡ passed + 1
    pub ahead : length rules - passed ≤ next
    pub same : (m : Mode) → is_softest m ≡ is_softest mode → HaveSame side rules m (length rules - passed) next
    pub each : (p k : ℕ) → slice_get list p ≡ Some k → (length rules - p ≤ k) × ((m : Mode) → is_softest m ≡ is_softest mode → HaveSame side rules m (length rules - p) k)

  pub leads_none : (n : ℕ) → n ≡ length rules → (list : List ℕ) → list ≡ [] → Leading 0 n (list ++ n ∷ [])
  leads_none n e list f =
      let q : length rules - 0 ≡ n = omega (arith, e) in
      let same : (m : Mode) → is_softest m ≡ is_softest mode → HaveSame side rules m (length rules - 0) n =
      λ m s callee. ap (λ (z : ℕ). items side callee (drop z rules) m) q in
      record {
        long = rw f refl;
        ahead = omega (arith, q);
        same = same;
        each = rw f (each_pushed (λ (p k : ℕ). (length rules - p ≤ k) × ((m : Mode) → is_softest m ≡ is_softest mode → HaveSame side rules m (length rules - p) k)) [] n (λ p k g. cc) (omega (arith, q), same));
      }

  -- one rule more, which gives an item or is skipped
  module _ (passed next : ℕ) (list : List ℕ) (more : passed < length rules) (h : Leading passed next list) where
    push : (n : ℕ) → length rules - (passed + 1) ≤ n → ((m : Mode) → is_softest m ≡ is_softest mode → HaveSame side rules m (length rules - (passed + 1)) n) → Leading (passed + 1) n (list ++ n ∷ [])
    push n a s = record {
      long = length_pushed list n ∙ ap (λ (z : ℕ). z + 1) h.long;
      ahead = a;
      same = s;
      each = each_pushed (λ (p k : ℕ). (length rules - p ≤ k) × ((m : Mode) → is_softest m ≡ is_softest mode → HaveSame side rules m (length rules - p) k)) list n h.each
          (subst (λ (p : ℕ). (length rules - p ≤ n) × ((m : Mode) → is_softest m ≡ is_softest mode → HaveSame side rules m (length rules - p) n)) (sym h.long) (a, s));
    }

    pub leads_here : (at : ℕ) → at ≡ length rules - 1 - passed → Leading (passed + 1) at (list ++ at ∷ [])
    leads_here at e =
        let q : length rules - (passed + 1) ≡ at = omega (arith, e) in
        push at (omega (arith, q)) (λ m s callee. ap (λ (z : ℕ). items side callee (drop z rules) m) q)

    pub leads_on : (at : ℕ) → at ≡ length rules - 1 - passed → (rule : Rule P) → slice_get rules at ≡ Some rule → row_of side (doubt_in rule.lits) (kind side rule.action) mode ≡ Row.Skip →
        Leading (passed + 1) next (list ++ next ∷ [])
    leads_on at e rule here skip =
        let q : length rules - (passed + 1) ≡ at = omega (arith, e) in
        let r : length rules - passed ≡ at + 1 = omega (arith, e, more) in
        let a = h.ahead in
        push next (omega (arith, q, a, r))
        (λ m s callee.
        ap (λ (z : ℕ). items side callee (drop z rules) m) q
        ∙ items_at side callee rules at rule m Row.Skip here (sym (skipped_alike side mode m s (doubt_in rule.lits) (kind side rule.action) skip))
        ∙ ap (λ (z : ℕ). items side callee (drop z rules) m) (sym r) ∙ h.same m s callee)

    pub leads_turn : (at : ℕ) → at ≡ length rules - 1 - passed → (rule : Rule P) → slice_get rules at ≡ Some rule → (b : Bool) → (b ≡ true → row_of side (doubt_in rule.lits) (kind side rule.action) mode ≡ Row.Skip) →
        Leading (passed + 1) (if b then next else at) (list ++ (if b then next else at) ∷ [])
    leads_turn at e rule here true skip = leads_on at e rule here (skip refl)
    leads_turn at e rule here false skip = leads_here at e

  pub leads_all : (passed next : ℕ) (list : List ℕ) → passed ≡ length rules → Leading passed next list → Leads side rules mode list
  leads_all passed next list e h = record { long = h.long ∙ ap (λ (z : ℕ). z + 1) e; each = h.each }

  -- what is read of such a list
  pub lead_read : (list : List ℕ) → Leads side rules mode list → (at k : ℕ) → (at < length list → slice_get list (length list - 1 - at) ≡ Some k) → (length list ≤ at → k ≡ at) →
      (at ≤ k) × ((m : Mode) → is_softest m ≡ is_softest mode → HaveSame side rules m at k)
  lead_read list h at k inside over = elim (cases_lt at (length list)) [
    | inl less ↦ (
        let long = h.long in
        let q : length rules - (length list - 1 - at) ≡ at = omega (arith, long, less) in
        subst (λ (z : ℕ). (z ≤ k) × ((m : Mode) → is_softest m ≡ is_softest mode → HaveSame side rules m z k)) q (h.each (length list - 1 - at) k (inside less)))
    | inr least ↦ (let q = over least in (omega (arith, q), λ m s callee. ap (λ (z : ℕ). items side callee (drop z rules) m) (sym q)))
  ]

-- the same of the list for a mode
module _ {P : Type 0} (side : Side) (rules : List (Rule P)) where
  pub read_in_mode : (mode : Mode) (skips : Skips) → IsSkips side rules skips → (at k : ℕ) → (at < length (list_in skips mode) → slice_get (list_in skips mode) (length (list_in skips mode) - 1 - at) ≡ Some k) →
      (length (list_in skips mode) ≤ at → k ≡ at) → (at ≤ k) × HaveSame side rules mode at k
  read_in_mode Hard skips is at k inside over = let h = lead_read side rules Hard skips.firm is.firm at k inside over in (h.0, h.1 Hard refl)
  read_in_mode (Soft zero) skips is at k inside over = let h = lead_read side rules (Soft 0) skips.soft is.soft at k inside over in (h.0, h.1 (Soft 0) refl)
  read_in_mode (Soft (suc j)) skips is at k inside over = let h = lead_read side rules Hard skips.firm is.firm at k inside over in (h.0, h.1 (Soft (suc j)) refl)

module _ {P : Type 0} (side : Side) (dump : Dump P) where
  -- a table of the first chains
  pub record Tabled (next : ℕ) (table : List Skips) : Type 0 where
    pub long : length table ≡ next
    pub each : (c : ℕ) (skips : Skips) → slice_get table c ≡ Some skips → IsSkips side (rules_of dump c) skips

  pub tabled_none : (table : List Skips) → table ≡ [] → Tabled 0 table
  tabled_none table e = rw e (record { long = refl; each = λ c skips g. cc })

  pub tabled_more : (next : ℕ) (table : List Skips) (here : Chain P) → slice_get dump.chains next ≡ Some here → Tabled next table → (skips : Skips) → IsSkips side here.rules skips → Tabled (next + 1) (table ++ skips ∷ [])
  tabled_more next table here at h skips is = record {
    long = length_pushed table skips ∙ ap (λ (z : ℕ). z + 1) h.long;
    each = each_pushed (λ (c : ℕ) (z : Skips). IsSkips side (rules_of dump c) z) table skips h.each
        (subst (λ (c : ℕ). IsSkips side (rules_of dump c) skips) (sym h.long) (subst (λ (rules : List (Rule P)). IsSkips side rules skips) (sym (ap rules_at at)) is));
  }

  pub tabled_all : (next : ℕ) (table : List Skips) → next ≡ length dump.chains → Tabled next table → AreSkips side dump table
  tabled_all next table e h = record { long = h.long ∙ e; each = h.each }
