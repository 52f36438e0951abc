-- From its end on no verdict is made of a chain's rules.
use Rattle.std.proofs.Common.{◌≡◌, ℕ, zero, suc, ◌+◌, ◌≤◌, Bool, true, false, if◌then◌else◌, List, [], ◌∷◌, ◌++◌, length, drop, Some, slice_get, refl, sym, ◌∙◌, ap, subst, arith}
use Rattle.std.proofs.Math.ListN.{set}
use Rattle.std.proofs.lemmas.List.{length-set}
use Rattle.std.proofs.lemmas.Option.{same_Some}
use Rattle.match_expr.specs.declared.expr.Expr.{Expr}
use Rattle.match_expr.specs.declared.expr.Expr.TheVariants.{Not}
use Rattle.fw_rule.specs.declared.rule.Rule.{Rule}
use Rattle.fw_rule.specs.declared.rule.Chain.{Chain}
use Rattle.fw_rule.specs.declared.rule.Dump.{Dump}
use Rattle.fw_rule.specs.Matching.{known_of, doubt_in}
use Rattle.fw_rule.specs.declared.side.Side.{Side}
use Rattle.closure.specs.declared.ends.Ends.{Ends}
use Rattle.rewriting.specs.declared.kinds.ActionKind.{ActionKind}
use Rattle.rewriting.specs.declared.kinds.ActionKind.TheVariants.{GoodVerdict, BadVerdict, GoOn, GoBack, CallTo, GoTo}
use Rattle.rewriting.specs.declared.rows.Mode.{Mode}
use Rattle.rewriting.specs.declared.rows.Mode.TheVariants.{Hard, Soft}
use Rattle.rewriting.specs.declared.rows.Row.{Row}
use Rattle.closure.specs.Rewriting.{Tree, Done, Decide, Leave, Block, shape, items, tree, rules_at, rules_of}
use Rattle.rewriting.specs.Table.{kind, row_of}
use Rattle.closure.specs.Flat.{stayed, escapes}
use Rattle.closure.specs.Stream.{cut_all, stream}
use Rattle.closure.specs.inner.Ends.{IsSilent, end_in, IsQuiet, AreSilent, EndsWith, AreOver, AreEnds}
use Rattle.closure.proofs.FlatLemmas.{items_at, drop_past}
use Rattle.closure.proofs.SkipLemmas.{each_pushed, length_pushed}

-- a silent tree gives no state
pub silent_stream : {P S : Type 0} (cut : S → Expr P → S) (s : S) (t : Tree P) → IsSilent t → stream cut s t ≡ []
silent_stream cut s Done h = refl
silent_stream cut s (Decide e v rest) h = elim h [ ]
silent_stream cut s (Leave e n rest) h = silent_stream cut (cut s (Not e)) rest h
silent_stream cut s (Block e inner rest) h =
    rw (silent_stream cut (cut s e) inner h.0, silent_stream cut (cut_all cut s (stayed e (escapes [] inner))) rest h.1) refl

-- a row that is quiet in the softest mode is in each soft one
quiet_soft : (table : List Ends) (side : Side) (d : Bool) (what : ActionKind) (j : ℕ) → IsQuiet table (row_of side d what (Soft 0)) → IsQuiet table (row_of side d what (Soft j))
quiet_soft table side true GoodVerdict j h = elim h [ ]
quiet_soft table side false GoodVerdict j h = elim h [ ]
quiet_soft table side true BadVerdict j h = tt
quiet_soft table side false BadVerdict j h = tt
quiet_soft table side true GoOn j h = tt
quiet_soft table side false GoOn j h = tt
quiet_soft table side false GoBack j h = tt
quiet_soft table side true GoBack zero h = tt
quiet_soft table side true GoBack (suc j) h = tt
quiet_soft table side false (CallTo c) j h = h
quiet_soft table side true (CallTo c) j h = h
quiet_soft table side false (GoTo c) j h = h
quiet_soft table side true (GoTo c) zero h = h
quiet_soft table side true (GoTo c) (suc j) h = h

module _ {P : Type 0} where
  module _ (table : List Ends) (callee : ℕ → Mode → Tree P) (calls : AreSilent table callee) (k : Expr P) (rest : Mode → Tree P) (mode : Mode) where
    shape_silent : (r : Row) → IsQuiet table r → IsSilent (rest mode) → IsSilent (rest (Soft 0)) → IsSilent (shape callee k rest mode r)
    shape_silent Row.Skip q h s = h
    shape_silent (Row.Decide v) q h s = elim q [ ]
    shape_silent (Row.Leave n) q h s = h
    shape_silent Row.LeaveLater q h s = (s, h)
    shape_silent (Row.Run c m) q h s = (calls c m q, h)
    shape_silent (Row.RunThenLeave c m) q h s = (calls c m q, h)
    shape_silent (Row.RunLater c) q h s = (s, ((calls c (Soft 1) q, tt), h))

  -- what stands behind in a silent list is silent
  rest_silent : (callee : ℕ → Mode → Tree P) (k : Expr P) (rest : Mode → Tree P) (mode : Mode) (r : Row) → IsSilent (shape callee k rest mode r) → IsSilent (rest mode)
  rest_silent callee k rest mode Row.Skip h = h
  rest_silent callee k rest mode (Row.Decide v) h = elim h [ ]
  rest_silent callee k rest mode (Row.Leave n) h = h
  rest_silent callee k rest mode Row.LeaveLater h = h.1
  rest_silent callee k rest mode (Row.Run c m) h = h.1
  rest_silent callee k rest mode (Row.RunThenLeave c m) h = h.1
  rest_silent callee k rest mode (Row.RunLater c) h = (h.1).1

  module _ (side : Side) (callee : ℕ → Mode → Tree P) (mode : Mode) where
    all_silent : (rules : List (Rule P)) (n : ℕ) → IsSilent (items side callee rules mode) → IsSilent (items side callee (drop n rules) mode)
    all_silent rules zero h = h
    all_silent [] (suc n) h = h
    all_silent (rule ∷ rules) (suc n) h =
        all_silent rules n (rest_silent callee (known_of rule) (λ (m : Mode). items side callee rules m) mode (row_of side (doubt_in rule.lits) (kind side rule.action) mode) h)

    pub later_silent : (rules : List (Rule P)) (n k : ℕ) → n ≤ k → IsSilent (items side callee (drop n rules) mode) → IsSilent (items side callee (drop k rules) mode)
    later_silent rules zero k l h = all_silent rules k h
    later_silent rules (suc n) zero l h = absurd (omega (arith, l))
    later_silent [] (suc n) (suc k) l h = h
    later_silent (rule ∷ rules) (suc n) (suc k) l h = later_silent rules n k (omega (arith, l)) h

  module _ (side : Side) (table : List Ends) (rules : List (Rule P)) where
    pub ends_none : (n : ℕ) → n ≡ length rules → EndsWith side table rules (record { hard = n; soft = n })
    ends_none n e callee calls Hard = rw (drop_past rules n (omega (arith, e))) tt
    ends_none n e callee calls (Soft j) = rw (drop_past rules n (omega (arith, e))) tt

    -- one rule more
    module _ (ends : Ends) (h : EndsWith side table rules ends) (behind at : ℕ) (next : behind ≡ at + 1) (rule : Rule P) (here : slice_get rules at ≡ Some rule) where
      abbrev Quiet : Mode → Type 0
      Quiet mode = IsQuiet table (row_of side (doubt_in rule.lits) (kind side rule.action) mode)

      silent_here : (callee : ℕ → Mode → Tree P) → AreSilent table callee → (mode : Mode) → end_in ends mode ≡ behind → ends.soft ≡ behind → Quiet mode → IsSilent (items side callee (drop at rules) mode)
      silent_here callee calls mode e s q =
          let rest : IsSilent (items side callee (drop (at + 1) rules) mode) = subst (λ (z : ℕ). IsSilent (items side callee (drop z rules) mode)) (e ∙ next) (h callee calls mode) in
          let soft : IsSilent (items side callee (drop (at + 1) rules) (Soft 0)) = subst (λ (z : ℕ). IsSilent (items side callee (drop z rules) (Soft 0))) (s ∙ next) (h callee calls (Soft 0)) in
          subst (λ (z : Tree P). IsSilent z) (sym (items_at side callee rules at rule mode (row_of side (doubt_in rule.lits) (kind side rule.action) mode) here refl))
          (shape_silent table callee calls (known_of rule) (λ (m : Mode). items side callee (drop (at + 1) rules) m) mode (row_of side (doubt_in rule.lits) (kind side rule.action) mode) q rest soft)

      new_hard : (callee : ℕ → Mode → Tree P) → AreSilent table callee → (b : Bool) → (b ≡ true → ends.soft ≡ behind) → (b ≡ true → ends.hard ≡ behind) → (b ≡ true → Quiet Hard) →
          IsSilent (items side callee (drop (if b then at else ends.hard) rules) Hard)
      new_hard callee calls true s e q = silent_here callee calls Hard (e refl) (s refl) (q refl)
      new_hard callee calls false s e q = h callee calls Hard

      new_soft : (callee : ℕ → Mode → Tree P) → AreSilent table callee → (j : ℕ) (b : Bool) → (b ≡ true → ends.soft ≡ behind) → (b ≡ true → Quiet (Soft 0)) →
          IsSilent (items side callee (drop (if b then at else ends.soft) rules) (Soft j))
      new_soft callee calls j true s q = silent_here callee calls (Soft j) (s refl) (s refl) (quiet_soft table side (doubt_in rule.lits) (kind side rule.action) j (q refl))
      new_soft callee calls j false s q = h callee calls (Soft j)

      pub ends_more : (b d : Bool) → (b ≡ true → ends.soft ≡ behind) → (b ≡ true → ends.hard ≡ behind) → (b ≡ true → Quiet Hard) → (d ≡ true → ends.soft ≡ behind) → (d ≡ true → Quiet (Soft 0)) →
          (hard soft : ℕ) → hard ≡ (if b then at else ends.hard) → soft ≡ (if d then at else ends.soft) → EndsWith side table rules (record { hard = hard; soft = soft })
      ends_more b d s e q t r hard soft x y callee calls Hard = rw x (new_hard callee calls b s e q)
      ends_more b d s e q t r hard soft x y callee calls (Soft j) = rw y (new_soft callee calls j d t r)

  module _ (side : Side) (dump : Dump P) where
    -- the table speaks of the called chains
    pub told : (table : List Ends) → AreEnds side dump table → (depth : ℕ) → AreSilent table (tree side dump depth)
    told table h zero c mode m = tt
    told table h (suc depth) c mode m = subst (λ (z : ℕ). IsSilent (items side (tree side dump depth) (drop z (rules_of dump c)) mode)) m.2 (h.each c m.0 m.1 mode depth)

    -- the first table
    pub record Begun (next : ℕ) (table : List Ends) : Type 0 where
      pub long : length table ≡ next
      pub each : (c : ℕ) (ends : Ends) → slice_get table c ≡ Some ends → (mode : Mode) → AreOver side dump c mode (end_in ends mode)

    pub begun_none : (table : List Ends) → table ≡ [] → Begun 0 table
    begun_none table e = rw e (record { long = refl; each = λ c ends g. cc })

    pub begun_all : (next : ℕ) (table : List Ends) → next ≡ length dump.chains → Begun next table → AreEnds side dump table
    begun_all next table e h = record { long = h.long ∙ e; each = h.each }

    over_past : (c n : ℕ) (here : Chain P) → slice_get dump.chains c ≡ Some here → n ≡ length here.rules → (mode : Mode) → AreOver side dump c mode (end_in (record { hard = n; soft = n }) mode)
    over_past c n here at e Hard depth = rw (ap rules_at at, drop_past here.rules n (omega (arith, e))) tt
    over_past c n here at e (Soft j) depth = rw (ap rules_at at, drop_past here.rules n (omega (arith, e))) tt

    pub begun_more : (next : ℕ) (table : List Ends) (here : Chain P) → slice_get dump.chains next ≡ Some here → Begun next table → (n : ℕ) → n ≡ length here.rules →
        Begun (next + 1) (table ++ record { hard = n; soft = n } ∷ [])
    begun_more next table here at h n e = record {
      long = length_pushed table (record { hard = n; soft = n }) ∙ ap (λ (z : ℕ). z + 1) h.long;
      each = each_pushed (λ (c : ℕ) (ends : Ends). (mode : Mode) → AreOver side dump c mode (end_in ends mode)) table (record { hard = n; soft = n }) h.each
          (subst (λ (c : ℕ). (mode : Mode) → AreOver side dump c mode (end_in (record { hard = n; soft = n }) mode)) (sym h.long) (over_past next n here at e));
    }

    -- the ends of one more chain
    set_each : {X : Type 0} (Q : ℕ → X → Type 0) (xs : List X) (n : ℕ) (x : X) → Q n x → ((i : ℕ) (y : X) → slice_get xs i ≡ Some y → Q i y) → (i : ℕ) (y : X) → slice_get (set xs n x) i ≡ Some y → Q i y
    set_each Q [] n x q h i y e = cc
    set_each Q (z ∷ xs) zero x q h zero y e = subst (Q 0) (same_Some x y e) q
    set_each Q (z ∷ xs) zero x q h (suc i) y e = h (suc i) y e
    set_each Q (z ∷ xs) (suc n) x q h zero y e = h 0 y e
    set_each {X} Q (z ∷ xs) (suc n) x q h (suc i) y e = set_each (λ (k : ℕ) (w : X). Q (suc k) w) xs n x q (λ k w f. h (suc k) w f) i y e

    pub ends_set : (table : List Ends) → AreEnds side dump table → (next : ℕ) (here : Chain P) → slice_get dump.chains next ≡ Some here → (ends : Ends) → EndsWith side table here.rules ends →
        AreEnds side dump (set table next ends)
    ends_set table h next here at ends is = record {
      long = length-set table next ends ∙ h.long;
      each = set_each (λ (c : ℕ) (z : Ends). (mode : Mode) → AreOver side dump c mode (end_in z mode)) table next ends
          (λ mode depth. subst (λ (rules : List (Rule P)). IsSilent (items side (tree side dump depth) (drop (end_in ends mode) rules) mode)) (sym (ap rules_at at))
          (is (tree side dump depth) (told table h depth) mode)) h.each;
    }
