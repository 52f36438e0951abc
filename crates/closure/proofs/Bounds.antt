-- No walk has a better outcome than the best one; where no literal is unknown it has the best one.
use Rattle.std.proofs.Common.{◌≡◌, ℕ, zero, suc, ◌+◌, Bool, true, false, not, List, [], ◌∷◌, map, if◌then◌else◌, refl, sym, ◌∙◌, true≢false}
use Rattle.basics.proofs.Truths.{both_true}
use Rattle.match_expr.specs.Meaning.{eval_of, every}
use Rattle.match_expr.specs.declared.expr.Expr.{Expr}
use Rattle.match_expr.specs.declared.expr.Expr.TheVariants.{Not}
use Rattle.match_expr.proofs.Equations.{eval-All, eval-Not}
use Rattle.fw_rule.specs.declared.rule.Lit.{Lit}
use Rattle.fw_rule.specs.declared.rule.Rule.{Rule}
use Rattle.fw_rule.specs.declared.rule.Dump.{Dump}
use Rattle.fw_rule.specs.declared.rule.Step.{Step}
use Rattle.fw_rule.specs.declared.side.Side.{Side}
use Rattle.fw_rule.specs.Matching.{known_of, known_in, doubt_in}
use Rattle.closure.specs.Rewriting.{rules_of}
use Rattle.rewriting.specs.Table.{kind}
use Rattle.rewriting.specs.declared.kinds.ActionKind.{ActionKind}
use Rattle.rewriting.specs.declared.kinds.ActionKind.TheVariants.{GoodVerdict, BadVerdict, GoOn, GoBack, CallTo, GoTo}
use Rattle.closure.proofs.Outcomes.{AsGood, Outcome, Good, Ends, Bad, or_end, then_rest, or_rest, better, best_row, best_rules, best, Truth, under, step_of, lits_hold, walked_rules, walked}

as_bad : (a : Outcome) → AsGood a Bad
as_bad Good = tt
as_bad Ends = tt
as_bad Bad = tt

or_end_end : (a : Outcome) → AsGood (or_end a) Ends
or_end_end Good = tt
or_end_end Ends = tt
or_end_end Bad = tt

or_end_more : (a b : Outcome) → AsGood a b → AsGood (or_end a) b
or_end_more Good b h = tt
or_end_more Ends b h = h
or_end_more Bad Good h = absurd h
or_end_more Bad Ends h = absurd h
or_end_more Bad Bad h = tt

then_more : (a b x y : Outcome) → AsGood a b → AsGood x y → AsGood (then_rest a x) (then_rest b y)
then_more Good b x y h g = tt
then_more Ends Good x y h g = absurd h
then_more Ends Ends x y h g = g
then_more Ends Bad x y h g = as_bad x
then_more Bad Good x y h g = absurd h
then_more Bad Ends x y h g = absurd h
then_more Bad Bad x y h g = tt

or_rest_more : (a x y : Outcome) → AsGood x y → AsGood (or_rest a x) y
or_rest_more Good x y g = tt
or_rest_more Ends x y g = g
or_rest_more Bad x y g = g

or_then_more : (a b x y : Outcome) → AsGood a b → AsGood x y → AsGood (or_rest a x) (then_rest b y)
or_then_more Good b x y h g = tt
or_then_more Ends Good x y h g = absurd h
or_then_more Ends Ends x y h g = g
or_then_more Ends Bad x y h g = as_bad x
or_then_more Bad Good x y h g = absurd h
or_then_more Bad Ends x y h g = absurd h
or_then_more Bad Bad x y h g = as_bad x

better_first : (a b x : Outcome) → AsGood a b → AsGood (better a x) b
better_first Good b x h = tt
better_first Ends Good x h = absurd h
better_first Ends Ends x h = or_end_end x
better_first Ends Bad x h = as_bad (or_end x)
better_first Bad Good x h = absurd h
better_first Bad Ends x h = absurd h
better_first Bad Bad x h = as_bad x

better_more : (a x y : Outcome) → AsGood x y → AsGood (better a x) y
better_more Good x y g = tt
better_more Ends x y g = or_end_more x y g
better_more Bad x y g = g

module _ {P : Type 0} (h : P → Bool) where
  pub of_known : (neg : Bool) (x : Expr P) → eval_of h (if neg then Not x else x) ≡ (if neg then not (eval_of h x) else eval_of h x)
  of_known true x = eval-Not h x
  of_known false x = refl

  -- the known literals of a rule that matches hold
  pub matched : (t : Truth) (steps : List Step) (l : ℕ) (lits : List (Lit P)) → lits_hold h t steps l lits ≡ true → every (map (eval_of h) (known_in lits)) ≡ true
  matched t steps l [] e = refl
  matched t steps l (Lit.Known neg x ∷ lits) e =
      let parts = both_true (if neg then not (eval_of h x) else eval_of h x) (lits_hold h t steps (l + 1) lits) e in
      rw (of_known neg x, parts.0) (matched t steps (l + 1) lits parts.1)
  matched t steps l (Lit.Unknown text ∷ lits) e = matched t steps (l + 1) lits (both_true (t steps l) (lits_hold h t steps (l + 1) lits) e).1

  -- of a rule without unknown literals the known ones decide
  pub sure : (t : Truth) (steps : List Step) (l : ℕ) (lits : List (Lit P)) → doubt_in lits ≡ false → lits_hold h t steps l lits ≡ every (map (eval_of h) (known_in lits))
  sure t steps l [] e = refl
  sure t steps l (Lit.Known neg x ∷ lits) e = rw (of_known neg x, sure t steps (l + 1) lits e) refl
  sure t steps l (Lit.Unknown text ∷ lits) e = absurd (true≢false e)

  pub sure_rule : (t : Truth) (steps : List Step) (rule : Rule P) → doubt_in rule.lits ≡ false → lits_hold h t steps 0 rule.lits ≡ eval_of h (known_of rule)
  sure_rule t steps rule e = sure t steps 0 rule.lits e ∙ sym (eval-All h (known_in rule.lits))

  pub matched_rule : (t : Truth) (steps : List Step) (rule : Rule P) → lits_hold h t steps 0 rule.lits ≡ true → eval_of h (known_of rule) ≡ true
  matched_rule t steps rule e = eval-All h (known_in rule.lits) ∙ matched t steps 0 rule.lits e

-- a rule that is sure
sure_row : (best_callee callee : ℕ → Outcome) (best_rest rest : Outcome) → ((c : ℕ) → AsGood (best_callee c) (callee c)) → AsGood best_rest rest →
    (what : ActionKind) → AsGood (best_row best_callee best_rest false what) (best_row callee rest false what)
sure_row best_callee callee best_rest rest hc hr GoodVerdict = tt
sure_row best_callee callee best_rest rest hc hr BadVerdict = tt
sure_row best_callee callee best_rest rest hc hr GoOn = hr
sure_row best_callee callee best_rest rest hc hr GoBack = tt
sure_row best_callee callee best_rest rest hc hr (CallTo c) = then_more (best_callee c) (callee c) best_rest rest (hc c) hr
sure_row best_callee callee best_rest rest hc hr (GoTo c) = hc c

-- a doubtful rule that matches
doubtful_row : (best_callee callee : ℕ → Outcome) (best_rest rest : Outcome) → ((c : ℕ) → AsGood (best_callee c) (callee c)) → AsGood best_rest rest →
    (what : ActionKind) → AsGood (best_row best_callee best_rest true what) (best_row callee rest false what)
doubtful_row best_callee callee best_rest rest hc hr GoodVerdict = tt
doubtful_row best_callee callee best_rest rest hc hr BadVerdict = as_bad best_rest
doubtful_row best_callee callee best_rest rest hc hr GoOn = hr
doubtful_row best_callee callee best_rest rest hc hr GoBack = or_end_end best_rest
doubtful_row best_callee callee best_rest rest hc hr (CallTo c) = or_then_more (best_callee c) (callee c) best_rest rest (hc c) hr
doubtful_row best_callee callee best_rest rest hc hr (GoTo c) = better_first (best_callee c) (callee c) best_rest (hc c)

-- a doubtful rule that doesn't match
missed_row : (best_callee : ℕ → Outcome) (best_rest rest : Outcome) → AsGood best_rest rest → (what : ActionKind) → AsGood (best_row best_callee best_rest true what) rest
missed_row best_callee best_rest rest hr GoodVerdict = tt
missed_row best_callee best_rest rest hr BadVerdict = hr
missed_row best_callee best_rest rest hr GoOn = hr
missed_row best_callee best_rest rest hr GoBack = or_end_more best_rest rest hr
missed_row best_callee best_rest rest hr (CallTo c) = or_rest_more (best_callee c) best_rest rest hr
missed_row best_callee best_rest rest hr (GoTo c) = better_more (best_callee c) best_rest rest hr

-- known literals that hold or not, a match or not, a doubtful rule or not
any_row : (best_callee callee : ℕ → Outcome) (best_rest rest : Outcome) → ((c : ℕ) → AsGood (best_callee c) (callee c)) → AsGood best_rest rest → (what : ActionKind) →
    (k b d : Bool) → (b ≡ true → k ≡ true) → (d ≡ false → b ≡ k) →
    AsGood (if k then best_row best_callee best_rest d what else best_rest) (if b then best_row callee rest false what else rest)
any_row best_callee callee best_rest rest hc hr what false false d up same = hr
any_row best_callee callee best_rest rest hc hr what false true d up same = absurd (true≢false (sym (up refl)))
any_row best_callee callee best_rest rest hc hr what true true false up same = sure_row best_callee callee best_rest rest hc hr what
any_row best_callee callee best_rest rest hc hr what true true true up same = doubtful_row best_callee callee best_rest rest hc hr what
any_row best_callee callee best_rest rest hc hr what true false false up same = absurd (true≢false (sym (same refl)))
any_row best_callee callee best_rest rest hc hr what true false true up same = missed_row best_callee best_rest rest hr what

module _ {P : Type 0} (side : Side) (h : P → Bool) where
  rules_bound : (best_callee : ℕ → Outcome) (callee : ℕ → Truth → Outcome) → ((c : ℕ) (t : Truth) → AsGood (best_callee c) (callee c t)) →
      (c n : ℕ) (t : Truth) (rules : List (Rule P)) → AsGood (best_rules side h best_callee rules) (walked_rules side h callee c n t rules)
  rules_bound best_callee callee hc c n t [] = tt
  rules_bound best_callee callee hc c n t (rule ∷ rules) =
      any_row best_callee (λ k. callee k (under (step_of c n) t)) (best_rules side h best_callee rules) (walked_rules side h callee c (n + 1) t rules)
      (λ k. hc k (under (step_of c n) t)) (rules_bound best_callee callee hc c (n + 1) t rules) (kind side rule.action)
      (eval_of h (known_of rule)) (lits_hold h t (step_of c n ∷ []) 0 rule.lits) (doubt_in rule.lits)
      (matched_rule h t (step_of c n ∷ []) rule) (sure_rule h t (step_of c n ∷ []) rule)

  -- no walk comes to more than the best
  pub walk_bound : (dump : Dump P) (depth c : ℕ) (t : Truth) → AsGood (best side h dump depth c) (walked side h dump depth c t)
  walk_bound dump zero c t = tt
  walk_bound dump (suc depth) c t = rules_bound (best side h dump depth) (walked side h dump depth) (walk_bound dump depth) c 0 t (rules_of dump c)
