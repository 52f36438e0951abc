-- The best outcome that is computed is the best of all walks.
use Rattle.std.proofs.Common.{◌≡◌, ℕ, ◌≤◌, [], Option, None, Bool, refl, sym, ◌∙◌, ap, subst, arith}
use Rattle.match_expr.specs.FirstMatch.{first_match}
use Rattle.fw_rule.specs.declared.rule.Verdict.{Verdict}
use Rattle.fw_rule.specs.declared.rule.Dump.{Dump}
use Rattle.fw_rule.specs.Walk.{Meaning, Settled, Within, Here, Meets, IsBest, worth}
use Rattle.fw_rule.proofs.OutcomeLemmas.{comes_meets, one_met}
use Rattle.fw_rule.specs.declared.side.Side.{Side}
use Rattle.fw_rule.specs.declared.side.Side.TheVariants.{Upper, Lower}
use Rattle.closure.proofs.Outcomes.{Outcome, Good, Ends, Bad, best, walked, verdict_of, AsGood, truth_of}
use Rattle.closure.specs.Laws.{wanted}
use Rattle.rewriting.specs.declared.rows.Mode.TheVariants.{Hard}
use Rattle.closure.specs.Rewriting.{tree}
use Rattle.closure.specs.Flat.{flat_list}
use Rattle.closure.specs.Laws.{told}
use Rattle.closure.proofs.Runs.{says, expected}
use Rattle.closure.proofs.Lists.{list_says}
use Rattle.closure.proofs.Trees.{settle_says, tree_comes}
use Rattle.closure.proofs.Bounds.{walk_bound}
use Rattle.closure.proofs.Tightness.{walk_tight}
use Rattle.closure.proofs.Walks.{chain_comes}

-- what is as good is worth as much
worth_is : (side : Side) (a b : Outcome) → AsGood a b → worth (wanted side) (verdict_of side b) ≤ worth (wanted side) (verdict_of side a)
worth_is Upper Good Good h = omega arith
worth_is Upper Good Ends h = omega arith
worth_is Upper Good Bad h = omega arith
worth_is Upper Ends Good h = absurd h
worth_is Upper Ends Ends h = omega arith
worth_is Upper Ends Bad h = omega arith
worth_is Upper Bad Good h = absurd h
worth_is Upper Bad Ends h = absurd h
worth_is Upper Bad Bad h = omega arith
worth_is Lower Good Good h = omega arith
worth_is Lower Good Ends h = omega arith
worth_is Lower Good Bad h = omega arith
worth_is Lower Ends Good h = absurd h
worth_is Lower Ends Ends h = omega arith
worth_is Lower Ends Bad h = omega arith
worth_is Lower Bad Good h = absurd h
worth_is Lower Bad Ends h = absurd h
worth_is Lower Bad Bad h = omega arith

-- what the best outcome says is the verdict that it is
told_is : (side : Side) (o : Outcome) → told (says (expected side Hard o)) ≡ verdict_of side o
told_is Upper Good = refl
told_is Upper Ends = refl
told_is Upper Bad = refl
told_is Lower Good = refl
told_is Lower Ends = refl
told_is Lower Bad = refl

module _ {P Packet : Type 0} (holds : P → Packet → Bool) (dump : Dump P) (c depth : ℕ) (settled : Settled dump c) (within : Within dump depth c) (side : Side) (p : Packet) where
  abbrev walk_of : Meaning → Outcome
  walk_of m = walked side (λ x. holds x p) dump depth c (truth_of m)

  abbrev most : Outcome
  most = best side (λ x. holds x p) dump depth c

  walk_meets : (m : Meaning) → Meets holds dump p m c 0 [] (verdict_of side (walk_of m))
  walk_meets m =
      comes_meets holds dump p m None c 0 [] (verdict_of side (walk_of m)) (chain_comes holds dump p m None side depth c (c, settled, Here) within [])

  none_better : (other : Option Verdict) (m : Meaning) → Meets holds dump p m c 0 [] other → worth (wanted side) other ≤ worth (wanted side) (verdict_of side most)
  none_better other m h =
      let same : other ≡ verdict_of side (walk_of m) = one_met holds dump p m c 0 [] other (verdict_of side (walk_of m)) h (walk_meets m) in
      rw same (worth_is side most (walk_of m) (walk_bound side (λ x. holds x p) dump depth c (truth_of m)))

  best_is_best : IsBest holds dump p (wanted side) c 0 [] (verdict_of side most)
  best_is_best =
      let tight = walk_tight side (λ x. holds x p) dump depth c in (
        (tight.0, subst (λ (z : Outcome). Meets holds dump p tight.0 c 0 [] (verdict_of side z)) tight.2 (walk_meets tight.0)),
        λ other h. none_better other h.0 h.1,
      )

  list_told : told (first_match (λ x. holds x p) (flat_list (tree side dump depth c Hard))) ≡ verdict_of side most
  list_told =
      ap told (list_says (λ x. holds x p) (tree side dump depth c Hard)
      ∙ settle_says (λ x. holds x p) (tree side dump depth c Hard)
      ∙ ap says (tree_comes side (λ x. holds x p) dump depth c Hard)) ∙ told_is side most

  -- what the flat list says is the best outcome of all walks
  pub says_best : IsBest holds dump p (wanted side) c 0 [] (told (first_match (λ x. holds x p) (flat_list (tree side dump depth c Hard))))
  says_best = subst (λ (o : Option Verdict). IsBest holds dump p (wanted side) c 0 [] o) (sym list_told) best_is_best
