use Rattle.std.proofs.Common.{◌≡◌, ◌∙◌, [], ◌++◌, ◌∷◌, inl, inr, arith, refl, length, length-append, sym, append-nil, ap}
use Rattle.std.proofs.lemmas.List.Elements.{recursion_from_All}
use Rattle.std.proofs.lemmas.Slice.Eq.{bytes_eq-Decides}
use Rattle.fffuu_run.specs.Covers.{divider}
use Rattle.fffuu_run.proofs.Division.{divided_here, divided_nowhere, not_same, rest_short, seen_next, seen_none, seen_sizes}
use Rattle.fffuu_run.proofs.dividing.divided.Goals as goal

pub loop-line-init : goal.loop-line-init
loop-line-init c = ([], [], seen_none _)

pub slice_bounds-result-count : goal.slice_bounds-result-count
slice_bounds-result-count c = omega (arith, rest_short _ _ _ _ _ c.loop-line.invariant.2)

pub returns-then-eq-clause-some : goal.returns-then-eq-clause-some
returns-then-eq-clause-some c =
    let seen = c.loop-line.invariant.2 in
    let is : c.in-Some.line.now ≡ divider = (bytes_eq-Decides c.in-Some.line.now divider).0 (sym c.eq.ensures ∙ c.if-eq.true) in (
      c.loop-line.invariant.0,
      (
        divided_here _ _ _ _ _ seen (10 ∷ c.in-Some.after.now) c.in-Some.after.now (c.in-Some.ensures.some.0 ∙ ap (λ z. z ++ 10 ∷ c.in-Some.after.now) is) (inl refl),
        seen.count,
      ),
    )

pub returns-then-eq-clause-short : goal.returns-then-eq-clause-short
returns-then-eq-clause-short c =
    let sizes = seen_sizes _ _ _ _ _ c.loop-line.invariant.2 c.requires in (
      sizes.0,
      omega (arith, sizes.1, ap length c.in-Some.ensures.some.0, length-append c.in-Some.line.now (10 ∷ c.in-Some.after.now)),
      sizes.2,
    )

pub slice_bounds-result-count-then-eq-2 : goal.slice_bounds-result-count-then-eq-2
slice_bounds-result-count-then-eq-2 c = omega (arith, rest_short _ _ _ _ _ c.loop-line.invariant.2)

pub overflow_add-before : goal.overflow_add-before
overflow_add-before c = let sizes = seen_sizes _ _ _ _ _ c.loop-line.invariant.2 c.requires in omega (arith, sizes.2)

pub loop-line-smaller : goal.loop-line-smaller
loop-line-smaller c = omega (arith, ap length c.in-Some.ensures.some.0, length-append c.in-Some.line.now (10 ∷ c.in-Some.after.now))

pub loop-line-preserved : goal.loop-line-preserved
loop-line-preserved c = (
  _,
  _,
  seen_next _ _ _ _ _ c.loop-line.invariant.2 c.in-Some.line.now c.in-Some.after.now c.in-Some.ensures.some.0 (recursion_from_All _ _ c.in-Some.ensures.some.1)
      (λ is. not_same c.in-Some.line.now divider _ c.eq.ensures c.if-eq.false is),
)

pub returns-then-eq-2-clause-some : goal.returns-then-eq-2-clause-some
returns-then-eq-2-clause-some c =
    let seen = c.loop-line.invariant.2 in
    let is : c.loop-line.rest.now ≡ divider = (bytes_eq-Decides c.loop-line.rest.now divider).0 (sym c.eq-2.ensures ∙ c.if-eq-2.true) in
    (c.loop-line.invariant.0, (divided_here _ _ _ _ _ seen [] [] (is ∙ sym (append-nil divider)) (inr (refl, refl)), seen.count))

pub returns-then-eq-2-clause-short : goal.returns-then-eq-2-clause-short
returns-then-eq-2-clause-short c =
    let sizes = seen_sizes _ _ _ _ _ c.loop-line.invariant.2 c.requires in
    (sizes.0, omega arith, sizes.2)

pub returns-clause-none : goal.returns-clause-none
returns-clause-none c =
    divided_nowhere _ _ _ _ _ c.loop-line.invariant.2 (recursion_from_All _ _ c.in_default.ensures.none)
    (λ is. not_same c.loop-line.rest.now divider _ c.eq-2.ensures c.if-eq-2.false is)
