use Rattle.std.proofs.Common.{◌≡◌, ◌∙◌, ◌+◌, ◌-◌, ◌++◌, ℕ, List, append_assoc, arith, ap, length, take, drop, subst, sym}
use Rattle.std.proofs.Math.Seq.{take-add}
use Rattle.std.proofs.lemmas.List.{take_rest}
use Rattle.std.specs.Io.KnownBytes.{Appends}
use Rattle.std.proofs.KnownBytes.{Appends-trans}
use Rattle.fffuu_run.proofs.writing.write_all.Goals as goal

-- the front grows by what was taken of the rest
front_grows : (text : List ℕ) (i n : ℕ) → take i text ++ take n (take (length text - i) (drop i text)) ≡ take (i + n) text
front_grows text i n = ap (λ rest. take i text ++ take n rest) (take_rest text i) ∙ sym (take-add i n text)

acknowledged_grows : (first before now text : List ℕ) (i n : ℕ) → before ≡ first ++ take i text
    → now ≡ before ++ take n (take (length text - i) (drop i text)) → now ≡ first ++ take (i + n) text
acknowledged_grows first before now text i n was is =
    is ∙ ap (λ (front : List ℕ). front ++ take n (take (length text - i) (drop i text))) was
    ∙ append_assoc first (take i text) (take n (take (length text - i) (drop i text)))
    ∙ ap (λ (more : List ℕ). first ++ more) (front_grows text i n)

pub loop-at-preserved : goal.loop-at-preserved
loop-at-preserved g c = (
  omega (arith, c.in_ok-at.ensures.bound),
  subst (Appends _ _) (front_grows c.args.text.now c.loop-at.at c.in_ok-at.field-0)
      (Appends-trans _ _ _ _ _ c.loop-at.invariant.1 c.in_ok-at.ensures.bytes),
  omega (arith, c.in_ok-at.ensures.cause.later),
  c.in_ok-at.ensures.steady ∙ c.loop-at.invariant.3,
  acknowledged_grows _ _ _ c.args.text.now c.loop-at.at c.in_ok-at.field-0 c.loop-at.invariant.4 c.in_ok-at.ensures.takes,
)
