-- Masks and shortened values.
use Rattle.std.proofs.Common.{◌≡◌, ◌∙◌, ◌-◌, ◌<◌, ◌≤◌, ◌^◌, ℕ, arith, ap, lit≤, inl, inr}
use Rattle.std.proofs.lemmas.Nat.{and_mask, pow_below}
use Rattle.std.proofs.lemmas.Bool.{cases_lt}
use Rattle.std.proofs.Math.Nat.{pow-le-pow_right}
use Rattle.std.specs.Prelude.{bit_and}
use Rattle.addr_text.specs.Masks.{mask_of, shortened}

pub fewer_bits : (width len : ℕ) → 2 ^ (width - len) ≤ 2 ^ width
fewer_bits width len = pow-le-pow_right (lit≤ tt) (omega arith)

pub shortened_by_mask : (width len value bits : ℕ) → bits ≡ 2 ^ (width - len) - 1 → value - bit_and value bits ≡ shortened width len value
shortened_by_mask width len value bits is = ap (λ b. value - bit_and value b) is ∙ ap (λ r. value - r) (and_mask value (width - len))

-- a shorter mask is smaller
mask_below : (width a b : ℕ) → a < b → b ≤ width → mask_of width a < mask_of width b
mask_below width a b less most =
    let steps : width - b < width - a = omega arith in
    let higher = pow_below (width - b) (width - a) steps in
    let whole = fewer_bits width a in
    omega arith

-- a mask has one length
pub mask_once : (width a b : ℕ) → a ≤ width → b ≤ width → mask_of width a ≡ mask_of width b → a ≡ b
mask_once width a b p q same =
    elim (cases_lt a b) [
      | inl less ↦ absurd (let wrong = mask_below width a b less q in omega arith)
      | inr more ↦ elim (cases_lt b a) [
        | inl less ↦ absurd (let wrong = mask_below width b a less p in omega arith)
        | inr other ↦ omega arith
      ]
    ]
