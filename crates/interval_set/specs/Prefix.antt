-- Numbers that agree in their first bits.
use Rattle.std.specs.Prelude.{ℕ, ◌+◌, ◌-◌, ◌*◌, ◌/◌, ◌^◌, ◌==◌, ◌≤◌, ◌≡◌, Bool, ◌&&◌, nat_lt}
use Rattle.interval_set.specs.declared.set.Range.{Range}

-- whether `n` is below 2 ^ w and agrees with the value in the first `len` of the w bits
abbrev pub in_prefix : ℕ → ℕ → ℕ → ℕ → Bool
in_prefix w value len n = nat_lt n (2 ^ w) && (n / 2 ^ (w - len) == value / 2 ^ (w - len))

-- the range of the numbers that agree with the value in the first `len` of the w bits
abbrev pub prefix_range : ℕ → ℕ → ℕ → Range
prefix_range w value len = record {
  lo = value / 2 ^ (w - len) * 2 ^ (w - len);
  hi = value / 2 ^ (w - len) * 2 ^ (w - len) + (2 ^ (w - len) - 1);
}

-- the range is that of a prefix of this length
abbrev pub IsPrefix : ℕ → Range → ℕ → Type 0
IsPrefix w range len = (len ≤ w) × ((value : ℕ) × (prefix_range w value len ≡ range))
