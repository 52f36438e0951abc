-- Where the atoms of some sets begin, which are the longest runs of numbers without a boundary in them.
use Rattle.std.specs.Prelude.{ℕ, ◌+◌, ◌-◌, ◌^◌, ◌<◌, ◌==◌, List, [], ◌∷◌, ◌++◌, length, nat_lt, if◌then◌else◌}
use Rattle.std.specs.List.{flat_map}
use Rattle.limits.specs.declared.TheConstants.{MOST_BOUNDARIES}
use Rattle.interval_set.specs.declared.set.Range.{Range}
use Rattle.ip_partition.specs.declared.fault.GroupFault.{GroupFault}

-- numbers that ascend, with one more, unless they have it
abbrev pub with_number : ℕ → List ℕ → List ℕ
with_number n [] = n ∷ []
with_number n (m ∷ ms) = if nat_lt m n then m ∷ with_number n ms else (if m == n then m ∷ ms else n ∷ m ∷ ms)

-- the same for each of these numbers
abbrev pub with_numbers : List ℕ → List ℕ → List ℕ
with_numbers [] ns = ns
with_numbers (n ∷ more) ns = with_numbers more (with_number n ns)

-- the number after this one, unless this is the top
abbrev pub after : ℕ → ℕ → List ℕ
after top n = if nat_lt n top then (n + 1) ∷ [] else []

-- where ranges begin, and where the numbers after them do
abbrev pub ends : ℕ → List Range → List ℕ
ends top [] = []
ends top (r ∷ rs) = r.lo ∷ (after top r.hi ++ ends top rs)

-- 0 and the boundaries of these sets, in ascending order
abbrev pub starts_of : ℕ → List (List Range) → List ℕ
starts_of w sets = with_numbers (flat_map (ends (2 ^ w - 1)) sets) (0 ∷ [])

-- there are more than 0 and the most boundaries, where the fault is that of too many boundaries
abbrev pub PassesLimit : List ℕ → GroupFault → Type 0
PassesLimit starts GroupFault.Atoms = MOST_BOUNDARIES + 1 < length starts
PassesLimit starts GroupFault.Memory = Unit {0}
