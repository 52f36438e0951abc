use Rattle.std.proofs.Common.{◌≡◌, ◌<◌, ◌||◌, ℕ, Bool, false, ap, refl, replicate, slice_index_or}
use Rattle.std.proofs.lemmas.List.{get_or-replicate}
use Rattle.name_set.proofs.least.free_byte.Goals as goal

-- at first no byte is marked
unmarked : (b : ℕ) (t : Bool) → b < 256 → (slice_index_or (replicate 256 false) b false || t) ≡ t
unmarked b t small = ap (λ x. x || t) (get_or-replicate 256 b false false small)

pub loop-pattern-init : goal.loop-pattern-init
loop-pattern-init c = record { sized = refl; marked = λ b small. unmarked b _ small }
