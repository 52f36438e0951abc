-- Matrices over classes of addresses.
use Rattle.std.specs.Prelude.{ℕ, ◌<◌, ◌^◌, ◌≡◌, ◌≢◌, ◌↔◌, ◌⊎◌, Bool, true, false, List, [], length, slice_get, unwrap_or}
use Rattle.std.specs.List.{AllByRecursion}
use Rattle.interval_set.specs.declared.set.Range.{Range}
use Rattle.ip_partition.specs.Partition.{IsIn, IsPartition}
use Rattle.service_matrix.specs.declared.table.Matrix.{Matrix}

-- whether there is an edge from the class of the first place to that of the second
abbrev pub has_edge : List (List Bool) → ℕ → ℕ → Bool
has_edge edges i j = unwrap_or (slice_get (unwrap_or (slice_get edges i) []) j) false

-- so many lists, each so long
abbrev pub IsSquare : ℕ → List (List Bool) → Type 0
IsSquare n edges = (length edges ≡ n) × AllByRecursion (λ row. length row ≡ n) edges

-- each number of w bits is in some class
abbrev pub Covers : ℕ → List (List Range) → Type 0
Covers w classes = (n : ℕ) → n < 2 ^ w → (i : ℕ) × IsIn classes i n

-- no number is in two classes
abbrev pub AreDisjoint : List (List Range) → Type 0
AreDisjoint classes = (i j n : ℕ) → IsIn classes i n → IsIn classes j n → i ≡ j

-- both numbers are in one class
abbrev pub AreTogether : List (List Range) → ℕ → ℕ → Type 0
AreTogether classes n m = (i : ℕ) × IsIn classes i n × IsIn classes i m

-- from each class to each, itself too, `E` holds of all pairs of their numbers or of none
abbrev pub IsUniform : (ℕ → ℕ → Type 0) → List (List Range) → Type 0
IsUniform E classes = (i j s t d e : ℕ) → IsIn classes i s → IsIn classes i t → IsIn classes j d → IsIn classes j e → E s d ↔ E t e

-- No classes that cover the numbers of w bits, and between which `E` is uniform, join what these part: numbers that are together in one
-- of those are together in one of these.
abbrev pub IsCoarsest : ℕ → (ℕ → ℕ → Type 0) → List (List Range) → Type 0
IsCoarsest w E classes = (others : List (List Range)) → Covers w others → IsUniform E others →
    (n m : ℕ) → n < 2 ^ w → m < 2 ^ w → AreTogether others n m → AreTogether classes n m

-- `E` tells from which address of w bits an edge goes to which. The matrix has the classes of addresses that E can't tell apart: an edge
-- stands between two classes exactly where it goes from each address of the one to each of the other, and two classes differ in an edge
-- to or from some class. So its classes are the coarsest between which E is uniform (`IsCoarsest`).
pub record IsMatrix {W : ℕ} (E : ℕ → ℕ → Type 0) (matrix : Matrix W) : Type 0 where
  pub partition : IsPartition W matrix.classes
  pub square : IsSquare (length matrix.classes) matrix.edges
  pub edges_are : (i j s d : ℕ) → IsIn matrix.classes i s → IsIn matrix.classes j d → (has_edge matrix.edges i j ≡ true) ↔ E s d
  pub differ : (i j : ℕ) → i < length matrix.classes → j < length matrix.classes → i ≢ j →
      (k : ℕ) × (k < length matrix.classes)
      × ((has_edge matrix.edges i k ≢ has_edge matrix.edges j k) ⊎ (has_edge matrix.edges k i ≢ has_edge matrix.edges k j))

-- the edge from the one address to the other is that of their classes
abbrev pub IsEdgeBetween : {W : ℕ} → Matrix W → ℕ → ℕ → Bool → Type 0
IsEdgeBetween matrix s d edge = (i j : ℕ) → IsIn matrix.classes i s → IsIn matrix.classes j d → edge ≡ has_edge matrix.edges i j
