-- The matrix of a service in a text.
use Rattle.std.specs.Prelude.{ℕ, ◌+◌, ◌≡◌, ◌↔◌, Bool, true, List, [], ◌∷◌, ◌++◌, codes, decimal, if◌then◌else◌, length}
use Rattle.std.specs.List.{count_by, sum_by}
use Rattle.interval_set.specs.declared.set.Range.{Range}
use Rattle.primitives.specs.Holds.{IsValid, holds_of}
use Rattle.primitives.specs.declared.prim.Packet.{Packet}
use Rattle.primitives.specs.declared.prim.Prim_.{Prim_}
use Rattle.fw_rule.specs.declared.rule.Dump.{Dump}
use Rattle.fw_rule.specs.declared.side.Side.{Side}
use Rattle.fw_rule.specs.Answers.{IsAccepted}
use Rattle.iface_space.specs.declared.hop.Hop.{Hop}
use Rattle.fw_text.specs.Ranges.{ranges_text}
use Rattle.service_packet.specs.declared.service.Service.{Service}
use Rattle.service_matrix.specs.declared.table.Matrix.{Matrix}
use Rattle.service_matrix.specs.Matrices.{IsCoarsest, IsMatrix, has_edge}
use Rattle.service_matrix.specs.Services.{Edge, HoldsOfAllNames, IsBetween}
use Rattle.ip_partition.specs.Partition.{IsIn}
use Rattle.ip_partition.specs.Boundaries.{HasManyBoundaries}
use Rattle.service_matrix.specs.Refusals.{IsAddressSet}
use Rattle.simple_filter.specs.Hidden.{hidden}
use Rattle.simple_filter.specs.declared.hiding.Hide.{Hide}
use Rattle.simple_filter.specs.declared.refusal.Kind.{Kind}
use Rattle.fffuu_run.specs.Filters.{IsClosingOver}
use Rattle.request.specs.declared.types.Claim.{Claim}
use Rattle.fffuu_run.specs.Questions.{Answers, RefusesQuestion}
use Rattle.fffuu_run.specs.Respecting.{RespectsRoutes, RespectsZones, seen_by, with_spaces}
use Rattle.fffuu_run.specs.declared.status.Status.{Status}

-- a line for an edge: the numbers of both classes
abbrev pub edge_line : ℕ → ℕ → List ℕ
edge_line i j = decimal i ++ (codes " " ++ (decimal j ++ 10 ∷ []))

-- the lines of the edges from a class to the classes from this number on
abbrev pub row_lines : ℕ → ℕ → List Bool → List ℕ
row_lines i j [] = []
row_lines i j (edge ∷ row) = (if edge then edge_line i j else []) ++ row_lines i (j + 1) row

-- the lines of the edges from the classes from this number on
abbrev pub edge_lines : ℕ → List (List Bool) → List ℕ
edge_lines i [] = []
edge_lines i (row ∷ rows) = row_lines i 0 row ++ edge_lines (i + 1) rows

-- how many edges there are
abbrev pub edge_count : List (List Bool) → ℕ
edge_count edges = sum_by (count_by (λ edge. edge)) edges

-- `text_of` is the one text that is written for an address
module _ (text_of : ℕ → List ℕ) where
  -- the line of a class: its number and its ranges
  abbrev pub class_line : ℕ → List Range → List ℕ
  class_line i class = decimal i ++ (codes " " ++ (ranges_text text_of class ++ 10 ∷ []))

  -- a line for each class from this number on
  abbrev pub class_lines : ℕ → List (List Range) → List ℕ
  class_lines i [] = []
  class_lines i (class ∷ classes) = class_line i class ++ class_lines (i + 1) classes

  -- the classes with their number before them, and then the edges with theirs
  abbrev pub matrix_text : List (List Range) → List (List Bool) → List ℕ
  matrix_text classes edges =
      (codes "classes " ++ (decimal (length classes) ++ 10 ∷ [])) ++ (class_lines 0 classes
      ++ ((codes "edges " ++ (decimal (edge_count edges) ++ 10 ∷ [])) ++ edge_lines 0 edges))

module _ {W : ℕ} (side : Side) (service : Service) (dump : Dump (Prim_ W)) (chain : ℕ) where
  -- What a matrix says of the dump itself. Without zones and routes: what its edges say whatever the names of the interfaces.
  -- Else: of each packet of the service that respects these, an edge says whether it may (Upper) or must (Lower) be accepted.
  abbrev pub SaysOfDump : List Claim → List Hop → Matrix W → Type 0
  SaysOfDump [] [] matrix = HoldsOfAllNames side dump chain service matrix
  SaysOfDump claims hops matrix = (i j s d : ℕ) → IsIn matrix.classes i s → IsIn matrix.classes j d → (p : Packet) → IsValid W p →
      IsBetween service s d p → RespectsZones W claims p → RespectsRoutes W hops p →
      (has_edge matrix.edges i j ≡ true) ↔ IsAccepted holds_of side (seen_by claims hops dump) chain p

module _ {W : ℕ} (text_of : ℕ → List ℕ) (side : Side) (service : Service) (claims : List Claim) (hops : List Hop)
    (dump : Dump (Prim_ W)) (chain : ℕ) where
  -- this is the text of the service's matrix in the chain: its classes are those of all addresses that its edges can't
  -- tell apart. It is that of the dump with what zones and routes tell, if there are some
  pub record IsMatrixText (written : List ℕ) : Type 0 where
    pub matrix : Matrix W
    pub right : IsMatrix (Edge side (with_spaces claims hops dump) chain service) matrix
    pub coarsest : IsCoarsest W (Edge side (with_spaces claims hops dump) chain service) matrix.classes
    pub says : SaysOfDump side service dump chain claims hops matrix
    pub written_is : written ≡ matrix_text text_of matrix.classes matrix.edges

module _ {W : ℕ} (side : Side) (dump : Dump (Prim_ W)) (chain : ℕ) where
  -- with the tests of names hidden, the rewriting is too large, or the boundaries of address sets are too many
  abbrev pub IsMatrixOver : Kind → Type 0
  IsMatrixOver Kind.Atoms = HasManyBoundaries W (IsAddressSet (hidden Hide.BothNames dump) chain)
  IsMatrixOver kind = IsClosingOver (hidden Hide.BothNames dump) chain side kind

-- `Reads` says which text is one of which address of `W` bits
module _ (W : ℕ) (Reads : List ℕ → ℕ → Type 0) (text_of : ℕ → List ℕ) (side : Side) (service : Service)
    (claims : List Claim) (hops : List Hop) (name text : List ℕ) where
  -- so it is in the dump with what zones and routes tell
  abbrev pub IsOverWith : Dump (Prim_ W) → ℕ → Kind → Type 0
  IsOverWith dump chain = IsMatrixOver side (with_spaces claims hops dump) chain

  -- this is the text of the service's matrix in the chain of this name in the dump that the text is
  abbrev pub Matrices : List ℕ → Type 0
  Matrices written = Answers W Reads name text IsOverWith (λ dump chain. IsMatrixText text_of side service claims hops dump chain written)

  -- why there is none
  abbrev pub RefusesMatrices : Status → Type 0
  RefusesMatrices s = RefusesQuestion W Reads name text IsOverWith s
