-- An edge that is read from the rows.
use Rattle.std.proofs.Common.{◌≡◌, ℕ, ◌≤◌, Bool, false, List, [], length, get_or, None, slice_get, unwrap_or, sym, ◌∙◌, ap, arith}
use Rattle.std.proofs.lemmas.Option.{slice_get_past, unwrap_or-slice_get}
use Rattle.service_matrix.specs.Matrices.{has_edge}

pub edge_read : (edges rows : List (List Bool)) (row cells : List Bool) (i j from to : ℕ) (r : Bool) → rows ≡ edges → row ≡ get_or rows from [] → cells ≡ row → r ≡ get_or cells to false →
    i ≡ from → j ≡ to → r ≡ has_edge edges i j
edge_read edges rows row cells i j from to r e f g h x y =
    let a : row ≡ unwrap_or (slice_get edges i) [] = f ∙ sym (unwrap_or-slice_get rows from []) ∙ ap (λ (z : List (List Bool)). unwrap_or (slice_get z from) []) e ∙ ap (λ (z : ℕ). unwrap_or (slice_get edges z) []) (sym x) in
    h ∙ sym (unwrap_or-slice_get cells to false) ∙ ap (λ (z : List Bool). unwrap_or (slice_get z to) false) (g ∙ a) ∙ ap (λ (z : ℕ). unwrap_or (slice_get (unwrap_or (slice_get edges i) []) z) false) (sym y)

pub edge_none : (edges rows : List (List Bool)) (i j from : ℕ) → rows ≡ edges → length rows ≤ from → i ≡ from → false ≡ has_edge edges i j
edge_none edges rows i j from e h x =
    let n : slice_get edges i ≡ None = slice_get_past edges i (omega (arith, h, x, ap length e)) in
    sym (ap (λ (z : _). unwrap_or (slice_get (unwrap_or z []) j) false) n)
