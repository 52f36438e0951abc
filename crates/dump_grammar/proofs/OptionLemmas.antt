-- The row of an option, found by its place, tells the arity and the form.
use Rattle.std.proofs.Common.{◌≡◌, ◌∙◌, ◌<◌, ◌≤◌, ℕ, zero, suc, List, [], ◌∷◌, Bool, true, false, ◌&&◌, ◌||◌, Some, None, length, map, refl, sym, ap, arith, get_or, slice_get}
use Rattle.std.specs.Prelude.{if◌then◌else◌, nat_lt, option_map}
use Rattle.std.proofs.lemmas.Bool.Decides.{nat_tests}
use Rattle.std.specs.List.{find, list_any, position, position_or_len}
use Rattle.std.specs.Str.{bytes_eq}
use Rattle.std.proofs.lemmas.Grind.{common_steps}
use Rattle.std.proofs.lemmas.List.Sums.{fails_before_first}
use Rattle.std.proofs.lemmas.List.Quantifiers.{position-Some}
use Rattle.std.proofs.lemmas.Option.{get_or_from_slice_get}
use Rattle.opt_table.specs.declared.Row.{Row}
use Rattle.opt_table.specs.Rows.{form_of, is_module, is_row, spelling_of}
use Rattle.opt_table.specs.Options.{Spelling, known_options}
use Rattle.dump_grammar.specs.Groups.{arity_of, is_known_module, row_of}
use Rattle.dump_grammar.specs.Kinds.{form_named}
use Rattle.dump_grammar.specs.Lines.{Text}

abbrev named : Text → Text → Spelling → Bool
named n o row = bytes_eq row.name n && bytes_eq row.option o

row_at : (rows : List Row) (n o : Text) (k : ℕ) (row : Row) → slice_get rows k ≡ Some row → is_row n o row ≡ true
    → ((j : ℕ) → j < k → is_row n o (get_or rows j row) ≡ false)
    → find (named n o) (map spelling_of rows) ≡ Some (spelling_of row)
row_at [] n o k row e is before = cc
row_at (x ∷ xs) n o zero row e is before =
    let same : x ≡ row = cc in
    ap (λ (b : Bool). if b then Some (spelling_of x) else find (named n o) (map spelling_of xs))
    (ap (is_row n o) same ∙ is)
    ∙ ap (λ (r : Row). Some (spelling_of r)) same
row_at (x ∷ xs) n o (suc k) row e is before =
    ap (λ (b : Bool). if b then Some (spelling_of x) else find (named n o) (map spelling_of xs))
    (before 0 (omega arith))
    ∙ row_at xs n o k row e is (λ j h. before (suc j) (omega (arith, h)))

fails_at : (p : Row → Bool) (xs : List Row) → position p xs ≡ None → (k : ℕ) (d : Row) → k < length xs → p (get_or xs k d) ≡ false
fails_at p xs e k d h =
    let far : length xs ≤ position_or_len p xs = grind (arith, common_steps) in
    fails_before_first p xs k d (omega (arith, far, h))

row_nowhere : (rows : List Row) (n o : Text)
    → ((j : ℕ) (d : Row) → j < length rows → is_row n o (get_or rows j d) ≡ false)
    → find (named n o) (map spelling_of rows) ≡ None
row_nowhere [] n o none = refl
row_nowhere (x ∷ xs) n o none =
    ap (λ (b : Bool). if b then Some (spelling_of x) else find (named n o) (map spelling_of xs))
    (none 0 x (omega arith))
    ∙ row_nowhere xs n o (λ j d h. none (suc j) d (omega (arith, h)))

row_found : (rows : List Row) (n o : Text) (k : ℕ) (row : Row) → map spelling_of rows ≡ known_options
    → position (is_row n o) rows ≡ Some k
    → slice_get rows k ≡ Some row → row_of n o ≡ Some (spelling_of row)
unfolding row_of
row_found rows n o k row all at e =
    let found = position-Some (is_row n o) rows k row at in
    let same : get_or rows k row ≡ row = get_or_from_slice_get rows k row row e in
    ap (find (named n o)) (sym all) ∙ row_at rows n o k row e (ap (is_row n o) (sym same) ∙ found.1) found.2

row_none : (rows : List Row) (n o : Text) → map spelling_of rows ≡ known_options → position (is_row n o) rows ≡ None
    → row_of n o ≡ None
unfolding row_of
row_none rows n o all at =
    ap (find (named n o)) (sym all) ∙ row_nowhere rows n o (λ j d h. fails_at (is_row n o) rows at j d h)

pub arity_found : (rows : List Row) (n o : Text) (k : ℕ) (row : Row) → map spelling_of rows ≡ known_options → position (is_row n o) rows ≡ Some k
    → slice_get rows k ≡ Some row → Some row.arity ≡ arity_of n o
unfolding arity_of
arity_found rows n o k row all at e =
    sym (ap (option_map (λ (s : Spelling). s.arity)) (row_found rows n o k row all at e))

pub arity_none : (rows : List Row) (n o : Text) → map spelling_of rows ≡ known_options → position (is_row n o) rows ≡ None → None ≡ arity_of n o
unfolding arity_of
arity_none rows n o all at = sym (ap (option_map (λ (s : Spelling). s.arity)) (row_none rows n o all at))

pub form_found : (rows : List Row) (n o : Text) (k : ℕ) (row : Row) → map spelling_of rows ≡ known_options
    → position (is_row n o) rows ≡ Some k
    → slice_get rows k ≡ Some row → Some (form_of row.kind) ≡ form_named n o
form_found rows n o k row all at e =
    sym (ap (option_map (λ (s : Spelling). s.form)) (row_found rows n o k row all at e))

pub form_none : (rows : List Row) (n o : Text) → map spelling_of rows ≡ known_options
    → position (is_row n o) rows ≡ None → None ≡ form_named n o
form_none rows n o all at = sym (ap (option_map (λ (s : Spelling). s.form)) (row_none rows n o all at))

any_mapped : (rows : List Row) (p : Spelling → Bool) → list_any (λ row. p (spelling_of row)) rows ≡ list_any p (map spelling_of rows)
any_mapped [] p = refl
any_mapped (x ∷ xs) p = ap (λ (b : Bool). p (spelling_of x) || b) (any_mapped xs p)

-- a module is known where some row is of it
pub module_known : (name : Text) (rows : List Row) → map spelling_of rows ≡ known_options → is_module name rows ≡ is_known_module name
module_known [] rows all = refl
module_known (b ∷ bs) rows all =
    let some : nat_lt 0 (length (b ∷ bs)) ≡ true = grind (arith, nat_tests) in
    ap (λ (t : Bool). t && list_any (λ (row : Row). bytes_eq row.«module».now (b ∷ bs)) rows) some
    ∙ any_mapped rows (λ (row : Spelling). bytes_eq row.name (b ∷ bs)) ∙ ap (list_any (λ (row : Spelling). bytes_eq row.name (b ∷ bs))) all
