-- The state of the loops over the parts of an expression.
use Rattle.std.proofs.Common.{◌≡◌, ℕ, suc, ◌+◌, ◌<◌, ◌≤◌, List, [], ◌∷◌, ◌++◌, refl, sym, ◌∙◌, ap, arith, length, map, drop, drop-cons, add-one, get_or, length-append, append_assoc, append-nil, ◌⊎◌, inl, inr}
use Rattle.std.specs.Prelude.{Err}
use Rattle.limits.specs.declared.TheConstants.{MOST_CUBES}
use Rattle.match_expr.specs.declared.expr.Expr.{Expr}
use Rattle.primitives.specs.declared.prim.Prim_.{Prim_}
use Rattle.box_norm.specs.declared.cube.Cube.{Cube}
use Rattle.box_norm.specs.declared.cube.CubeFault.{CubeFault}
use Rattle.box_norm.specs.Cubes.{each_piece}
use Rattle.box_norm.specs.Cuts.{Work, Cuts, keep_all, omit_all, Answers, cuts_by}

-- what is left to do ends as the whole does
pub record Goes {W : ℕ} (rest whole : Work W) : Type 0 where
  pub list : rest.list ≡ whole.list
  pub over : MOST_CUBES < rest.longest → MOST_CUBES < whole.longest
  pub within : rest.longest ≤ MOST_CUBES → whole.longest ≤ MOST_CUBES

pub goes_begin : {W : ℕ} (whole : Work W) → Goes whole whole
goes_begin whole = record { list = refl; over = λ h. h; within = λ h. h }

module _ {W : ℕ} (e : Cuts W) (es : List (Cuts W)) (l next : List (Cube W)) (whole : Work W) (g : Goes (keep_all (e ∷ es) l) whole) where
  pub goes_next : (next ≡ (e.keep l).list) × ((e.keep l).longest ≤ MOST_CUBES) → Goes (keep_all es next) whole
  goes_next a = rw a.0 (record {
    list = g.list;
    over = λ h. g.over (omega (arith, h));
    within = λ h. g.within (omega (arith, h, a.1));
  })

pub goes_boxes : {W : ℕ} (e : Cuts W) (es : List (Cuts W)) (l : List (Cube W)) (whole : Work W) → Goes (keep_all (e ∷ es) l) whole → MOST_CUBES < (e.keep l).longest → MOST_CUBES < whole.longest
goes_boxes e es l whole g h = g.over (omega (arith, h))

-- the same for `cut_not`, whose list grows
pub record Omits {W : ℕ} (out : List (Cube W)) (rest whole : Work W) : Type 0 where
  pub list : out ++ rest.list ≡ whole.list
  pub over : MOST_CUBES < rest.longest → MOST_CUBES < whole.longest
  pub total : MOST_CUBES < length whole.list → MOST_CUBES < whole.longest
  pub within : rest.longest ≤ MOST_CUBES → length whole.list ≤ MOST_CUBES → whole.longest ≤ MOST_CUBES
  pub small : length out ≤ MOST_CUBES

longest_covers : {W : ℕ} (es : List (Cuts W)) (l : List (Cube W)) → length (omit_all es l).list ≤ (omit_all es l).longest
longest_covers [] l = omega arith
longest_covers (e ∷ es) l = omega arith

pub omits_begin : {W : ℕ} (es : List (Cuts W)) (l : List (Cube W)) → Omits [] (omit_all es l) (omit_all es l)
omits_begin es l = record { list = refl; over = λ h. h; total = λ h. omega (arith, longest_covers es l, h); within = λ h k. h; small = omega arith }

pub omits_next : {W : ℕ} (e : Cuts W) (es : List (Cuts W)) (l next out more : List (Cube W)) (whole : Work W) → Omits out (omit_all (e ∷ es) l) whole →
    (more ≡ (e.omit l).list) × ((e.omit l).longest ≤ MOST_CUBES) → (next ≡ (e.keep l).list) × ((e.keep l).longest ≤ MOST_CUBES) → length (out ++ more) ≤ MOST_CUBES →
    Omits (out ++ more) (omit_all es next) whole
omits_next e es l next out more whole g a b small = rw b.0 (record {
  list = rw a.0 (append_assoc out (e.omit l).list (omit_all es (e.keep l).list).list ∙ g.list);
  over = λ h. g.over (omega (arith, h));
  total = g.total;
  within = λ h k. g.within (omega (arith, h, k, a.1, b.1, length-append out ((e.omit l).list ++ (omit_all es (e.keep l).list).list), ap length g.list)) k;
  small = small;
})

-- where the last list is within the limit
pub goes_end : {W : ℕ} (l : List (Cube W)) (whole : Work W) → Goes (keep_all [] l) whole → length l ≤ MOST_CUBES → (l ≡ whole.list) × (whole.longest ≤ MOST_CUBES)
goes_end l whole g h = (g.list, g.within h)

pub omits_end : {W : ℕ} (l out : List (Cube W)) (whole : Work W) → Omits out (omit_all [] l) whole → (out ≡ whole.list) × (whole.longest ≤ MOST_CUBES)
omits_end l out whole g =
    let e : out ≡ whole.list = sym (append-nil out) ∙ g.list in
    (e, g.within (omega arith) (omega (arith, g.small, ap length e)))

pub omits_over : {W : ℕ} (e : Cuts W) (es : List (Cuts W)) (l out more : List (Cube W)) (whole : Work W) → Omits out (omit_all (e ∷ es) l) whole →
    more ≡ (e.omit l).list → MOST_CUBES < length (out ++ more) → MOST_CUBES < whole.longest
omits_over e es l out more whole g a h =
    g.total (omega (arith, h, ap length a, length-append out more, length-append out ((e.omit l).list ++ (omit_all es (e.keep l).list).list), length-append (e.omit l).list (omit_all es (e.keep l).list).list, ap length g.list))

pub omits_boxes : {W : ℕ} (e : Cuts W) (es : List (Cuts W)) (l out : List (Cube W)) (whole : Work W) → Omits out (omit_all (e ∷ es) l) whole →
    (MOST_CUBES < (e.omit l).longest) ⊎ (MOST_CUBES < (e.keep l).longest) → MOST_CUBES < whole.longest
omits_boxes e es l out whole g h = g.over (elim h [ inl k ↦ omega (arith, k) | inr k ↦ omega (arith, k) ])

-- the turn at one part
module _ (W : ℕ) (parts : List (Expr (Prim_ W))) (i : ℕ) (x : Expr (Prim_ W)) (kept lent : List (Cube W)) (whole : Work W)
    (h : i < length parts) (is : x ≡ get_or parts i x) (same : lent ≡ kept) where
  opened : drop i parts ≡ x ∷ drop (i + 1) parts
  opened = rw add-one (drop-cons parts i x h ∙ ap (λ y. y ∷ drop (suc i) parts) (sym is))

  pub goes_turn : (next : List (Cube W)) → Goes (keep_all (map (cuts_by {W = W}) (drop i parts)) kept) whole →
      ((next ≡ ((cuts_by {W = W} x).keep lent).list) × (((cuts_by {W = W} x).keep lent).longest ≤ MOST_CUBES)) → Goes (keep_all (map (cuts_by {W = W}) (drop (i + 1) parts)) next) whole
  goes_turn next g a = goes_next (cuts_by {W = W} x) (map (cuts_by {W = W}) (drop (i + 1) parts)) kept next whole (rw opened at g) (rw same at a)

  pub goes_fault : (fault : CubeFault) → Goes (keep_all (map (cuts_by {W = W}) (drop i parts)) kept) whole → Answers ((cuts_by {W = W} x).keep lent) (Err fault) → Answers whole (Err fault)
  goes_fault CubeFault.Boxes g a = goes_boxes (cuts_by {W = W} x) (map (cuts_by {W = W}) (drop (i + 1) parts)) kept whole (rw opened at g) (rw same at a)
  goes_fault CubeFault.Rules g a = a
  goes_fault CubeFault.Memory g a = tt

  module _ (out : List (Cube W)) (g : Omits out (omit_all (map (cuts_by {W = W}) (drop i parts)) kept) whole) where
    at_part : Omits out (omit_all (cuts_by {W = W} x ∷ map (cuts_by {W = W}) (drop (i + 1) parts)) kept) whole
    at_part = rw opened at g

    pub omits_turn : (next more : List (Cube W)) → ((more ≡ ((cuts_by {W = W} x).omit lent).list) × (((cuts_by {W = W} x).omit lent).longest ≤ MOST_CUBES)) →
        ((next ≡ ((cuts_by {W = W} x).keep lent).list) × (((cuts_by {W = W} x).keep lent).longest ≤ MOST_CUBES)) → length (out ++ more) ≤ MOST_CUBES →
        Omits (out ++ more) (omit_all (map (cuts_by {W = W}) (drop (i + 1) parts)) next) whole
    omits_turn next more a b small = omits_next (cuts_by {W = W} x) (map (cuts_by {W = W}) (drop (i + 1) parts)) kept next out more whole at_part (rw same at a) (rw same at b) small

    pub omits_keep_fault : (fault : CubeFault) → Answers ((cuts_by {W = W} x).keep lent) (Err fault) → Answers whole (Err fault)
    omits_keep_fault CubeFault.Boxes a = omits_boxes (cuts_by {W = W} x) (map (cuts_by {W = W}) (drop (i + 1) parts)) kept out whole at_part (inr (rw same at a))
    omits_keep_fault CubeFault.Rules a = a
    omits_keep_fault CubeFault.Memory a = tt

    pub omits_fault : (fault : CubeFault) → Answers ((cuts_by {W = W} x).omit lent) (Err fault) → Answers whole (Err fault)
    omits_fault CubeFault.Boxes a = omits_boxes (cuts_by {W = W} x) (map (cuts_by {W = W}) (drop (i + 1) parts)) kept out whole at_part (inl (rw same at a))
    omits_fault CubeFault.Rules a = a
    omits_fault CubeFault.Memory a = tt

    pub omits_full : (more : List (Cube W)) → more ≡ ((cuts_by {W = W} x).omit lent).list → MOST_CUBES < length (out ++ more) → MOST_CUBES < whole.longest
    omits_full more a b = omits_over (cuts_by {W = W} x) (map (cuts_by {W = W}) (drop (i + 1) parts)) kept out more whole at_part (rw same at a) b

-- the turn at one cube
pub pieces_turn : {W : ℕ} (f : Cube W → List (Cube W)) (list : List (Cube W)) (i : ℕ) (x : Cube W) (out : List (Cube W)) → i < length list → x ≡ get_or list i x →
    out ++ each_piece f (drop i list) ≡ each_piece f list → (out ++ f x) ++ each_piece f (drop (i + 1) list) ≡ each_piece f list
pieces_turn f list i x out h is g =
    let opened : drop i list ≡ x ∷ drop (i + 1) list = rw add-one (drop-cons list i x h ∙ ap (λ y. y ∷ drop (suc i) list) (sym is)) in
    append_assoc out (f x) (each_piece f (drop (i + 1) list)) ∙ ap (λ z. out ++ each_piece f z) (sym opened) ∙ g
