-- Texts that are read one after the other.
use Rattle.std.proofs.Common.{◌≡◌, ◌∙◌, ◌++◌, ◌+◌, ◌<◌, ℕ, List, [], ◌∷◌, Bor, map, drop, get_or, length, add-one, refl, sym, ap, subst, append_assoc, append-nil}
use Rattle.std.specs.List.{AllByRecursion, AllZip}
use Rattle.std.specs.Prelude.{Err, Ok, Result}
use Rattle.std.specs.Result.{IsErrAnd, IsErrOf}
use Rattle.std.proofs.Math.Seq.{drop-cons}

-- what was read so far: what completes the rest completes all, and where all have values, so have the rest
pub record SoFar (A : Type 0) (Is : List ℕ → A → Type 0) (all rest : List (List ℕ)) (found : List A) : Type 0 where
  pub read : (more : List A) → AllZip Is rest more → AllZip Is all (found ++ more)
  pub left : (xs : List A) → AllZip Is all xs → (more : List A) × AllZip Is rest more

module _ {A : Type 0} (Is : List ℕ → A → Type 0) where
  pub begun : (all : List (List ℕ)) → SoFar A Is all all []
  begun all = record { read = λ more are. are; left = λ xs are. (xs, are) }

  first_of : (text : List ℕ) (texts : List (List ℕ)) (xs : List A) → AllZip Is (text ∷ texts) xs → (x : A) × (more : List A) × (Is text x × AllZip Is texts more)
  first_of text texts [] are = absurd are
  first_of text texts (x ∷ xs) are = (x, xs, (are.0, are.1))

  -- one text more
  pub passed : (all rest texts : List (List ℕ)) (text : List ℕ) (found pushed : List A) (x : A) → SoFar A Is all rest found → rest ≡ text ∷ texts
      → Is text x → pushed ≡ found ++ x ∷ [] → SoFar A Is all texts pushed
  passed all rest texts text found pushed x so_far split is push = record {
    read = λ more are.
        subst (λ (xs : List A). AllZip Is all xs) (sym (ap (λ (xs : List A). xs ++ more) push ∙ append_assoc found (x ∷ []) more))
        (so_far.read (x ∷ more) (subst (λ (ts : List (List ℕ)). AllZip Is ts (x ∷ more)) (sym split) (is, are)));
    left = λ xs are.
        let more = so_far.left xs are in
        let first = first_of text texts more.0 (subst (λ (ts : List (List ℕ)). AllZip Is ts more.0) split more.1) in
        (first.1, first.2.1);
  }

  -- a text without a value
  pub refused : (all rest texts : List (List ℕ)) (text : List ℕ) (found : List A) → SoFar A Is all rest found → rest ≡ text ∷ texts
      → ((x : A) → Is text x → ⊥) → (xs : List A) → AllZip Is all xs → ⊥
  refused all rest texts text found so_far split none xs are =
      let more = so_far.left xs are in
      let first = first_of text texts more.0 (subst (λ (ts : List (List ℕ)). AllZip Is ts more.0) split more.1) in
      none first.0 first.2.0

  -- none is left
  pub whole : (all rest : List (List ℕ)) (found : List A) → SoFar A Is all rest found → rest ≡ [] → AllZip Is all found
  whole all rest found so_far none =
      subst (λ (xs : List A). AllZip Is all xs) (append-nil found) (so_far.read [] (subst (λ (ts : List (List ℕ)). AllZip Is ts []) (sym none) tt))

  -- where each text has one value, the texts have one list of them
  pub zip_once : ((text : List ℕ) (x y : A) → Is text x → Is text y → x ≡ y) → (texts : List (List ℕ)) (xs ys : List A)
      → AllZip Is texts xs → AllZip Is texts ys → xs ≡ ys
  zip_once once [] [] [] p q = refl
  zip_once once [] [] (y ∷ ys) p q = absurd q
  zip_once once [] (x ∷ xs) ys p q = absurd p
  zip_once once (text ∷ texts) [] ys p q = absurd p
  zip_once once (text ∷ texts) (x ∷ xs) [] p q = absurd q
  zip_once once (text ∷ texts) (x ∷ xs) (y ∷ ys) p q =
      let first = once text x y p.0 q.0 in
      let others = zip_once once texts xs ys p.1 q.1 in
      cc

  -- what holds of each text's value, holds of all values
  pub zip_each : (P : A → Type 0) → ((text : List ℕ) (x : A) → Is text x → P x) → (texts : List (List ℕ)) (xs : List A) → AllZip Is texts xs → AllByRecursion P xs
  zip_each P each texts [] p = tt
  zip_each P each [] (x ∷ xs) p = absurd p
  zip_each P each (text ∷ texts) (x ∷ xs) p = (each text x p.0, zip_each P each texts xs p.1)

-- the texts from a place on
pub texts_from : (arguments : List (Bor (List ℕ))) (i : ℕ) (d : Bor (List ℕ)) (text : List ℕ) → i < length arguments → text ≡ (get_or arguments i d).now
    → map (λ s. s.now) (drop i arguments) ≡ text ∷ map (λ s. s.now) (drop (i + 1) arguments)
texts_from arguments i d text inside here =
    let e : drop i arguments ≡ get_or arguments i d ∷ drop (i + 1) arguments = rw add-one (drop-cons arguments i d inside) in
    ap (map (λ (s : Bor (List ℕ)). s.now)) e ∙ ap (λ (t : List ℕ). t ∷ map (λ (s : Bor (List ℕ)). s.now) (drop (i + 1) arguments)) (sym here)

-- the error that a call hands on
pub handed_on : {T U E : Type 0} (r : Result T E) (e f : E) → IsErrAnd r (λ x. x ≡ e) → IsErrOf r f → IsErrOf {T = U} (Err e) f
handed_on (Ok x) e f is told = absurd is
handed_on (Err x) e f is told = cc
