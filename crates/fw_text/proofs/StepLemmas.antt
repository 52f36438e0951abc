-- The text of steps, one after the other.
use Rattle.std.proofs.Common.{◌≡◌, ◌∙◌, ◌++◌, ◌+◌, ◌<◌, refl, sym, ap, ℕ, List, [], ◌∷◌, append_assoc, arith, codes, take, length, length-take, get_or}
use Rattle.std.proofs.lemmas.List.{take_more}
use Rattle.fw_rule.specs.declared.rule.Dump.{Dump}
use Rattle.fw_rule.specs.declared.rule.Step.{Step}
use Rattle.fw_text.specs.Places.{step_text, steps_text}

module _ {P : Type 0} (dump : Dump P) where
  -- a step behind others
  pub step_behind : (s : Step) (steps : List Step) (t : Step) → steps_text dump ((s ∷ steps) ++ t ∷ []) ≡ steps_text dump (s ∷ steps) ++ codes " > " ++ step_text dump t
  step_behind s [] t = refl
  step_behind s (r ∷ steps) t =
      let front = step_text dump s ++ codes " > " in
      ap (λ (more : List ℕ). front ++ more) (step_behind r steps t)
      ∙ sym (append_assoc front (steps_text dump (r ∷ steps) ++ codes " > ") (step_text dump t))
      ∙ ap (λ (more : List ℕ). more ++ step_text dump t) (sym (append_assoc front (steps_text dump (r ∷ steps)) (codes " > ")))

  -- one step more, where there are some already
  pub steps_more : (steps : List Step) (i : ℕ) (d : Step) (before text here : List ℕ) → 0 < i → i < length steps → before ≡ steps_text dump (take i steps)
      → here ≡ step_text dump (get_or steps i d) → text ≡ before ++ codes " > " ++ here → text ≡ steps_text dump (take (i + 1) steps)
  steps_more steps i d before text here some inside is one whole = whole ∙ ap (λ (xs : List ℕ). xs ++ codes " > " ++ here) is
      ∙ ap (λ (xs : List ℕ). steps_text dump (take i steps) ++ codes " > " ++ xs) one ∙ by_cases (take i steps) refl
    where
      by_cases : (xs : List Step) → take i steps ≡ xs → steps_text dump xs ++ codes " > " ++ step_text dump (get_or steps i d) ≡ steps_text dump (take (i + 1) steps)
      by_cases [] e = absurd (omega (arith, ap length e, length-take i steps, some, inside))
      by_cases (x ∷ xs) e = sym (
          ap (steps_text dump) (take_more steps i d inside ∙ ap (λ (ys : List Step). ys ++ get_or steps i d ∷ []) e)
          ∙ step_behind x xs (get_or steps i d))

  -- the first step
  pub steps_first : (steps : List Step) (i : ℕ) (d : Step) (before text here : List ℕ) → i ≡ 0 → i < length steps → before ≡ steps_text dump (take i steps)
      → here ≡ step_text dump (get_or steps i d) → text ≡ before ++ here → text ≡ steps_text dump (take (i + 1) steps)
  steps_first steps i d before text here first inside is one whole =
      let none : before ≡ [] = is ∙ ap (λ (k : ℕ). steps_text dump (take k steps)) first in
      whole ∙ ap (λ (xs : List ℕ). xs ++ here) none ∙ one
      ∙ sym (ap (steps_text dump) (take_more steps i d inside ∙ ap (λ (k : ℕ). take k steps ++ get_or steps i d ∷ []) first))
