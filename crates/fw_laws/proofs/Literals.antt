-- Rules whose literals hold alike match alike.
use Rattle.std.specs.Prelude.{ℕ, suc, ◌+◌, ◌≡◌, Bool, ◌&&◌, List, [], ◌∷◌, Some, map, slice_get, refl}
use Rattle.std.proofs.Common.{subst, sym, ap, ap₂, ◌∙◌, arith, add-zero, zero-add}
use Rattle.fw_rule.specs.declared.rule.Lit.{Lit}
use Rattle.fw_rule.specs.declared.rule.Rule.{Rule}
use Rattle.fw_rule.specs.Walk.{Path, Meaning, literal_holds, literals_hold, matches}

module _ {P Packet : Type 0} (holds : P → Packet → Bool) (p p' : Packet) (m w : Meaning) (path : Path) (f : Lit P → Lit P) where
  -- the literal and its image hold alike, as the literal of this number
  abbrev pub HoldAlike : ℕ → Lit P → Type 0
  HoldAlike n lit = literal_holds holds p m (record { steps = path; lit = n }) lit ≡ literal_holds holds p' w (record { steps = path; lit = n }) (f lit)

  from_number : (l : ℕ) (lits : List (Lit P)) → ((i : ℕ) (lit : Lit P) → slice_get lits i ≡ Some lit → HoldAlike (l + i) lit) →
      literals_hold holds p m path l lits ≡ literals_hold holds p' w path l (map f lits)
  from_number l [] h = refl
  from_number l (lit ∷ lits) h =
      let here : HoldAlike l lit = subst (λ (n : ℕ). HoldAlike n lit) (add-zero l) (h 0 lit refl) in
      let rest = from_number (l + 1) lits (λ i x e. let shift : l + suc i ≡ l + 1 + i = omega arith in subst (λ (n : ℕ). HoldAlike n x) shift (h (suc i) x e)) in
      ap₂ (λ (a b : Bool). a && b) here rest

  pub match_alike : (a b : Rule P) → b.lits ≡ map f a.lits → ((i : ℕ) (lit : Lit P) → slice_get a.lits i ≡ Some lit → HoldAlike i lit) →
      matches holds p m path a ≡ matches holds p' w path b
  match_alike a b e h = from_number 0 a.lits (λ i lit q. subst (λ (n : ℕ). HoldAlike n lit) (sym (zero-add i)) (h i lit q))
      ∙ ap (literals_hold holds p' w path 0) (sym e)
