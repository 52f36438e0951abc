-- A walk goes on to later places alone.
use Rattle.std.specs.Prelude.{ℕ, ◌+◌, ◌<◌, ◌≡◌, ◌⊎◌, List, [], ◌∷◌, ◌++◌, refl}
use Rattle.std.proofs.Common.{subst, sym, ap, ◌∙◌, inl, inr, arith, append_assoc}
use Rattle.fw_rule.specs.declared.rule.Dump.{Dump}
use Rattle.fw_rule.specs.declared.rule.Step.{Step}
use Rattle.fw_rule.specs.Walk.{Path, State, At, Ended, Frame}
use Rattle.fw_laws.specs.Frames.{step_of, Fits}
use Rattle.fw_laws.proofs.Moves.{Move, On, Home, Done, Into, Away}

-- the paths part at a greater number of a rule, or the second goes on where the first ends
abbrev pub Before : Path → Path → Type 0
Before xs [] = ⊥
Before [] (y ∷ ys) = Unit {0}
Before (x ∷ xs) (y ∷ ys) = (x.rule < y.rule) ⊎ ((x.rule ≡ y.rule) × Before xs ys)

pub never_itself : (xs : Path) → Before xs xs → ⊥
never_itself [] h = h
never_itself (x ∷ xs) (inl h) = omega arith
never_itself (x ∷ xs) (inr h) = never_itself xs h.1

pub over : (xs ys zs : Path) → Before xs ys → Before ys zs → Before xs zs
over xs [] zs h g = absurd h
over xs (y ∷ ys) [] h g = absurd g
over [] (y ∷ ys) (z ∷ zs) h g = tt
over (x ∷ xs) (y ∷ ys) (z ∷ zs) (inl h) (inl g) = inl (omega arith)
over (x ∷ xs) (y ∷ ys) (z ∷ zs) (inl h) (inr g) = inl (omega (arith, g.0))
over (x ∷ xs) (y ∷ ys) (z ∷ zs) (inr h) (inl g) = inl (omega (arith, h.0))
over (x ∷ xs) (y ∷ ys) (z ∷ zs) (inr h) (inr g) = inr (h.0 ∙ g.0, over xs ys zs h.1 g.1)

deeper : (xs : Path) (y : Step) → Before xs (xs ++ y ∷ [])
deeper [] y = tt
deeper (x ∷ xs) y = inr (refl, deeper xs y)

parts : (xs : Path) (a b : Step) (rest : Path) → a.rule < b.rule → Before (xs ++ a ∷ rest) (xs ++ b ∷ [])
parts [] a b rest h = inl h
parts (x ∷ xs) a b rest h = inr (refl, parts xs a b rest h)

abbrev pub FitsAt : State → Type 0
FitsAt (At c next path frames) = Fits path frames
FitsAt (Ended v) = Unit {0}

-- the state stands behind the path, or has ended
abbrev pub Behind : Path → State → Type 0
Behind q (At c next path frames) = Before q (path ++ step_of c next ∷ [])
Behind q (Ended v) = Unit {0}

-- what is behind a place of a walk is behind what the place is behind
pub behind_both : (q r : Path) (t : State) → Before q r → Behind r t → Behind q t
behind_both q r (At c next path frames) h g = over q r (path ++ step_of c next ∷ []) h g
behind_both q r (Ended v) h g = tt

-- what stays so when a walk moves on
abbrev pub Moved : Path → State → Type 0
Moved q t = FitsAt t × Behind q t

module _ {P : Type 0} (dump : Dump P) (c next : ℕ) (path : Path) where
  abbrev here : Path
  here = path ++ step_of c next ∷ []

  -- the path of a goto goes on behind the call of the last frame
  longer : (g : Frame) (n : ℕ) (more : Path) → path ≡ g.path ++ step_of g.chain n ∷ more → here ≡ g.path ++ step_of g.chain n ∷ (more ++ step_of c next ∷ [])
  longer g n more e = ap (λ (z : Path). z ++ step_of c next ∷ []) e ∙ append_assoc g.path (step_of g.chain n ∷ more) (step_of c next ∷ [])

  -- the frames fit the path of a goto too
  pub still_fits : (frames : List Frame) → Fits path frames → Fits here frames
  still_fits [] h = tt
  still_fits (g ∷ frames) h = (h.0, h.1 ++ step_of c next ∷ [], h.2, longer g h.0 h.1 h.3, h.4)

  by_home : (frames : List Frame) (f : Frame) (rest : List Frame) → frames ≡ f ∷ rest → Fits path frames → Moved here (At f.chain f.next f.path rest)
  by_home [] f rest e h = cc
  by_home (g ∷ frames) f rest e h =
      let same : g ≡ f = cc in
      let others : frames ≡ rest = cc in
      let regroup = longer g h.0 h.1 h.3 in (
        subst (λ (z : Frame). Fits z.path rest) same (subst (λ (z : List Frame). Fits g.path z) others h.4),
        subst (λ (z : Frame). Before here (z.path ++ step_of z.chain z.next ∷ [])) same
            (subst (λ (z : Path). Before z (g.path ++ step_of g.chain g.next ∷ [])) (sym regroup)
            (parts g.path (step_of g.chain h.0) (step_of g.chain g.next) (h.1 ++ step_of c next ∷ []) (omega (arith, h.2)))),
      )

  -- a walk that moves on comes to a rule behind
  pub moved : (frames : List Frame) (t : State) → Fits path frames → Move dump c next path frames t → Moved here t
  moved frames t h (On e) = subst (Moved here) (sym e) (h, parts path (step_of c next) (step_of c (next + 1)) [] (omega arith))
  moved frames t h (Home f rest q e) = subst (Moved here) (sym e) (by_home frames f rest q h)
  moved frames t h (Done v e) = subst (Moved here) (sym e) (tt, tt)
  moved frames t h (Into k q e) = subst (Moved here) (sym e) ((next, [], refl, refl, h), deeper here (step_of k 0))
  moved frames t h (Away k q e) = subst (Moved here) (sym e) (still_fits frames h, deeper here (step_of k 0))
