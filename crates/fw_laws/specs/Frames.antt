-- Over which calls and gotos a walk came to where it stands.
use Rattle.std.specs.Prelude.{ℕ, ◌+◌, ◌≡◌, List, [], ◌∷◌, ◌++◌}
use Rattle.fw_rule.specs.declared.rule.Step.{Step}
use Rattle.fw_rule.specs.Walk.{Path, Frame}

-- the step at a rule
abbrev pub step_of : ℕ → ℕ → Step
step_of c n = record { chain = c; rule = n }

-- each frame goes on behind the call that led on from it; gotos may have led further since
abbrev pub Fits : Path → List Frame → Type 0
Fits path [] = Unit {0}
Fits path (f ∷ frames) =
    (n : ℕ) × (more : Path) × (f.next ≡ n + 1) × (path ≡ f.path ++ step_of f.chain n ∷ more) × Fits f.path frames
