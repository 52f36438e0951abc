-- `cut` and `cut_not`: the list of each, and the longest list that is returned on the way.
use Rattle.std.specs.Prelude.{ℕ, ◌≤◌, ◌<◌, ◌≡◌, List, [], ◌∷◌, ◌++◌, length, max, Result, Ok, Err}
use Rattle.limits.specs.declared.TheConstants.{MOST_CUBES}
use Rattle.match_expr.specs.declared.expr.Expr.{Expr}
use Rattle.match_expr.specs.declared.expr.Expr.TheOpen.{Expr-F}
use Rattle.match_expr.specs.declared.expr.Expr.TheFolds.{fold-Expr}
use Rattle.primitives.specs.declared.prim.Prim_.{Prim_}
use Rattle.box_norm.specs.declared.cube.Cube.{Cube}
use Rattle.box_norm.specs.declared.cube.CubeFault.{CubeFault}
use Rattle.box_norm.specs.Cubes.{each_piece}
use Rattle.box_norm.specs.Pieces.{cut_pieces, omit_pieces}

-- a list that is returned, and the length of the longest of all that are
pub record Work (W : ℕ) : Type 0 where
  pub list : List (Cube W)
  pub longest : ℕ

-- the two cuts by one expression
pub record Cuts (W : ℕ) : Type 0 where
  pub keep : List (Cube W) → Work W
  pub omit : List (Cube W) → Work W

abbrev pub keep_all : {W : ℕ} → List (Cuts W) → List (Cube W) → Work W
keep_all [] l = record { list = l; longest = length l }
keep_all (e ∷ es) l = record {
  list = (keep_all es (e.keep l).list).list;
  longest = max (e.keep l).longest (keep_all es (e.keep l).list).longest;
}

abbrev pub omit_all : {W : ℕ} → List (Cuts W) → List (Cube W) → Work W
omit_all [] l = record { list = []; longest = 0 }
omit_all (e ∷ es) l = record {
  list = (e.omit l).list ++ (omit_all es (e.keep l).list).list;
  longest = max (max (e.omit l).longest (e.keep l).longest)
      (max (omit_all es (e.keep l).list).longest (length ((e.omit l).list ++ (omit_all es (e.keep l).list).list)));
}

abbrev pub pieces_work : {W : ℕ} → (Cube W → List (Cube W)) → List (Cube W) → Work W
pieces_work f l = record { list = each_piece f l; longest = length (each_piece f l) }

-- one level, with the cuts by each part in its place
abbrev pub cuts_step : {W : ℕ} → Expr-F (Prim_ W) (Cuts W) → Cuts W
cuts_step (Expr-F.All parts) = record { keep = keep_all parts; omit = omit_all parts }
cuts_step (Expr-F.Not part) = record { keep = part.omit; omit = part.keep }
cuts_step (Expr-F.Prim x) = record { keep = pieces_work (cut_pieces x); omit = pieces_work (omit_pieces x) }

abbrev pub cuts_by : {W : ℕ} → Expr (Prim_ W) → Cuts W
cuts_by {W} = fold-Expr (Prim_ W) (Cuts W) (cuts_step {W = W})

-- what a cut answers for this work
abbrev pub Answers : {W : ℕ} → Work W → Result (List (Cube W)) CubeFault → Type 0
Answers work (Ok list) = (list ≡ work.list) × (work.longest ≤ MOST_CUBES)
Answers work (Err CubeFault.Boxes) = MOST_CUBES < work.longest
Answers work (Err CubeFault.Rules) = ⊥
Answers work (Err CubeFault.Memory) = Unit {0}
