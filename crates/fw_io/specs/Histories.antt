-- What went by in the calls so far, after one more.
use Rattle.std.specs.Prelude.{ℕ, List, ◌++◌, take, length, Bool, cond, ◌==◌, Result, Ok, Err}

-- the bytes after a call: a call that succeeds adds those of its front that it moved, and one that fails adds none
abbrev pub moved_after : {E : Type 0} → List ℕ → Result ℕ E → List ℕ → List ℕ
moved_after before (Ok n) piece = before ++ take n piece
moved_after before (Err e) piece = before

-- whether the last read that asked for bytes and didn't fail gave none
abbrev pub ended_after : {E : Type 0} → Bool → Result ℕ E → List ℕ → Bool
ended_after before (Ok n) buffer = cond (length buffer == 0) before (n == 0)
ended_after before (Err e) buffer = before
