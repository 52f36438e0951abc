-- A generated dump has few bytes: each of its lines has fewer than 2,000.
use Rattle.std.proofs.Common.{rules, ◌≤◌, ◌<◌, ◌+◌, ◌*◌, ◌/◌, ◌%◌, ◌==◌, ◌++◌, ◌∷◌, [], ℕ, zero, suc, Bool, true, false, List, arith, codes, decimal, length, length-append, if◌then◌else◌}
use Rattle.std.proofs.lemmas.Fmt.{length-decimal-le_succ}
use Rattle.limits.specs.declared.TheConstants.{MOST_BYTES}
use Rattle.load_dump.specs.Generated.{head_text, load_text, rule_lines, rule_text}
use Rattle.fffuu_run.specs.Answers.{ipv4_of}
use Rattle.fffuu_run.specs.Loads.{IsLoadOver}
use Rattle.fffuu_run.proofs.Refusals.{loop_there}
use Rattle.fffuu_run.proofs.loading.load_summary.Goals as goal

-- a text that is one of two is no longer than the longer one
either_size : (b : Bool) (x y : List ℕ) (most : ℕ) → length x ≤ most → length y ≤ most → length (if b then x else y) ≤ most
either_size true x y most p q = p
either_size false x y most p q = q

rule_size : (i : ℕ) → i < 1000 → length (rule_text i) ≤ 1999
rule_size i few =
    let high : length (decimal (i / 256)) ≤ 256 = omega (arith, length-decimal-le_succ (i / 256) (omega arith)) in
    let low : length (decimal (i % 256)) ≤ 256 = omega (arith, length-decimal-le_succ (i % 256) (omega arith)) in
    let chain : length (decimal ((i / 5) % 8)) ≤ 8 = omega (arith, length-decimal-le_succ ((i / 5) % 8) (omega arith)) in
    let port : length (decimal (i + 1)) ≤ 1001 = omega (arith, length-decimal-le_succ (i + 1) (omega arith)) in
    either_size (i % 5 == 0) _ _ 1999 (simp length-append (omega arith))
    (either_size (i % 5 == 1) _ _ 1999 (simp length-append (omega arith))
    (either_size (i % 5 == 2) _ _ 1999 (simp length-append (omega arith))
    (either_size (i % 5 == 3) _ _ 1999 (simp length-append (omega arith)) (simp length-append (omega arith)))))

lines_size : (n : ℕ) → n ≤ 1000 → length (rule_lines n) ≤ 2000 * n
lines_size zero few = omega arith
lines_size (suc n) few =
    let before : length (rule_lines n) ≤ 2000 * n = lines_size n (omega arith) in
    let rule : length (rule_text n) ≤ 1999 = rule_size n (omega arith) in
    omega (arith, before, rule, length-append (rule_lines n) (rule_text n ++ 10 ∷ []), length-append (rule_text n) (10 ∷ []))

load_size : (n : ℕ) → n ≤ 1000 → length (load_text n) ≤ MOST_BYTES
unfolding load_text
load_size n few =
    let lines : length (rule_lines n) ≤ 2000 * n = lines_size n few in
    omega (arith, lines, length-append head_text (rule_lines n ++ codes "COMMIT\n"), length-append (rule_lines n) (codes "COMMIT\n"))

pub read_text-requires : goal.read_text-requires
read_text-requires c = (omega arith, (search rules, rw (c.deref.ensures.value, c.in_ok-text.ensures) (load_size c.args.n c.requires.most)))

pub told-requires : goal.told-requires
told-requires c = (
  omega arith,
  λ looped is. loop_there c.in_ok-dump.field-0.dump c.in_ok-dump.field-0.chain
      (IsLoadOver ipv4_of c.args.name.now c.in_ok-dump.field-0.dump c.in_ok-dump.field-0.chain) _ c.in-Err.ensures.refused looped is,
)
