use Rattle.std.proofs.Common.{arith}
use Rattle.dump_grammar.specs.GroupWords.{group_of, module_of}
use Rattle.dump_grammar.specs.Groups.{EndsGroups}
use Rattle.dump_grammar.specs.Lines.{words_of}
use Rattle.dump_grammar.proofs.DivisionLemmas.{completed, completes, refused, remains, shorter}
use Rattle.dump_grammar.proofs.division.groups.Goals as goal

pub returns-in_default-clause-none : goal.returns-in_default-clause-none
returns-in_default-clause-none c =
    let goes : EndsGroups (words_of c.loop-current.rest.now) → ⊥ = λ e. let f = c.is_end.ensures.1 e in grind (arith, f, c.loop-current-test.true) in
    refused _ (module_of c.loop-current.current) (words_of c.loop-current.rest.now) c.in_default.ensures.none goes c.loop-current.invariant.1

pub loop-current-smaller : goal.loop-current-smaller
loop-current-smaller c = shorter (module_of c.loop-current.current) c.loop-current.rest.now c.in-Some.after.now (group_of c.in-Some.next) c.in-Some.ensures.some

pub loop-current-preserved : goal.loop-current-preserved
loop-current-preserved c =
    let goes : EndsGroups (words_of c.loop-current.rest.now) → ⊥ = λ e. let f = c.is_end.ensures.1 e in grind (arith, f, c.loop-current-test.true) in (
      completes (words_of c.args.words.now) (module_of c.loop-current.current) (module_of c.module_after-current.result) (words_of c.loop-current.rest.now)
          (words_of c.in-Some.after.now) c.loop-current.found.items c.push.new.self.items c.in-Some.next c.module_after-current.ensures c.in_ok-push.ensures.items
          c.in-Some.ensures.some c.loop-current.invariant.0,
      remains (words_of c.args.words.now) (module_of c.loop-current.current) (module_of c.module_after-current.result) (words_of c.loop-current.rest.now)
          (words_of c.in-Some.after.now) (group_of c.in-Some.next) c.module_after-current.ensures c.in-Some.ensures.some goes c.loop-current.invariant.1,
    )

pub returns-clause-some : goal.returns-clause-some
returns-clause-some c =
    completed (words_of c.args.words.now) (module_of c.loop-current.current) (words_of c.loop-current.rest.now) c.loop-current.found.items c.loop-current.invariant.0
