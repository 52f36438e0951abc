-- A printed dump means its rules.
use Rattle.std.proofs.Common.{◌≡◌, ℕ, suc, ◌+◌, List, ◌∷◌, length, refl, ap, arith}
use Rattle.std.specs.Prelude.{slice_get}
use Rattle.interval_set.specs.declared.set.Range.{Range}
use Rattle.interval_set.specs.Numbers.{IsSet}
use Rattle.fw_rule.specs.declared.rule.Verdict.{Verdict}
use Rattle.box_norm.specs.declared.cube.SimpleRule.{SimpleRule}
use Rattle.dump_grammar.specs.Lines.{Text}
use Rattle.dump_print.specs.FlagCover.{CoverFlags}
use Rattle.dump_print.specs.PortCover.{CoverPorts}
use Rattle.printed_filter.specs.Laws.{ArePrintable, MeansItsRules}
use Rattle.printed_filter.specs.PrintedDump.{printed_dump}
use Rattle.printed_filter.proofs.CallShape.{asked, asked_chain, chains_after, dump_settled, helpers, nothing_unknown}
use Rattle.printed_filter.proofs.RuleWalk.{answers}
use Rattle.printed_filter.proofs.WalkOver.{RestAt, rest_whole}

after_first : {X : Type 0} (x : X) (xs : List X) → RestAt (x ∷ xs) 1 xs
after_first x xs i = let e : 1 + i ≡ suc i = omega arith in ap (slice_get (x ∷ xs)) e

pub means : {W : ℕ} (chain : Text) (policy : Verdict) (rules : List (SimpleRule W)) → ArePrintable rules → ((bits : ℕ) → CoverFlags bits) →
    ((rs : List Range) → IsSet 16 rs → CoverPorts rs) → MeansItsRules chain policy rules
means {W} chain policy rules printable flags ports = record {
  asked = (asked_chain chain policy rules, refl, refl, refl);
  settled = dump_settled chain policy rules;
  nothing_unknown = nothing_unknown chain policy rules;
  known = λ c rule reached of. nothing_unknown chain policy rules c rule of;
  walks = λ p valid m. answers (printed_dump chain policy rules) p m policy valid ports flags (asked_chain chain policy rules) refl
      rules printable.sets printable.regular 1 0 (3 + length (helpers chain policy rules)) (3 + length (helpers chain policy rules) + length (asked chain policy rules))
      (after_first (asked_chain chain policy rules) (chains_after chain policy rules)) (rest_whole (asked_chain chain policy rules).rules);
}
