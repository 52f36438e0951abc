-- What the dump of a printed text means.
use Rattle.std.specs.Prelude.{ℕ, ◌≡◌, true, false, Bool, List, Option, Some, None, slice_get}
use Rattle.primitives.specs.declared.prim.Packet.{Packet}
use Rattle.primitives.specs.Holds.{holds_of, IsValid}
use Rattle.fw_rule.specs.declared.rule.Verdict.{Verdict}
use Rattle.fw_rule.specs.declared.rule.Chain.{Chain}
use Rattle.fw_rule.specs.declared.rule.Dump.{Dump}
use Rattle.fw_rule.specs.Answers.{NothingUnknown}
use Rattle.fw_rule.specs.Walk.{Meaning, Settled, Walks}
use Rattle.box_norm.specs.declared.cube.SimpleRule.{SimpleRule}
use Rattle.box_norm.specs.Normal.{first_of}
use Rattle.box_norm.specs.Regular.{EachCube, HasStates, IsRegular}
use Rattle.fw_laws.specs.Known.{KnownAlone}
use Rattle.dump_grammar.specs.Lines.{Text}
use Rattle.box_norm.specs.Sets.{HasSets}
use Rattle.printed_filter.specs.PrintedDump.{printed_dump}

-- the verdict of the first rule that holds, or else of the policy
abbrev pub verdict_of : Option Bool → Verdict → Verdict
verdict_of (Some true) policy = Verdict.Accept
verdict_of (Some false) policy = Verdict.Drop
verdict_of None policy = policy

-- rules that can be printed: their sets are sets, and each cube is regular and speaks of the five states alone
pub record ArePrintable {W : ℕ} (rules : List (SimpleRule W)) : Type 0 where
  pub sets : EachCube HasSets rules
  pub regular : EachCube IsRegular rules
  pub states : EachCube HasStates rules

-- the first chain of the dump has this name and this policy
abbrev pub StartsWith : {P : Type 0} → Dump P → Text → Verdict → Type 0
StartsWith {P} dump name policy =
    (first : Chain P) × (slice_get dump.chains 0 ≡ Some first) × (first.name ≡ name) × (first.policy ≡ Some policy)

-- the first chain of the dump of the printed rules is the asked one, the dump is settled from there, it says nothing unknown,
-- and the walk of each valid packet has the verdict of the rules
pub record MeansItsRules {W : ℕ} (chain : Text) (policy : Verdict) (rules : List (SimpleRule W)) : Type 0 where
  pub asked : StartsWith (printed_dump chain policy rules) chain policy
  pub settled : Settled (printed_dump chain policy rules) 0
  pub nothing_unknown : NothingUnknown (printed_dump chain policy rules)
  pub known : KnownAlone (printed_dump chain policy rules) 0
  pub walks : (p : Packet) → IsValid W p → (m : Meaning) → Walks holds_of (printed_dump chain policy rules) p m 0 (verdict_of (first_of rules p) policy)
