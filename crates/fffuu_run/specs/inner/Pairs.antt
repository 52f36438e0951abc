-- What the contracts of a comparison's parts say of two dumps that were read.
use Rattle.std.specs.Prelude.{ℕ, ◌≡◌, ◌<◌, ◌+◌, ◌^◌, ◌⊎◌, List}
use Rattle.primitives.specs.Holds.{IsValid}
use Rattle.primitives.specs.declared.prim.Prim_.{Prim_}
use Rattle.fw_rule.specs.declared.rule.Dump.{Dump}
use Rattle.fw_rule.specs.declared.rule.Rule.{Rule}
use Rattle.fw_rule.specs.declared.side.Side.{Side}
use Rattle.fw_rule.specs.Calls.{RuleOf}
use Rattle.region_queries.specs.declared.answers.Cover.{Cover}
use Rattle.region_queries.specs.Refusals.{OfBoth}
use Rattle.region_queries.specs.Search.{IsTooLarge}
use Rattle.simple_filter.specs.declared.refusal.Kind.{Kind}
use Rattle.simple_filter.specs.declared.refusal.Refusal.{Refusal}
use Rattle.fffuu_run.specs.Covers.{IsCoverText, moved}
use Rattle.fffuu_run.specs.Filters.{IsClosingOver}
use Rattle.fffuu_run.specs.Questions.{Comes, IsToldAs, IsWithin}
use Rattle.fffuu_run.specs.declared.status.Status.{Status}
use Rattle.fffuu_run.specs.declared.status.Status.TheVariants as status

-- a packet that is shown is one of addresses of w bits
abbrev pub HasValidPacket : ℕ → Cover → Type 0
HasValidPacket w Cover.Holds = Unit {0}
HasValidPacket w (Cover.Fails p) = IsValid w p

-- a line that the status names, counted from so many lines before, is a number of 32 bits
abbrev pub HasLineAfter : ℕ → Status → Type 0
HasLineAfter before (status.Malformed n) = before + n < 2 ^ 32
HasLineAfter before (status.UndefinedChain n) = before + n < 2 ^ 32
HasLineAfter before (status.Unsupported n name) = before + n < 2 ^ 32
HasLineAfter before s = Unit {0}

-- so are the lines of the rules
abbrev pub HasLinesAfter : {P : Type 0} → ℕ → Dump P → Type 0
HasLinesAfter {P} before dump = (c : ℕ) (rule : Rule P) → RuleOf dump c rule → before + rule.line < 2 ^ 32

module _ {W : ℕ} (side : Side) (dump : Dump (Prim_ W)) (chain : ℕ) where
  -- the chain is closed within the limits
  abbrev pub IsIn : Type 0
  IsIn = IsWithin dump chain (IsClosingOver dump chain side)

  -- the status tells why it isn't
  abbrev pub IsOut : Status → Type 0
  IsOut s = (refusal : Refusal) × Comes dump chain (IsClosingOver dump chain side) refusal × IsToldAs dump refusal s

module _ {W : ℕ} (text_of : ℕ → List ℕ) (first : Dump (Prim_ W)) (first_chain : ℕ) (second : Dump (Prim_ W)) (second_chain : ℕ) where
  -- this is the line for two dumps
  pub record IsLine (written : List ℕ) : Type 0 where
    pub first_in : IsIn Side.Upper first first_chain
    pub second_in : IsIn Side.Lower second second_chain
    pub text : IsCoverText text_of first first_chain second second_chain written

module _ {W : ℕ} (first : Dump (Prim_ W)) (first_chain : ℕ) (second : Dump (Prim_ W)) (second_chain : ℕ) where
  -- why there is none. So many lines stand before those of the second
  abbrev pub HasNoLine : ℕ → Status → Type 0
  HasNoLine before s = (s ≡ status.Memory) ⊎ (IsOut Side.Upper first first_chain s ⊎ (IsIn Side.Upper first first_chain
      × (((own : Status) × IsOut Side.Lower second second_chain own × (s ≡ moved before own))
      ⊎ (IsIn Side.Lower second second_chain × ((s ≡ status.Limit Kind.Regions)
      × OfBoth first first_chain second second_chain IsTooLarge)))))
