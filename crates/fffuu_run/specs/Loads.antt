-- How large the filters of a generated dump are.
use Rattle.std.specs.Prelude.{ℕ, ◌≡◌, List, [], ◌∷◌, ◌++◌, codes, decimal, length}
use Rattle.primitives.specs.declared.prim.Prim_.{Prim_}
use Rattle.addr_text.specs.Grammar.{IsIpv4}
use Rattle.fw_rule.specs.declared.rule.Dump.{Dump}
use Rattle.fw_rule.specs.declared.side.Side.{Side}
use Rattle.dump_print.specs.Printed.{count_lines}
use Rattle.load_dump.specs.Generated.{load_text}
use Rattle.simple_filter.specs.declared.refusal.Kind.{Kind}
use Rattle.fffuu_run.specs.Filters.{IsFilterOver, simple_rules}
use Rattle.fffuu_run.specs.Questions.{Answers, RefusesQuestion}
use Rattle.fffuu_run.specs.declared.status.Status.{Status}

-- the word of a side
abbrev pub side_word : Side → List ℕ
side_word Side.Upper = codes "upper"
side_word Side.Lower = codes "lower"

-- the line of a side: how many simple rules it has, and how many printed lines
abbrev pub side_line : Side → ℕ → ℕ → List ℕ
side_line side rules lines = side_word side ++ (codes " rules " ++ (decimal rules ++ (codes " lines " ++ (decimal lines ++ 10 ∷ []))))

-- the number of rules that was asked for, and the line of each side
abbrev pub summary_lines : ℕ → List ℕ → List ℕ → List ℕ
summary_lines n upper lower = (codes "load " ++ (decimal n ++ 10 ∷ [])) ++ (upper ++ lower)

module _ {W : ℕ} (text_of : ℕ → List ℕ) (name : List ℕ) (dump : Dump (Prim_ W)) (chain : ℕ) where
  -- the line of a side of the chain
  abbrev pub size_line : Side → List ℕ
  size_line side =
      side_line side (length (simple_rules dump chain side)) (count_lines text_of W name (simple_rules dump chain side))

  -- the number of rules that was asked for, and a line for each side
  abbrev pub load_summary : ℕ → List ℕ
  load_summary n = summary_lines n (size_line Side.Upper) (size_line Side.Lower)

  -- on one of the sides a number is past its limit
  abbrev pub IsLoadOver : Kind → Type 0
  IsLoadOver kind = (side : Side) × IsFilterOver text_of side name dump chain kind

-- `text_of` is the one text that is written for an address
module _ (text_of : ℕ → List ℕ) (name : List ℕ) (n : ℕ) where
  -- this is the summary of the filters of the chain of this name in the generated dump
  abbrev pub Loads : List ℕ → Type 0
  Loads written = Answers 32 IsIpv4 name (load_text n) (λ dump chain. IsLoadOver text_of name dump chain)
      (λ dump chain. written ≡ load_summary text_of name dump chain n)

  -- why there is none
  abbrev pub RefusesLoad : Status → Type 0
  RefusesLoad s = RefusesQuestion 32 IsIpv4 name (load_text n) (λ dump chain. IsLoadOver text_of name dump chain) s
