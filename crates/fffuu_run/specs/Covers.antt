-- The comparison of two dumps in a text, with a line that is `%%` between them.
use Rattle.std.specs.Prelude.{ℕ, suc, ◌+◌, ◌≡◌, ◌≢◌, ◌⊎◌, List, [], ◌∷◌, ◌++◌, codes, length}
use Rattle.std.specs.List.{AllByRecursion}
use Rattle.primitives.specs.declared.prim.Prim_.{Prim_}
use Rattle.fw_rule.specs.declared.rule.Dump.{Dump}
use Rattle.fw_rule.specs.declared.side.Side.{Side}
use Rattle.fw_text.specs.Packets.{packet_text}
use Rattle.dump_grammar.specs.Lines.{Text}
use Rattle.dump_read.specs.Pieces.{BeginsWithLines}
use Rattle.region_queries.specs.declared.answers.Cover.{Cover}
use Rattle.region_queries.specs.Covers.{IsRight}
use Rattle.region_queries.specs.Refusals.{IsShown, OfBoth}
use Rattle.region_queries.specs.Search.{IsTooLarge}
use Rattle.simple_filter.specs.declared.refusal.Kind.{Kind}
use Rattle.fffuu_run.specs.Filters.{IsClosingOver}
use Rattle.fffuu_run.specs.Questions.{Answers, RefusesQuestion}
use Rattle.fffuu_run.specs.declared.status.Status.{Status}
use Rattle.fffuu_run.specs.declared.status.Status.TheVariants as status

-- the line that stands between two dumps
abbrev pub divider : Text
divider = codes "%%"

-- The text begins with these lines, none of which is the divider, and the next line is. What stands before that line is the
-- first part, and what follows it the second.
pub record IsDivided (text : Text) (lines : List Text) (first second : Text) : Type 0 where
  pub ending : Text
  pub before : BeginsWithLines lines text (divider ++ ending)
  pub undivided : AllByRecursion (λ line. line ≢ divider) lines
  pub first_is : text ≡ first ++ (divider ++ ending)
  pub second_is : (ending ≡ 10 ∷ second) ⊎ ((ending ≡ []) × (second ≡ []))

-- the status, with the line that it names counted from so many lines before
abbrev pub moved : ℕ → Status → Status
moved by (status.Malformed n) = status.Malformed (by + n)
moved by (status.UndefinedChain n) = status.UndefinedChain (by + n)
moved by (status.Unsupported n name) = status.Unsupported (by + n) name
moved by s = s

-- that the first dump is covered by the second, or that it isn't, and a packet that shows it
abbrev pub cover_text : (ℕ → List ℕ) → Cover → List ℕ
cover_text text_of Cover.Holds = codes "covered" ++ 10 ∷ []
cover_text text_of (Cover.Fails p) = codes "not covered" ++ (packet_text text_of p ++ 10 ∷ [])

-- the answer is right, it is that of the stated search, and this is its line
pub record IsCoverText {W : ℕ} (text_of : ℕ → List ℕ) (first : Dump (Prim_ W)) (first_chain : ℕ) (second : Dump (Prim_ W))
    (second_chain : ℕ) (written : List ℕ) : Type 0 where
  pub answer : Cover
  pub right : IsRight first first_chain second second_chain answer
  pub shown : IsShown first first_chain second second_chain answer
  pub written_is : written ≡ cover_text text_of answer

-- `Reads` says which text is one of which address of `W` bits, and `text_of` is the one text that is written for an address
module _ (W : ℕ) (Reads : List ℕ → ℕ → Type 0) (text_of : ℕ → List ℕ) (name : List ℕ) where
  -- the fact holds of the chain of this name in the dump that a part is, which is closed on this side within the limits
  abbrev pub Closes : Side → Text → (Dump (Prim_ W) → ℕ → Type 0) → Type 0
  Closes side part IsSo = Answers W Reads name part (λ dump chain. IsClosingOver dump chain side) IsSo

  -- the status tells why there is none
  abbrev pub RefusesPart : Side → Text → Status → Type 0
  RefusesPart side part s = RefusesQuestion W Reads name part (λ dump chain. IsClosingOver dump chain side) s

  -- this is the line for the dumps that the two parts of the text are
  abbrev pub CoversParts : Text → Text → List ℕ → Type 0
  CoversParts first second written = Closes Side.Upper first (λ a a_chain.
      Closes Side.Lower second (λ b b_chain. IsCoverText text_of a a_chain b b_chain written))

  -- Why there is none: the first part has no answer, or else the second hasn't, whose lines count from the text's beginning,
  -- or else the search comes to too many regions. So many lines stand before the second part.
  abbrev pub RefusesParts : ℕ → Text → Text → Status → Type 0
  RefusesParts before first second s = RefusesPart Side.Upper first s ⊎ Closes Side.Upper first (λ a a_chain.
      ((own : Status) × RefusesPart Side.Lower second own × (s ≡ moved before own))
      ⊎ Closes Side.Lower second (λ b b_chain. (s ≡ status.Limit Kind.Regions) × OfBoth a a_chain b b_chain IsTooLarge))

  -- this is the line for the text
  abbrev pub Covers : Text → List ℕ → Type 0
  Covers text written = (lines : List Text) × (first second : Text) × (IsDivided text lines first second × CoversParts first second written)

  -- why there is none: no line of the text is the divider, or its parts have none
  abbrev pub RefusesCovers : Text → Status → Type 0
  RefusesCovers text s = ((s ≡ status.NoDivider) × ((lines : List Text) (first second : Text) → IsDivided text lines first second → ⊥))
      ⊎ ((lines : List Text) × (first second : Text) × (IsDivided text lines first second
      × RefusesParts (suc (length lines)) first second s))
