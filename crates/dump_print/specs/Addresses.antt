-- How ranges of addresses are written.
use Rattle.std.specs.Prelude.{ℕ, zero, suc, ◌==◌, ◌-◌, ◌^◌, ◌&&◌, ◌++◌, ◌∷◌, [], List, Bool, Option, Some, None, codes, decimal, if◌then◌else◌}
use Rattle.interval_set.specs.declared.set.Range.{Range}
use Rattle.interval_set.specs.Prefix.{prefix_range}
use Rattle.dump_grammar.specs.Lines.{Text, Word, bare}

-- whether the range has every number of w bits
abbrev pub is_everything : ℕ → Range → Bool
is_everything w r = (r.lo == 0) && (r.hi == 2 ^ w - 1)

abbrev pub same_range : Range → Range → Bool
same_range a b = (a.lo == b.lo) && (a.hi == b.hi)

-- the greatest length up to `most` of a prefix that is the range
unfoldable pub prefix_length_to : ℕ → Range → ℕ → Option ℕ
prefix_length_to w r zero = if same_range (prefix_range w r.lo 0) r then Some 0 else None
prefix_length_to w r (suc len) = if same_range (prefix_range w r.lo (suc len)) r then Some (suc len) else prefix_length_to w r len

-- the length of the prefix that is the range, where there is one
abbrev pub prefix_length : ℕ → Range → Option ℕ
prefix_length w r = prefix_length_to w r w

-- `text_of` is the one text of an address of `W` bits
module _ (text_of : ℕ → Text) (W : ℕ) where
  -- an option with an address and its length, for a range that is a prefix
  abbrev pub net_words_of : Text → Range → Option ℕ → List Word
  net_words_of option r None = []
  net_words_of option r (Some len) = bare option ∷ bare (text_of r.lo ++ (codes "/" ++ decimal len)) ∷ []

  -- an option of the base for a range that is a prefix, and nothing for every address
  abbrev pub net_words : Text → Range → List Word
  net_words option r = if is_everything W r then [] else net_words_of option r (prefix_length W r)

  -- an option with the first and the last address, for a range that is no prefix
  abbrev pub range_words_of : Text → Range → Option ℕ → List Word
  range_words_of option r None = bare option ∷ bare (text_of r.lo ++ (codes "-" ++ text_of r.hi)) ∷ []
  range_words_of option r (Some len) = []

  abbrev pub range_words : Text → Range → List Word
  range_words option r = range_words_of option r (prefix_length W r)
