-- When a line has no list of words.
use Rattle.std.specs.Prelude.{ℕ, List}
use Rattle.dump_token.specs.declared.token.Token.{Token}
use Rattle.dump_token.specs.declared.fault.TokenFault.{TokenFault}
use Rattle.dump_token.specs.Words.{AreWords, AreLeftOpen}

-- the fact holds where the fault is an open quote; want of memory says nothing
abbrev pub OnQuote : Type 0 → TokenFault → Type 0
OnQuote P TokenFault.Quote = P
OnQuote P TokenFault.Memory = Unit {0}

-- after some words a quote opens a word and is never closed
abbrev pub IsLeftOpen : List ℕ → Type 0
IsLeftOpen line = (words : List Token) × AreLeftOpen 0 words line

-- there is no list of words
abbrev pub HasNoWords : List ℕ → Type 0
HasNoWords line = (words : List Token) → AreWords 0 words line → ⊥
