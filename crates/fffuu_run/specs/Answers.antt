-- What is answered to a request for a text, and why nothing is.
use Rattle.std.specs.Prelude.{ℕ, List, Bool, true, false}
use Rattle.std.specs.Net.Text.{hex_groups_text, ipv4_text}
use Rattle.addr_text.specs.Digits.{digits_of}
use Rattle.addr_text.specs.Grammar.{IsIpv4, IsIpv6}
use Rattle.fw_rule.specs.declared.side.Side.{Side}
use Rattle.request.specs.declared.types.Mode.{Mode}
use Rattle.request.specs.declared.types.Mode.TheVariants as mode
use Rattle.request.specs.declared.types.Request.{Request}
use Rattle.fffuu_run.specs.Checks.{Checks, RefusesCheck}
use Rattle.fffuu_run.specs.Covers.{Covers, RefusesCovers}
use Rattle.fffuu_run.specs.Explanations.{Explanations, RefusesExplanation}
use Rattle.fffuu_run.specs.Filters.{Filters, RefusesFilter}
use Rattle.fffuu_run.specs.Loads.{Loads, RefusesLoad}
use Rattle.fffuu_run.specs.Matrices.{Matrices, RefusesMatrices}
use Rattle.fffuu_run.specs.Spaces.{TellsRoutes, TellsZones}
use Rattle.fffuu_run.specs.Spoofing.{RefusesSpoofs, Spoofs}
use Rattle.fffuu_run.specs.declared.status.Status.{Status}

-- the text of an IPv4 address, and of an IPv6 one
abbrev pub ipv4_of : ℕ → List ℕ
ipv4_of value = ipv4_text (digits_of 256 4 value)

abbrev pub ipv6_of : ℕ → List ℕ
ipv6_of value = hex_groups_text (digits_of 65536 8 value)

-- `Reads` says which text is one of which address of `W` bits, and `text_of` is the one text that is written for an address
module _ (W : ℕ) (Reads : List ℕ → ℕ → Type 0) (text_of : ℕ → List ℕ) where
  -- a mode's stated output for a chain's name and a text
  abbrev pub IsOutput : Mode → List ℕ → List ℕ → List ℕ → Type 0
  IsOutput mode.Check name text written = Checks W Reads name text written
  IsOutput mode.Upper name text written = Filters W Reads text_of Side.Upper name text written
  IsOutput mode.Lower name text written = Filters W Reads text_of Side.Lower name text written
  IsOutput (mode.Matrix service side zones hops) name text written = Matrices W Reads text_of side service zones hops name text written
  IsOutput (mode.Spoof claims) name text written = Spoofs W Reads text_of claims name text written
  IsOutput (mode.Explain p) name text written = Explanations W Reads name text p written
  IsOutput (mode.Load n) name text written = Loads ipv4_of name n written
  IsOutput mode.Cover name text written = Covers W Reads text_of name text written
  IsOutput (mode.Zones claims) name text written = TellsZones W Reads text_of name text claims written
  IsOutput (mode.Routes hops) name text written = TellsRoutes W Reads text_of name text hops written

  -- why a mode has no output
  abbrev pub RefusesMode : Mode → List ℕ → List ℕ → Status → Type 0
  RefusesMode mode.Check name text s = RefusesCheck W Reads name text s
  RefusesMode mode.Upper name text s = RefusesFilter W Reads text_of Side.Upper name text s
  RefusesMode mode.Lower name text s = RefusesFilter W Reads text_of Side.Lower name text s
  RefusesMode (mode.Matrix service side zones hops) name text s = RefusesMatrices W Reads text_of side service zones hops name text s
  RefusesMode (mode.Spoof claims) name text s = RefusesSpoofs W Reads text_of claims name text s
  RefusesMode (mode.Explain p) name text s = RefusesExplanation W Reads name text s
  RefusesMode (mode.Load n) name text s = RefusesLoad ipv4_of name n s
  RefusesMode mode.Cover name text s = RefusesCovers W Reads text_of name text s
  RefusesMode (mode.Zones claims) name text s = RefusesCheck W Reads name text s
  RefusesMode (mode.Routes hops) name text s = RefusesCheck W Reads name text s

-- the stated output over the addresses of a family, IPv6 ones where it is true
abbrev pub IsOutputIn : Bool → Mode → List ℕ → List ℕ → List ℕ → Type 0
IsOutputIn false m name text written = IsOutput 32 IsIpv4 ipv4_of m name text written
IsOutputIn true m name text written = IsOutput 128 IsIpv6 ipv6_of m name text written

abbrev pub RefusesModeIn : Bool → Mode → List ℕ → List ℕ → Status → Type 0
RefusesModeIn false m name text s = RefusesMode 32 IsIpv4 ipv4_of m name text s
RefusesModeIn true m name text s = RefusesMode 128 IsIpv6 ipv6_of m name text s

-- the stated output of a request for a text
abbrev pub IsAnswer : Request → List ℕ → List ℕ → Type 0
IsAnswer request text written = IsOutputIn request.six request.mode request.chain text written

-- the status tells why a text has no answer
abbrev pub IsRefusedAs : Request → List ℕ → Status → Type 0
IsRefusedAs request text s = RefusesModeIn request.six request.mode request.chain text s
