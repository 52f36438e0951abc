-- The parts of a rule line, each a list of words.
use Rattle.std.specs.Prelude.{ℕ, ◌==◌, ◌++◌, ◌∷◌, [], List, Bool, true, false, map, codes, decimal, if◌then◌else◌}
use Rattle.std.specs.List.{flat_map}
use Rattle.interval_set.specs.declared.set.Range.{Range}
use Rattle.name_set.specs.declared.pattern.Pattern.{Pattern}
use Rattle.name_set.specs.declared.set.NameSet.{NameSet}
use Rattle.primitives.specs.Tables.{name_list, state_names}
use Rattle.primitives.specs.Words.{flags_text}
use Rattle.dump_grammar.specs.Lines.{Text, Word, bare}
use Rattle.dump_print.specs.declared.flags.FlagCube.{FlagCube}
use Rattle.dump_print.specs.Addresses.{range_words}
use Rattle.dump_print.specs.Names.{name_word, is_every_name, is_plain_names}
use Rattle.dump_print.specs.Ports.{Ports, port_list, port_text}
use Rattle.dump_print.specs.declared.numbers.Numbers.{Numbers}
use Rattle.dump_print.specs.Numbers.{protocol_text}

-- an option and its argument
abbrev pub option_words : Text → Word → List Word
option_words option argument = bare option ∷ argument ∷ []

-- the same with a `!` in front
abbrev pub negated_words : Text → Word → List Word
negated_words option argument = bare (codes "!") ∷ option_words option argument

abbrev pub has_words : List Word → Bool
has_words [] = false
has_words (word ∷ words) = true

-- the options of a module, where there are some, with its name in front
abbrev pub module_words : Text → List Word → List Word
module_words name words = if has_words words then bare (codes "-m") ∷ bare name ∷ words else []

-- the base, unless it is every name
abbrev pub base_words : Text → Pattern → List Word
base_words option base = if is_every_name base then [] else option_words option (name_word base)

-- the one exclusion that a line can say
abbrev pub except_words : Text → NameSet → List Word
except_words option names = if is_plain_names names then flat_map (λ p. negated_words option (name_word p)) names.excluded else []

abbrev pub name_words : Text → NameSet → List Word
name_words option names = base_words option names.base ++ except_words option names

-- numbers as an option says them, where one line can
abbrev pub number_words : Text → (ℕ → Text) → Numbers → List Word
number_words option text_of Numbers.Every = []
number_words option text_of (Numbers.Only n) = option_words option (bare (text_of n))
number_words option text_of (Numbers.AllBut n) = negated_words option (bare (text_of n))
number_words option text_of Numbers.Others = []

abbrev pub protocol_words : Numbers → List Word
protocol_words protocols = number_words (codes "-p") protocol_text protocols

-- the types of messages, where the protocols are one whose messages have types
abbrev pub type_words : Numbers → Numbers → List Word
type_words (Numbers.Only n) types =
    if n == 1 then module_words (codes "icmp") (number_words (codes "--icmp-type") decimal types)
    else if n == 58 then module_words (codes "icmp6") (number_words (codes "--icmpv6-type") decimal types)
    else []
type_words _ types = []

-- a range of ports as an option of tcp or udp
abbrev pub single_words : Text → Ports → List Word
single_words option Ports.Every = []
single_words option (Ports.Single r) = option_words option (bare (port_text r))
single_words option (Ports.Listed rs) = []

-- a list of ports as an option of multiport
abbrev pub listed_words : Text → Ports → List Word
listed_words option Ports.Every = []
listed_words option (Ports.Single r) = []
listed_words option (Ports.Listed rs) = module_words (codes "multiport") (option_words option (bare (port_list rs)))

-- mask and comp, unless the mask is empty, so that every number matches
abbrev pub flags_words : FlagCube → List Word
flags_words cube = if cube.mask == 0 then [] else
    bare (codes "--tcp-flags") ∷ bare (flags_text cube.mask) ∷ bare (flags_text cube.comp) ∷ []

-- the options of tcp or udp itself
abbrev pub own_words : Ports → Ports → FlagCube → List Word
own_words sports dports flags = single_words (codes "--sport") sports ++ (single_words (codes "--dport") dports ++ flags_words flags)

-- the module of tcp or udp, where the protocols are one of these
abbrev pub own_module_words : Numbers → List Word → List Word
own_module_words (Numbers.Only n) words =
    if n == 6 then module_words (codes "tcp") words
    else if n == 17 then module_words (codes "udp") words
    else []
own_module_words _ words = []

-- the states, unless all five are meant
abbrev pub state_words : ℕ → List Word
state_words states = if states == 31 then [] else
    module_words (codes "conntrack") (option_words (codes "--ctstate") (bare (name_list state_names states)))

-- what one line of a cube says where the others may say something else
pub record Choice : Type 0 where
  pub source : Range
  pub destination : Range
  pub sports : Ports
  pub dports : Ports
  pub flags : FlagCube

-- what the lines of a cube say, each dimension by itself
pub record Axes : Type 0 where
  pub sources : List Range
  pub destinations : List Range
  pub sports : List Ports
  pub dports : List Ports
  pub flags : List FlagCube

-- a line of these addresses that says nothing else
abbrev pub between : Range → Range → Choice
between source destination = record {
  source = source;
  destination = destination;
  sports = Ports.Every;
  dports = Ports.Every;
  flags = record { mask = 0; comp = 0 };
}

-- the line once for each of these
abbrev pub with_flags : Choice → List FlagCube → List Choice
with_flags line flags = map (λ cube. record line { flags = cube }) flags

abbrev pub with_dports : Choice → Axes → List Choice
with_dports line axes = flat_map (λ ports. with_flags (record line { dports = ports }) axes.flags) axes.dports

abbrev pub with_sports : Choice → Axes → List Choice
with_sports line axes = flat_map (λ ports. with_dports (record line { sports = ports }) axes) axes.sports

abbrev pub with_destinations : Range → Axes → List Choice
with_destinations source axes = flat_map (λ destination. with_sports (between source destination) axes) axes.destinations

-- each source with each destination, each part of both sets of ports and each cube of flags, the flags going round first
abbrev pub choices_in : Axes → List Choice
choices_in axes = flat_map (λ source. with_destinations source axes) axes.sources

-- a rule line: its chain, its parts and its target
abbrev pub rule_words : Text → List Word → Text → List Word
rule_words chain parts target = bare (codes "-A") ∷ bare chain ∷ (parts ++ option_words (codes "-j") (bare target))

-- `text_of` is the one text of an address of `W` bits
module _ (text_of : ℕ → Text) (W : ℕ) where
  abbrev pub both_words : Range → Range → List Word
  both_words source destination = range_words text_of W (codes "--src-range") source ++ range_words text_of W (codes "--dst-range") destination

  -- the ranges of addresses that are no prefix
  abbrev pub iprange_words : Range → Range → List Word
  iprange_words source destination = module_words (codes "iprange") (both_words source destination)
