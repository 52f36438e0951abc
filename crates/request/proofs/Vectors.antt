-- The definition on words that are written out.
use Rattle.std.proofs.Common.{◌≡◌, ◌==◌, refl, Bool, true, not, List, [], ◌∷◌, Option, Some, None, codes, is_some}
use Rattle.std.specs.List.{list_all, slice_split}
use Rattle.clap.specs.Words.{Text}
use Rattle.clap.proofs.OnLiterals.{clap_on_literals}
use Rattle.request.specs.CommandLine.{fffuu, faults_in, rows_in}
use Rattle.request.specs.Requests.{Parts, parts_in}

-- words with single spaces between them
abbrev typed : Text → List Text
typed line = slice_split (λ b. b == 32) line

abbrev all_refused : List Text → Bool
all_refused lines = list_all (λ line. not (is_some (parts_in (typed line)))) lines

abbrev no_option : Text → List Text → Option Parts
no_option mode args = Some (record { mode = Some mode; args = args; chain = None; family = None; side = None })

abbrev with_chain : Text → Option Parts
with_chain chain = Some (record { mode = Some (codes "upper"); args = []; chain = Some chain; family = None; side = None })

no_words : parts_in [] ≡ None
unfolding fffuu faults_in rows_in parts_in clap_on_literals
no_words = refl

unknown_options : all_refused (codes "upper -x" ∷ codes "-x upper" ∷ codes "upper -1" ∷ codes "upper --ch X" ∷ codes "upper --ch=X"
    ∷ codes "upper -h" ∷ codes "upper --help" ∷ codes "upper --version" ∷ codes "upper -V" ∷ codes "upper --="
    ∷ codes "explain a=1 -b=2" ∷ codes "explain a=1 --b=2" ∷ []) ≡ true
unfolding fffuu faults_in rows_in parts_in clap_on_literals
unknown_options = refl

options_without_their_value : all_refused (codes "upper --chain" ∷ codes "upper --chain --family 6" ∷ codes "upper --chain --"
    ∷ codes "upper --chain -y" ∷ codes "upper --chain -1" ∷ []) ≡ true
unfolding fffuu faults_in rows_in parts_in clap_on_literals
options_without_their_value = refl

options_twice : all_refused (codes "upper --chain X --chain Y" ∷ codes "upper --chain=X --chain=X" ∷ []) ≡ true
unfolding fffuu faults_in rows_in parts_in clap_on_literals
options_twice = refl

arguments :
    (parts_in (typed (codes "upper")) ≡ no_option (codes "upper") [])
    -- a dash alone is a word
    × (parts_in (typed (codes "upper -")) ≡ no_option (codes "upper") (codes "-" ∷ []))
    -- two dashes are taken away
    × (parts_in (typed (codes "upper --")) ≡ no_option (codes "upper") [])
    -- after them no word is an option
    × (parts_in (typed (codes "upper -- --chain X")) ≡ no_option (codes "upper") (codes "--chain" ∷ codes "X" ∷ []))
    -- nor are two dashes again taken away
    × (parts_in (typed (codes "explain -- -b=2 -- x")) ≡ no_option (codes "explain") (codes "-b=2" ∷ codes "--" ∷ codes "x" ∷ []))
    -- the mode may follow them
    × (parts_in (typed (codes "-- --chain X")) ≡ no_option (codes "--chain") (codes "X" ∷ []))
    -- an empty word is an argument
    × (parts_in (typed (codes "upper ")) ≡ no_option (codes "upper") ([] ∷ []))
    -- or the mode
    × (parts_in (typed (codes " x")) ≡ no_option [] (codes "x" ∷ []))
    -- there is no subcommand `help`
    × (parts_in (typed (codes "help upper")) ≡ no_option (codes "help") (codes "upper" ∷ []))
unfolding fffuu faults_in rows_in parts_in clap_on_literals
arguments = (refl, refl, refl, refl, refl, refl, refl, refl, refl)

options :
    -- a value stands after a space
    (parts_in (typed (codes "upper --chain X")) ≡ with_chain (codes "X"))
    -- or after an equals sign
    × (parts_in (typed (codes "upper --chain=X")) ≡ with_chain (codes "X"))
    -- the mode may stand after options
    × (parts_in (typed (codes "--chain X upper")) ≡ with_chain (codes "X"))
    -- a value may be empty
    × (parts_in (typed (codes "upper --chain=")) ≡ with_chain [])
    -- have an equals sign
    × (parts_in (typed (codes "upper --chain=a=b")) ≡ with_chain (codes "a=b"))
    -- or begin with dashes
    × (parts_in (typed (codes "upper --chain=--family")) ≡ with_chain (codes "--family"))
    -- options stand between arguments
    × (parts_in (typed (codes "explain a=1 --family 6 b=2")) ≡ Some (record { mode = Some (codes "explain"); args = codes "a=1" ∷ codes "b=2" ∷ []; chain = None; family = Some (codes "6"); side = None }))
unfolding fffuu faults_in rows_in parts_in clap_on_literals
options = (refl, refl, refl, refl, refl, refl, refl)
