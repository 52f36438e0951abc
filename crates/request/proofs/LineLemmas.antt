-- What the getters of clap's matches give, as parts of the rows.
use Rattle.std.proofs.Common.{◌≡◌, ◌∙◌, ap, List, [], Option}
use Rattle.std.specs.Prelude.{option_map, unwrap_or}
use Rattle.clap.specs.Words.{Text, all_of, first_of, first_value, matched_of, raw_values, rows_of}
use Rattle.clap.specs.declared.parser.matches.Found.{Found}
use Rattle.clap.proofs.WalkLemmas.{first_value-rows, raw_values-rows}
use Rattle.request.specs.Requests.{Parts}

pub str_is : (f : Found) (id : Text) (o : Option Text) → o ≡ first_value f id → o ≡ first_of id (rows_of f)
str_is f id o e = e ∙ first_value-rows f id

-- an option of values is what the rows have, an empty list where there is none
pub strs_are : (f : Found) (id : Text) (o : Option (List Text)) → o ≡ option_map raw_values (matched_of f id)
    → unwrap_or o [] ≡ unwrap_or (all_of id (rows_of f)) []
strs_are f id o e = ap (λ (p : Option (List Text)). unwrap_or p []) (e ∙ raw_values-rows f id)

pub same_parts : (mode mode' : Option Text) (args args' : List Text) (chain chain' family family' side side' : Option Text)
    → mode ≡ mode' → args ≡ args' → chain ≡ chain' → family ≡ family' → side ≡ side'
    → (let p : Parts = record { mode = mode; args = args; chain = chain; family = family; side = side } in
    let q : Parts = record { mode = mode'; args = args'; chain = chain'; family = family'; side = side' } in p ≡ q)
same_parts mode mode' args args' chain chain' family family' side side' a b c d e = cc
