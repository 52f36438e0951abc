-- What zones and routes leave out of a chain.
use Rattle.std.specs.Prelude.{ℕ, ◌≡◌, true, not, List, [], ◌∷◌, ◌++◌, Option, codes, decimal, length, map}
use Rattle.std.specs.List.{filter, flat_map}
use Rattle.std.specs.Str.{bytes_eq}
use Rattle.interval_set.specs.declared.set.Range.{Range}
use Rattle.interval_set.specs.Spelling.{set_not}
use Rattle.name_set.specs.declared.pattern.Pattern.{Pattern}
use Rattle.primitives.specs.declared.prim.Prim_.{Prim_}
use Rattle.fw_rule.specs.declared.rule.Dump.{Dump}
use Rattle.chain_graph.specs.Paths.{AreRanks}
use Rattle.dump_print.specs.Names.{pattern_spelled}
use Rattle.fw_text.specs.Names.{shown_name}
use Rattle.fw_text.specs.Ranges.{ranges_text}
use Rattle.iface_space.specs.declared.hop.Hop.{Hop}
use Rattle.iface_space.specs.declared.zones.Zone.{Zone}
use Rattle.iface_space.specs.Routes.{targets_of, unrouted_of}
use Rattle.iface_space.specs.Unnamed.{unnamed_inputs, unnamed_outputs}
use Rattle.iface_space.specs.Zones.{sources_of}
use Rattle.request.specs.Spaces.{routes_of, zones_of}
use Rattle.request.specs.declared.types.Claim.{Claim}
use Rattle.fffuu_run.specs.Checks.{IsCheckOver}
use Rattle.fffuu_run.specs.Questions.{Answers}

-- a line of a word and a number
abbrev pub count_line : List ℕ → ℕ → List ℕ
count_line word count = word ++ (codes " " ++ (decimal count ++ 10 ∷ []))

-- how many patterns no interface answers to, and a line for each
abbrev pub unnamed_text : List Pattern → List ℕ
unnamed_text patterns = count_line (codes "unnamed") (length patterns) ++ flat_map (λ by. pattern_spelled by ++ 10 ∷ []) patterns

-- each name once, where it stands first
abbrev pub once_each : List (List ℕ) → List (List ℕ)
once_each [] = []
once_each (name ∷ names) = name ∷ filter (λ other. not (bytes_eq other name)) (once_each names)

-- the names of hops
abbrev pub names_of : List Hop → List (List ℕ)
names_of hops = once_each (map (λ (hop : Hop). hop.name) hops)

-- `text_of` is the one text that is written for an address
module _ (text_of : ℕ → List ℕ) where
  -- that no address is left out, or those that are
  abbrev pub covered_line : List Range → List ℕ
  covered_line [] = codes "covered all" ++ 10 ∷ []
  covered_line ranges = codes "uncovered " ++ (ranges_text text_of ranges ++ 10 ∷ [])

  -- the ranges, or `none`
  abbrev pub ranges_or_none : List Range → List ℕ
  ranges_or_none [] = codes "none"
  ranges_or_none ranges = ranges_text text_of ranges

  module _ {W : ℕ} where
    -- which sources lie in no zone, and which patterns match no zone's name
    abbrev pub zones_text : List (Zone W) → List Pattern → List ℕ
    zones_text zones unnamed = covered_line (set_not W (sources_of zones (λ name. true))) ++ unnamed_text unnamed

    -- this is the text for the zones of these claims
    abbrev pub IsZonesText : List Claim → Dump (Prim_ W) → ℕ → List ℕ → Type 0
    IsZonesText claims dump chain written = (ranks : List (Option ℕ))
        × (AreRanks dump chain ranks × (written ≡ zones_text (zones_of W claims) (unnamed_inputs dump ranks (zones_of W claims))))

  module _ (W : ℕ) where
    -- the destinations that are sent out by the interface of this name
    abbrev pub way_line : List Hop → List ℕ → List ℕ
    way_line hops name = shown_name name ++ (codes " " ++ (ranges_or_none (targets_of W hops (bytes_eq name)) ++ 10 ∷ []))

    -- how many names there are, and so of each
    abbrev pub ways_text : List Hop → List ℕ
    ways_text hops = count_line (codes "names") (length (names_of hops)) ++ flat_map (way_line hops) (names_of hops)

    -- that, which destinations have no route, and which patterns match no hop's name
    abbrev pub routes_text : List Hop → List Pattern → List ℕ
    routes_text hops unnamed = ways_text hops ++ ((codes "unrouted " ++ (ranges_or_none (unrouted_of W hops) ++ 10 ∷ [])) ++ unnamed_text unnamed)

    -- this is the text for the table of these hops
    abbrev pub IsRoutesText : List Hop → Dump (Prim_ W) → ℕ → List ℕ → Type 0
    IsRoutesText hops dump chain written = (ranks : List (Option ℕ))
        × (AreRanks dump chain ranks × (written ≡ routes_text (routes_of W hops) (unnamed_outputs dump ranks (routes_of W hops))))

-- `Reads` says which text is one of which address of `W` bits
module _ (W : ℕ) (Reads : List ℕ → ℕ → Type 0) (text_of : ℕ → List ℕ) (name text : List ℕ) where
  -- these are the texts for the chain of this name in the dump that the text is. They are refused as a check is
  abbrev pub TellsZones : List Claim → List ℕ → Type 0
  TellsZones claims written = Answers W Reads name text (λ dump chain. IsCheckOver dump chain) (λ dump chain. IsZonesText text_of claims dump chain written)

  abbrev pub TellsRoutes : List Hop → List ℕ → Type 0
  TellsRoutes hops written = Answers W Reads name text (λ dump chain. IsCheckOver dump chain) (λ dump chain. IsRoutesText text_of W hops dump chain written)
