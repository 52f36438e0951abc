-- A packet is in a cube exactly where it passes one of the cube's lines and no return.
use Rattle.std.proofs.Common.{◌≡◌, ℕ, ◌==◌, List, [], ◌++◌, Bool, true, false, not, ◌&&◌, ◌||◌, refl, ◌∙◌, ap, arith}
use Rattle.std.specs.Prelude.{if◌then◌else◌}
use Rattle.std.specs.List.{list_any, flat_map}
use Rattle.interval_set.specs.Numbers.{has, is_within}
use Rattle.name_set.specs.Names.{has_name, some_fits}
use Rattle.primitives.specs.declared.prim.Packet.{Packet}
use Rattle.primitives.specs.declared.prim.Prim_.{Prim_}
use Rattle.primitives.specs.Holds.{IsValid, has_bit, holds_of}
use Rattle.fw_rule.specs.declared.rule.Lit.{Lit}
use Rattle.box_norm.specs.declared.cube.Cube.{Cube}
use Rattle.box_norm.specs.Cubes.{holds_cube}
use Rattle.box_norm.specs.Regular.{IsRegular}
use Rattle.opt_table.specs.Options.{destination_ports, source_ports}
use Rattle.dump_print.specs.declared.numbers.Numbers.{Numbers}
use Rattle.dump_print.specs.CubeLines.{axes_of, choices_of}
use Rattle.dump_print.specs.FlagCover.{CoverFlags}
use Rattle.dump_print.specs.Flags.{cubes_of}
use Rattle.dump_print.specs.Helpers.{returned_patterns, returned_protocols, returned_types}
use Rattle.dump_print.specs.Parts.{Choice}
use Rattle.dump_print.specs.Ports.{Ports, chunks, port_choices}
use Rattle.dump_print.specs.Numbers.{number_of, protocols_of, types_of}
use Rattle.printed_filter.specs.Literals.{base_literals, flags_literals, line_literals, listed_literals, module_literals, name_literals, net_literals, own_module_literals, protocol_literals, range_literals, single_literals, state_literals, type_literals}
use Rattle.printed_filter.proofs.AddressFacts.{address_meets, in_ranges}
use Rattle.printed_filter.proofs.Facts.{facts, facts-append}
use Rattle.printed_filter.proofs.FlagFacts.{flags_fact, flags_meet}
use Rattle.printed_filter.proofs.Lines.{any_line}
use Rattle.printed_filter.proofs.NameFacts.{names_meet}
use Rattle.printed_filter.proofs.NumberFacts.{numbers_meet}
use Rattle.printed_filter.proofs.PortFacts.{destination_says, own_part, ports_meet, source_says}
use Rattle.printed_filter.proofs.StateFacts.{state_meets}
use Rattle.printed_filter.proofs.Truths.{any_and}
use Rattle.printed_filter.proofs.TypeFacts.{returns_type, types_meet}

zipped : (a x b y : Bool) → ((a && x) && (b && y)) ≡ ((a && b) && (x && y))
zipped a x b y = grind arith

-- what each line of a cube says alike stands at the end
later : (t a b c : Bool) → (t && (a && (b && c))) ≡ (a && (b && (t && c)))
later t a b c = grind arith

reversed : (a b c d e f g : Bool) → (a && (b && (c && (d && (e && (f && g)))))) ≡ (f && (e && (d && (b && (a && (c && g))))))
reversed a b c d e f g = grind arith

carried : (i o r s : Bool) → ((i && (o && r)) && s) ≡ (i && (o && (r && s)))
carried i o r s = grind arith

-- the parts of a line, by dimension
arranged : (n1 n2 i o pr r1 r2 os od of ls ld st src dst : Bool) → (n1 && r1) ≡ src → (n2 && r2) ≡ dst →
    ((n1 && (n2 && (i && (o && pr)))) && (r1 && (r2 && ((os && (od && of)) && (ls && (ld && st))))))
    ≡ (of && ((od && ld) && ((os && ls) && (dst && (src && (i && (o && (pr && st))))))))
arranged n1 n2 i o pr r1 r2 os od of ls ld st src dst e f =
    zipped n1 (n2 && (i && (o && pr))) r1 (r2 && ((os && (od && of)) && (ls && (ld && st))))
    ∙ ap (λ z. (n1 && r1) && z) (zipped n2 (i && (o && pr)) r2 ((os && (od && of)) && (ls && (ld && st))))
    ∙ ap (λ z. (n1 && r1) && ((n2 && r2) && ((i && (o && pr)) && z))) (zipped os (od && of) ls (ld && st) ∙ ap (λ z. (os && ls) && z) (zipped od of ld st))
    ∙ reversed (n1 && r1) (n2 && r2) (i && (o && pr)) (os && ls) (od && ld) of st
    ∙ (λ k. of && ((od && ld) && ((os && ls) && (f k && (e k && carried i o pr st k)))))

-- each return beside what the line says of the same dimension
paired : (fl dp sp ds sr i o pr ty st ri ro rp rt : Bool) →
    ((fl && (dp && (sp && (ds && (sr && (i && (o && (pr && (ty && st))))))))) && not (ri || (ro || (rp || rt))))
    ≡ ((i && not ri) && ((o && not ro) && (sr && (ds && ((pr && not rp) && (sp && (dp && (fl && (st && (ty && not rt))))))))))
paired fl dp sp ds sr i o pr ty st ri ro rp rt = grind arith

-- parts that are the same where the condition holds
where_true : (c a b : Bool) → (c ≡ true → a ≡ b) → (c && a) ≡ (c && b)
where_true true a b e = e refl
where_true false a b e = refl

combined : (fl dp sp ds sr i o pr ty st ri ro rp rt inside outside kind from to set types : Bool) →
    (i && not ri) ≡ inside → (o && not ro) ≡ outside → (pr && not rp) ≡ kind →
    (kind ≡ true → sp ≡ from) → (kind ≡ true → dp ≡ to) → (kind ≡ true → fl ≡ set) → (kind ≡ true → (ty && not rt) ≡ types) →
    ((fl && (dp && (sp && (ds && (sr && (i && (o && (pr && (ty && st))))))))) && not (ri || (ro || (rp || rt))))
    ≡ (inside && (outside && (sr && (ds && (kind && (from && (to && (set && (st && types)))))))))
combined fl dp sp ds sr i o pr ty st ri ro rp rt inside outside kind from to set types a b c d e f g =
    paired fl dp sp ds sr i o pr ty st ri ro rp rt
    ∙ (λ k. a k && (b k && (sr && (ds && (c k && (sp && (dp && (fl && (st && (ty && not rt))))))))))
    ∙ ap (λ z. inside && (outside && (sr && (ds && z))))
    (where_true kind (sp && (dp && (fl && (st && (ty && not rt))))) (from && (to && (set && (st && types))))
    (λ h k. d h k && (e h k && (f h k && (st && g h k)))))

module _ (W : ℕ) (p : Packet) where
  abbrev told : List (Lit (Prim_ W)) → Bool
  told = facts (holds_of {W = W}) p

  told-append : (a b : List (Lit (Prim_ W))) → told (a ++ b) ≡ (told a && told b)
  told-append a b = facts-append (holds_of {W = W}) p a b

  joined : (a b c : List (Lit (Prim_ W))) → told (a ++ (b ++ c)) ≡ (told a && (told b && told c))
  joined a b c = told-append a (b ++ c) ∙ ap (λ z. told a && z) (told-append b c)

  own_by : (a b c : List (Lit (Prim_ W))) (x y : Bool) → told (if x then a ++ (b ++ c) else if y then a ++ (b ++ c) else [])
      ≡ (told (if x || y then a else []) && (told (if x || y then b else []) && told (if x || y then c else [])))
  own_by a b c true y = joined a b c
  own_by a b c false true = joined a b c
  own_by a b c false false = refl

  own_split : (form : Numbers) (line : Choice) → told (own_module_literals form line) ≡
      (told (own_part form (single_literals (source_ports (number_of form)) line.sports))
      && (told (own_part form (single_literals (destination_ports (number_of form)) line.dports)) && told (own_part form (flags_literals line.flags))))
  own_split Numbers.Every line = refl
  own_split (Numbers.Only n) line = own_by (single_literals (source_ports n) line.sports) (single_literals (destination_ports n) line.dports)
      (flags_literals line.flags) (n == 6) (n == 17)
  own_split (Numbers.AllBut n) line = refl
  own_split Numbers.Others line = refl

  module _ (cube : Cube W) where
    abbrev form : Numbers
    form = protocols_of cube.proto

    base_split : (line : Choice) → told (base_literals cube line) ≡
        (told (net_literals Prim_.Src line.source) && (told (net_literals Prim_.Dst line.destination)
        && (told (name_literals Prim_.InName cube.in_name) && (told (name_literals Prim_.OutName cube.out_name) && told (protocol_literals form)))))
    base_split line =
        told-append (net_literals Prim_.Src line.source) _
        ∙ ap (λ z. told (net_literals Prim_.Src line.source) && z)
        (told-append (net_literals Prim_.Dst line.destination) _
        ∙ ap (λ z. told (net_literals Prim_.Dst line.destination) && z)
        (joined (name_literals Prim_.InName cube.in_name) (name_literals Prim_.OutName cube.out_name) (protocol_literals form)))

    abbrev own : Choice → List (Lit (Prim_ W))
    own line = own_module_literals form line

    abbrev kinds : List (Lit (Prim_ W))
    kinds = type_literals form (types_of cube.icmp)

    abbrev listed_from : Choice → List (Lit (Prim_ W))
    listed_from line = listed_literals (source_ports (number_of form)) line.sports

    abbrev listed_to : Choice → List (Lit (Prim_ W))
    listed_to line = listed_literals (destination_ports (number_of form)) line.dports

    module_split : (line : Choice) → told (module_literals cube line) ≡
        (told (range_literals Prim_.Src line.source) && (told (range_literals Prim_.Dst line.destination)
        && (told (own line) && (told (listed_from line) && (told (listed_to line) && (told kinds && told (state_literals cube.state)))))))
    module_split line =
        told-append (range_literals Prim_.Src line.source) _
        ∙ ap (λ z. told (range_literals Prim_.Src line.source) && z)
        (told-append (range_literals Prim_.Dst line.destination) _
        ∙ ap (λ z. told (range_literals Prim_.Dst line.destination) && z)
        (told-append (own line) _ ∙ ap (λ z. told (own line) && z)
        (told-append kinds _ ∙ ap (λ z. told kinds && z) (joined (listed_from line) (listed_to line) (state_literals cube.state))
        ∙ later (told kinds) (told (listed_from line)) (told (listed_to line)) (told (state_literals cube.state)))))

    -- what each line says of names, protocols, types of messages and states
    abbrev common : Bool
    common = told (name_literals Prim_.InName cube.in_name) && (told (name_literals Prim_.OutName cube.out_name)
        && (told (protocol_literals form) && (told kinds && told (state_literals cube.state))))

    abbrev sport_fact : Ports → Bool
    sport_fact ports = told (own_part form (single_literals (source_ports (number_of form)) ports)) && told (listed_literals (source_ports (number_of form)) ports)

    abbrev dport_fact : Ports → Bool
    dport_fact ports = told (own_part form (single_literals (destination_ports (number_of form)) ports)) && told (listed_literals (destination_ports (number_of form)) ports)

    -- whether a return takes the packet
    abbrev pub returned : Bool
    returned = some_fits (returned_patterns cube.in_name) p.in_name
        || (some_fits (returned_patterns cube.out_name) p.out_name
        || (list_any (λ n. p.proto == n) (returned_protocols cube.proto) || list_any (returns_type W p form) (returned_types cube.icmp)))

    module _ (v : IsValid W p) where
      line_parts : (line : Choice) → told (line_literals cube line) ≡
          (flags_fact W p form line.flags && (dport_fact line.dports && (sport_fact line.sports && (is_within line.destination p.dst && (is_within line.source p.src && common)))))
      line_parts line =
          told-append (base_literals cube line) (module_literals cube line)
          ∙ (λ i. base_split line i && (module_split line ∙ ap (λ z. told (range_literals Prim_.Src line.source) && (told (range_literals Prim_.Dst line.destination)
          && (z && (told (listed_from line) && (told (listed_to line) && (told kinds && told (state_literals cube.state))))))) (own_split form line)) i)
          ∙ arranged (told (net_literals Prim_.Src line.source)) (told (net_literals Prim_.Dst line.destination))
          (told (name_literals Prim_.InName cube.in_name)) (told (name_literals Prim_.OutName cube.out_name)) (told (protocol_literals form))
          (told (range_literals Prim_.Src line.source)) (told (range_literals Prim_.Dst line.destination))
          (told (own_part form (single_literals (source_ports (number_of form)) line.sports)))
          (told (own_part form (single_literals (destination_ports (number_of form)) line.dports))) (told (own_part form (flags_literals line.flags)))
          (told (listed_from line)) (told (listed_to line)) (told kinds && told (state_literals cube.state)) (is_within line.source p.src) (is_within line.destination p.dst)
          (address_meets p Prim_.Src p.src (λ rs. refl) v.src line.source) (address_meets p Prim_.Dst p.dst (λ rs. refl) v.dst line.destination)

      -- whether the packet passes one of the lines
      pub any_passes : list_any (λ line. told (line_literals cube line)) (choices_of cube) ≡
          (list_any (flags_fact W p form) (cubes_of cube.flags) && (list_any dport_fact (port_choices form cube.dport) && (list_any sport_fact (port_choices form cube.sport)
          && (has cube.dst p.dst && (has cube.src p.src && common)))))
      any_passes =
          any_line (λ line. told (line_literals cube line)) (flags_fact W p form) dport_fact sport_fact (λ r. is_within r p.dst) (λ r. is_within r p.src && common)
          line_parts (axes_of cube)
          ∙ ap (λ z. list_any (flags_fact W p form) (cubes_of cube.flags) && (list_any dport_fact (port_choices form cube.dport) && (list_any sport_fact (port_choices form cube.sport) && z)))
          (λ i. in_ranges p.dst cube.dst i && (any_and (λ r. is_within r p.src) common cube.src ∙ ap (λ z. z && common) (in_ranges p.src cube.src)) i)

      module _ (regular : IsRegular cube) (sports : flat_map (λ chunk. chunk) (chunks cube.sport) ≡ cube.sport)
          (dports : flat_map (λ chunk. chunk) (chunks cube.dport) ≡ cube.dport) (cover : CoverFlags cube.flags) where
        -- the cube's packets pass a line and no return
        pub cube_meets : (list_any (λ line. told (line_literals cube line)) (choices_of cube) && not returned) ≡ holds_cube cube p
        cube_meets =
            ap (λ z. z && not returned)
            (any_passes ∙ ap (λ z. list_any (flags_fact W p form) (cubes_of cube.flags) && (list_any dport_fact (port_choices form cube.dport)
            && (list_any sport_fact (port_choices form cube.sport) && (has cube.dst p.dst && (has cube.src p.src && (told (name_literals Prim_.InName cube.in_name)
            && (told (name_literals Prim_.OutName cube.out_name) && (told (protocol_literals form) && (told kinds && z))))))))) (state_meets W p v.state cube.state))
            ∙ combined (list_any (flags_fact W p form) (cubes_of cube.flags)) (list_any dport_fact (port_choices form cube.dport)) (list_any sport_fact (port_choices form cube.sport))
            (has cube.dst p.dst) (has cube.src p.src) (told (name_literals Prim_.InName cube.in_name)) (told (name_literals Prim_.OutName cube.out_name))
            (told (protocol_literals form)) (told kinds) (has_bit cube.state p.state)
            (some_fits (returned_patterns cube.in_name) p.in_name) (some_fits (returned_patterns cube.out_name) p.out_name)
            (list_any (λ n. p.proto == n) (returned_protocols cube.proto)) (list_any (returns_type W p form) (returned_types cube.icmp))
            (has_name cube.in_name p.in_name) (has_name cube.out_name p.out_name) (has cube.proto p.proto) (has cube.sport p.sport) (has cube.dport p.dport)
            (has_bit cube.flags p.flags) (has cube.icmp p.icmp)
            (names_meet p Prim_.InName p.in_name (λ pattern. refl) cube.in_name) (names_meet p Prim_.OutName p.out_name (λ pattern. refl) cube.out_name)
            (numbers_meet p Prim_.Proto p.proto (λ n. refl) v.proto 0 cube.proto)
            (λ of. ports_meet p p.sport v.sport source_ports (source_says W p v.sport) cube.sport cube.proto regular.sport sports of)
            (λ of. ports_meet p p.dport v.dport destination_ports (destination_says W p v.dport) cube.dport cube.proto regular.dport dports of)
            (λ of. flags_meet W p cube.flags cube.proto regular.flags cover of v.flags)
            (λ of. types_meet W p v.icmp cube.icmp cube.proto regular.icmp of)
