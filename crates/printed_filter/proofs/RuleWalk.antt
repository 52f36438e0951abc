-- The walk over the rules of a printed dump has the verdict of the first rule whose cube holds.
use Rattle.std.proofs.Common.{◌≡◌, ℕ, ◌+◌, ◌==◌, List, [], ◌∷◌, ◌++◌, length, Bool, true, false, not, ◌&&◌, ◌||◌, None, Some, map, refl, sym, ◌∙◌, ap, arith}
use Rattle.std.specs.Prelude.{slice_get, if◌then◌else◌}
use Rattle.std.specs.List.{AllByRecursion, flat_map, list_any}
use Rattle.std.proofs.lemmas.Bool.{and_parts, not-false, not-true}
use Rattle.std.proofs.lemmas.List.Folds.{list_any-append}
use Rattle.interval_set.specs.declared.set.Range.{Range}
use Rattle.interval_set.specs.Numbers.{IsSet}
use Rattle.name_set.specs.Names.{some_fits}
use Rattle.name_set.specs.Patterns.{fits}
use Rattle.primitives.specs.declared.prim.Packet.{Packet}
use Rattle.primitives.specs.declared.prim.Prim_.{Prim_}
use Rattle.primitives.specs.Holds.{IsValid, holds_of}
use Rattle.fw_rule.specs.declared.rule.Action.{Action}
use Rattle.fw_rule.specs.declared.rule.Verdict.{Verdict}
use Rattle.fw_rule.specs.declared.rule.Chain.{Chain}
use Rattle.fw_rule.specs.declared.rule.Dump.{Dump}
use Rattle.fw_rule.specs.Walk.{Frame, Path, Meaning, State, At, Ended, act, step}
use Rattle.box_norm.specs.declared.cube.Cube.{Cube}
use Rattle.box_norm.specs.declared.cube.SimpleRule.{SimpleRule}
use Rattle.box_norm.specs.Cubes.{holds_cube}
use Rattle.box_norm.specs.Normal.{first_of}
use Rattle.box_norm.specs.Regular.{EachCube, IsRegular}
use Rattle.dump_print.specs.CubeLines.{choices_of}
use Rattle.dump_print.specs.declared.numbers.Numbers.{Numbers}
use Rattle.dump_print.specs.FlagCover.{CoverFlags}
use Rattle.dump_print.specs.Helpers.{helped_from, helper_name, needs_helper, returned_patterns, returned_protocols, returned_types}
use Rattle.dump_print.specs.Names.{is_plain_names}
use Rattle.dump_print.specs.Parts.{Choice}
use Rattle.dump_print.specs.PortCover.{CoverPorts}
use Rattle.dump_print.specs.Numbers.{are_plain_numbers, lacking, protocols_of, types_of}
use Rattle.box_norm.specs.Sets.{HasSets}
use Rattle.printed_filter.specs.Laws.{verdict_of}
use Rattle.printed_filter.specs.Literals.{line_literals, protocol_literals, type_literals}
use Rattle.printed_filter.specs.PrintedDump.{Said, asked_rules, back_if, helper_chains_from, helper_rules, helpers_of, placed_from, returns_of, type_back, verdict_action}
use Rattle.printed_filter.proofs.CubeFacts.{cube_meets, returned}
use Rattle.printed_filter.proofs.Facts.{facts, known-append, one_fact}
use Rattle.printed_filter.proofs.LineKnown.{line_known}
use Rattle.printed_filter.proofs.NumberFacts.{numbers_known}
use Rattle.basics.proofs.Lists.{each_append}
use Rattle.printed_filter.proofs.Truths.{and_true, any_map, any_same}
use Rattle.printed_filter.proofs.TypeFacts.{returns_type, types_known}
use Rattle.printed_filter.proofs.WalkOver.{Does, Goes, Leads, RestAt, hits, one_step, over_alike, over_passing, rest_first, rest_next, some_hit}

module _ (W : ℕ) where
  module _ {X : Type 0} (back : X → Said W) (each : (x : X) → Does Action.Back (back x)) where
    all_back : (xs : List X) → AllByRecursion (Does Action.Back) (map back xs)
    all_back [] = tt
    all_back (x ∷ xs) = (each x, all_back xs)

  goes_back : (x : Prim_ W) → Does Action.Back (back_if x)
  goes_back x = record { does = refl; known = refl }

  type_goes_back : (form : Numbers) (n : ℕ) → Does {W = W} Action.Back (type_back form n)
  type_goes_back form n = record {
    does = refl;
    known = known-append (protocol_literals form) (type_literals form (Numbers.Only n)) (numbers_known Prim_.Proto form) (types_known W form (Numbers.Only n));
  }

  -- the returns by protocols and by types of messages
  abbrev pub number_returns : Cube W → List (Said W)
  number_returns cube = map (λ n. back_if (Prim_.Proto n)) (returned_protocols cube.proto) ++ map (λ n. type_back (protocols_of cube.proto) n) (returned_types cube.icmp)

  pub returns_back : (cube : Cube W) → AllByRecursion (Does Action.Back) (returns_of cube)
  returns_back cube =
      each_append (Does Action.Back) (map (λ pattern. back_if (Prim_.InName pattern)) (returned_patterns cube.in_name)) _
      (all_back (λ pattern. back_if (Prim_.InName pattern)) (λ pattern. goes_back (Prim_.InName pattern)) (returned_patterns cube.in_name))
      (each_append (Does Action.Back) (map (λ pattern. back_if (Prim_.OutName pattern)) (returned_patterns cube.out_name)) (number_returns cube)
      (all_back (λ pattern. back_if (Prim_.OutName pattern)) (λ pattern. goes_back (Prim_.OutName pattern)) (returned_patterns cube.out_name))
      (each_append (Does Action.Back) (map (λ n. back_if (Prim_.Proto n)) (returned_protocols cube.proto))
      (map (λ n. type_back (protocols_of cube.proto) n) (returned_types cube.icmp))
      (all_back (λ n. back_if (Prim_.Proto n)) (λ n. goes_back (Prim_.Proto n)) (returned_protocols cube.proto))
      (all_back (λ n. type_back (protocols_of cube.proto) n) (λ n. type_goes_back (protocols_of cube.proto) n) (returned_types cube.icmp))))

  -- the lines of a cube, with this action
  abbrev said_lines : Cube W → Action → List Choice → List (Said W)
  said_lines cube action lines = map (λ line. record { literals = line_literals cube line; action = action }) lines

  pub lines_do : (cube : Cube W) (action : Action) (lines : List Choice) → AllByRecursion (Does action) (said_lines cube action lines)
  lines_do cube action [] = tt
  lines_do cube action (line ∷ lines) = (record { does = refl; known = line_known W cube line }, lines_do cube action lines)

module _ {W : ℕ} (dump : Dump (Prim_ W)) (p : Packet) (m : Meaning) (policy : Verdict) where
  abbrev hit : Said W → Bool
  hit = hits dump p m (Some policy)

  abbrev any_hit : List (Said W) → Bool
  any_hit = some_hit dump p m (Some policy)

  back_hits : {X : Type 0} (prim : X → Prim_ W) (test : X → Bool) → ((x : X) → holds_of (prim x) p ≡ test x) → (xs : List X) →
      any_hit (map (λ x. back_if (prim x)) xs) ≡ list_any test xs
  back_hits prim test says xs =
      any_map hit (λ x. back_if (prim x)) xs
      ∙ any_same (λ x. hit (back_if (prim x))) test xs (λ x. one_fact (holds_of {W = W}) p (prim x) ∙ says x)

  numbers_hit : (cube : Cube W) → any_hit (number_returns W cube)
      ≡ (list_any (λ n. p.proto == n) (returned_protocols cube.proto) || list_any (returns_type W p (protocols_of cube.proto)) (returned_types cube.icmp))
  numbers_hit cube =
      list_any-append hit (map (λ n. back_if (Prim_.Proto n)) (returned_protocols cube.proto)) (map (λ n. type_back (protocols_of cube.proto) n) (returned_types cube.icmp))
      ∙ (λ i. back_hits Prim_.Proto (λ n. p.proto == n) (λ x. refl) (returned_protocols cube.proto) i
      || any_map hit (λ n. type_back (protocols_of cube.proto) n) (returned_types cube.icmp) i)

  -- whether a return takes the packet
  pub returns_hit : (cube : Cube W) → any_hit (returns_of cube) ≡ returned W p cube
  returns_hit cube =
      list_any-append hit (map (λ pattern. back_if (Prim_.InName pattern)) (returned_patterns cube.in_name)) _
      ∙ (λ i. back_hits Prim_.InName (λ q. fits q p.in_name) (λ x. refl) (returned_patterns cube.in_name) i
      || (list_any-append hit (map (λ pattern. back_if (Prim_.OutName pattern)) (returned_patterns cube.out_name)) (number_returns W cube)
      ∙ (λ j. back_hits Prim_.OutName (λ q. fits q p.out_name) (λ x. refl) (returned_patterns cube.out_name) j
      || numbers_hit cube j)) i)

  lines_hit : (cube : Cube W) (action : Action) (lines : List Choice) →
      any_hit (said_lines W cube action lines) ≡ list_any (λ line. facts (holds_of {W = W}) p (line_literals cube line)) lines
  lines_hit cube action lines = any_map hit (λ line. record { literals = line_literals cube line; action = action }) lines

  -- what a rule's verdict ends in
  abbrev pub end_of : Bool → State
  end_of accept = Ended (verdict_of (Some accept) policy)

  verdict_leads : (c j : ℕ) (path : Path) (frames : List Frame) (accept : Bool) →
      Leads dump p m (Some policy) (act (Some policy) c j path frames (verdict_action accept)) (end_of accept)
  verdict_leads c j path frames true = (Ended Verdict.Accept, refl, (0, refl))
  verdict_leads c j path frames false = (Ended Verdict.Drop, refl, (0, refl))

  -- a rule's helper chain
  module _ (rule : SimpleRule W) (c : ℕ) (here : Chain (Prim_ W)) (at_c : slice_get dump.chains c ≡ Some here) (k : ℕ) (is : here.rules ≡ placed_from k (helper_rules rule))
      (path : Path) (f : Frame) where
    begins : RestAt here.rules 0 (placed_from k (helper_rules rule))
    begins i = let e : 0 + i ≡ i = omega arith in (λ j. slice_get (is j) (e j))

    -- what the returns take goes back
    pub helper_back : returned W p rule.cube ≡ true → Goes dump p m (Some policy) (At c 0 path (f ∷ [])) (At f.chain f.next f.path [])
    helper_back e =
        over_alike dump p m (Some policy) c here at_c path (f ∷ []) Action.Back (At f.chain f.next f.path []) (returns_of rule.cube) _ 0 k begins (returns_back W rule.cube)
        (λ h j. (At f.chain f.next f.path [], refl, (0, refl)))
        (λ h. absurd (let wrong : true ≡ false = sym (returns_hit rule.cube ∙ e) ∙ h in cc))

    -- all else has the verdict
    pub helper_verdict : returned W p rule.cube ≡ false → Goes dump p m (Some policy) (At c 0 path (f ∷ [])) (end_of rule.accept)
    helper_verdict e =
        over_alike dump p m (Some policy) c here at_c path (f ∷ []) Action.Back (end_of rule.accept) (returns_of rule.cube) _ 0 k begins (returns_back W rule.cube)
        (λ h. absurd (let wrong : false ≡ true = sym (returns_hit rule.cube ∙ e) ∙ h in cc))
        (λ h j l at. over_alike dump p m (Some policy) c here at_c path (f ∷ []) (verdict_action rule.accept) (end_of rule.accept)
        (record { literals = []; action = verdict_action rule.accept } ∷ []) [] j l at (record { does = refl; known = refl }, tt)
        (λ g i. verdict_leads c i path (f ∷ []) rule.accept)
        (λ g. absurd (let wrong : true ≡ false = g in cc)))

  -- what one of a cube's lines says
  abbrev pub passes : Cube W → Bool
  passes cube = list_any (λ line. facts (holds_of {W = W}) p (line_literals cube line)) (choices_of cube)

  -- whether one line can say the protocols and the types of messages
  abbrev are_plain : Cube W → Bool
  are_plain cube = are_plain_numbers (protocols_of cube.proto) && are_plain_numbers (types_of cube.icmp)

  no_returns : (cube : Cube W) → needs_helper cube ≡ false → returned W p cube ≡ false
  no_returns cube e =
      let all = not-false (is_plain_names cube.in_name && (is_plain_names cube.out_name && are_plain cube)) e in
      let first = and_parts (is_plain_names cube.in_name) (is_plain_names cube.out_name && are_plain cube) all in
      let rest = and_parts (is_plain_names cube.out_name) (are_plain cube) first.1 in
      let numbers = and_parts (are_plain_numbers (protocols_of cube.proto)) (are_plain_numbers (types_of cube.icmp)) rest.1 in
      (λ i. some_fits (if first.0 i then [] else cube.in_name.excluded) p.in_name
      || (some_fits (if rest.0 i then [] else cube.out_name.excluded) p.out_name
      || (list_any (λ n. p.proto == n) (if numbers.0 i then [] else lacking cube.proto)
      || list_any (returns_type W p (protocols_of cube.proto)) (if numbers.1 i then [] else lacking cube.icmp))))

  module _ (here : Chain (Prim_ W)) (at_0 : slice_get dump.chains 0 ≡ Some here) (more : List (Said W)) (n k : ℕ) (rule : SimpleRule W) where
    -- from the rules after these on the walk comes to the state
    abbrev GoesOn : State → Type 0
    GoesOn target = (j l : ℕ) → RestAt here.rules j (placed_from l more) → Goes dump p m (Some policy) (At 0 j [] []) target

    abbrev Stands : Action → Type 0
    Stands action = RestAt here.rules n (placed_from k (said_lines W rule.cube action (choices_of rule.cube) ++ more))

    miss_all : (action : Action) → Stands action → passes rule.cube ≡ false → (target : State) → GoesOn target → Goes dump p m (Some policy) (At 0 n [] []) target
    miss_all action at e target go =
        over_alike dump p m (Some policy) 0 here at_0 [] [] action target (said_lines W rule.cube action (choices_of rule.cube)) more n k at (lines_do W rule.cube action (choices_of rule.cube))
        (λ h. absurd (let wrong : false ≡ true = sym (lines_hit rule.cube action (choices_of rule.cube) ∙ e) ∙ h in cc))
        (λ h. go)

    hit_one : (action : Action) → Stands action → passes rule.cube ≡ true → (target : State) →
        ((j : ℕ) → Leads dump p m (Some policy) (act (Some policy) 0 j [] [] action) target) → Goes dump p m (Some policy) (At 0 n [] []) target
    hit_one action at e target leads =
        over_alike dump p m (Some policy) 0 here at_0 [] [] action target (said_lines W rule.cube action (choices_of rule.cube)) more n k at (lines_do W rule.cube action (choices_of rule.cube))
        (λ h. leads)
        (λ h. absurd (let wrong : true ≡ false = sym (lines_hit rule.cube action (choices_of rule.cube) ∙ e) ∙ h in cc))

    pub plain_hit : Stands (verdict_action rule.accept) → passes rule.cube ≡ true → Goes dump p m (Some policy) (At 0 n [] []) (end_of rule.accept)
    plain_hit at e = hit_one (verdict_action rule.accept) at e (end_of rule.accept) (λ j. verdict_leads 0 j [] [] rule.accept)

    module _ (c : ℕ) (there : Chain (Prim_ W)) (at_c : slice_get dump.chains c ≡ Some there) (l : ℕ) (is : there.rules ≡ placed_from l (helper_rules rule)) where
      abbrev frame : ℕ → Frame
      frame j = record { chain = 0; next = j + 1; path = [] }

      abbrev called : ℕ → State
      called j = At c 0 (record { chain = 0; rule = j } ∷ []) (frame j ∷ [])

      pub helped_hit : Stands (Action.Call c) → passes rule.cube ≡ true → returned W p rule.cube ≡ false → Goes dump p m (Some policy) (At 0 n [] []) (end_of rule.accept)
      helped_hit at e none = hit_one (Action.Call c) at e (end_of rule.accept)
          (λ j. (called j, refl, helper_verdict rule c there at_c l is (record { chain = 0; rule = j } ∷ []) (frame j) none))

      pub helped_back : Stands (Action.Call c) → returned W p rule.cube ≡ true → (target : State) → GoesOn target → Goes dump p m (Some policy) (At 0 n [] []) target
      helped_back at e target go =
          over_passing dump p m (Some policy) 0 here at_0 [] [] (Action.Call c) target (said_lines W rule.cube (Action.Call c) (choices_of rule.cube)) more n k at
          (lines_do W rule.cube (Action.Call c) (choices_of rule.cube))
          (λ j. (called j, refl, helper_back rule c there at_c l is (record { chain = 0; rule = j } ∷ []) (frame j) e)) go

      helped_by : (r q : Bool) → returned W p rule.cube ≡ r → passes rule.cube ≡ q → (q && not r) ≡ false → Stands (Action.Call c) →
          (target : State) → GoesOn target → Goes dump p m (Some policy) (At 0 n [] []) target
      helped_by true q e f none at target go = helped_back at e target go
      helped_by false true e f none at target go = absurd (let wrong : true ≡ false = none in cc)
      helped_by false false e f none at target go = miss_all (Action.Call c) at f target go

      pub helped_miss : Stands (Action.Call c) → (passes rule.cube && not (returned W p rule.cube)) ≡ false → (target : State) → GoesOn target →
          Goes dump p m (Some policy) (At 0 n [] []) target
      helped_miss at e target go = helped_by (returned W p rule.cube) (passes rule.cube) refl refl e at target go

  module _ (valid : IsValid W p) (ports : (rs : List Range) → IsSet 16 rs → CoverPorts rs) (flags : (bits : ℕ) → CoverFlags bits)
      (here : Chain (Prim_ W)) (at_0 : slice_get dump.chains 0 ≡ Some here) where
    meets : (cube : Cube W) → HasSets cube → IsRegular cube → (passes cube && not (returned W p cube)) ≡ holds_cube cube p
    meets cube sets regular =
        cube_meets W p cube valid regular (ports cube.sport sets.sports).whole (ports cube.dport sets.dports).whole (flags cube.flags)

    -- the walk from the rule `n` of the asked chain on, where it says these rules
    abbrev Answers : List (SimpleRule W) → Type 0
    Answers rules = (next n k l : ℕ) → RestAt dump.chains next (helper_chains_from l (helpers_of (helped_from next rules))) →
        RestAt here.rules n (placed_from k (flat_map asked_rules (helped_from next rules))) →
        Goes dump p m (Some policy) (At 0 n [] []) (Ended (verdict_of (first_of rules p) policy))

    module _ (rule : SimpleRule W) (rules : List (SimpleRule W)) (sets : HasSets rule.cube) (regular : IsRegular rule.cube) (rest : Answers rules)
        (next n k l : ℕ) where
      abbrev end_by : Bool → State
      end_by h = Ended (verdict_of (if h then Some rule.accept else first_of rules p) policy)

      plain_by : (h : Bool) → holds_cube rule.cube p ≡ h → needs_helper rule.cube ≡ false →
          RestAt dump.chains next (helper_chains_from l (helpers_of (helped_from next rules))) →
          RestAt here.rules n (placed_from k (said_lines W rule.cube (verdict_action rule.accept) (choices_of rule.cube) ++ flat_map asked_rules (helped_from next rules))) →
          Goes dump p m (Some policy) (At 0 n [] []) (end_by h)
      plain_by true e plain chains at =
          plain_hit here at_0 (flat_map asked_rules (helped_from next rules)) n k rule at
          (and_parts (passes rule.cube) (not (returned W p rule.cube)) (meets rule.cube sets regular ∙ e)).0
      plain_by false e plain chains at =
          miss_all here at_0 (flat_map asked_rules (helped_from next rules)) n k rule (verdict_action rule.accept) at
          (sym (and_true (passes rule.cube)) ∙ sym (ap (λ r. passes rule.cube && not r) (no_returns rule.cube plain)) ∙ meets rule.cube sets regular ∙ e)
          (end_by false) (λ j i go. rest next j i l chains go)

      helped_either : (h : Bool) → holds_cube rule.cube p ≡ h →
          RestAt dump.chains next (record { name = helper_name next; policy = None; rules = placed_from l (helper_rules rule) }
          ∷ helper_chains_from (l + length (helper_rules rule)) (helpers_of (helped_from (next + 1) rules))) →
          RestAt here.rules n (placed_from k (said_lines W rule.cube (Action.Call next) (choices_of rule.cube) ++ flat_map asked_rules (helped_from (next + 1) rules))) →
          Goes dump p m (Some policy) (At 0 n [] []) (end_by h)
      helped_either true e chains at =
          let both = and_parts (passes rule.cube) (not (returned W p rule.cube)) (meets rule.cube sets regular ∙ e) in
          helped_hit here at_0 (flat_map asked_rules (helped_from (next + 1) rules)) n k rule next
          (record { name = helper_name next; policy = None; rules = placed_from l (helper_rules rule) }) (rest_first dump.chains next _ _ chains) l refl at
          both.0 (not-true (returned W p rule.cube) both.1)
      helped_either false e chains at =
          helped_miss here at_0 (flat_map asked_rules (helped_from (next + 1) rules)) n k rule next
          (record { name = helper_name next; policy = None; rules = placed_from l (helper_rules rule) }) (rest_first dump.chains next _ _ chains) l refl at
          (meets rule.cube sets regular ∙ e) (end_by false)
          (λ j i go. rest (next + 1) j i (l + length (helper_rules rule)) (rest_next dump.chains next _ _ chains) go)

      rule_by : (b : Bool) → needs_helper rule.cube ≡ b →
          RestAt dump.chains next (helper_chains_from l (helpers_of
          (if b then record { rule = rule; helper = Some next } ∷ helped_from (next + 1) rules else record { rule = rule; helper = None } ∷ helped_from next rules))) →
          RestAt here.rules n (placed_from k (flat_map asked_rules
          (if b then record { rule = rule; helper = Some next } ∷ helped_from (next + 1) rules else record { rule = rule; helper = None } ∷ helped_from next rules))) →
          Goes dump p m (Some policy) (At 0 n [] []) (Ended (verdict_of (first_of (rule ∷ rules) p) policy))
      rule_by true e chains at = helped_either (holds_cube rule.cube p) refl chains at
      rule_by false e chains at = plain_by (holds_cube rule.cube p) refl e chains at

    pub answers : (rules : List (SimpleRule W)) → EachCube HasSets rules → EachCube IsRegular rules → Answers rules
    answers [] sets regular next n k l chains at =
        one_step dump p m (Some policy) (At 0 n [] []) (Ended policy) (Ended policy) past (0, refl)
      where
        past : step holds_of dump p m (Some policy) (At 0 n [] []) ≡ Some (Ended policy)
        past =
            let e : n ≡ n + 0 = omega arith in
            let none : slice_get here.rules n ≡ None = ap (slice_get here.rules) e ∙ at 0 in
            rw (at_0, none) refl
    answers (rule ∷ rules) sets regular next n k l chains at =
        rule_by rule rules sets.0 regular.0 (answers rules sets.1 regular.1) next n k l (needs_helper rule.cube) refl chains at
