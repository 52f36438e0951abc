-- What the chosen walk has come to before a rule of a chain.
use Rattle.std.specs.Prelude.{ℕ, ◌+◌, ◌-◌, ◌<◌, ◌≤◌, ◌≡◌, ◌^◌, Bool, true, false, List, [], ◌∷◌, ◌++◌, length, take, Option, None, Some, slice_get, get_or, is_some, refl}
use Rattle.std.proofs.Common.{arith, subst, sym, ap, ◌∙◌, append_assoc, append-nil, true≢false}
use Rattle.std.proofs.lemmas.List.{take_all, take-append-le, length-append}
use Rattle.std.proofs.lemmas.Option.{slice_get-get_or, slice_get_past}
use Rattle.fw_rule.specs.declared.rule.Verdict.{Verdict}
use Rattle.fw_rule.specs.declared.rule.Verdict.TheVariants.{Accept, Drop}
use Rattle.fw_rule.specs.declared.rule.Action.{Action}
use Rattle.fw_rule.specs.declared.rule.Rule.{Rule}
use Rattle.fw_rule.specs.declared.rule.Chain.{Chain}
use Rattle.fw_rule.specs.declared.rule.Dump.{Dump}
use Rattle.fw_rule.specs.declared.rule.Place.{Place}
use Rattle.fw_rule.specs.Walk.{Path, HasRoom, Calls, RuleOf, target_of}
use Rattle.fw_rule.proofs.Ends.{found_at, contains_at}
use Rattle.fw_rule.proofs.Turns.{chain_room, rule_room}
use Rattle.chain_graph.specs.Marks.{AreRulesOf}
use Rattle.explain.specs.declared.views.Sight.{Sight}
use Rattle.explain.specs.declared.views.View.{View}
use Rattle.explain.specs.Choices.{unknown_places}
use Rattle.explain.specs.inner.Reaching.{is_reached}
use Rattle.explain.specs.inner.Views.{Has, AreRight, Covers, IsSight}
use Rattle.explain.specs.inner.Choosing.{is_passed, ChoosesUpTo, ChoosesTo}
use Rattle.fw_laws.specs.Frames.{step_of}
use Rattle.explain.proofs.ChoosingLemmas.{up_to_start, up_to_end, up_to_next, up_to_outcome, up_to_passing, up_to_away, up_to_verdict, up_to_return}

-- an outcome that is a verdict, and one that isn't
pub some_of : (o : Option Verdict) → is_some o ≡ true → (w : Verdict) × (o ≡ Some w)
some_of (Some w) e = (w, refl)
some_of None e = absurd (true≢false (sym e))

pub none_of : (o : Option Verdict) → is_some o ≡ false → o ≡ None
none_of (Some w) e = absurd (true≢false e)
none_of None e = refl

-- the path without its last step
pub popped : {X : Type 0} (xs ys zs : List X) (x : X) (n : ℕ) → ys ≡ xs ++ x ∷ [] → zs ≡ take (n - 1) ys → n ≡ length ys → zs ≡ xs
popped xs ys zs x n e f h =
    let long : length ys ≡ length xs + 1 = ap length e ∙ length-append xs (x ∷ []) in
    let short : n - 1 ≡ length xs = omega (arith, h, long) in
    let within : length xs ≤ length xs = omega arith in
    f ∙ ap (λ (k : ℕ). take k ys) short ∙ ap (take (length xs)) e ∙ take-append-le (length xs) xs (x ∷ []) within ∙ take_all (length xs) xs within

-- the rules of a chain that was read
module _ {P : Type 0} (dump : Dump P) (c : ℕ) (rules : List (Rule P)) (at : AreRulesOf dump c rules) (next : ℕ) where
  module _ (rule : Rule P) (inside : next < length rules) (is : rule ≡ get_or rules next rule) where
    pub rule_read : slice_get rules next ≡ Some rule
    rule_read = slice_get-get_or rules next rule inside ∙ ap (λ (z : Rule P). Some z) (sym is)

    pub rule_at : (here : Chain P) → slice_get dump.chains c ≡ Some here → slice_get here.rules next ≡ Some rule
    rule_at here e =
        let same : at.0 ≡ here = cc (at.1, e) in
        subst (λ (z : Chain P). slice_get z.rules next ≡ Some rule) same (subst (λ (z : List (Rule P)). slice_get z next ≡ Some rule) at.2 rule_read)

    pub rule_of : RuleOf dump c rule
    rule_of = (at.0, at.1, contains_at (at.0).rules next rule (rule_at at.0 at.1))

    pub calls_of : (k : ℕ) → target_of rule.action ≡ Some k → Calls dump c k
    calls_of k a = (rule, rule_of, a)

    pub lits_fit : HasRoom dump → length rule.lits < 2 ^ 32
    lits_fit room = rule_room at.0 next rule (chain_room dump c at.0 at.1 room) (rule_at at.0 at.1)

  -- the rule of this number, read or not
  pub some_rule : next < length rules → (rule : Rule P) × ((here : Chain P) → slice_get dump.chains c ≡ Some here → slice_get here.rules next ≡ Some rule)
  some_rule h = let f = found_at rules next h in (
    f.0,
    λ here e. (let same : at.0 ≡ here = cc (at.1, e) in
        subst (λ (z : Chain P). slice_get z.rules next ≡ Some f.0) same (subst (λ (z : List (Rule P)). slice_get z next ≡ Some f.0) at.2 f.1)),
  )

  -- there are as many sights as rules
  pub sights_long : (views : List (Option View)) (sights : List Sight) → Covers dump views → (view : View) × Has views c view × (sights ≡ view.sights) → length sights ≡ length rules
  sights_long views sights covers has = ap length has.2 ∙ covers.sights c has.0 at.0 has.1 at.1 ∙ ap length (sym at.2)

  pub inside : (views : List (Option View)) (sights : List Sight) → Covers dump views → (view : View) × Has views c view × (sights ≡ view.sights) → next < length rules → next < length sights
  inside views sights covers has h = let e = sights_long views sights covers has in omega (arith, h, e)

  pub next_fits : next < length rules → HasRoom dump → next < 2 ^ 32
  next_fits h room = let r = (chain_room dump c at.0 at.1 room).0 in omega (arith, h, r, ap length at.2)

  pub past_at : length rules ≤ next → (here : Chain P) → slice_get dump.chains c ≡ Some here → slice_get here.rules next ≡ None
  past_at h here e =
      let same : at.0 ≡ here = cc (at.1, e) in
      let long : length here.rules ≤ next = omega (arith, h, ap length at.2, ap (λ (z : Chain P). length z.rules) same) in
      slice_get_past here.rules next long

module _ {P Packet : Type 0} (holds : P → Packet → Bool) (dump : Dump P) (views : List (Option View)) (c : ℕ) (start_path : Path) (past_end : Bool) (start : List Place) where
  pub record Going (next : ℕ) (path : Path) (places : List Place) : Type 0 where
    pub path_is : path ≡ start_path
    pub added : List Place
    pub places_is : places ≡ start ++ added
    pub chooses : (p : Packet) (v : Verdict) → AreRight holds dump p v views → ChoosesUpTo holds dump p v c next start_path past_end added

  -- the chain comes to the outcome
  abbrev pub Gone : Option Verdict → List Place → Type 0
  Gone o places = (added : List Place) × (places ≡ start ++ added) × ((p : Packet) (v : Verdict) → AreRight holds dump p v views → ChoosesTo holds dump p v c start_path past_end added o)

  pub going_first : Going 0 start_path start
  going_first = record { path_is = refl; added = []; places_is = sym (append-nil start); chooses = λ p v right. up_to_start holds dump p v c start_path past_end }

  module _ (next : ℕ) (path : Path) (places : List Place) (g : Going next path places) where
    pub gone_past : ((here : Chain P) → slice_get dump.chains c ≡ Some here → slice_get here.rules next ≡ None) → Gone None places
    gone_past past = (
      g.added ++ [],
      g.places_is ∙ ap (λ (z : List Place). start ++ z) (sym (append-nil g.added)),
      λ p v right. up_to_end holds dump p v c next start_path past_end g.added (g.chooses p v right) past,
    )

    module _ (sights : List Sight) (has : (view : View) × Has views c view × (sights ≡ view.sights)) (sight : Sight) (sight_is : slice_get sights next ≡ Some sight)
        (rule : Rule P) (at_rule : (here : Chain P) → slice_get dump.chains c ≡ Some here → slice_get here.rules next ≡ Some rule) where
      seen : (p : Packet) (v : Verdict) → AreRight holds dump p v views → IsSight holds dump p v c next sight
      seen p v right = (right c has.0 has.1).sights next sight (subst (λ (z : List Sight). slice_get z next ≡ Some sight) has.2 sight_is)

      abbrev passed : Bool
      passed = is_passed sight.matching (is_reached sight.behind past_end)

      pub going_over : passed ≡ true → Going (next + 1) path places
      going_over e = record {
        path_is = g.path_is;
        added = g.added;
        places_is = g.places_is;
        chooses = λ p v right. up_to_next holds dump p v c next start_path past_end g.added (g.chooses p v right) sight rule at_rule (seen p v right) e;
      }

      -- the rule is taken
      module _ (e : passed ≡ false) (below : Path) (below_is : below ≡ path ++ step_of c next ∷ []) (more : List Place) (more_is : more ≡ places ++ unknown_places below 0 rule.lits) where
        abbrev own : List Place
        own = unknown_places (start_path ++ step_of c next ∷ []) 0 rule.lits

        spot_is : below ≡ start_path ++ step_of c next ∷ []
        spot_is = below_is ∙ ap (λ (z : Path). z ++ step_of c next ∷ []) g.path_is

        more_are : more ≡ start ++ (g.added ++ own)
        more_are = more_is ∙ ap (λ (z : Path). places ++ unknown_places z 0 rule.lits) spot_is ∙ ap (λ (z : List Place). z ++ own) g.places_is ∙ append_assoc start g.added own

        pub gone_accepting : rule.action ≡ Action.Accept → Gone (Some Accept) more
        gone_accepting a = (
          g.added ++ own,
          more_are,
          λ p v right. up_to_outcome holds dump p v c next start_path past_end g.added (g.chooses p v right) sight rule at_rule (seen p v right) e (Some Accept) Action.Accept a (λ policy frames. refl),
        )

        pub gone_dropping : rule.action ≡ Action.Drop → Gone (Some Drop) more
        gone_dropping a = (
          g.added ++ own,
          more_are,
          λ p v right. up_to_outcome holds dump p v c next start_path past_end g.added (g.chooses p v right) sight rule at_rule (seen p v right) e (Some Drop) Action.Drop a (λ policy frames. refl),
        )

        pub gone_back : rule.action ≡ Action.Back → Gone None more
        gone_back a = (
          g.added ++ own,
          more_are,
          λ p v right. up_to_outcome holds dump p v c next start_path past_end g.added (g.chooses p v right) sight rule at_rule (seen p v right) e None Action.Back a (λ policy frames. refl),
        )

        pub going_through : rule.action ≡ Action.Pass → (popped : Path) → popped ≡ path → Going (next + 1) popped more
        going_through a popped popped_is = record {
          path_is = popped_is ∙ g.path_is;
          added = g.added ++ own;
          places_is = more_are;
          chooses = λ p v right. up_to_passing holds dump p v c next start_path past_end g.added (g.chooses p v right) sight rule at_rule (seen p v right) e a;
        }

        -- it goes to a chain
        pub gone_away : (k : ℕ) → rule.action ≡ Action.Goto k → (there : Chain P) → slice_get dump.chains k ≡ Some there → (o : Option Verdict) (all : List Place) →
            (added : List Place) × (all ≡ more ++ added) × ((p : Packet) (v : Verdict) → AreRight holds dump p v views → ChoosesTo holds dump p v k below past_end added o) → Gone o all
        gone_away k a there at_k o all inner = (
          g.added ++ own ++ inner.0,
          inner.1 ∙ ap (λ (z : List Place). z ++ inner.0) more_are ∙ append_assoc start (g.added ++ own) inner.0,
          λ p v right. up_to_away holds dump p v c next start_path past_end g.added (g.chooses p v right) sight rule at_rule (seen p v right) e k a below spot_is there at_k inner.0 o (inner.2 p v right),
        )

        -- it calls a chain
        module _ (k : ℕ) (a : rule.action ≡ Action.Call k) (there : Chain P) (at_k : slice_get dump.chains k ≡ Some there) (behind : Bool) (behind_is : behind ≡ is_reached sight.behind past_end)
            (o : Option Verdict) (all : List Place)
            (inner : (added : List Place) × (all ≡ more ++ added) × ((p : Packet) (v : Verdict) → AreRight holds dump p v views → ChoosesTo holds dump p v k below behind added o)) where
          all_are : all ≡ start ++ (g.added ++ own ++ inner.0)
          all_are = inner.1 ∙ ap (λ (z : List Place). z ++ inner.0) more_are ∙ append_assoc start (g.added ++ own) inner.0

          called : (p : Packet) (v : Verdict) → AreRight holds dump p v views → ChoosesTo holds dump p v k below (is_reached sight.behind past_end) inner.0 o
          called p v right = subst (λ (z : Bool). ChoosesTo holds dump p v k below z inner.0 o) behind_is (inner.2 p v right)

          pub gone_inside : (w : Verdict) → o ≡ Some w → Gone o all
          gone_inside w is = (
            g.added ++ own ++ inner.0,
            all_are,
            λ p v right. up_to_verdict holds dump p v c next start_path past_end g.added (g.chooses p v right) sight rule at_rule (seen p v right) e k a below spot_is there at_k inner.0 o (called p v right) w is,
          )

          pub going_behind : o ≡ None → (popped : Path) → popped ≡ path → Going (next + 1) popped all
          going_behind is popped popped_is = record {
            path_is = popped_is ∙ g.path_is;
            added = g.added ++ own ++ inner.0;
            places_is = all_are;
            chooses = λ p v right. up_to_return holds dump p v c next start_path past_end g.added (g.chooses p v right) sight rule at_rule (seen p v right) e k a below spot_is there at_k inner.0 o (called p v right) is;
          }
