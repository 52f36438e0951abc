-- What a walk doesn't ask for doesn't matter.
use Rattle.std.specs.Prelude.{ℕ, ◌≡◌, Bool, true, false, List, [], ◌∷◌, ◌++◌, Option, Some, slice_get, refl}
use Rattle.std.proofs.Common.{subst, sym, ap, ◌∙◌, true≢false}
use Rattle.std.specs.List.{list_any}
use Rattle.std.proofs.lemmas.List.{map-id}
use Rattle.std.proofs.lemmas.List.Folds.{list_any_at}
use Rattle.std.proofs.lemmas.Option.{option_and_then_some, slice_get_within, get_or_from_slice_get}
use Rattle.fw_rule.specs.declared.rule.Verdict.{Verdict}
use Rattle.fw_rule.specs.declared.rule.Verdict.TheVariants.{Accept}
use Rattle.fw_rule.specs.declared.rule.Lit.{Lit}
use Rattle.fw_rule.specs.declared.rule.Rule.{Rule}
use Rattle.fw_rule.specs.declared.rule.Chain.{Chain}
use Rattle.fw_rule.specs.declared.rule.Dump.{Dump}
use Rattle.fw_rule.specs.declared.rule.Place.{Place}
use Rattle.fw_rule.specs.Walk.{Path, Meaning, State, At, Ended, Frame, policy_of, step, after, Walks, is_unknown, RuleOf, Reaches, Here}
use Rattle.fw_rule.proofs.Ends.{contains_at, append}
use Rattle.fw_laws.specs.Shape.{rule_at}
use Rattle.fw_laws.specs.Places.{Asks, OthersDontMatter}
use Rattle.fw_laws.specs.Known.{KnownAlone, HasOneWalk, WalkIsMay, WalkIsMust}
use Rattle.fw_laws.proofs.Alike.{same_after}
use Rattle.fw_laws.proofs.Literals.{HoldAlike, match_alike}
use Rattle.fw_laws.proofs.Moves.{Move, On, Home, Done, Into, Away, move, along}

module _ {P Packet : Type 0} (holds : P → Packet → Bool) (dump : Dump P) (p : Packet) where
  pub others_dont_matter : OthersDontMatter holds dump p
  others_dont_matter m w asked agree k = same_after holds dump dump p p m w (policy_of dump asked) refl k (At asked 0 [] []) (λ j c n path frames l e a b at_a at_b.
      let same : a ≡ b = cc in
      let below : Path = path ++ record { chain = c; rule = n } ∷ [] in
      match_alike holds p p m w below (λ lit. lit) a b (ap (λ (x : Rule P). x.lits) (sym same) ∙ sym (map-id a.lits)) (λ i lit q. by_literal j c n path frames e a at_a i lit q))
    where
      by_literal : (j c n : ℕ) (path : Path) (frames : List Frame) → after holds dump p m (policy_of dump asked) j (At asked 0 [] []) ≡ Some (At c n path frames) → (a : Rule P) → rule_at dump c n ≡ Some a →
          (i : ℕ) (lit : Lit P) → slice_get a.lits i ≡ Some lit → HoldAlike holds p p m w (path ++ record { chain = c; rule = n } ∷ []) (λ x. x) i lit
      by_literal j c n path frames e a at i (Lit.Known neg expr) q = refl
      by_literal j c n path frames e a at i (Lit.Unknown text) q = agree (record { steps = path ++ record { chain = c; rule = n } ∷ []; lit = i }) (record {
        count = j;
        visit = record { chain = c; next = n; calls = path; frames = frames; stands = e; steps = refl };
        rule = a;
        text = text;
        at = at;
        unknown = q;
      })

-- chains that calls and gotos lead to
module _ {P : Type 0} (dump : Dump P) (asked : ℕ) where
  abbrev EachReached : List Frame → Type 0
  EachReached [] = Unit {0}
  EachReached (f ∷ frames) = Reaches dump asked f.chain × EachReached frames

  abbrev ReachedAt : State → Type 0
  ReachedAt (At c next path frames) = Reaches dump asked c × EachReached frames
  ReachedAt (Ended v) = Unit {0}

  by_move : (c next : ℕ) (path : Path) (frames : List Frame) (t : State) → ReachedAt (At c next path frames) → Move dump c next path frames t → ReachedAt t
  by_move c next path frames t h (On e) = subst ReachedAt (sym e) h
  by_move c next path frames t h (Home f rest q e) =
      let g : EachReached (f ∷ rest) = subst EachReached q h.1 in subst ReachedAt (sym e) g
  by_move c next path frames t h (Done v e) = subst ReachedAt (sym e) tt
  by_move c next path frames t h (Into k q e) = subst ReachedAt (sym e) (append dump h.0 q, h)
  by_move c next path frames t h (Away k q e) = subst ReachedAt (sym e) (append dump h.0 q, h.1)

  module _ {Packet : Type 0} (holds : P → Packet → Bool) (p : Packet) (m : Meaning) where
    keeps : (policy : Option Verdict) (s t : State) → ReachedAt s → step holds dump p m policy s ≡ Some t → ReachedAt t
    keeps policy (At c next path frames) t h e = by_move c next path frames t h (move dump c next path frames t holds p m policy e)
    keeps policy (Ended v) t h e = cc

    -- a walk stands in chains alone that calls and gotos lead to
    pub stands_reached : (policy : Option Verdict) (k c n : ℕ) (path : Path) (frames : List Frame) → after holds dump p m policy k (At asked 0 [] []) ≡ Some (At c n path frames) → Reaches dump asked c
    stands_reached policy k c n path frames e = (along holds dump p m policy ReachedAt (keeps policy) k (At asked 0 [] []) (At c n path frames) (Here, tt) e).0

  pub rule_of_at : (c n : ℕ) (rule : Rule P) → rule_at dump c n ≡ Some rule → RuleOf dump c rule
  rule_of_at c n rule e = option_and_then_some (λ (here : Chain P). slice_get here.rules n) (slice_get dump.chains c) rule e (λ here is h. (here, is, contains_at here.rules n rule h))

-- what stands in a list passes a test that no element passes: that can't be
passes_none : {X : Type 0} (test : X → Bool) (xs : List X) (i : ℕ) (x : X) → slice_get xs i ≡ Some x → test x ≡ true → list_any test xs ≡ false → ⊥
passes_none test xs i x e t none = true≢false (sym (list_any_at test xs i x (slice_get_within xs i x e) (ap test (get_or_from_slice_get xs i x x e) ∙ t)) ∙ none)

module _ {P Packet : Type 0} (holds : P → Packet → Bool) (dump : Dump P) (asked : ℕ) (p : Packet) (known : KnownAlone dump asked) where
  asks_nothing : (m : Meaning) (place : Place) → Asks holds dump p m asked place → ⊥
  asks_nothing m place a = passes_none is_unknown a.rule.lits place.lit (Lit.Unknown a.text) a.unknown refl
      (known a.visit.chain a.rule (stands_reached dump asked holds p m (policy_of dump asked) a.count a.visit.chain a.visit.next a.visit.calls a.visit.frames a.visit.stands)
      (rule_of_at dump asked a.visit.chain a.visit.next a.rule a.at))

  pub has_one_walk : HasOneWalk holds dump asked p
  has_one_walk m w k = others_dont_matter holds dump p m w asked (λ place a. absurd (asks_nothing m place a)) k

  under_other : (m w : Meaning) → Walks holds dump p m asked Accept → Walks holds dump p w asked Accept
  under_other m w h = (h.0, has_one_walk w m h.0 ∙ h.1)

  pub walk_is_may : WalkIsMay holds dump asked p
  walk_is_may m = (λ h. (m, h), λ h. under_other h.0 m h.1)

  pub walk_is_must : WalkIsMust holds dump asked p
  walk_is_must m = (λ h w. under_other m w h, λ h. h m)
