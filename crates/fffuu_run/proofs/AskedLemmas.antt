-- The chain that was asked about is there, with its name and a policy.
use Rattle.std.proofs.Common.{◌≡◌, ◌∙◌, ◌<◌, ℕ, Bool, true, List, [], ◌∷◌, Option, Some, None, refl, length, subst, sym, slice_get, get_or, is_some, position}
use Rattle.std.specs.Str.{bytes_eq}
use Rattle.std.proofs.lemmas.List.Quantifiers.{position-Some}
use Rattle.std.proofs.lemmas.Option.{get_or_from_slice_get}
use Rattle.std.proofs.lemmas.Slice.Eq.{bytes_eq-Decides}
use Rattle.basics.proofs.Truths.{both_true}
use Rattle.fw_rule.specs.declared.rule.Verdict.{Verdict}
use Rattle.fw_rule.specs.declared.rule.Chain.{Chain}
use Rattle.fw_rule.specs.declared.rule.Dump.{Dump}
use Rattle.fw_rule.specs.Walk.{policy_of}
use Rattle.fw_rule.proofs.Ends.{found_at, policy_is}
use Rattle.fffuu_run.specs.Headline.{IsChain}
use Rattle.fffuu_run.specs.Questions.{asked_chain, is_asked}
use Rattle.fffuu_run.proofs.Options.{none_or_some}

some_policy : (o : Option Verdict) → is_some o ≡ true → (v : Verdict) × (o ≡ Some v)
some_policy (Some v) is = (v, refl)
some_policy None is = absurd (cc)

position_below : {X : Type 0} (p : X → Bool) (xs : List X) (i : ℕ) → position p xs ≡ Some i → i < length xs
position_below p [] i is = absurd (cc)
position_below p (x ∷ xs) i is = (position-Some p (x ∷ xs) i x is).0

module _ {P : Type 0} (dump : Dump P) (name : List ℕ) (chain : ℕ) (is : asked_chain name dump ≡ Some chain) where
  asked_there : (here : Chain P) × (v : Verdict) × (slice_get dump.chains chain ≡ Some here) × (here.policy ≡ Some v) × (here.name ≡ name)
  asked_there =
      let (here, at) = found_at dump.chains chain (position_below (is_asked name) dump.chains chain is) in
      let tested = (position-Some (is_asked name) dump.chains chain here is).1 in
      let same : get_or dump.chains chain here ≡ here = get_or_from_slice_get dump.chains chain here here at in
      let asks : is_asked name here ≡ true = subst (λ (h : Chain P). is_asked name h ≡ true) same tested in
      let (has, named) = both_true (is_some here.policy) (bytes_eq here.name name) asks in
      let (v, policy) = some_policy here.policy has in
      (here, v, at, policy, (bytes_eq-Decides here.name name).0 named)

  pub has_policy : policy_of dump chain ≡ None → ⊥
  has_policy none =
      let (here, v, at, policy, named) = asked_there in
      none_or_some (policy_of dump chain) v none (policy_is dump chain here at ∙ policy)

  pub chain_is : (v : Verdict) → policy_of dump chain ≡ Some v → IsChain dump chain name v
  chain_is v is =
      let (here, w, at, policy, named) = asked_there in
      (here, at, named, sym (policy_is dump chain here at) ∙ is)
