-- What a line and the returns of a helper chain say of the type of a message.
use Rattle.std.proofs.Common.{◌≡◌, ℕ, ◌<◌, ◌==◌, ◌⊎◌, inl, inr, List, [], ◌∷◌, ◌++◌, Bool, true, false, not, ◌&&◌, refl, sym, subst, ◌∙◌, ap, arith}
use Rattle.std.specs.Prelude.{if◌then◌else◌}
use Rattle.std.specs.List.{list_any}
use Rattle.std.proofs.lemmas.Bool.Decides.{nat_tests}
use Rattle.interval_set.specs.declared.set.Range.{Range}
use Rattle.interval_set.specs.Numbers.{has}
use Rattle.primitives.specs.declared.prim.Packet.{Packet}
use Rattle.primitives.specs.declared.prim.Prim_.{Prim_}
use Rattle.primitives.specs.Holds.{holds_of}
use Rattle.primitives.specs.Messages.{HasTypes}
use Rattle.fw_rule.specs.declared.rule.Lit.{Lit}
use Rattle.fw_rule.specs.Walk.{doubt_in}
use Rattle.box_norm.specs.Pieces.{single}
use Rattle.box_norm.specs.Regular.{HasTypesAlone, full}
use Rattle.dump_print.specs.declared.numbers.Numbers.{Numbers}
use Rattle.dump_print.specs.Helpers.{returned_types}
use Rattle.dump_print.specs.Numbers.{protocols_of, types_of}
use Rattle.printed_filter.specs.Literals.{message, number_literals, protocol_literals, type_literals, yes}
use Rattle.printed_filter.proofs.Facts.{facts, facts-append, one_fact}
use Rattle.printed_filter.proofs.NumberFacts.{numbers_known, numbers_meet}
use Rattle.printed_filter.proofs.PortFacts.{same_number}
use Rattle.printed_filter.proofs.Truths.{and_true, any_same}

alone : (n : ℕ) → HasTypes n → protocols_of (single n) ≡ Numbers.Only n
alone n (inl e) = subst (λ k. protocols_of (single k) ≡ Numbers.Only k) (sym e) refl
alone n (inr e) = subst (λ k. protocols_of (single k) ≡ Numbers.Only k) (sym e) refl

module _ {W : ℕ} where
  -- where the messages of a protocol have types, the literals ask for a message of that protocol
  said : (n : ℕ) (types : Numbers) → HasTypes n → type_literals {W = W} (Numbers.Only n) types ≡ number_literals (message n) types
  said n types (inl e) = subst (λ k. type_literals {W = W} (Numbers.Only k) types ≡ number_literals (message k) types) (sym e) refl
  said n types (inr e) = subst (λ k. type_literals {W = W} (Numbers.Only k) types ≡ number_literals (message k) types) (sym e) refl

module _ (W : ℕ) (p : Packet) where
  abbrev told : List (Lit (Prim_ W)) → Bool
  told = facts (holds_of {W = W}) p

  -- whether the packet is a message of this type, as a return says it
  abbrev pub returns_type : Numbers → ℕ → Bool
  returns_type form kind = told (protocol_literals form ++ type_literals form (Numbers.Only kind))

  every_by : (x y : Bool) → told (if x then [] else if y then [] else []) ≡ true
  every_by true y = refl
  every_by false true = refl
  every_by false false = refl

  -- a line that leaves the types open has no literal of them
  every : (form : Numbers) → told (type_literals form Numbers.Every) ≡ true
  every Numbers.Every = refl
  every (Numbers.Only n) = every_by (n == 1) (n == 58)
  every (Numbers.AllBut n) = refl
  every Numbers.Others = refl

  module _ (small : p.icmp < 256) where
    in_full : has (full 8) p.icmp ≡ true
    in_full = grind (arith, nat_tests)

    module _ (n : ℕ) (has_types : HasTypes n) (of : (p.proto == n) ≡ true) where
      message_says : (kind : ℕ) → holds_of (message {W = W} n kind) p ≡ (p.icmp == kind)
      message_says kind = ap (λ b. b && (p.icmp == kind)) of

      one_returns : (kind : ℕ) → returns_type (Numbers.Only n) kind ≡ (p.icmp == kind)
      one_returns kind =
          ap (λ (lits : List (Lit (Prim_ W))). told (yes (Prim_.Proto n) ∷ lits)) (said n (Numbers.Only kind) has_types)
          ∙ facts-append (holds_of {W = W}) p (yes (Prim_.Proto n) ∷ []) (yes (message n kind) ∷ [])
          ∙ (λ i. (one_fact (holds_of {W = W}) p (Prim_.Proto n) ∙ of) i && (one_fact (holds_of {W = W}) p (message n kind) ∙ message_says kind) i)

      of_one : (types : List Range) →
          (told (type_literals (Numbers.Only n) (types_of types)) && not (list_any (returns_type (Numbers.Only n)) (returned_types types))) ≡ has types p.icmp
      of_one types =
          (λ i. told (said n (types_of types) has_types i)
          && not (any_same (returns_type (Numbers.Only n)) (λ kind. p.icmp == kind) (returned_types types) one_returns i))
          ∙ numbers_meet p (message n) p.icmp message_says small 255 types

    -- what the line says and no return says is the set of types
    pub types_meet : (types protos : List Range) → (types ≡ full 8) ⊎ HasTypesAlone protos types → has protos p.proto ≡ true →
        (told (type_literals (protocols_of protos) (types_of types)) && not (list_any (returns_type (protocols_of protos)) (returned_types types)))
        ≡ has types p.icmp
    types_meet types protos (inl all) of =
        ap (λ z. told (type_literals (protocols_of protos) (types_of z)) && not (list_any (returns_type (protocols_of protos)) (returned_types z))) all
        ∙ and_true (told (type_literals (protocols_of protos) Numbers.Every)) ∙ every (protocols_of protos)
        ∙ sym (ap (λ (z : List Range). has z p.icmp) all ∙ in_full)
    types_meet types protos (inr h) of =
        let form : protocols_of protos ≡ Numbers.Only h.0.0 = ap protocols_of h.0.2 ∙ alone h.0.0 h.0.1 in
        let number : (p.proto == h.0.0) ≡ true = same_number h.0.0 p.proto (sym (ap (λ (z : List Range). has z p.proto) h.0.2) ∙ of) in
        ap (λ z. told (type_literals z (types_of types)) && not (list_any (returns_type z) (returned_types types))) form ∙ of_one h.0.0 h.0.1 number types

module _ (W : ℕ) where
  known_by : (n : ℕ) (types : Numbers) (x y : Bool) →
      doubt_in (if x then number_literals (message {W = W} n) types else if y then number_literals (message n) types else []) ≡ false
  known_by n types true y = numbers_known (message n) types
  known_by n types false true = numbers_known (message n) types
  known_by n types false false = refl

  pub types_known : (form types : Numbers) → doubt_in (type_literals {W = W} form types) ≡ false
  types_known Numbers.Every types = refl
  types_known (Numbers.Only n) types = known_by n types (n == 1) (n == 58)
  types_known (Numbers.AllBut n) types = refl
  types_known Numbers.Others types = refl
