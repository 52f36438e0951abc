-- The literal of an option that needs no module is that of this option.
use Rattle.std.proofs.Common.{◌≡◌, ◌∙◌, ℕ, Bool, true, false, List, [], ◌∷◌, sym, subst, codes, inl, inr}
use Rattle.std.specs.Prelude.{MatchBool}
use Rattle.std.specs.Str.{bytes_eq}
use Rattle.std.proofs.lemmas.Slice.Eq.{bytes_eq-Decides}
use Rattle.fw_rule.specs.declared.rule.Lit.{Lit}
use Rattle.primitives.specs.declared.prim.Prim_.{Prim_}
use Rattle.dump_grammar.specs.Groups.{Base}
use Rattle.dump_grammar.specs.Lines.{Text}
use Rattle.dump_grammar.specs.Literals.{IsBaseLiteral, IsNameLiteral, IsNetLiteral, IsProtocolLiteral, text_of}

pub differ : (x y o : Text) → bytes_eq x y ≡ false → o ≡ x → o ≡ y → ⊥
differ x y o apart e f = let same : false ≡ true = sym apart ∙ (bytes_eq-Decides x y).1 (sym e ∙ f) in cc

module _ {W : ℕ} (Reads : Text → ℕ → Type 0) (negated : Bool) (o : Text) (arguments : List Text) (l : Lit (Prim_ W)) where
  -- one argument, and what is so of it
  abbrev pub OneArgument : (Text → Type 0) → Type 0
  OneArgument P = (text : Text) × ((arguments ≡ text ∷ []) × P text)

  -- what the literal is, by the option
  abbrev ByOption : Text → Type 0
  ByOption name =
      MatchBool (bytes_eq name (codes "-s")) (OneArgument (λ text. IsNetLiteral Reads Prim_.Src text negated (text_of (Base negated o arguments)) l))
      (MatchBool (bytes_eq name (codes "-d")) (OneArgument (λ text. IsNetLiteral Reads Prim_.Dst text negated (text_of (Base negated o arguments)) l))
      (MatchBool (bytes_eq name (codes "-i")) (OneArgument (λ text. IsNameLiteral Prim_.InName text negated l))
      (MatchBool (bytes_eq name (codes "-o")) (OneArgument (λ text. IsNameLiteral Prim_.OutName text negated l))
      (MatchBool (bytes_eq name (codes "-p")) (OneArgument (λ text. IsProtocolLiteral text negated (text_of (Base negated o arguments)) l))
      (l ≡ Lit.Unknown (text_of (Base negated o arguments)))))))

  by_option : IsBaseLiteral Reads negated o arguments l → ByOption o
  by_option (inl (text, (e, a, is))) = subst ByOption (sym e) (text, (a, is))
  by_option (inr (inl (text, (e, a, is)))) = subst ByOption (sym e) (text, (a, is))
  by_option (inr (inr (inl (text, (e, a, is))))) = subst ByOption (sym e) (text, (a, is))
  by_option (inr (inr (inr (inl (text, (e, a, is)))))) = subst ByOption (sym e) (text, (a, is))
  by_option (inr (inr (inr (inr (inl (text, (e, a, is))))))) = subst ByOption (sym e) (text, (a, is))
  by_option (inr (inr (inr (inr (inr (e, is)))))) = subst ByOption (sym e) is

  pub source_only : o ≡ codes "-s" → IsBaseLiteral Reads negated o arguments l
      → OneArgument (λ text. IsNetLiteral Reads Prim_.Src text negated (text_of (Base negated o arguments)) l)
  source_only e is = subst ByOption e (by_option is)

  pub destination_only : o ≡ codes "-d" → IsBaseLiteral Reads negated o arguments l
      → OneArgument (λ text. IsNetLiteral Reads Prim_.Dst text negated (text_of (Base negated o arguments)) l)
  destination_only e is = subst ByOption e (by_option is)

  pub input_only : o ≡ codes "-i" → IsBaseLiteral Reads negated o arguments l → OneArgument (λ text. IsNameLiteral Prim_.InName text negated l)
  input_only e is = subst ByOption e (by_option is)

  pub output_only : o ≡ codes "-o" → IsBaseLiteral Reads negated o arguments l → OneArgument (λ text. IsNameLiteral Prim_.OutName text negated l)
  output_only e is = subst ByOption e (by_option is)

  pub protocol_only : o ≡ codes "-p" → IsBaseLiteral Reads negated o arguments l
      → OneArgument (λ text. IsProtocolLiteral text negated (text_of (Base negated o arguments)) l)
  protocol_only e is = subst ByOption e (by_option is)

  pub fragment_only : o ≡ codes "-f" → IsBaseLiteral Reads negated o arguments l → l ≡ Lit.Unknown (text_of (Base negated o arguments))
  fragment_only e is = subst ByOption e (by_option is)

pub same_only : (texts : List Text) (a b : Text) → texts ≡ a ∷ [] → texts ≡ b ∷ [] → a ≡ b
same_only texts a b e f = let h : a ∷ [] ≡ b ∷ [] = sym e ∙ f in cc

-- where the one argument has no literal of this option, there is none
module _ {W : ℕ} (Reads : Text → ℕ → Type 0) (negated : Bool) (o : Text) (arguments : List Text) (text : Text) where
  pub no_source : o ≡ codes "-s" → arguments ≡ text ∷ [] → ((l : Lit (Prim_ W)) → IsNetLiteral Reads Prim_.Src text negated (text_of (Base negated o arguments)) l → ⊥)
      → (l : Lit (Prim_ W)) → IsBaseLiteral Reads negated o arguments l → ⊥
  no_source e one none l is =
      let h = source_only Reads negated o arguments l e is in
      none l (subst (λ (t : Text). IsNetLiteral Reads Prim_.Src t negated (text_of (Base negated o arguments)) l) (same_only arguments h.0 text h.1.0 one) h.1.1)

  pub no_destination : o ≡ codes "-d" → arguments ≡ text ∷ [] → ((l : Lit (Prim_ W)) → IsNetLiteral Reads Prim_.Dst text negated (text_of (Base negated o arguments)) l → ⊥)
      → (l : Lit (Prim_ W)) → IsBaseLiteral Reads negated o arguments l → ⊥
  no_destination e one none l is =
      let h = destination_only Reads negated o arguments l e is in
      none l (subst (λ (t : Text). IsNetLiteral Reads Prim_.Dst t negated (text_of (Base negated o arguments)) l) (same_only arguments h.0 text h.1.0 one) h.1.1)

  pub no_input : o ≡ codes "-i" → arguments ≡ text ∷ [] → ((l : Lit (Prim_ W)) → IsNameLiteral Prim_.InName text negated l → ⊥)
      → (l : Lit (Prim_ W)) → IsBaseLiteral Reads negated o arguments l → ⊥
  no_input e one none l is =
      let h = input_only Reads negated o arguments l e is in
      none l (subst (λ (t : Text). IsNameLiteral Prim_.InName t negated l) (same_only arguments h.0 text h.1.0 one) h.1.1)

  pub no_output : o ≡ codes "-o" → arguments ≡ text ∷ [] → ((l : Lit (Prim_ W)) → IsNameLiteral Prim_.OutName text negated l → ⊥)
      → (l : Lit (Prim_ W)) → IsBaseLiteral Reads negated o arguments l → ⊥
  no_output e one none l is =
      let h = output_only Reads negated o arguments l e is in
      none l (subst (λ (t : Text). IsNameLiteral Prim_.OutName t negated l) (same_only arguments h.0 text h.1.0 one) h.1.1)

  pub no_protocol : o ≡ codes "-p" → arguments ≡ text ∷ [] → ((l : Lit (Prim_ W)) → IsProtocolLiteral text negated (text_of (Base negated o arguments)) l → ⊥)
      → (l : Lit (Prim_ W)) → IsBaseLiteral Reads negated o arguments l → ⊥
  no_protocol e one none l is =
      let h = protocol_only Reads negated o arguments l e is in
      none l (subst (λ (t : Text). IsProtocolLiteral t negated (text_of (Base negated o arguments)) l) (same_only arguments h.0 text h.1.0 one) h.1.1)
