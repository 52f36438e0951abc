-- A group of a line has one literal at most.
use Rattle.std.proofs.Common.{◌≡◌, ◌∙◌, ℕ, List, [], ◌∷◌, Bool, sym, ap, subst, inl, inr}
use Rattle.addr_text.specs.Nets.{HasOneNet}
use Rattle.addr_text.specs.declared.net.Net.{Net}
use Rattle.fw_rule.specs.declared.rule.Lit.{Lit}
use Rattle.interval_set.specs.Prefix.{prefix_range}
use Rattle.interval_set.specs.declared.set.Range.{Range}
use Rattle.match_expr.specs.declared.expr.Expr.{Expr}
use Rattle.match_expr.specs.declared.expr.Expr.TheVariants.{Prim}
use Rattle.name_set.specs.declared.pattern.Pattern.{Pattern}
use Rattle.primitives.specs.declared.prim.Prim_.{Prim_}
use Rattle.dump_grammar.specs.Groups.{Base}
use Rattle.dump_grammar.specs.Lines.{Text}
use Rattle.dump_grammar.specs.Literals.{IsBaseLiteral, IsNameLiteral, IsNetLiteral, IsPattern, IsProtocolLiteral, text_of}
use Rattle.dump_grammar.proofs.BaseLemmas.{destination_only, fragment_only, input_only, output_only, protocol_only, same_only, source_only}
use Rattle.dump_grammar.proofs.CounterLemmas.{one_last}
use Rattle.dump_grammar.proofs.ProtocolLemmas.{every_only}
use Rattle.primitives.proofs.WordLemmas.{proto_once}

pattern_once : (text : Text) (p q : Pattern) → IsPattern text p → IsPattern text q → p ≡ q
pattern_once text (Pattern.Prefix f) (Pattern.Prefix g) is as' = ap Pattern.Prefix (one_last f g 43 43 (sym is ∙ as')).0
pattern_once text (Pattern.Prefix f) (Pattern.Exact n) is as' = absurd (as'.1 f is)
pattern_once text (Pattern.Exact n) (Pattern.Prefix g) is as' = absurd (is.1 g as')
pattern_once text (Pattern.Exact n) (Pattern.Exact m) is as' = ap Pattern.Exact (sym is.0 ∙ as'.0)

module _ {W : ℕ} where
  name_once : (prim : Pattern → Prim_ W) (text : Text) (negated : Bool) (l m : Lit (Prim_ W)) → IsNameLiteral prim text negated l → IsNameLiteral prim text negated m → l ≡ m
  name_once prim text negated l m (p, (is, some, short, e)) (q, (as', some', short', f)) =
      e ∙ ap (λ (x : Pattern). Lit.Known negated (Prim (prim x))) (pattern_once text p q is as') ∙ sym f

  protocol_once : (text : Text) (negated : Bool) (unknown : Text) (l m : Lit (Prim_ W)) → IsProtocolLiteral text negated unknown l → IsProtocolLiteral text negated unknown m → l ≡ m
  protocol_once text negated unknown (Lit.Known neg d) (Lit.Known neg' e) (inl (every, off, n, x)) (inl (every', off', n', y)) =
      let mark : neg ≡ neg' = n ∙ sym n' in
      let expr : d ≡ e = x ∙ sym y in
      cc
  protocol_once text negated unknown (Lit.Known neg d) (Lit.Known neg' e) (inl (every, off, n, x)) (inr (k, (spells, some, n', y))) = absurd (every_only text k every some spells)
  protocol_once text negated unknown (Lit.Known neg d) (Lit.Known neg' e) (inr (k, (spells, some, n, x))) (inl (every, off, n', y)) = absurd (every_only text k every some spells)
  protocol_once text negated unknown (Lit.Known neg d) (Lit.Known neg' e) (inr (k, (spells, some, n, x))) (inr (k', (spells', some', n', y))) =
      let mark : neg ≡ neg' = n ∙ sym n' in
      let expr : d ≡ e = x ∙ ap (λ (q : ℕ). Prim (Prim_.Proto q)) (proto_once text k k' spells spells') ∙ sym y in
      cc
  protocol_once text negated unknown (Lit.Known neg d) (Lit.Unknown shown) (inl (every, off, n, x)) q = absurd (q.0 every)
  protocol_once text negated unknown (Lit.Known neg d) (Lit.Unknown shown) (inr (k, (spells, some, n, x))) q = absurd (q.1 k spells)
  protocol_once text negated unknown (Lit.Unknown shown) (Lit.Known neg e) p (inl (every, off, n, x)) = absurd (p.0 every)
  protocol_once text negated unknown (Lit.Unknown shown) (Lit.Known neg e) p (inr (k, (spells, some, n, x))) = absurd (p.1 k spells)
  protocol_once text negated unknown (Lit.Unknown shown) (Lit.Unknown other) p q = ap Lit.Unknown (p.2 ∙ sym q.2)

module _ {W : ℕ} (Reads : Text → ℕ → Type 0) (one_net : HasOneNet Reads W) where
  net_once : (prim : List Range → Prim_ W) (text : Text) (negated : Bool) (unknown : Text) (l m : Lit (Prim_ W)) → IsNetLiteral Reads prim text negated unknown l
      → IsNetLiteral Reads prim text negated unknown m → l ≡ m
  net_once prim text negated unknown (Lit.Known neg d) (Lit.Known neg' e) (value, len, (is, n, x)) (value', len', (as', n', y)) =
      let same = one_net text (Net.Prefix value len) (Net.Prefix value' len') is as' in
      let number : value ≡ value' = cc in
      let length : len ≡ len' = cc in
      let mark : neg ≡ neg' = n ∙ sym n' in
      let expr : d ≡ e = x ∙ ap (λ (q : ℕ). Prim (prim (prefix_range W q len ∷ []))) number ∙ ap (λ (q : ℕ). Prim (prim (prefix_range W value' q ∷ []))) length ∙ sym y in
      ap (λ (b : Bool). Lit.Known b d) mark ∙ ap (λ (q : Expr (Prim_ W)). Lit.Known neg' q) expr
  net_once prim text negated unknown (Lit.Known neg d) (Lit.Unknown shown) (value, len, (is, n, x)) q =
      let same = one_net text (Net.Prefix value len) Net.Masked is q.0 in cc
  net_once prim text negated unknown (Lit.Unknown shown) (Lit.Known neg e) p (value, len, (is, n, x)) =
      let same = one_net text Net.Masked (Net.Prefix value len) p.0 is in cc
  net_once prim text negated unknown (Lit.Unknown shown) (Lit.Unknown other) p q = ap Lit.Unknown (p.1 ∙ sym q.1)

  pub base_once : (negated : Bool) (o : Text) (arguments : List Text) (l m : Lit (Prim_ W)) → IsBaseLiteral Reads negated o arguments l → IsBaseLiteral Reads negated o arguments m → l ≡ m
  base_once negated o arguments l m (inl (text, (e, a, is))) q =
      let h = source_only Reads negated o arguments m e q in
      net_once Prim_.Src text negated (text_of (Base negated o arguments)) l m is (subst (λ (t : Text). IsNetLiteral Reads Prim_.Src t negated (text_of (Base negated o arguments)) m) (same_only arguments h.0 text h.1.0 a) h.1.1)
  base_once negated o arguments l m (inr (inl (text, (e, a, is)))) q =
      let h = destination_only Reads negated o arguments m e q in
      net_once Prim_.Dst text negated (text_of (Base negated o arguments)) l m is (subst (λ (t : Text). IsNetLiteral Reads Prim_.Dst t negated (text_of (Base negated o arguments)) m) (same_only arguments h.0 text h.1.0 a) h.1.1)
  base_once negated o arguments l m (inr (inr (inl (text, (e, a, is))))) q =
      let h = input_only Reads negated o arguments m e q in
      name_once Prim_.InName text negated l m is (subst (λ (t : Text). IsNameLiteral Prim_.InName t negated m) (same_only arguments h.0 text h.1.0 a) h.1.1)
  base_once negated o arguments l m (inr (inr (inr (inl (text, (e, a, is)))))) q =
      let h = output_only Reads negated o arguments m e q in
      name_once Prim_.OutName text negated l m is (subst (λ (t : Text). IsNameLiteral Prim_.OutName t negated m) (same_only arguments h.0 text h.1.0 a) h.1.1)
  base_once negated o arguments l m (inr (inr (inr (inr (inl (text, (e, a, is))))))) q =
      let h = protocol_only Reads negated o arguments m e q in
      protocol_once text negated (text_of (Base negated o arguments)) l m is (subst (λ (t : Text). IsProtocolLiteral t negated (text_of (Base negated o arguments)) m) (same_only arguments h.0 text h.1.0 a) h.1.1)
  base_once negated o arguments l m (inr (inr (inr (inr (inr (e, is)))))) q = is ∙ sym (fragment_only Reads negated o arguments m e q)
