-- An option says one thing of a packet at most.
use Rattle.std.proofs.Common.{◌≡◌, ◌∙◌, ℕ, List, [], ◌∷◌, Bool, true, Option, Some, None, ◌==◌, refl, sym, ap, subst, arith, codes, inl, inr, decimal}
use Rattle.std.proofs.lemmas.Fmt.{decimal_injective}
use Rattle.std.specs.List.{slice_split}
use Rattle.addr_text.specs.Nets.{HasOneRange, IsRangeText}
use Rattle.basics.specs.Parts.{Lacks}
use Rattle.basics.proofs.PartingLemmas.{lacks_none}
use Rattle.interval_set.specs.declared.set.Range.{Range}
use Rattle.interval_set.specs.Laws.{same_range}
use Rattle.match_expr.specs.declared.expr.Expr.{Expr}
use Rattle.match_expr.specs.declared.expr.Expr.TheVariants.{Prim}
use Rattle.primitives.proofs.WordLemmas.{flags_once}
use Rattle.primitives.specs.declared.prim.Prim_.{Prim_}
use Rattle.primitives.specs.Tables.{IsNameList, state_names}
use Rattle.primitives.specs.Words.{SpellsFlags}
use Rattle.fw_rule.specs.declared.rule.Lit.{Lit}
use Rattle.opt_table.specs.declared.kind.Kind.{Kind}
use Rattle.opt_table.specs.Options.{either_port}
use Rattle.opt_table.specs.Rows.{addresses_at, messages_number, ports_at, transport_number}
use Rattle.dump_grammar.specs.Arguments.{ArePortRanges, IsPortRange, Says}
use Rattle.dump_grammar.specs.Groups.{Group, all_differ, base_of}
use Rattle.dump_grammar.specs.Lines.{Text}
use Rattle.dump_grammar.specs.Literals.{IsOptionLiteral}
use Rattle.dump_grammar.proofs.BaseLemmas.{same_only}
use Rattle.dump_grammar.proofs.PortLemmas.{decimal_lacks, port_ends}
use Rattle.dump_grammar.proofs.ProtocolOnce.{line_once}
use Rattle.dump_grammar.proofs.SayingLemmas.{SaysBy, says_both}

-- a text is one range of ports
pub port_once : (text : Text) (r s : Range) → IsPortRange text r → IsPortRange text s → r ≡ s
port_once text r s (a, inl (p, e)) (b, inl (q, f)) =
    let lo : r.lo ≡ s.lo = decimal_injective r.lo s.lo (omega (arith, a, e)) (omega (arith, b, f)) (sym p ∙ q) in
    same_range r s lo (sym e ∙ lo ∙ f)
port_once text r s (a, inl (p, e)) (b, inr (q, f)) =
    absurd (lacks_none 58 text (decimal s.lo) (decimal s.hi) (subst (Lacks 58) (sym p) (decimal_lacks r.lo (omega (arith, a, e)))) q)
port_once text r s (a, inr (p, e)) (b, inl (q, f)) =
    absurd (lacks_none 58 text (decimal r.lo) (decimal r.hi) (subst (Lacks 58) (sym q) (decimal_lacks s.lo (omega (arith, b, f)))) p)
port_once text r s (a, inr (p, e)) (b, inr (q, f)) =
    let ends = port_ends text (decimal r.lo) (decimal r.hi) s p (decimal_lacks r.lo (omega (arith, a, e))) (b, inr (q, f)) in
    same_range r s (decimal_injective r.lo s.lo (omega (arith, a, e)) (omega (arith, b, f)) ends.0) (decimal_injective r.hi s.hi (omega (arith, a)) (omega (arith, b)) ends.1)

ports_once : (texts : List Text) (rs ss : List Range) → ArePortRanges texts rs → ArePortRanges texts ss → rs ≡ ss
ports_once [] [] [] p q = refl
ports_once [] [] (s ∷ ss) p q = absurd q
ports_once [] (r ∷ rs) ss p q = absurd p
ports_once (text ∷ texts) [] ss p q = absurd p
ports_once (text ∷ texts) (r ∷ rs) [] p q = absurd q
ports_once (text ∷ texts) (r ∷ rs) (s ∷ ss) p q =
    let first = port_once text r s p.0 q.0 in
    let rest = ports_once texts rs ss p.1 q.1 in
    cc

states_once : (text : Text) (m n : ℕ) → IsNameList state_names text m → IsNameList state_names text n → m ≡ n
states_once text m n p q = let h : Some m ≡ Some n = sym p ∙ q in cc

two_texts : (texts : List Text) (a b c d : Text) → texts ≡ a ∷ b ∷ [] → texts ≡ c ∷ d ∷ [] → (a ≡ c) × (b ≡ d)
two_texts texts a b c d e f = let h : a ∷ b ∷ [] ≡ c ∷ d ∷ [] = sym e ∙ f in (cc, cc)

module _ {W : ℕ} (Reads : Text → ℕ → Type 0) (groups : List Group) where
  module _ (one_range : HasOneRange Reads) (differ : all_differ (base_of groups) ≡ true) where
    by_once : (k : Kind) (arguments : List Text) (negated : Bool) (d e : Expr (Prim_ W)) → SaysBy Reads groups k arguments negated d → SaysBy Reads groups k arguments negated e → d ≡ e
    by_once (Kind.Port transport side) arguments negated d e (text, r, (a, i, x)) (other, s, (b, j, y)) =
        let same = same_only arguments text other a b in
        let range = port_once text r s i (subst (λ (t : Text). IsPortRange t s) (sym same) j) in
        x ∙ ap (λ (q : Range). ports_at side (transport_number transport) (q ∷ [])) range ∙ sym y
    by_once Kind.Flags arguments negated d e (mask, comp, m, c, (a, s, t, x)) (mask', comp', m', c', (b, s', t', y)) =
        let same = two_texts arguments mask comp mask' comp' a b in
        let first = flags_once mask m m' s (subst (λ (t : Text). SpellsFlags t m') (sym same.0) s') in
        let second = flags_once comp c c' t (subst (λ (t : Text). SpellsFlags t c') (sym same.1) t') in
        x ∙ ap (λ (q : ℕ). Prim (Prim_.Flags q c)) first ∙ ap (λ (q : ℕ). Prim (Prim_.Flags m' q)) second ∙ sym y
    by_once Kind.Syn arguments negated d e (a, x) (b, y) = x ∙ sym y
    by_once (Kind.Ports side) arguments negated d e (text, n, rs, (a, l, i, x)) (other, m, ss, (b, l', j, y)) =
        let same = same_only arguments text other a b in
        let number = line_once groups n m differ l l' in
        let list = ports_once _ rs ss i.0 (subst (λ (t : Text). ArePortRanges (slice_split (λ c. c == 44) t) ss) (sym same) j.0) in
        x ∙ ap (λ (q : ℕ). ports_at side q rs) number ∙ ap (λ (q : List Range). ports_at side m q) list ∙ sym y
    by_once Kind.EitherPorts arguments negated d e (text, n, rs, (a, l, i, x)) (other, m, ss, (b, l', j, y)) =
        let same = same_only arguments text other a b in
        let number = line_once groups n m differ l l' in
        let list = ports_once _ rs ss i.0 (subst (λ (t : Text). ArePortRanges (slice_split (λ c. c == 44) t) ss) (sym same) j.0) in
        x ∙ ap (λ (q : ℕ). either_port q rs) number ∙ ap (λ (q : List Range). either_port m q) list ∙ sym y
    by_once (Kind.Addresses side) arguments negated d e (text, r, (a, i, x)) (other, s, (b, j, y)) =
        let same = same_only arguments text other a b in
        let range = one_range other r s (subst (λ (t : Text). IsRangeText Reads t r) same i) j in
        x ∙ ap (λ (q : Range). Prim (addresses_at side (q ∷ []))) range ∙ sym y
    by_once Kind.States arguments negated d e (text, m, (a, i, x)) (other, n, (b, j, y)) =
        let same = same_only arguments text other a b in
        let states = states_once other m n (subst (λ (t : Text). IsNameList state_names t m) same i) j in
        x ∙ ap (λ (q : ℕ). Prim (Prim_.State q)) states ∙ sym y
    by_once Kind.Base arguments negated d e says other = absurd says
    by_once Kind.Comment arguments negated d e (text, (a, n, x)) (other, (b, m, y)) = x ∙ sym y
    by_once (Kind.IcmpType messages) arguments negated d e (text, k, (a, s, t, x)) (other, l, (b, r, u, y)) =
        let same = same_only arguments text other a b in
        let kind = decimal_injective k l (omega (arith, s)) (omega (arith, r)) (sym t ∙ same ∙ u) in
        x ∙ ap (λ (q : ℕ). Prim (Prim_.IcmpKind (record { proto = messages_number messages; kind = q }))) kind ∙ sym y

    pub says_once : (current option : Text) (arguments : List Text) (negated : Bool) (d e : Expr (Prim_ W)) → Says Reads groups current option arguments negated d
        → Says Reads groups current option arguments negated e → d ≡ e
    says_once current option arguments negated d e p q =
        let both = says_both Reads groups current option arguments negated d e p q in
        by_once both.0 arguments negated d e both.1.0 both.1.1

    pub option_once : (current : Option Text) (negated : Bool) (option : Text) (arguments : List Text) (l m : Lit (Prim_ W)) → IsOptionLiteral Reads groups current negated option arguments l
        → IsOptionLiteral Reads groups current negated option arguments m → l ≡ m
    option_once current negated option arguments (Lit.Known neg d) (Lit.Known neg' e) (name, (c, n, p)) (other, (c', n', q)) =
        let same : Some name ≡ Some other = sym c ∙ c' in
        let named : other ≡ name = cc in
        let expr = says_once name option arguments negated d e p (subst (λ (t : Text). Says Reads groups t option arguments negated e) named q) in
        let mark : neg ≡ neg' = n ∙ sym n' in
        cc
    option_once current negated option arguments (Lit.Known neg d) (Lit.Unknown shown) (name, (c, n, p)) q = absurd (q.1 name d c p)
    option_once current negated option arguments (Lit.Unknown shown) (Lit.Known neg e) p (name, (c, n, q)) = absurd (p.1 name e c q)
    option_once current negated option arguments (Lit.Unknown shown) (Lit.Unknown other) p q = ap Lit.Unknown (p.0 ∙ sym q.0)
