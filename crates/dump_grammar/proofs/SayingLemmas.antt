-- What an option says, by its kind.
use Rattle.std.proofs.Common.{◌≡◌, ◌∙◌, ◌≤◌, ℕ, decimal, List, [], ◌∷◌, Bool, false, Option, Some, None, IfSome, refl, sym, ap, subst, inl, inr}
use Rattle.addr_text.specs.Nets.{IsRangeText}
use Rattle.interval_set.specs.declared.set.Range.{Range}
use Rattle.match_expr.specs.declared.expr.Expr.{Expr}
use Rattle.match_expr.specs.declared.expr.Expr.TheVariants.{Prim}
use Rattle.primitives.specs.declared.prim.Prim_.{Prim_}
use Rattle.primitives.specs.Ports.{HasPorts}
use Rattle.primitives.specs.Tables.{IsNameList, state_names}
use Rattle.primitives.specs.Words.{SpellsFlags}
use Rattle.opt_table.specs.declared.kind.Kind.{Kind}
use Rattle.opt_table.specs.declared.kind.Side.{Side}
use Rattle.opt_table.specs.declared.kind.Transport.{Transport}
use Rattle.opt_table.specs.Options.{Form, Spelling, either_port}
use Rattle.opt_table.specs.Rows.{addresses_at, form_of, messages_number, ports_at, transport_number}
use Rattle.dump_grammar.specs.Arguments.{FormSays, IsPortList, IsPortRange, LineProtocol, Says}
use Rattle.dump_grammar.specs.Groups.{Group, row_of}
use Rattle.dump_grammar.specs.Kinds.{HasProtocol, form_named}
use Rattle.dump_token.specs.declared.token.Token.{Token}
use Rattle.dump_grammar.specs.Lines.{Text, texts, words_of}
use Rattle.dump_grammar.proofs.BaseLemmas.{same_only}
use Rattle.dump_grammar.proofs.KindLemmas.{form_row, no_row, row_kind}

module _ {W : ℕ} (Reads : Text → ℕ → Type 0) (groups : List Group) where
  -- the same by the kind
  abbrev pub SaysBy : Kind → List Text → Bool → Expr (Prim_ W) → Type 0
  SaysBy (Kind.Port transport side) arguments negated e =
      (text : Text) × (r : Range) × ((arguments ≡ text ∷ []) × IsPortRange text r × (e ≡ ports_at side (transport_number transport) (r ∷ [])))
  SaysBy Kind.Flags arguments negated e =
      (mask comp : Text) × (m c : ℕ) × ((arguments ≡ mask ∷ comp ∷ []) × SpellsFlags mask m × SpellsFlags comp c × (e ≡ Prim (Prim_.Flags m c)))
  SaysBy Kind.Syn arguments negated e = (arguments ≡ []) × (e ≡ Prim (Prim_.Flags 23 2))
  SaysBy (Kind.Ports side) arguments negated e =
      (text : Text) × (n : ℕ) × (rs : List Range) × ((arguments ≡ text ∷ []) × LineProtocol groups n × IsPortList text rs × (e ≡ ports_at side n rs))
  SaysBy Kind.EitherPorts arguments negated e =
      (text : Text) × (n : ℕ) × (rs : List Range) × ((arguments ≡ text ∷ []) × LineProtocol groups n × IsPortList text rs × (e ≡ either_port n rs))
  SaysBy (Kind.Addresses side) arguments negated e =
      (text : Text) × (r : Range) × ((arguments ≡ text ∷ []) × IsRangeText Reads text r × (e ≡ Prim (addresses_at side (r ∷ []))))
  SaysBy Kind.States arguments negated e = (text : Text) × (m : ℕ)
      × ((arguments ≡ text ∷ []) × IsNameList state_names text m × (e ≡ Prim (Prim_.State m)))
  SaysBy Kind.Comment arguments negated e = (text : Text) × ((arguments ≡ text ∷ []) × (negated ≡ false) × (e ≡ Prim Prim_.Always))
  SaysBy (Kind.IcmpType messages) arguments negated e = (text : Text) × (k : ℕ)
      × ((arguments ≡ text ∷ []) × (k ≤ 254) × (text ≡ decimal k)
      × (e ≡ Prim (Prim_.IcmpKind (record { proto = messages_number messages; kind = k }))))
  SaysBy Kind.Base arguments negated e = ⊥

  -- what arguments of the kind's form say, by equations
  pub says_by : (k : Kind) (arguments : List Text) (negated : Bool) (e : Expr (Prim_ W))
      → FormSays Reads groups (form_of k) arguments negated e → SaysBy k arguments negated e
  says_by Kind.Base arguments negated e says = says
  says_by (Kind.Port transport side) [] negated e says = absurd says
  says_by (Kind.Port transport side) (text ∷ []) negated e (r, (i, x)) = (text, r, (refl, i, x))
  says_by (Kind.Port transport side) (a ∷ b ∷ more) negated e says = absurd says
  says_by Kind.Flags [] negated e says = absurd says
  says_by Kind.Flags (a ∷ []) negated e says = absurd says
  says_by Kind.Flags (mask ∷ comp ∷ []) negated e (m, c, (s, t, x)) = (mask, comp, m, c, (refl, s, t, x))
  says_by Kind.Flags (a ∷ b ∷ c ∷ more) negated e says = absurd says
  says_by Kind.Syn [] negated e x = (refl, x)
  says_by Kind.Syn (a ∷ more) negated e says = absurd says
  says_by (Kind.Ports side) [] negated e says = absurd says
  says_by (Kind.Ports side) (text ∷ []) negated e (n, rs, (l, i, x)) = (text, n, rs, (refl, l, i, x))
  says_by (Kind.Ports side) (a ∷ b ∷ more) negated e says = absurd says
  says_by Kind.EitherPorts [] negated e says = absurd says
  says_by Kind.EitherPorts (text ∷ []) negated e (n, rs, (l, i, x)) = (text, n, rs, (refl, l, i, x))
  says_by Kind.EitherPorts (a ∷ b ∷ more) negated e says = absurd says
  says_by (Kind.Addresses side) [] negated e says = absurd says
  says_by (Kind.Addresses side) (text ∷ []) negated e (r, (i, x)) = (text, r, (refl, i, x))
  says_by (Kind.Addresses side) (a ∷ b ∷ more) negated e says = absurd says
  says_by Kind.States [] negated e says = absurd says
  says_by Kind.States (text ∷ []) negated e (m, (i, x)) = (text, m, (refl, i, x))
  says_by Kind.States (a ∷ b ∷ more) negated e says = absurd says
  says_by Kind.Comment [] negated e says = absurd says
  says_by Kind.Comment (text ∷ []) negated e (n, x) = (text, (refl, n, x))
  says_by Kind.Comment (a ∷ b ∷ more) negated e says = absurd says
  says_by (Kind.IcmpType messages) [] negated e says = absurd says
  says_by (Kind.IcmpType messages) (text ∷ []) negated e (k, (s, t, x)) = (text, k, (refl, s, t, x))
  says_by (Kind.IcmpType messages) (a ∷ b ∷ more) negated e says = absurd says

  abbrev SaysForm : Kind → Bool → Expr (Prim_ W) → List Text → Type 0
  SaysForm k negated e arguments = FormSays Reads groups (form_of k) arguments negated e

  pub by_says : (k : Kind) (arguments : List Text) (negated : Bool) (e : Expr (Prim_ W))
      → SaysBy k arguments negated e → FormSays Reads groups (form_of k) arguments negated e
  by_says Kind.Base arguments negated e says = absurd says
  by_says (Kind.Port transport side) arguments negated e (text, r, (a, i, x)) =
      subst (SaysForm (Kind.Port transport side) negated e) (sym a) (r, (i, x))
  by_says Kind.Flags arguments negated e (mask, comp, m, c, (a, s, t, x)) =
      subst (SaysForm Kind.Flags negated e) (sym a) (m, c, (s, t, x))
  by_says Kind.Syn arguments negated e (a, x) = subst (SaysForm Kind.Syn negated e) (sym a) x
  by_says (Kind.Ports side) arguments negated e (text, n, rs, (a, l, i, x)) =
      subst (SaysForm (Kind.Ports side) negated e) (sym a) (n, rs, (l, i, x))
  by_says Kind.EitherPorts arguments negated e (text, n, rs, (a, l, i, x)) =
      subst (SaysForm Kind.EitherPorts negated e) (sym a) (n, rs, (l, i, x))
  by_says (Kind.Addresses side) arguments negated e (text, r, (a, i, x)) =
      subst (SaysForm (Kind.Addresses side) negated e) (sym a) (r, (i, x))
  by_says Kind.States arguments negated e (text, m, (a, i, x)) =
      subst (SaysForm Kind.States negated e) (sym a) (m, (i, x))
  by_says Kind.Comment arguments negated e (text, (a, n, x)) = subst (SaysForm Kind.Comment negated e) (sym a) (n, x)
  by_says (Kind.IcmpType messages) arguments negated e (text, k, (a, s, t, x)) =
      subst (SaysForm (Kind.IcmpType messages) negated e) (sym a) (k, (s, t, x))

  -- what an option says is what its kind says
  pub says_as : (current option : Text) (arguments : List Text) (negated : Bool) (e : Expr (Prim_ W)) → Says Reads groups current option arguments negated e
      → (k : Kind) × SaysBy k arguments negated e
  says_as current option arguments negated e (row, (is, says)) =
      let k = row_kind current option row is in (
        k.0,
        says_by k.0 arguments negated e
            (subst (λ (f : Form). FormSays Reads groups f arguments negated e) k.1 says),
      )

  -- two things that an option says are said by one kind
  pub says_both : (current option : Text) (arguments : List Text) (negated : Bool) (d e : Expr (Prim_ W))
      → Says Reads groups current option arguments negated d
      → Says Reads groups current option arguments negated e
      → (k : Kind) × (SaysBy k arguments negated d × SaysBy k arguments negated e)
  says_both current option arguments negated d e (row, (is, says)) (other, (is', says')) =
      let k = row_kind current option row is in
      let both : Some other ≡ Some row = sym is' ∙ is in
      let same : other ≡ row = cc in
      let form : other.form ≡ form_of k.0 = ap (λ (r : Spelling). r.form) same ∙ k.1 in (
        k.0,
        (
          says_by k.0 arguments negated d (subst (λ (f : Form). FormSays Reads groups f arguments negated d) k.1 says),
          says_by k.0 arguments negated e
              (subst (λ (f : Form). FormSays Reads groups f arguments negated e) form says'),
        ),
      )

  -- what an option of the module says, by the kind that is found
  pub known_some : (current : Option Text) (k : Kind) (name option : Text) (arguments : List Text) (negated : Bool)
      (e : Expr (Prim_ W)) → current ≡ Some name
      → Some (form_of k) ≡ form_named name option → FormSays Reads groups (form_of k) arguments negated e
      → (other : Text) × ((current ≡ Some other) × Says Reads groups other option arguments negated e)
  known_some current k name option arguments negated e here found says =
      let there = form_row name option (form_of k) found in (
        name,
        (
          here,
          (
            there.0,
            (
              there.1.0,
              subst (λ (f : Form). FormSays Reads groups f arguments negated e)
                  (sym there.1.1) says,
            ),
          ),
        ),
      )

  pub known_none : (current : Option Text) (k : Kind) (name option : Text) (arguments : List Text) (negated : Bool)
      → current ≡ Some name
      → Some (form_of k) ≡ form_named name option
      → ((e : Expr (Prim_ W)) → FormSays Reads groups (form_of k) arguments negated e → ⊥)
      → (other : Text) (e : Expr (Prim_ W)) → current ≡ Some other → Says Reads groups other option arguments negated e → ⊥
  known_none current k name option arguments negated here found none other e same (row, (is, says)) =
      let there = form_row name option (form_of k) found in
      let names : Some other ≡ Some name = sym same ∙ here in
      let it : other ≡ name = cc in
      let rows : Some row ≡ Some there.0 = sym (subst (λ (t : Text). row_of t option ≡ Some row) it is) ∙ there.1.0 in
      let one : row ≡ there.0 = cc in
      none e (subst (λ (f : Form). FormSays Reads groups f arguments negated e)
      (ap (λ (r : Spelling). r.form) one ∙ there.1.1) says)

  pub unknown_none : (current : Option Text) (name option : Text) (arguments : List Text) (negated : Bool)
      → current ≡ Some name → None ≡ form_named name option
      → (other : Text) (e : Expr (Prim_ W)) → current ≡ Some other → Says Reads groups other option arguments negated e → ⊥
  unknown_none current name option arguments negated here none other e same (row, (is, says)) =
      let names : Some other ≡ Some name = sym same ∙ here in
      let it : other ≡ name = cc in
      no_row name option row none (subst (λ (t : Text). row_of t option ≡ Some row) it is)

  -- the same where the kind is known to be another's equal
  pub said_of : (k j : Kind) (arguments : List Text) (negated : Bool) (e : Expr (Prim_ W)) → k ≡ j → SaysBy j arguments negated e
      → FormSays Reads groups (form_of k) arguments negated e
  said_of k j arguments negated e same is =
      subst (λ (i : Kind). FormSays Reads groups (form_of i) arguments negated e) (sym same)
      (by_says j arguments negated e is)

  pub of_said : (k j : Kind) (arguments : List Text) (negated : Bool) (e : Expr (Prim_ W)) → k ≡ j
      → FormSays Reads groups (form_of k) arguments negated e → SaysBy j arguments negated e
  of_said k j arguments negated e same says =
      says_by j arguments negated e (subst
      (λ (i : Kind). FormSays Reads groups (form_of i) arguments negated e) same says)

none_some : (n : ℕ) → None ≡ Some n → ⊥
none_some n e = cc

-- the line's protocol, where it is known to be this one
pub line_of : (groups : List Group) (protocol : Option ℕ) (n : ℕ) → HasProtocol groups protocol → protocol ≡ Some n → LineProtocol groups n
line_of groups None n h e = absurd (none_some n e)
line_of groups (Some m) n h e = let same : m ≡ n = cc in subst (LineProtocol groups) same h

-- a line with a protocol of ports has one
pub line_there : (groups : List Group) (protocol : Option ℕ) (n : ℕ) → HasProtocol groups protocol → LineProtocol groups n → (m : ℕ) × (protocol ≡ Some m)
line_there groups None n h line = absurd (h n line)
line_there groups (Some m) n h line = (m, refl)

pub line_ports : (groups : List Group) (protocol : Option ℕ) → HasProtocol groups protocol → IfSome protocol HasPorts
line_ports groups None h = tt
line_ports groups (Some m) h = h.1.2

abbrev two_of : List Token → List Text
two_of words = texts (words_of words)

two_texts : (words rest : List Token) (first : Token) (second mask comp : Text) → words ≡ first ∷ rest → two_of rest ≡ second ∷ [] → two_of words ≡ mask ∷ comp ∷ []
    → (mask ≡ first.text) × (comp ≡ second)
two_texts words rest first second mask comp e f g =
    let h : mask ∷ comp ∷ [] ≡ first.text ∷ second ∷ [] = sym g ∙ ap two_of e ∙ ap (λ (ts : List Text). first.text ∷ ts) f in
    (cc, cc)

pub first_flags_none : (words rest : List Token) (first : Token) (text second : Text) → words ≡ first ∷ rest → text ≡ first.text → two_of rest ≡ second ∷ []
    → ((m : ℕ) → SpellsFlags text m → ⊥) → (mask comp : Text) (m c : ℕ) → two_of words ≡ mask ∷ comp ∷ [] → SpellsFlags mask m → SpellsFlags comp c → ⊥
first_flags_none words rest first text second e t f none mask comp m c g spells other =
    none m (subst (λ (x : Text). SpellsFlags x m) ((two_texts words rest first second mask comp e f g).0 ∙ sym t) spells)

pub second_flags_none : (words rest : List Token) (first : Token) (second : Text) → words ≡ first ∷ rest → two_of rest ≡ second ∷ []
    → ((m : ℕ) → SpellsFlags second m → ⊥) → (mask comp : Text) (m c : ℕ) → two_of words ≡ mask ∷ comp ∷ [] → SpellsFlags mask m → SpellsFlags comp c → ⊥
second_flags_none words rest first second e f none mask comp m c g spells other =
    none c (subst (λ (x : Text). SpellsFlags x c) (two_texts words rest first second mask comp e f g).1 other)

pub range_none : (Reads : Text → ℕ → Type 0) (arguments : List Text) (text : Text) → arguments ≡ text ∷ [] → ((r : Range) → IsRangeText Reads text r → ⊥)
    → (other : Text) (r : Range) → arguments ≡ other ∷ [] → IsRangeText Reads other r → ⊥
range_none Reads arguments text one none other r e is = none r (subst (λ (t : Text). IsRangeText Reads t r) (same_only arguments other text e one) is)
