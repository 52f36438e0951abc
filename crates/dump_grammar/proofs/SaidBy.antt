-- What each option says, for those who know its name.
use Rattle.std.proofs.Common.{◌≡◌, ◌∙◌, ◌≤◌, ◌⊎◌, ℕ, decimal, List, [], ◌∷◌, Bool, Some, refl, sym, ap, subst, codes, inl, inr}
use Rattle.addr_text.specs.Nets.{IsRangeText}
use Rattle.interval_set.specs.declared.set.Range.{Range}
use Rattle.match_expr.specs.declared.expr.Expr.{Expr}
use Rattle.match_expr.specs.declared.expr.Expr.TheVariants.{Prim}
use Rattle.primitives.specs.declared.prim.Prim_.{Prim_}
use Rattle.primitives.specs.Tables.{IsNameList, state_names}
use Rattle.primitives.specs.Words.{SpellsFlags}
use Rattle.opt_table.specs.Options.{Spelling, source_ports, destination_ports}
use Rattle.dump_grammar.specs.Arguments.{FormSays, IsPortList, IsPortRange, LineProtocol, Says}
use Rattle.dump_grammar.specs.Groups.{Group, row_of}
use Rattle.dump_grammar.specs.Lines.{Text}

-- the module tcp or udp, and the number of its protocol
abbrev pub IsPortModule : Text → ℕ → Type 0
IsPortModule name n = ((name ≡ codes "tcp") × (n ≡ 6)) ⊎ ((name ≡ codes "udp") × (n ≡ 17))

-- the module icmp or icmp6, its option for a type, and the number of its protocol
abbrev pub IsTypeModule : Text → Text → ℕ → Type 0
IsTypeModule name option n = ((name ≡ codes "icmp") × (option ≡ codes "--icmp-type") × (n ≡ 1))
    ⊎ ((name ≡ codes "icmp6") × (option ≡ codes "--icmpv6-type") × (n ≡ 58))

module _ {W : ℕ} (Reads : Text → ℕ → Type 0) (groups : List Group) (negated : Bool) where
  said : (name option : Text) (arguments : List Text) (expr : Expr (Prim_ W)) (row : Spelling)
      → row_of name option ≡ Some row
      → FormSays Reads groups row.form arguments negated expr
      → (name' option' : Text) (arguments' : List Text) → name' ≡ name → option' ≡ option → arguments' ≡ arguments
      → Says Reads groups name' option' arguments' negated expr
  said name option arguments expr row is says name' option' arguments' e f g =
      subst (λ (n : Text). Says Reads groups n option' arguments' negated expr) (sym e)
      (subst (λ (o : Text). Says Reads groups name o arguments' negated expr) (sym f)
      (subst (λ (a : List Text). Says Reads groups name option a negated expr) (sym g) (row, (is, says))))

  module _ {current option : Text} {arguments : List Text} {expr : Expr (Prim_ W)} where
    pub source_port : (n : ℕ) (text : Text) (r : Range) → IsPortModule current n → option ≡ codes "--sport"
        → arguments ≡ text ∷ [] → IsPortRange text r
        → expr ≡ source_ports n (r ∷ []) → Says Reads groups current option arguments negated expr
    unfolding row_of
    source_port n text r (inl (c, k)) o a i x =
        said (codes "tcp") (codes "--sport") (text ∷ []) expr _ refl
        (r, (i, x ∙ ap (λ (m : ℕ). source_ports m (r ∷ [])) k)) current option arguments c o a
    source_port n text r (inr (c, k)) o a i x =
        said (codes "udp") (codes "--sport") (text ∷ []) expr _ refl
        (r, (i, x ∙ ap (λ (m : ℕ). source_ports m (r ∷ [])) k)) current option arguments c o a

    pub destination_port : (n : ℕ) (text : Text) (r : Range) → IsPortModule current n → option ≡ codes "--dport"
        → arguments ≡ text ∷ [] → IsPortRange text r
        → expr ≡ destination_ports n (r ∷ []) → Says Reads groups current option arguments negated expr
    unfolding row_of
    destination_port n text r (inl (c, k)) o a i x =
        said (codes "tcp") (codes "--dport") (text ∷ []) expr _ refl
        (r, (i, x ∙ ap (λ (m : ℕ). destination_ports m (r ∷ [])) k)) current option arguments c o a
    destination_port n text r (inr (c, k)) o a i x =
        said (codes "udp") (codes "--dport") (text ∷ []) expr _ refl
        (r, (i, x ∙ ap (λ (m : ℕ). destination_ports m (r ∷ [])) k)) current option arguments c o a

    pub tcp_flags : (mask comp : Text) (m c : ℕ) → current ≡ codes "tcp" → option ≡ codes "--tcp-flags"
        → arguments ≡ mask ∷ comp ∷ [] → SpellsFlags mask m
        → SpellsFlags comp c → expr ≡ Prim (Prim_.Flags m c) → Says Reads groups current option arguments negated expr
    unfolding row_of
    tcp_flags mask comp m c k o a s t x =
        said (codes "tcp") (codes "--tcp-flags") (mask ∷ comp ∷ []) expr _ refl
        (m, c, (s, t, x)) current option arguments k o a

    pub source_port_list : (n : ℕ) (text : Text) (rs : List Range) → current ≡ codes "multiport"
        → option ≡ codes "--sports" → arguments ≡ text ∷ []
        → LineProtocol groups n → IsPortList text rs → expr ≡ source_ports n rs
        → Says Reads groups current option arguments negated expr
    unfolding row_of
    source_port_list n text rs k o a l i x =
        said (codes "multiport") (codes "--sports") (text ∷ []) expr _ refl
        (n, rs, (l, i, x)) current option arguments k o a

    pub destination_port_list : (n : ℕ) (text : Text) (rs : List Range) → current ≡ codes "multiport"
        → option ≡ codes "--dports" → arguments ≡ text ∷ []
        → LineProtocol groups n → IsPortList text rs → expr ≡ destination_ports n rs
        → Says Reads groups current option arguments negated expr
    unfolding row_of
    destination_port_list n text rs k o a l i x =
        said (codes "multiport") (codes "--dports") (text ∷ []) expr _ refl
        (n, rs, (l, i, x)) current option arguments k o a

    pub source_range : (text : Text) (r : Range) → current ≡ codes "iprange" → option ≡ codes "--src-range"
        → arguments ≡ text ∷ [] → IsRangeText Reads text r
        → expr ≡ Prim (Prim_.Src (r ∷ [])) → Says Reads groups current option arguments negated expr
    unfolding row_of
    source_range text r k o a i x =
        said (codes "iprange") (codes "--src-range") (text ∷ []) expr _ refl (r, (i, x)) current option arguments k o a

    pub destination_range : (text : Text) (r : Range) → current ≡ codes "iprange" → option ≡ codes "--dst-range"
        → arguments ≡ text ∷ [] → IsRangeText Reads text r
        → expr ≡ Prim (Prim_.Dst (r ∷ [])) → Says Reads groups current option arguments negated expr
    unfolding row_of
    destination_range text r k o a i x =
        said (codes "iprange") (codes "--dst-range") (text ∷ []) expr _ refl (r, (i, x)) current option arguments k o a

    pub state : (text : Text) (m : ℕ) → current ≡ codes "state" → option ≡ codes "--state" → arguments ≡ text ∷ []
        → IsNameList state_names text m
        → expr ≡ Prim (Prim_.State m) → Says Reads groups current option arguments negated expr
    unfolding row_of
    state text m k o a i x =
        said (codes "state") (codes "--state") (text ∷ []) expr _ refl (m, (i, x)) current option arguments k o a

    pub connection_state : (text : Text) (m : ℕ) → current ≡ codes "conntrack" → option ≡ codes "--ctstate"
        → arguments ≡ text ∷ [] → IsNameList state_names text m
        → expr ≡ Prim (Prim_.State m) → Says Reads groups current option arguments negated expr
    unfolding row_of
    connection_state text m k o a i x =
        said (codes "conntrack") (codes "--ctstate") (text ∷ []) expr _ refl (m, (i, x)) current option arguments k o a

    pub message_type : (name : Text) (n k : ℕ) (text : Text) → IsTypeModule name option n → current ≡ name → arguments ≡ text ∷ []
        → k ≤ 254 → text ≡ decimal k
        → expr ≡ Prim (Prim_.IcmpKind (record { proto = n; kind = k })) → Says Reads groups current option arguments negated expr
    unfolding row_of
    message_type name n k text (inl (c, o, p)) m a s t x =
        said (codes "icmp") (codes "--icmp-type") (text ∷ []) expr _ refl
        (k, (s, t, x ∙ ap (λ (q : ℕ). Prim (Prim_.IcmpKind (record { proto = q; kind = k }))) p)) current option arguments (m ∙ c) o a
    message_type name n k text (inr (c, o, p)) m a s t x =
        said (codes "icmp6") (codes "--icmpv6-type") (text ∷ []) expr _ refl
        (k, (s, t, x ∙ ap (λ (q : ℕ). Prim (Prim_.IcmpKind (record { proto = q; kind = k }))) p)) current option arguments (m ∙ c) o a
