-- What the lines of a cube say of a port.
use Rattle.std.proofs.Common.{◌≡◌, ℕ, ◌^◌, ◌<◌, ◌==◌, ◌⊎◌, inl, inr, List, [], ◌∷◌, ◌++◌, Bool, true, false, ◌&&◌, ◌||◌, nat_lt, map, refl, sym, subst, ◌∙◌, ap, arith}
use Rattle.std.specs.Prelude.{if◌then◌else◌}
use Rattle.std.specs.List.{flat_map, list_any}
use Rattle.std.proofs.lemmas.Bool.Decides.{nat_tests}
use Rattle.interval_set.specs.declared.set.Range.{Range}
use Rattle.interval_set.specs.Numbers.{has, is_within}
use Rattle.interval_set.specs.Spelling.{ranges_where}
use Rattle.interval_set.proofs.Spelling.{where_has}
use Rattle.match_expr.specs.Meaning.{eval_of}
use Rattle.match_expr.specs.declared.expr.Expr.{Expr}
use Rattle.primitives.specs.declared.prim.Packet.{Packet}
use Rattle.primitives.specs.declared.prim.Prim_.{Prim_}
use Rattle.primitives.specs.Holds.{holds_of}
use Rattle.primitives.specs.Ports.{HasPorts}
use Rattle.fw_rule.specs.declared.rule.Lit.{Lit}
use Rattle.fw_rule.specs.Walk.{doubt_in}
use Rattle.box_norm.specs.Pieces.{single}
use Rattle.box_norm.specs.Regular.{full, HasPortsAlone}
use Rattle.opt_table.specs.Options.{destination_ports, source_ports}
use Rattle.dump_print.specs.declared.numbers.Numbers.{Numbers}
use Rattle.dump_print.specs.Addresses.{is_everything}
use Rattle.dump_print.specs.Ports.{Ports, chunks, has_port_module, port_choices}
use Rattle.dump_print.specs.Numbers.{number_of, protocols_of}
use Rattle.printed_filter.specs.Literals.{listed_literals, single_literals}
use Rattle.printed_filter.proofs.AddressFacts.{everything_has}
use Rattle.printed_filter.proofs.Facts.{eval-Prim, facts}
use Rattle.printed_filter.proofs.Truths.{and_true, any_map, any_same, or_assoc, or_false}

-- literals that a line has where its protocols are one with a module of its own
abbrev pub own_part : {W : ℕ} → Numbers → List (Lit (Prim_ W)) → List (Lit (Prim_ W))
own_part form lits = if has_port_module form then lits else []

module _ (W : ℕ) (p : Packet) where
  nothing_by : (b : Bool) → facts (holds_of {W = W}) p (if b then [] else []) ≡ true
  nothing_by true = refl
  nothing_by false = refl

  -- no literal says nothing
  pub nothing : (form : Numbers) → facts (holds_of {W = W}) p (own_part form []) ≡ true
  nothing form = nothing_by (has_port_module form)

has-append : (a b : List Range) (x : ℕ) → has (a ++ b) x ≡ (has a x || has b x)
has-append [] b x = refl
has-append (r ∷ a) b x = ap (λ c. is_within r x || c) (has-append a b x) ∙ or_assoc (is_within r x) (has a x) (has b x)

has_flat : (lists : List (List Range)) (x : ℕ) → list_any (λ rs. has rs x) lists ≡ has (flat_map (λ chunk. chunk) lists) x
has_flat [] x = refl
has_flat (rs ∷ lists) x = ap (λ b. has rs x || b) (has_flat lists x) ∙ sym (has-append rs (flat_map (λ chunk. chunk) lists) x)

spelled_port : (rs : List Range) (x : ℕ) → x < 65536 → has (ranges_where (has rs) (2 ^ 16)) x ≡ has rs x
spelled_port rs x small =
    let below : nat_lt x 65536 ≡ true = grind (arith, nat_tests) in
    where_has (has rs) (2 ^ 16) x ∙ ap (λ b. b && has rs x) below

alone : (n : ℕ) → HasPorts n → protocols_of (single n) ≡ Numbers.Only n
alone n (inl e) = subst (λ k. protocols_of (single k) ≡ Numbers.Only k) (sym e) refl
alone n (inr (inl e)) = subst (λ k. protocols_of (single k) ≡ Numbers.Only k) (sym e) refl
alone n (inr (inr (inl e))) = subst (λ k. protocols_of (single k) ≡ Numbers.Only k) (sym e) refl
alone n (inr (inr (inr (inl e)))) = subst (λ k. protocols_of (single k) ≡ Numbers.Only k) (sym e) refl
alone n (inr (inr (inr (inr e)))) = subst (λ k. protocols_of (single k) ≡ Numbers.Only k) (sym e) refl

pub same_number : (n x : ℕ) → has (single n) x ≡ true → (x == n) ≡ true
same_number n x e = grind (arith, nat_tests, e)

-- one of both ends
module _ {W : ℕ} (p : Packet) (x : ℕ) (small : x < 65536) (expr : ℕ → List Range → Expr (Prim_ W))
    (says : (n : ℕ) (rs : List Range) → (p.proto == n) ≡ true → eval_of (λ y. holds_of y p) (expr n rs) ≡ has rs x) where
  abbrev told : List (Lit (Prim_ W)) → Bool
  told = facts (holds_of {W = W}) p

  -- what a line says of the port, in both places
  abbrev pub port_fact : Numbers → Ports → Bool
  port_fact form ports = told (own_part form (single_literals (expr (number_of form)) ports)) && told (listed_literals (expr (number_of form)) ports)

  every : (form : Numbers) → port_fact form Ports.Every ≡ true
  every form = ap (λ b. b && true) (nothing W p form)

  module _ (n : ℕ) (of : (p.proto == n) ≡ true) where
    one : (rs : List Range) → told (Lit.Known false (expr n rs) ∷ []) ≡ has rs x
    one rs = and_true (eval_of (λ y. holds_of y p) (expr n rs)) ∙ says n rs of

    listed : (rs : List Range) → port_fact (Numbers.Only n) (Ports.Listed rs) ≡ has rs x
    listed rs = ap (λ b. b && told (Lit.Known false (expr n rs) ∷ [])) (nothing W p (Numbers.Only n)) ∙ one rs

    many : (rs : List Range) → flat_map (λ chunk. chunk) (chunks rs) ≡ rs → list_any (port_fact (Numbers.Only n)) (map Ports.Listed (chunks rs)) ≡ has rs x
    many rs whole =
        any_map (port_fact (Numbers.Only n)) Ports.Listed (chunks rs)
        ∙ any_same (λ chunk. port_fact (Numbers.Only n) (Ports.Listed chunk)) (λ chunk. has chunk x) (chunks rs) listed
        ∙ has_flat (chunks rs) x ∙ ap (λ (z : List Range). has z x) whole

    single_by : (r : Range) (b : Bool) → has_port_module (Numbers.Only n) ≡ b →
        list_any (port_fact (Numbers.Only n)) (if b then Ports.Single r ∷ [] else Ports.Listed (r ∷ []) ∷ []) ≡ has (r ∷ []) x
    single_by r true e =
        or_false (port_fact (Numbers.Only n) (Ports.Single r))
        ∙ and_true (told (own_part (Numbers.Only n) (single_literals (expr n) (Ports.Single r))))
        ∙ ap (λ b. told (if b then single_literals (expr n) (Ports.Single r) else [])) e ∙ one (r ∷ [])
    single_by r false e = or_false (port_fact (Numbers.Only n) (Ports.Listed (r ∷ []))) ∙ listed (r ∷ [])

    range_by : (r : Range) (b : Bool) → is_everything 16 r ≡ b →
        list_any (port_fact (Numbers.Only n))
        (if b then Ports.Every ∷ [] else if has_port_module (Numbers.Only n) then Ports.Single r ∷ [] else Ports.Listed (r ∷ []) ∷ []) ≡ has (r ∷ []) x
    range_by r true e = or_false (port_fact (Numbers.Only n) Ports.Every) ∙ every (Numbers.Only n) ∙ sym (ap (λ b. b || false) (everything_has 16 r x small e))
    range_by r false e = single_by r (has_port_module (Numbers.Only n)) refl

    of_one : (rs : List Range) → flat_map (λ chunk. chunk) (chunks rs) ≡ rs → list_any (port_fact (Numbers.Only n)) (port_choices (Numbers.Only n) rs) ≡ has rs x
    of_one [] whole = refl
    of_one (r ∷ []) whole = range_by r (is_everything 16 r) refl
    of_one (r ∷ s ∷ rs) whole = many (r ∷ s ∷ rs) whole

  in_full : has (full 16) x ≡ true
  in_full = grind (arith, nat_tests)

  -- the lines together say the set of ports
  pub ports_meet : (rs protos : List Range) → (rs ≡ full 16) ⊎ HasPortsAlone protos → flat_map (λ chunk. chunk) (chunks rs) ≡ rs →
      has protos p.proto ≡ true → list_any (port_fact (protocols_of protos)) (port_choices (protocols_of protos) rs) ≡ has rs x
  ports_meet rs protos (inl all) whole of =
      ap (λ z. list_any (port_fact (protocols_of protos)) (port_choices (protocols_of protos) z)) all
      ∙ or_false (port_fact (protocols_of protos) Ports.Every) ∙ every (protocols_of protos) ∙ sym (ap (λ (z : List Range). has z x) all ∙ in_full)
  ports_meet rs protos (inr h) whole of =
      let form : protocols_of protos ≡ Numbers.Only h.0 = ap protocols_of h.2 ∙ alone h.0 h.1 in
      let number : (p.proto == h.0) ≡ true = same_number h.0 p.proto (sym (ap (λ (z : List Range). has z p.proto) h.2) ∙ of) in
      ap (λ z. list_any (port_fact z) (port_choices z rs)) form ∙ of_one h.0 number rs whole

ports_by : (same here there : Bool) → same ≡ true → there ≡ here → (same && there) ≡ here
ports_by same here there e f = λ i. e i && f i

module _ (W : ℕ) (p : Packet) where
  pub source_says : p.sport < 65536 → (n : ℕ) (rs : List Range) → (p.proto == n) ≡ true →
      eval_of (λ y. holds_of y p) (source_ports {W = W} n rs) ≡ has rs p.sport
  source_says small n rs of =
      eval-Prim (λ y. holds_of y p) _ ∙ ports_by (p.proto == n) (has rs p.sport) (has (ranges_where (has rs) (2 ^ 16)) p.sport) of (spelled_port rs p.sport small)

  pub destination_says : p.dport < 65536 → (n : ℕ) (rs : List Range) → (p.proto == n) ≡ true →
      eval_of (λ y. holds_of y p) (destination_ports {W = W} n rs) ≡ has rs p.dport
  destination_says small n rs of =
      eval-Prim (λ y. holds_of y p) _ ∙ ports_by (p.proto == n) (has rs p.dport) (has (ranges_where (has rs) (2 ^ 16)) p.dport) of (spelled_port rs p.dport small)

module _ {W : ℕ} (expr : List Range → Expr (Prim_ W)) where
  pub single_known : (ports : Ports) → doubt_in (single_literals expr ports) ≡ false
  single_known Ports.Every = refl
  single_known (Ports.Single r) = refl
  single_known (Ports.Listed rs) = refl

  pub listed_known : (ports : Ports) → doubt_in (listed_literals expr ports) ≡ false
  listed_known Ports.Every = refl
  listed_known (Ports.Single r) = refl
  listed_known (Ports.Listed rs) = refl
