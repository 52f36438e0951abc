-- What edges say of packets with any names of interfaces.
use Rattle.std.proofs.Common.{◌≡◌, ℕ, zero, suc, Bool, true, false, ◌||◌, if◌then◌else◌, List, [], ◌∷◌, ◌++◌, map, None, Some, slice_get, Contains, refl, sym, ◌∙◌, ap, subst, arith}
use Rattle.std.specs.List.{AllByRecursion}
use Rattle.basics.proofs.Lists.{contained, each_append, map_contains, map_place}
use Rattle.basics.proofs.Truths.{or_false}
use Rattle.match_expr.specs.declared.expr.Expr.{Expr, map-Expr, roll-Expr}
use Rattle.match_expr.specs.declared.expr.Expr.TheOpen.{Expr-F}
use Rattle.match_expr.specs.declared.expr.Expr.TheFolds.{fold-roll-Expr, ind-Expr}
use Rattle.match_expr.specs.Primitives.{joined, listed, primitives_in}
use Rattle.primitives.specs.declared.prim.Packet.{Packet}
use Rattle.primitives.specs.declared.prim.Prim_.{Prim_}
use Rattle.primitives.specs.Holds.{holds_of}
use Rattle.fw_rule.specs.declared.rule.Chain.{Chain}
use Rattle.fw_rule.specs.declared.rule.Dump.{Dump}
use Rattle.fw_rule.specs.declared.rule.Lit.{Lit}
use Rattle.fw_rule.specs.declared.rule.Rule.{Rule}
use Rattle.fw_rule.specs.Mapping.{mapped_chain, mapped_rule}
use Rattle.fw_rule.specs.Walk.{Settled, hidden_literal}
use Rattle.fw_laws.proofs.Hiding as laws
use Rattle.fw_laws.proofs.Mapping.{settled_stays}
use Rattle.fw_rule.specs.declared.side.Side.{Side}
use Rattle.closure.specs.Sources.{IsKnown}
use Rattle.simple_filter.specs.Hidden.{hidden, hides, in_level, is_name, some_of, stands_in}
use Rattle.simple_filter.specs.declared.hiding.Hide.{Hide}
use Rattle.service_packet.specs.declared.service.Service.{Service}
use Rattle.service_packet.specs.Packets.{service_packet}
use Rattle.service_matrix.specs.declared.table.Matrix.{Matrix}
use Rattle.service_matrix.specs.Laws.{PassAlike}
use Rattle.service_matrix.specs.Matrices.{has_edge, IsMatrix}
use Rattle.service_matrix.specs.Services.{Edge, HoldsOfAllNames, IsBetween}
use Rattle.service_matrix.proofs.Groups.{accepted_alike}

-- where no such test stands in an expression, none of its tests is one
module _ {P : Type 0} (is : P → Bool) where
  abbrev E : Type 0
  E = Expr P

  abbrev IsNot : P → Type 0
  IsNot x = is x ≡ false

  abbrev Kept : E → Type 0
  Kept e = stands_in is e ≡ false → AllByRecursion IsNot (primitives_in e)

  each_part : (es : List ((e : E) × Kept e)) → some_of (map (stands_in is) (map (λ e. e.0) es)) ≡ false → AllByRecursion IsNot (joined (map primitives_in (map (λ e. e.0) es)))
  each_part [] h = tt
  each_part (e ∷ es) h =
      let t = or_false (stands_in is e.0) (some_of (map (stands_in is) (map (λ e. e.0) es))) h in
      each_append IsNot (primitives_in e.0) (joined (map primitives_in (map (λ e. e.0) es))) (e.1 t.0) (each_part es t.1)

  abbrev Layer : Expr-F P E → Type 0
  Layer z = in_level is (map-Expr P E Bool (stands_in is) z) ≡ false → AllByRecursion IsNot (listed (map-Expr P E (List P) primitives_in z))

  layer : (z : Expr-F P ((e : E) × Kept e)) → Layer (map-Expr P ((e : E) × Kept e) E (λ e. e.0) z)
  layer (Expr-F.All es) = each_part es
  layer (Expr-F.Not e) = e.1
  layer (Expr-F.Prim x) = λ h. (h, tt)

  none_stands : (e : E) → Kept e
  none_stands = ind-Expr P Kept (λ x y same.
      subst (λ t. stands_in is (roll-Expr P x) ≡ false → AllByRecursion IsNot t) (sym (fold-roll-Expr P (List P) listed x))
      (λ h. subst Layer same (layer y) (sym (fold-roll-Expr P Bool (in_level is) x) ∙ h)))

-- a literal that is known after hiding isn't hidden
still_known : {P : Type 0} (hides : Expr P → Bool) (lit : Lit P) (neg : Bool) (expr : Expr P) → hidden_literal hides lit ≡ Lit.Known neg expr → hides expr ≡ false
still_known hides (Lit.Unknown text) neg expr e = let f : Lit.Unknown text ≡ Lit.Known neg expr = e in absurd (cc f)
still_known {P} hides (Lit.Known n x) neg expr e = by (hides x) refl e
  where
    by : (b : Bool) → hides x ≡ b → (if b then Lit.Unknown [] else Lit.Known n x) ≡ Lit.Known neg expr → hides expr ≡ false
    by true t f = let g : Lit.Unknown [] ≡ Lit.Known neg expr = f in absurd (cc g)
    by false t f = let same : x ≡ expr = cc (f) in subst (λ (z : Expr P). hides z ≡ false) same t

module _ {W : ℕ} (dump : Dump (Prim_ W)) (chain : ℕ) where
  abbrev Hidden : Dump (Prim_ W)
  Hidden = hidden Hide.BothNames dump

  -- no test of a name is in reach
  no_name : (x : Prim_ W) → IsKnown Hidden chain x → is_name x ≡ false
  no_name x (c, rule, neg, expr, r, there, stood, stood_in) =
      let a = map_place (mapped_chain (hidden_literal (hides Hide.BothNames))) dump.chains c there.0 there.1 in
      let in_rules : Contains (map (mapped_rule (hidden_literal (hides Hide.BothNames))) (a.0).rules) rule = subst (λ (z : Chain (Prim_ W)). Contains z.rules rule) (sym a.2) there.2 in
      let b = map_contains (mapped_rule (hidden_literal (hides Hide.BothNames))) (a.0).rules rule in_rules in
      let in_lits : Contains (map (hidden_literal (hides Hide.BothNames)) (b.0).lits) (Lit.Known neg expr) = subst (λ (z : Rule (Prim_ W)). Contains z.lits (Lit.Known neg expr)) (sym b.2) stood in
      let l = map_contains (hidden_literal (hides Hide.BothNames)) (b.0).lits (Lit.Known neg expr) in_lits in
      contained (λ (z : Prim_ W). is_name z ≡ false) (primitives_in expr) x (none_stands is_name expr (still_known (hides Hide.BothNames) l.0 neg expr l.2)) stood_in

  module _ (service : Service) (s d : ℕ) (p : Packet) (between : IsBetween service s d p) where
    names_alike : PassAlike Hidden chain p (service_packet service s d)
    names_alike (Prim_.InName pattern) k = let e : true ≡ false = no_name (Prim_.InName pattern) k in absurd (cc e)
    names_alike (Prim_.OutName pattern) k = let e : true ≡ false = no_name (Prim_.OutName pattern) k in absurd (cc e)
    names_alike (Prim_.Src set) k = ap (λ (z : Packet). holds_of {W = W} (Prim_.Src set) z) between
    names_alike (Prim_.Dst set) k = ap (λ (z : Packet). holds_of {W = W} (Prim_.Dst set) z) between
    names_alike (Prim_.Proto proto) k = ap (λ (z : Packet). holds_of {W = W} (Prim_.Proto proto) z) between
    names_alike (Prim_.SrcPorts ports) k = ap (λ (z : Packet). holds_of {W = W} (Prim_.SrcPorts ports) z) between
    names_alike (Prim_.DstPorts ports) k = ap (λ (z : Packet). holds_of {W = W} (Prim_.DstPorts ports) z) between
    names_alike (Prim_.Flags mask comp) k = ap (λ (z : Packet). holds_of {W = W} (Prim_.Flags mask comp) z) between
    names_alike (Prim_.State states) k = ap (λ (z : Packet). holds_of {W = W} (Prim_.State states) z) between
    names_alike (Prim_.IcmpKind m) k = ap (λ (z : Packet). holds_of {W = W} (Prim_.IcmpKind m) z) between
    names_alike Prim_.Always k = refl

    names_alike_back : PassAlike Hidden chain (service_packet service s d) p
    names_alike_back x k = sym (names_alike x k)

  pub all_names : (side : Side) (service : Service) (matrix : Matrix W) → Settled dump chain → IsMatrix (Edge side dump chain service) matrix → HoldsOfAllNames side dump chain service matrix
  all_names Side.Upper service matrix settled is = λ i j s d x y no p valid between may.
      let e : has_edge matrix.edges i j ≡ true = (is.edges_are i j s d x y).1
      (accepted_alike Hidden chain Side.Upper p (service_packet service s d) (names_alike service s d p between) (laws.may_widens dump holds_of chain p (hides Hide.BothNames) may)) in
      cc (e, no)
  all_names Side.Lower service matrix settled is = λ i j s d x y yes p valid between.
      laws.must_narrows dump holds_of chain p settled (hides Hide.BothNames)
      (accepted_alike Hidden chain Side.Lower (service_packet service s d) p (names_alike_back service s d p between) ((is.edges_are i j s d x y).0 yes))

  pub settled_before : Settled Hidden chain → Settled dump chain
  settled_before h = (settled_stays dump (hidden_literal (hides Hide.BothNames)) chain).1 h
