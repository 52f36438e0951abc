-- Each known literal of a dump that was read is one test, or one of two ports.
use Rattle.std.proofs.Common.{◌≡◌, ℕ, List, [], ◌∷◌, ◌++◌, Bool, true, false, refl, sym, subst, inl, inr, if◌then◌else◌, ◌||◌}
use Rattle.std.specs.List.{AllByRecursion}
use Rattle.fw_rule.specs.declared.rule.Lit.{Lit}
use Rattle.fw_rule.specs.declared.rule.Rule.{Rule}
use Rattle.fw_rule.specs.declared.rule.Dump.{Dump}
use Rattle.fw_rule.specs.Calls.{RuleOf}
use Rattle.interval_set.specs.declared.set.Range.{Range}
use Rattle.match_expr.specs.declared.expr.Expr.{Expr}
use Rattle.match_expr.specs.declared.expr.Expr.TheVariants.{Prim}
use Rattle.primitives.specs.declared.prim.Prim_.{Prim_}
use Rattle.opt_table.specs.declared.kind.Kind.{Kind}
use Rattle.opt_table.specs.declared.kind.Side.{Side}
use Rattle.opt_table.specs.Rows.{ports_at}
use Rattle.dump_grammar.specs.Groups.{Group, Base, Module, ModuleOption, is_known_module}
use Rattle.dump_grammar.specs.Lines.{Text}
use Rattle.dump_grammar.specs.Literals.{AreLiterals, IsBaseLiteral, modules_literals, option_follows, text_of}
use Rattle.dump_grammar.specs.Reads.{IsDump}
use Rattle.dump_grammar.specs.Tables.{names_of}
use Rattle.dump_grammar.proofs.SayingLemmas.{SaysBy, says_as}
use Rattle.fffuu_run.specs.inner.Plain.{HasPlainLiterals, IsPlain, IsPlainLiteral}
use Rattle.fffuu_run.proofs.DumpLemmas.{line_of_rule, placed_of}

module _ {W : ℕ} where
  base_plain : (Reads : Text → ℕ → Type 0) (negated : Bool) (o : Text) (arguments : List Text) (l : Lit (Prim_ W)) → IsBaseLiteral Reads negated o arguments l → IsPlainLiteral l
  base_plain Reads negated o arguments (Lit.Unknown shown) is = tt
  base_plain Reads negated o arguments (Lit.Known neg e) (inl (text, (f, a, (value, len, (is, n, x))))) = inl (_, x)
  base_plain Reads negated o arguments (Lit.Known neg e) (inr (inl (text, (f, a, (value, len, (is, n, x)))))) = inl (_, x)
  base_plain Reads negated o arguments (Lit.Known neg e) (inr (inr (inl (text, (f, a, (p, (is, some, short, x))))))) =
      subst IsPlainLiteral (sym x) (inl (Prim_.InName p, refl))
  base_plain Reads negated o arguments (Lit.Known neg e) (inr (inr (inr (inl (text, (f, a, (p, (is, some, short, x)))))))) =
      subst IsPlainLiteral (sym x) (inl (Prim_.OutName p, refl))
  base_plain Reads negated o arguments (Lit.Known neg e) (inr (inr (inr (inr (inl (text, (f, a, inl (every, off, n, x)))))))) = inl (_, x)
  base_plain Reads negated o arguments (Lit.Known neg e) (inr (inr (inr (inr (inl (text, (f, a, inr (k, (spells, some, n, x))))))))) = inl (_, x)
  base_plain Reads negated o arguments (Lit.Known neg e) (inr (inr (inr (inr (inr (f, is)))))) = subst IsPlainLiteral (sym is) tt

  ports_plain : (side : Side) (n : ℕ) (rs : List Range) (e : Expr (Prim_ W)) → e ≡ ports_at side n rs → IsPlain e
  ports_plain Side.Source n rs e x = inl (_, x)
  ports_plain Side.Destination n rs e x = inl (_, x)

  by_plain : (Reads : Text → ℕ → Type 0) (groups : List Group) (k : Kind) (arguments : List Text) (negated : Bool) (e : Expr (Prim_ W)) → SaysBy Reads groups k arguments negated e → IsPlain e
  by_plain Reads groups (Kind.Port transport side) arguments negated e (text, r, (a, i, x)) = ports_plain side _ _ e x
  by_plain Reads groups Kind.Flags arguments negated e (mask, comp, m, c, (a, s, t, x)) = inl (_, x)
  by_plain Reads groups Kind.Syn arguments negated e (a, x) = inl (_, x)
  by_plain Reads groups (Kind.Ports side) arguments negated e (text, n, rs, (a, l, i, x)) = ports_plain side n rs e x
  by_plain Reads groups Kind.EitherPorts arguments negated e (text, n, rs, (a, l, i, x)) = inr (n, rs, x)
  by_plain Reads groups (Kind.Addresses side) arguments negated e (text, r, (a, i, x)) = inl (_, x)
  by_plain Reads groups Kind.States arguments negated e (text, m, (a, i, x)) = inl (_, x)
  by_plain Reads groups Kind.Base arguments negated e says = absurd says
  by_plain Reads groups Kind.Comment arguments negated e (text, (a, n, x)) = inl (_, x)
  by_plain Reads groups (Kind.IcmpType messages) arguments negated e (text, k, (a, s, t, x)) = inl (_, x)

  abbrev ArePlain : List (Lit (Prim_ W)) → Type 0
  ArePlain ls = AllByRecursion IsPlainLiteral ls

  modules_plain : (name : Text) (gs : List Group) (rest : List (Lit (Prim_ W))) → ArePlain rest → ArePlain (modules_literals name gs ++ rest)
  modules_plain name gs rest are = by_cases (is_known_module name || option_follows gs)
    where
      by_cases : (b : Bool) → ArePlain ((if b then [] else Lit.Unknown (text_of (Module name)) ∷ []) ++ rest)
      by_cases true = are
      by_cases false = (tt, are)

  literals_plain : (Reads : Text → ℕ → Type 0) (groups gs : List Group) (ls : List (Lit (Prim_ W))) → AreLiterals Reads groups gs ls → ArePlain ls
  literals_plain Reads groups [] ls are = subst ArePlain (sym are) tt
  literals_plain Reads groups (Base n o a ∷ gs) ls (l, rest, (e, is, are)) =
      subst ArePlain (sym e) (base_plain Reads n o a l is, literals_plain Reads groups gs rest are)
  literals_plain Reads groups (Module name ∷ gs) ls (rest, (e, are)) =
      subst ArePlain (sym e) (modules_plain name gs rest (literals_plain Reads groups gs rest are))
  literals_plain Reads groups (ModuleOption c n o a ∷ gs) ls (Lit.Unknown shown, rest, (e, is, are)) =
      subst ArePlain (sym e) (tt, literals_plain Reads groups gs rest are)
  literals_plain Reads groups (ModuleOption c n o a ∷ gs) ls (Lit.Known neg expr, rest, (e, (name, (f, m, says)), are)) =
      let by = says_as Reads groups name o a n expr says in
      subst ArePlain (sym e) (by_plain Reads groups by.0 a n expr by.1, literals_plain Reads groups gs rest are)

  pub plain_dump : (Reads : Text → ℕ → Type 0) (text : Text) (dump : Dump (Prim_ W)) → IsDump W Reads text dump → HasPlainLiterals dump
  plain_dump Reads text dump reads c rule there =
      let (p, among, is) = placed_of reads.chains reads.rules c rule (subst (λ (d : Dump (Prim_ W)). RuleOf d c rule) reads.dump_is there) in
      let (words, line) = line_of_rule Reads (names_of reads.chains) reads.filter_is.inside.rule_lines reads.rules reads.filter_is.inside.spells p among in
      subst (λ (r : Rule (Prim_ W)). ArePlain r.lits) is (literals_plain Reads line.groups line.groups p.rule.literals line.literals)
