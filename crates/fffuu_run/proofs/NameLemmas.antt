-- The names in the rules of a closed chain can be printed, since those of its dump can.
use Rattle.std.proofs.Common.{◌≡◌, ◌⊎◌, ℕ, zero, suc, List, [], ◌∷◌, All, Contains, inl, inr, arith, sym, subst}
use Rattle.std.specs.List.{AllByRecursion}
use Rattle.basics.proofs.Lists.{each_weaker}
use Rattle.std.proofs.lemmas.List.Elements.{All-contains, All-from_recursion}
use Rattle.name_set.specs.declared.pattern.Pattern.{Pattern}
use Rattle.name_set.specs.declared.set.NameSet.{NameSet}
use Rattle.primitives.specs.declared.prim.Prim_.{Prim_}
use Rattle.fw_rule.specs.declared.rule.Lit.{Lit}
use Rattle.fw_rule.specs.declared.rule.Rule.{Rule}
use Rattle.fw_rule.specs.declared.rule.Chain.{Chain}
use Rattle.fw_rule.specs.declared.rule.Dump.{Dump}
use Rattle.closure.specs.Sources.{IsKnown}
use Rattle.box_norm.specs.declared.cube.Cube.{Cube}
use Rattle.box_norm.specs.declared.cube.SimpleRule.{SimpleRule}
use Rattle.box_norm.specs.Regular.{EachCube, patterns_in}
use Rattle.simple_filter.specs.Closed.{IsKnownPattern, NamesAreKnown, NamesKnown}
use Rattle.match_expr.specs.Primitives.{primitives_in}
use Rattle.dump_grammar.specs.Printable.{HasPrintable, IsPrintable, IsPrintableLiteral}
use Rattle.dump_read.specs.Answers.{IsPrintableDump}
use Rattle.printed_text.specs.Names.{ArePrintableNames, HasPrintableNames}
use Rattle.fw_rule.proofs.Ends.{contains_at}
use Rattle.fffuu_run.proofs.DumpLemmas.{contains_none}

of_one : (own pattern : Pattern) → IsPrintable own → Contains (own ∷ []) pattern → IsPrintable pattern
of_one own pattern h (zero, below, is) = subst IsPrintable is h
of_one own pattern h (suc k, below, is) = absurd (omega arith)

module _ {W : ℕ} where
  of_test : (x : Prim_ W) (pattern : Pattern) → HasPrintable x → Contains (patterns_in x) pattern → IsPrintable pattern
  of_test (Prim_.InName own) pattern h there = of_one own pattern h there
  of_test (Prim_.OutName own) pattern h there = of_one own pattern h there
  of_test x pattern h there = absurd (contains_none pattern there)

  module _ (dump : Dump (Prim_ W)) (chain : ℕ) (printable : IsPrintableDump dump) where
    known_printable : (x : Prim_ W) → IsKnown dump chain x → HasPrintable x
    known_printable x (c, rule, neg, expr, reach, (here, at, inside), literal, among) =
        let rules = All-contains (λ (h : Chain (Prim_ W)). All (λ (r : Rule (Prim_ W)). AllByRecursion IsPrintableLiteral r.lits) h.rules) dump.chains here printable (contains_at dump.chains c here at) in
        let literals = All-contains (λ (r : Rule (Prim_ W)). AllByRecursion IsPrintableLiteral r.lits) here.rules rule rules inside in
        let tests = All-contains IsPrintableLiteral rule.lits (Lit.Known neg expr) (All-from_recursion IsPrintableLiteral rule.lits literals) literal in
        All-contains HasPrintable (primitives_in expr) x (All-from_recursion HasPrintable (primitives_in expr) tests) among

    pattern_printable : (pattern : Pattern) → IsKnownPattern dump chain pattern → IsPrintable pattern
    pattern_printable pattern (x, known, there) = of_test x pattern (known_printable x known) there

    base_printable : (base : Pattern) → (base ≡ Pattern.Prefix []) ⊎ IsKnownPattern dump chain base → IsPrintable base
    base_printable base (inl every) = subst IsPrintable (sym every) (omega arith, tt)
    base_printable base (inr known) = pattern_printable base known

    names_printable : (s : NameSet) → NamesKnown dump chain s → ArePrintableNames s
    names_printable s known = record {
      base = base_printable s.base known.base;
      excluded = each_weaker (IsKnownPattern dump chain) IsPrintable pattern_printable s.excluded known.excluded;
    }

    cube_printable : (cube : Cube W) → NamesAreKnown dump chain cube → HasPrintableNames cube
    cube_printable cube known = record { in_name = names_printable cube.in_name known.in_name; out_name = names_printable cube.out_name known.out_name }

    pub rules_printable : (rules : List (SimpleRule W)) → EachCube (NamesAreKnown dump chain) rules → EachCube HasPrintableNames rules
    rules_printable rules known =
        each_weaker (λ (rule : SimpleRule W). NamesAreKnown dump chain rule.cube) (λ (rule : SimpleRule W). HasPrintableNames rule.cube)
        (λ (rule : SimpleRule W) h. cube_printable rule.cube h) rules known
