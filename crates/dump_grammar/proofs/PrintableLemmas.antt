-- What a line says can be printed.
use Rattle.std.proofs.Common.{◌≡◌, ◌∙◌, ◌≤◌, ℕ, List, [], ◌∷◌, ◌++◌, Bool, true, false, Option, Some, None, refl, sym, ap, subst, arith, codes, inl, inr, length, length-append, map, if◌then◌else◌, ◌||◌}
use Rattle.std.specs.List.{AllByRecursion}
use Rattle.fw_rule.specs.declared.rule.Lit.{Lit}
use Rattle.interval_set.specs.declared.set.Range.{Range}
use Rattle.match_expr.specs.declared.expr.Expr.{Expr}
use Rattle.match_expr.specs.declared.expr.Expr.TheFolds.{fold-roll-Expr}
use Rattle.match_expr.specs.declared.expr.Expr.TheOpen.{Expr-F}
use Rattle.match_expr.specs.declared.expr.Expr.TheVariants.{All, Not, Prim, rolls-All, rolls-Not, rolls-Prim}
use Rattle.name_set.specs.declared.pattern.Pattern.{Pattern}
use Rattle.primitives.specs.declared.prim.Prim_.{Prim_}
use Rattle.opt_table.specs.declared.kind.Kind.{Kind}
use Rattle.opt_table.specs.declared.kind.Side.{Side}
use Rattle.opt_table.specs.Options.{either_port}
use Rattle.dump_grammar.specs.Groups.{AreGroups, Group, Base, Module, ModuleOption, is_known_module, mark_words}
use Rattle.opt_table.specs.Rows.{addresses_at, ports_at}
use Rattle.dump_grammar.specs.Lines.{IsLine, Text, Word, bare, texts}
use Rattle.dump_grammar.specs.Literals.{AreLiterals, IsBaseLiteral, IsPattern, modules_literals, option_follows, text_of}
use Rattle.match_expr.specs.Primitives.{joined, listed, primitives_in}
use Rattle.dump_grammar.specs.Printable.{HasPrintable, IsPrintable, IsPrintableLiteral}
use Rattle.dump_grammar.specs.RuleLines.{IsRuleHead}
use Rattle.dump_grammar.proofs.SayingLemmas.{SaysBy, says_as}

tests-Prim : {P : Type 0} (x : P) → primitives_in (Prim x) ≡ x ∷ []
tests-Prim {P} x = ap (primitives_in {P = P}) (sym (rolls-Prim x)) ∙ fold-roll-Expr P (List P) (listed {P = P}) (Expr-F.Prim x)

tests-Not : {P : Type 0} (e : Expr P) → primitives_in (Not e) ≡ primitives_in e
tests-Not {P} e = ap (primitives_in {P = P}) (sym (rolls-Not e)) ∙ fold-roll-Expr P (List P) (listed {P = P}) (Expr-F.Not e)

tests-All : {P : Type 0} (es : List (Expr P)) → primitives_in (All es) ≡ joined (map (primitives_in {P = P}) es)
tests-All {P} es = ap (primitives_in {P = P}) (sym (rolls-All es)) ∙ fold-roll-Expr P (List P) (listed {P = P}) (Expr-F.All es)

line_front : (front back : Text) → IsLine (front ++ back) → IsLine front
line_front [] back is = tt
line_front (b ∷ front) back is = (is.0, line_front front back is.1)

pattern_printable : (text : Text) (p : Pattern) → IsPattern text p → 1 ≤ length text → length text ≤ 255 → IsLine text → IsPrintable p
pattern_printable text (Pattern.Exact name) is some short line = (
  subst (λ (t : Text). 1 ≤ length t) is.0 some,
  subst (λ (t : Text). length t ≤ 255) is.0 short,
  λ front e. is.1 front (is.0 ∙ e),
  subst IsLine is.0 line,
)
pattern_printable text (Pattern.Prefix front) is some short line =
    (omega (arith, ap length is, length-append front (codes "+"), short), line_front front (codes "+") (subst IsLine is line))

-- arguments have no line feed
abbrev AreFree : List Text → Type 0
AreFree arguments = AllByRecursion IsLine arguments

first_free : (arguments : List Text) (text : Text) → arguments ≡ text ∷ [] → AreFree arguments → IsLine text
first_free arguments text is free = let h : AreFree (text ∷ []) = subst AreFree is free in h.0

-- the arguments of each group have no line feed
abbrev GroupsFree : List Group → Type 0
GroupsFree [] = Unit {0}
GroupsFree (Base n o a ∷ gs) = AreFree a × GroupsFree gs
GroupsFree (Module name ∷ gs) = GroupsFree gs
GroupsFree (ModuleOption c n o a ∷ gs) = GroupsFree gs

module _ {W : ℕ} where
  one_printable : (neg : Bool) (e : Expr (Prim_ W)) (x : Prim_ W) → e ≡ Prim x → HasPrintable x → IsPrintableLiteral (Lit.Known neg e)
  one_printable neg e x is has = subst (λ (xs : List (Prim_ W)). AllByRecursion HasPrintable xs) (sym (ap (primitives_in {P = Prim_ W}) is ∙ tests-Prim x)) (has, tt)

  base_printable : (Reads : Text → ℕ → Type 0) (negated : Bool) (o : Text) (arguments : List Text) (l : Lit (Prim_ W)) → AreFree arguments → IsBaseLiteral Reads negated o arguments l
      → IsPrintableLiteral l
  base_printable Reads negated o arguments (Lit.Unknown shown) free is = tt
  base_printable Reads negated o arguments (Lit.Known neg e) free (inl (text, (f, a, (value, len, (is, n, x))))) = one_printable neg e _ x tt
  base_printable Reads negated o arguments (Lit.Known neg e) free (inr (inl (text, (f, a, (value, len, (is, n, x)))))) = one_printable neg e _ x tt
  base_printable Reads negated o arguments (Lit.Known neg e) free (inr (inr (inl (text, (f, a, (p, (is, some, short, x))))))) =
      subst IsPrintableLiteral (sym x) (one_printable negated (Prim (Prim_.InName p)) (Prim_.InName p) refl (pattern_printable text p is some short (first_free arguments text a free)))
  base_printable Reads negated o arguments (Lit.Known neg e) free (inr (inr (inr (inl (text, (f, a, (p, (is, some, short, x)))))))) =
      subst IsPrintableLiteral (sym x) (one_printable negated (Prim (Prim_.OutName p)) (Prim_.OutName p) refl (pattern_printable text p is some short (first_free arguments text a free)))
  base_printable Reads negated o arguments (Lit.Known neg e) free (inr (inr (inr (inr (inl (text, (f, a, inl (every, off, n, x)))))))) = one_printable neg e _ x tt
  base_printable Reads negated o arguments (Lit.Known neg e) free (inr (inr (inr (inr (inl (text, (f, a, inr (k, (spells, some, n, x))))))))) = one_printable neg e _ x tt
  base_printable Reads negated o arguments (Lit.Known neg e) free (inr (inr (inr (inr (inr (f, is)))))) = subst IsPrintableLiteral (sym is) tt

  ports_printable : (neg : Bool) (side : Side) (n : ℕ) (rs : List Range) (e : Expr (Prim_ W)) → e ≡ ports_at side n rs → IsPrintableLiteral (Lit.Known neg e)
  ports_printable neg Side.Source n rs e x = one_printable neg e _ x tt
  ports_printable neg Side.Destination n rs e x = one_printable neg e _ x tt

  addresses_printable : (neg : Bool) (side : Side) (rs : List Range) (e : Expr (Prim_ W)) → e ≡ Prim (addresses_at side rs) → IsPrintableLiteral (Lit.Known neg e)
  addresses_printable neg Side.Source rs e x = one_printable neg e _ x tt
  addresses_printable neg Side.Destination rs e x = one_printable neg e _ x tt

  either_tests : (a b : Prim_ W) → primitives_in (Not (All (Not (Prim a) ∷ Not (Prim b) ∷ []))) ≡ a ∷ b ∷ []
  either_tests a b =
      tests-Not (All (Not (Prim a) ∷ Not (Prim b) ∷ [])) ∙ tests-All (Not (Prim a) ∷ Not (Prim b) ∷ [])
      ∙ ap (λ (xs : List (Prim_ W)). xs ++ (primitives_in (Not (Prim b)) ++ [])) (tests-Not (Prim a) ∙ tests-Prim a)
      ∙ ap (λ (xs : List (Prim_ W)). a ∷ (xs ++ [])) (tests-Not (Prim b) ∙ tests-Prim b)

  either_printable : (neg : Bool) (n : ℕ) (rs : List Range) (e : Expr (Prim_ W)) → e ≡ either_port n rs → IsPrintableLiteral (Lit.Known neg e)
  either_printable neg n rs e x =
      subst (λ (xs : List (Prim_ W)). AllByRecursion HasPrintable xs) (sym (ap (primitives_in {P = Prim_ W}) x ∙ either_tests _ _)) (tt, (tt, tt))

  by_printable : (Reads : Text → ℕ → Type 0) (groups : List Group) (k : Kind) (arguments : List Text) (negated neg : Bool) (e : Expr (Prim_ W)) → SaysBy Reads groups k arguments negated e
      → IsPrintableLiteral (Lit.Known neg e)
  by_printable Reads groups (Kind.Port transport side) arguments negated neg e (text, r, (a, i, x)) = ports_printable neg side _ _ e x
  by_printable Reads groups Kind.Flags arguments negated neg e (mask, comp, m, c, (a, s, t, x)) = one_printable neg e _ x tt
  by_printable Reads groups Kind.Syn arguments negated neg e (a, x) = one_printable neg e _ x tt
  by_printable Reads groups (Kind.Ports side) arguments negated neg e (text, n, rs, (a, l, i, x)) = ports_printable neg side n rs e x
  by_printable Reads groups Kind.EitherPorts arguments negated neg e (text, n, rs, (a, l, i, x)) = either_printable neg n rs e x
  by_printable Reads groups (Kind.Addresses side) arguments negated neg e (text, r, (a, i, x)) = addresses_printable neg side _ e x
  by_printable Reads groups Kind.States arguments negated neg e (text, m, (a, i, x)) = one_printable neg e _ x tt
  by_printable Reads groups Kind.Base arguments negated neg e says = absurd says
  by_printable Reads groups Kind.Comment arguments negated neg e (text, (a, n, x)) = one_printable neg e _ x tt
  by_printable Reads groups (Kind.IcmpType messages) arguments negated neg e (text, k, (a, s, t, x)) = one_printable neg e _ x tt

  modules_printable : (name : Text) (gs : List Group) (rest : List (Lit (Prim_ W))) → AllByRecursion IsPrintableLiteral rest → AllByRecursion IsPrintableLiteral (modules_literals name gs ++ rest)
  modules_printable name gs rest are = by_cases (is_known_module name || option_follows gs)
    where
      by_cases : (b : Bool) → AllByRecursion IsPrintableLiteral ((if b then [] else Lit.Unknown (text_of (Module name)) ∷ []) ++ rest)
      by_cases true = are
      by_cases false = (tt, are)

  literals_printable : (Reads : Text → ℕ → Type 0) (groups gs : List Group) (ls : List (Lit (Prim_ W))) → GroupsFree gs → AreLiterals Reads groups gs ls → AllByRecursion IsPrintableLiteral ls
  literals_printable Reads groups [] ls free are = subst (λ (xs : List (Lit (Prim_ W))). AllByRecursion IsPrintableLiteral xs) (sym are) tt
  literals_printable Reads groups (Base n o a ∷ gs) ls free (l, rest, (e, is, are)) =
      subst (λ (xs : List (Lit (Prim_ W))). AllByRecursion IsPrintableLiteral xs) (sym e) (base_printable Reads n o a l free.0 is, literals_printable Reads groups gs rest free.1 are)
  literals_printable Reads groups (Module name ∷ gs) ls free (rest, (e, are)) =
      subst (λ (xs : List (Lit (Prim_ W))). AllByRecursion IsPrintableLiteral xs) (sym e) (modules_printable name gs rest (literals_printable Reads groups gs rest free are))
  literals_printable Reads groups (ModuleOption c n o a ∷ gs) ls free (Lit.Unknown shown, rest, (e, is, are)) =
      subst (λ (xs : List (Lit (Prim_ W))). AllByRecursion IsPrintableLiteral xs) (sym e) (tt, literals_printable Reads groups gs rest free are)
  literals_printable Reads groups (ModuleOption c n o a ∷ gs) ls free (Lit.Known neg expr, rest, (e, (name, (f, m, says)), are)) =
      let by = says_as Reads groups name o a n expr says in
      subst (λ (xs : List (Lit (Prim_ W))). AllByRecursion IsPrintableLiteral xs) (sym e)
      (by_printable Reads groups by.0 a n neg expr by.1, literals_printable Reads groups gs rest free are)

abbrev WordsFree : List Word → Type 0
WordsFree words = AllByRecursion (λ (w : Word). IsLine w.text) words

back_free : (a b : List Word) → WordsFree (a ++ b) → WordsFree b
back_free [] b free = free
back_free (w ∷ a) b free = back_free a b free.1

front_free : (a b : List Word) → WordsFree (a ++ b) → AllByRecursion IsLine (texts a)
front_free [] b free = tt
front_free (w ∷ a) b free = (free.0, front_free a b free.1)

mark_free : (n : Bool) (ws : List Word) → WordsFree (mark_words n ++ ws) → WordsFree ws
mark_free true ws free = free.1
mark_free false ws free = free

groups_free : (current : Option Text) (words target : List Word) (gs : List Group) → WordsFree words → AreGroups current words gs target → GroupsFree gs
groups_free current words target [] free are = tt
groups_free current words target (Base n o a ∷ gs) free (rest, ((taken, (split, base, arity, same)), are)) =
    let after : WordsFree (taken ++ rest) = (mark_free n (bare o ∷ (taken ++ rest)) (subst WordsFree split free)).1 in
    (subst (λ (ts : List Text). AllByRecursion IsLine ts) same (front_free taken rest after), groups_free current rest target gs (back_free taken rest after) are)
groups_free current words target (Module name ∷ gs) free (rest, ((value, (split, named)), are)) =
    let all = subst WordsFree split free in
    groups_free (Some name) rest target gs all.1.1 are
groups_free current words target (ModuleOption c n o a ∷ gs) free (rest, ((taken, (split, now, option, takes, same)), are)) =
    let after : WordsFree (taken ++ rest) = (mark_free n (bare o ∷ (taken ++ rest)) (subst WordsFree split free)).1 in
    groups_free current rest target gs (back_free taken rest after) are

head_free : (words : List Word) (chain : Text) (rest : List Word) → WordsFree words → IsRuleHead words chain rest → WordsFree rest
head_free words chain rest free (counter, name, (is, named, split)) = (back_free counter _ (subst WordsFree split free)).1.1

-- each test of a line's literals can be printed, where no word of the line has a line feed
pub rule_printable : {W : ℕ} (Reads : Text → ℕ → Type 0) (words : List Word) (chain : Text) (rest target : List Word) (groups : List Group) (ls : List (Lit (Prim_ W)))
    → IsRuleHead words chain rest → AreGroups None rest groups target → AreLiterals Reads groups groups ls → WordsFree words → AllByRecursion IsPrintableLiteral ls
rule_printable {W} Reads words chain rest target groups ls head grouped are free =
    literals_printable Reads groups groups ls (groups_free None rest target groups (head_free words chain rest free head) grouped) are
