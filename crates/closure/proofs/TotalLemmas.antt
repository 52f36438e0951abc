-- The literals that are counted along the tree are those of the flat list.
use Rattle.std.proofs.Common.{◌≡◌, ℕ, ◌+◌, ◌-◌, ◌^◌, ◌≤◌, arith, Bool, true, false, List, [], ◌∷◌, ◌++◌, map, if◌then◌else◌, refl, sym, ◌∙◌, ap}
use Rattle.match_expr.specs.Meaning.{literal_count, number, sum_of}
use Rattle.match_expr.proofs.Equations.{literals-All}
use Rattle.match_expr.specs.declared.expr.Expr.{Expr}
use Rattle.match_expr.specs.declared.expr.Expr.TheVariants.{All, Not, rolls-Not}
use Rattle.match_expr.specs.declared.expr.Expr.TheOpen.{Expr-F}
use Rattle.match_expr.specs.declared.expr.Expr.TheFolds.{fold-roll-Expr}
use Rattle.match_expr.specs.declared.expr.FlatRule.{FlatRule}
use Rattle.fw_rule.specs.declared.rule.Lit.{Lit}
use Rattle.fw_rule.specs.Matching.{known_in}
use Rattle.closure.specs.Rewriting.{Tree}
use Rattle.closure.specs.Flat.{flat_list, literals_in}
use Rattle.closure.specs.Stream.{cut_all, cut_out, stream}
use Rattle.closure.specs.inner.Counts.{capped}
use Rattle.closure.specs.inner.Totals.{with_literals, together, total_of, lit_count}
use Rattle.closure.proofs.Streams.{stream_is}

added : (n k : ℕ) → capped (capped n + k) ≡ capped (n + k)
added n k = omega arith

pub summed : (n k x y : ℕ) → capped k ≡ capped y → n ≡ capped x → capped (n + k) ≡ capped (x + y)
summed n k x y e f = omega (arith, e, f)

module _ {P : Type 0} where
  pub together_append : (a b : List (Expr P)) → together (a ++ b) ≡ together a + together b
  together_append [] b = omega arith
  together_append (e ∷ a) b = let h = together_append a b in omega (arith, h)

  pub count_not : (e : Expr P) → literal_count (Not e) ≡ literal_count e
  count_not e = ap (literal_count {P = P}) (sym (rolls-Not e)) ∙ fold-roll-Expr P ℕ (number {P = P}) (Expr-F.Not e)

  count_signed : (neg : Bool) (e : Expr P) → literal_count (if neg then Not e else e) ≡ literal_count e
  count_signed true e = count_not e
  count_signed false e = refl

  pub count_behind : (past : List (Expr P)) (e : Expr P) → literal_count (All (past ++ e ∷ [])) ≡ together past + literal_count e
  count_behind past e = let h = literals-All (past ++ e ∷ []) in let q = together_append past (e ∷ []) in omega (arith, h, q)

  pub count_both : (e condition : Expr P) → literal_count (All (e ∷ condition ∷ [])) ≡ literal_count e + literal_count condition
  count_both e condition = let h = literals-All (e ∷ condition ∷ []) in omega (arith, h)

  parts_counted : (lits : List (Lit P)) → sum_of (map lit_count lits) ≡ together (known_in lits)
  parts_counted [] = refl
  parts_counted (Lit.Known neg expr ∷ lits) =
      let e : literal_count (if neg then Not expr else expr) ≡ literal_count expr = count_signed neg expr in
      let h : sum_of (map lit_count lits) ≡ together (known_in lits) = parts_counted lits in
      rw (e, h) refl
  parts_counted (Lit.Unknown text ∷ lits) = let h : sum_of (map lit_count lits) ≡ together (known_in lits) = parts_counted lits in omega (arith, h)

  pub known_counted : (lits : List (Lit P)) → sum_of (map lit_count lits) ≡ literal_count (All (known_in lits))
  known_counted lits = parts_counted lits ∙ sym (literals-All (known_in lits))

  counted_parts : (es : List (Expr P)) (n : ℕ) → capped (n + together es) ≡ cut_all with_literals (capped n) es
  counted_parts [] n = let e : n + 0 ≡ n = omega arith in ap capped e
  counted_parts (e ∷ es) n =
      let q : n + (literal_count e + together es) ≡ n + literal_count e + together es = omega arith in
      ap capped q ∙ counted_parts es (n + literal_count e) ∙ ap (λ (k : ℕ). cut_all with_literals k es) (sym (added n (literal_count e)))

  by_parts : (es : List (Expr P)) → with_literals 0 (All es) ≡ cut_all with_literals 0 es
  by_parts es = ap (λ (n : ℕ). capped (0 + n)) (literals-All es) ∙ counted_parts es 0

  pub cut_literals : (around : ℕ) → around ≤ 2 ^ 64 - 1 → (es : List (Expr P)) → cut_all with_literals around es ≡ capped (around + together es)
  cut_literals around small es =
      let q : capped around ≡ around = omega (arith, small) in
      ap (λ (n : ℕ). cut_all with_literals n es) (sym q) ∙ sym (counted_parts es around)

  totals : (rules : List (FlatRule P)) → capped (total_of (map (cut_out with_literals 0) rules)) ≡ capped (literals_in rules)
  totals [] = refl
  totals (rule ∷ rules) =
      let f : capped (0 + literal_count rule.expr) ≡ capped (literal_count rule.expr) = omega arith in
      summed (capped (0 + literal_count rule.expr)) (total_of (map (cut_out with_literals 0) rules)) (literal_count rule.expr) (literals_in rules) (totals rules) f

  pub literals_totalled : (tree : Tree P) → capped (total_of (stream with_literals 0 tree)) ≡ capped (literals_in (flat_list tree))
  literals_totalled tree = ap (λ (z : List (ℕ × Bool)). capped (total_of z)) (sym (stream_is with_literals 0 by_parts tree)) ∙ totals (flat_list tree)
