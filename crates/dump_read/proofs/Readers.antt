-- The words of a line are one rule at most, in each family of addresses.
use Rattle.std.proofs.Common.{ℕ, ◌≡◌, ◌≤◌, ◌∷◌, [], ◌++◌, inl, inr, List, sym, subst, arith}
use Rattle.std.specs.List.{AllByRecursion}
use Rattle.interval_set.specs.Numbers.{IsWidth}
use Rattle.addr_text.proofs.TextLemmas.{IsFamily, one_net_by, one_range_by}
use Rattle.dump_token.specs.declared.token.Token.{Token}
use Rattle.dump_token.specs.Words.{Means, Spells, AreWords}
use Rattle.dump_grammar.specs.Lines.{Text, Word, IsLine, words_of}
use Rattle.dump_grammar.specs.declared.rule.RuleLine.{RuleLine}
use Rattle.dump_grammar.specs.RuleLines.{IsRuleLine}
use Rattle.dump_grammar.proofs.RuleOnce.{one_rule_line}

pub one_rule : (W : ℕ) (Reads : Text → ℕ → Type 0) → IsFamily Reads → W ≤ 128 → (names : List Text) (words : List Word) (a b : RuleLine W) →
    IsRuleLine Reads names words a → IsRuleLine Reads names words b → a ≡ b
one_rule W Reads laws most names words a b = one_rule_line Reads names words a b (one_net_by Reads laws W most) (one_range_by Reads laws)

pub width_most : (W : ℕ) → IsWidth W → W ≤ 128
width_most W (inl e) = omega (arith, e)
width_most W (inr (inl e)) = omega (arith, e)
width_most W (inr (inr (inl e))) = omega (arith, e)
width_most W (inr (inr (inr e))) = omega (arith, e)

-- the words of a line hold no line feed
line_left : (a b : Text) → IsLine (a ++ b) → IsLine a
line_left [] b h = tt
line_left (x ∷ a) b h = (h.0, line_left a b h.1)

line_right : (a b : Text) → IsLine (a ++ b) → IsLine b
line_right [] b h = h
line_right (x ∷ a) b h = line_right a b h.1

meant_line : (bytes text : Text) → Means bytes text → IsLine bytes → IsLine text
meant_line [] text m h = subst IsLine (sym m) tt
meant_line (b ∷ []) text (inl m) h = absurd m.1
meant_line (b ∷ (d ∷ bs)) text (inl m) h = subst IsLine (sym m.1.1) (h.1.0, meant_line bs m.1.0 m.1.2 h.1.1)
meant_line (b ∷ bs) text (inr m) h = subst IsLine (sym m.2.1) (h.0, meant_line bs m.2.0 m.2.2 h.1)

spelled_line : (s rest : Text) (w : Token) → Spells s rest w → IsLine s → IsLine w.text
spelled_line s rest w (inl p) h = subst IsLine (sym p.text) h
spelled_line s rest w (inr q) h = meant_line q.inner w.text q.text (line_left q.inner (34 ∷ []) (line_right (34 ∷ []) (q.inner ++ 34 ∷ []) (subst IsLine q.whole h)))

pub words_lines : (at : ℕ) (tokens : List Token) (line : Text) → AreWords at tokens line → IsLine line → AllByRecursion (λ (word : Word). IsLine word.text) (words_of tokens)
words_lines at [] line h is = tt
words_lines at (w ∷ tokens) line (rest, first, more) is =
    let after = line_right first.gap first.after (subst IsLine first.whole is) in
    let here = subst IsLine first.begins.whole after in (
      spelled_line first.begins.spelled rest w first.begins.spells (line_left first.begins.spelled rest here),
      words_lines w.end tokens rest more (line_right first.begins.spelled rest here),
    )
