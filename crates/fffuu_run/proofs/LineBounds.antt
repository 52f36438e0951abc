-- The lines that a text's refusals name are no more than its bytes and one.
use Rattle.std.proofs.Common.{◌≡◌, ◌≢◌, ◌∙◌, ◌⊎◌, ◌+◌, ◌<◌, ◌≤◌, ◌^◌, ◌++◌, ◌∷◌, [], ℕ, List, refl, inl, inr, arith, ap, sym, subst, length, length-append, not}
use Rattle.std.specs.List.{AllByRecursion}
use Rattle.basics.proofs.Lists.{contained, each_filter, each_left, each_right}
use Rattle.limits.specs.declared.TheConstants.{MOST_BYTES}
use Rattle.primitives.specs.declared.prim.Prim_.{Prim_}
use Rattle.fw_rule.specs.Calls.{RuleOf}
use Rattle.fw_rule.specs.declared.rule.Dump.{Dump}
use Rattle.fw_rule.specs.declared.rule.Rule.{Rule}
use Rattle.dump_grammar.specs.Lines.{AreLines, Numbered, Text, is_passed_over, numbered_from}
use Rattle.dump_grammar.specs.Reads.{HasFilter, IsDump, IsMalformed, IsUndefinedLine}
use Rattle.dump_grammar.specs.Tables.{AreRuleLines, IsBadLine, Placed, lines_of, names_of}
use Rattle.dump_grammar.specs.declared.chains.Declared.{Declared}
use Rattle.fffuu_run.specs.Questions.{Comes, HasNoChain, IsToldAs, RefusesText}
use Rattle.fffuu_run.specs.declared.status.Status.{Status}
use Rattle.fffuu_run.specs.declared.status.Status.TheVariants as status
use Rattle.fffuu_run.specs.inner.Pairs.{HasLineAfter, HasLinesAfter}
use Rattle.simple_filter.specs.declared.refusal.Kind.{Kind}
use Rattle.simple_filter.specs.declared.refusal.Refusal.{Refusal}
use Rattle.fffuu_run.proofs.DumpLemmas.{lines_there, placed_of}

not_empty : (line : Text) → line ≢ [] → 1 ≤ length line
not_empty [] some = absurd (some refl)
not_empty (b ∷ line) some = omega arith

lines_few : (lines : List Text) (text : Text) → AreLines lines text → length lines ≤ length text
lines_few [] text are = omega arith
lines_few (line ∷ lines) text (is, inl (rest, e, are)) =
    let more = lines_few lines rest are in omega (arith, more, ap length e, length-append line (10 ∷ rest))
lines_few (line ∷ lines) text (is, inr (e, some, none)) = omega (arith, ap length e, ap length none, not_empty line some)

numbered_below : (n most : ℕ) (lines : List Text) → n + length lines ≤ most + 1 → AllByRecursion (λ (line : Numbered). line.number ≤ most) (numbered_from n lines)
numbered_below n most [] few = tt
numbered_below n most (line ∷ lines) few = (omega (arith, few), numbered_below (n + 1) most lines (omega (arith, few)))

module _ (W : ℕ) (Reads : Text → ℕ → Type 0) where
  spelled_below : (names : List Text) (most : ℕ) (lines : List Numbered) (rules : List (Placed W)) → AreRuleLines W Reads names lines rules
      → AllByRecursion (λ (line : Numbered). line.number ≤ most) lines → AllByRecursion (λ (placed : Placed W). placed.number ≤ most) rules
  spelled_below names most [] [] are below = tt
  spelled_below names most [] (rule ∷ rules) are below = absurd are
  spelled_below names most (line ∷ lines) [] are below = absurd are
  spelled_below names most (line ∷ lines) (rule ∷ rules) ((same, spells), are) (first, below) =
      (omega (arith, same, first), spelled_below names most lines rules are below)

  -- each rule of a table filter stands on a line of the text
  rules_below : (text : Text) (chains : List Declared) (rules : List (Placed W)) → HasFilter W Reads text chains rules
      → AllByRecursion (λ (placed : Placed W). placed.number ≤ length text) rules
  rules_below text chains rules f =
      let Q = λ (line : Numbered). line.number ≤ length text in
      let (before, after, is) = lines_there f.tables f.table f.there in
      let numbered = numbered_below 1 (length text) f.lines (omega (arith, lines_few f.lines text f.parted)) in
      let kept = subst (AllByRecursion Q) (f.tabled.whole ∙ is) (each_filter Q (λ (line : Numbered). not (is_passed_over line.bytes)) (numbered_from 1 f.lines) numbered) in
      let table = each_left Q (lines_of f.table) after (each_right Q before (lines_of f.table ++ after) kept) in
      let body = each_left Q f.table.body (f.table.close ∷ []) table.1 in
      let lines = each_right Q f.inside.chain_lines f.inside.rule_lines (subst (AllByRecursion Q) f.inside.whole body) in
      spelled_below (names_of chains) (length text) f.inside.rule_lines rules f.inside.spells lines

  module _ (text : Text) (short : length text ≤ MOST_BYTES) (before : ℕ) (few : before ≤ MOST_BYTES + 1) where
    pub lines_after : (dump : Dump (Prim_ W)) → IsDump W Reads text dump → HasLinesAfter before dump
    lines_after dump reads c rule there =
        let (placed, among, is) = placed_of reads.chains reads.rules c rule (subst (λ (d : Dump (Prim_ W)). RuleOf d c rule) reads.dump_is there) in
        let below = contained (λ (p : Placed W). p.number ≤ length text) reads.rules placed (rules_below text reads.chains reads.rules reads.filter_is) among in
        omega (arith, below, short, few, ap (λ (r : Rule (Prim_ W)). r.line) is)

    bad_after : (lines : List Text) (n : ℕ) → length lines ≤ length text → IsBadLine W Reads lines n → before + n < 2 ^ 32
    bad_after lines n less (inl (below, rest, more)) = omega (arith, below, less, short, few)
    bad_after lines n less (inr (is, rest, more)) = omega (arith, is, less, short, few)

    malformed_after : (n : ℕ) → IsMalformed W Reads text n → before + n < 2 ^ 32
    malformed_after n m = bad_after m.lines n (lines_few m.lines text m.parted) m.bad

    undefined_after : (n : ℕ) → IsUndefinedLine W Reads text n → before + n < 2 ^ 32
    undefined_after n u =
        let all = rules_below text u.chains (u.before ++ u.placed ∷ u.after) u.filter_is in
        let below = (each_right (λ (p : Placed W). p.number ≤ length text) u.before (u.placed ∷ u.after) all).0 in
        omega (arith, below, short, few, u.number_is)

    text_after : (s : Status) → RefusesText W Reads text s → HasLineAfter before s
    text_after (status.Malformed n) r = malformed_after n r
    text_after status.NoFilter r = tt
    text_after (status.UndefinedChain n) r = undefined_after n r
    text_after s r = absurd r

    pub missing_after : (name : List ℕ) (s : Status) → (s ≡ status.Memory) ⊎ HasNoChain W Reads name text s → HasLineAfter before s
    missing_after name s (inl memory) = subst (HasLineAfter before) (sym memory) tt
    missing_after name s (inr (inl fault)) = text_after s fault
    missing_after name s (inr (inr (is, none))) = subst (HasLineAfter before) (sym is) tt

-- what is told of a chain of a dump whose lines are small
told_one : {P : Type 0} (dump : Dump P) (chain : ℕ) (IsOver : Kind → Type 0) (before : ℕ) → HasLinesAfter before dump → (refusal : Refusal)
    → Comes dump chain IsOver refusal → (s : Status) → IsToldAs dump refusal s → HasLineAfter before s
told_one dump chain IsOver before lines (Refusal.Unsupported line name) ((rule, (c, reach, there, other), is), least) s told =
    subst (HasLineAfter before) (sym told) (omega (arith, lines c rule there, is))
told_one dump chain IsOver before lines (Refusal.Loop c) comes s (name, named, told) = subst (HasLineAfter before) (sym told) tt
told_one dump chain IsOver before lines (Refusal.Limit k) comes s told = subst (HasLineAfter before) (sym told) tt
told_one dump chain IsOver before lines Refusal.Memory comes s told = absurd told

pub told_after : {P : Type 0} (dump : Dump P) (chain : ℕ) (IsOver : Kind → Type 0) (before : ℕ) → HasLinesAfter before dump → (refusal : Refusal)
    → Comes dump chain IsOver refusal → (s : Status) → (s ≡ status.Memory) ⊎ IsToldAs dump refusal s → HasLineAfter before s
told_after dump chain IsOver before lines refusal comes s (inl memory) = subst (HasLineAfter before) (sym memory) tt
told_after dump chain IsOver before lines refusal comes s (inr told) = told_one dump chain IsOver before lines refusal comes s told
