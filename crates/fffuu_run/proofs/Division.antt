-- A text is divided in one way at most, and the way is found line by line.
use Rattle.std.proofs.Common.{Bool, true, false, ◌≡◌, ◌≢◌, ◌∙◌, ◌⊎◌, ◌≤◌, ◌+◌, ◌-◌, ◌++◌, ◌∷◌, [], ℕ, List, inl, inr, refl, arith, ap, sym, subst, append_assoc, append-nil, length, length-append, take}
use Rattle.std.specs.List.{AllByRecursion}
use Rattle.std.specs.Str.{bytes_eq}
use Rattle.std.proofs.lemmas.List.{append_cancel_left, append_cancel_right}
use Rattle.std.proofs.lemmas.Slice.Eq.{bytes_eq-Decides}
use Rattle.basics.proofs.Lists.{each_more}
use Rattle.dump_grammar.specs.Lines.{Text, IsLine}
use Rattle.dump_read.proofs.LineLemmas.{no_feed, same_line}
use Rattle.dump_read.specs.Pieces.{BeginsWithLines}
use Rattle.limits.specs.declared.TheConstants.{MOST_BYTES}
use Rattle.fffuu_run.specs.Covers.{IsDivided, divider}

-- texts whose test fails aren't the same
pub not_same : (a b : List ℕ) (tested : Bool) → tested ≡ bytes_eq a b → tested ≡ false → a ≡ b → ⊥
not_same a b tested test fails same = let holds : bytes_eq a b ≡ true = (bytes_eq-Decides a b).1 same in absurd (cc)

-- what stands behind the dividing line is its end: a line feed and the second part, or nothing
abbrev Ends : Text → Text → Type 0
Ends ending second = (ending ≡ 10 ∷ second) ⊎ ((ending ≡ []) × (second ≡ []))

abbrev Undivided : List Text → Type 0
Undivided lines = AllByRecursion (λ line. line ≢ divider) lines

divider_line : IsLine divider
divider_line = (λ e. omega (arith, e), (λ e. omega (arith, e), tt))

-- the divider is no line before itself
before_divider : (line after ending second : Text) → IsLine line → line ≢ divider → divider ++ ending ≡ line ++ 10 ∷ after → Ends ending second → ⊥
before_divider line after ending second is other same (inl e) =
    other (sym (same_line divider line second after divider_line is (ap (λ z. divider ++ z) (sym e) ∙ same)).0)
before_divider line after ending second is other same (inr (e, none)) =
    no_feed line after (subst IsLine (sym (append-nil divider) ∙ ap (λ z. divider ++ z) (sym e) ∙ same) divider_line)

-- two ways to divide a text have the same lines and the same end
one_front : (lines others : List Text) (text ending other second second' : Text) → BeginsWithLines lines text (divider ++ ending) → BeginsWithLines others text (divider ++ other)
    → Undivided lines → Undivided others → Ends ending second → Ends other second' → (lines ≡ others) × (ending ≡ other)
one_front [] [] text ending other second second' a b none none' ends ends' = (refl, append_cancel_left divider ending other (sym a ∙ b))
one_front [] (line ∷ others) text ending other second second' a (is, (after, (e, b))) none none' ends ends' =
    absurd (before_divider line after ending second is none'.0 (sym a ∙ e) ends)
one_front (line ∷ lines) [] text ending other second second' (is, (after, (e, a))) b none none' ends ends' =
    absurd (before_divider line after other second' is none.0 (sym b ∙ e) ends')
one_front (line ∷ lines) (line' ∷ others) text ending other second second' (is, (after, (e, a))) (is', (after', (e', b))) none none' ends ends' =
    let same = same_line line line' after after' is is' (sym e ∙ e') in
    let more = one_front lines others after ending other second second' a (subst (λ (z : Text). BeginsWithLines others z (divider ++ other)) (sym same.1) b)
    none.1 none'.1 ends ends' in
    (λ i. same.0 i ∷ more.0 i, more.1)

one_second : (ending second second' : Text) → Ends ending second → Ends ending second' → second ≡ second'
one_second ending second second' (inl e) (inl e') = let same : 10 ∷ second ≡ 10 ∷ second' = sym e ∙ e' in cc
one_second ending second second' (inl e) (inr (e', none)) = let wrong : 10 ∷ second ≡ [] = sym e ∙ e' in absurd (cc)
one_second ending second second' (inr (e, none)) (inl e') = let wrong : 10 ∷ second' ≡ [] = sym e' ∙ e in absurd (cc)
one_second ending second second' (inr (e, none)) (inr (e', none')) = none ∙ sym none'

-- so a text is divided in one way
pub record SameParts (lines lines' : List Text) (first first' second second' : Text) : Type 0 where
  pub lines_are : lines ≡ lines'
  pub first_is : first ≡ first'
  pub second_is : second ≡ second'

pub one_division : (text : Text) (lines lines' : List Text) (first first' second second' : Text) → IsDivided text lines first second
    → IsDivided text lines' first' second' → SameParts lines lines' first first' second second'
one_division text lines lines' first first' second second' a b =
    let fronts = one_front lines lines' text a.ending b.ending second second' a.before b.before a.undivided b.undivided a.second_is b.second_is in
    let split : text ≡ first' ++ (divider ++ a.ending) = subst (λ (z : Text). text ≡ first' ++ (divider ++ z)) (sym fronts.1) b.first_is in
    record {
      lines_are = fronts.0;
      first_is = append_cancel_right first first' (divider ++ a.ending) (sym a.first_is ∙ split);
      second_is = one_second a.ending second second' a.second_is (subst (λ (z : Text). Ends z second') (sym fronts.1) b.second_is);
    }

-- a rest without a line feed that isn't the divider doesn't hold it as a line
no_way : (lines others : List Text) (text rest ending second : Text) → BeginsWithLines lines text rest → BeginsWithLines others text (divider ++ ending) → Undivided lines
    → Undivided others → IsLine rest → rest ≢ divider → Ends ending second → ⊥
no_way [] [] text rest ending second a b none none' is other (inl e) = no_feed divider second (subst IsLine (sym a ∙ b ∙ ap (λ z. divider ++ z) e) is)
no_way [] [] text rest ending second a b none none' is other (inr (e, empty)) = other (sym a ∙ b ∙ ap (λ z. divider ++ z) e ∙ append-nil divider)
no_way [] (line ∷ others) text rest ending second a (own, (after, (e, b))) none none' is other ends = no_feed line after (subst IsLine (sym a ∙ e) is)
no_way (line ∷ lines) [] text rest ending second (own, (after, (e, a))) b none none' is other ends =
    before_divider line after ending second own none.0 (sym b ∙ e) ends
no_way (line ∷ lines) (line' ∷ others) text rest ending second (own, (after, (e, a))) (own', (after', (e', b))) none none' is other ends =
    let same = same_line line line' after after' own own' (sym e ∙ e') in
    no_way lines others after rest ending second a (subst (λ (z : Text). BeginsWithLines others z (divider ++ ending)) (sym same.1) b) none.1 none'.1 is other ends

-- the front of a list that is parted
take_whole : {A : Type 0} (front rest : List A) → take (length front) (front ++ rest) ≡ front
take_whole [] rest = refl
take_whole (x ∷ front) rest = ap (λ l. x ∷ l) (take_whole front rest)

-- these lines of the text were seen, none of them the divider, and `rest` follows; so many stand before the next but one
pub record Seen (text rest : Text) (lines : List Text) (front : Text) (before : ℕ) : Type 0 where
  pub begins : BeginsWithLines lines text rest
  pub undivided : Undivided lines
  pub parted : text ≡ front ++ rest
  pub count : before ≡ length lines + 1
  pub few : length lines ≤ length front

pub seen_none : (text : Text) → Seen text text [] [] 1
seen_none text = record { begins = refl; undivided = tt; parted = refl; count = refl; few = omega arith }

begins_more : (lines : List Text) (text line after : Text) → BeginsWithLines lines text (line ++ 10 ∷ after) → IsLine line → BeginsWithLines (lines ++ line ∷ []) text after
begins_more [] text line after b is = (is, (after, (b, refl)))
begins_more (first ∷ lines) text line after (own, (rest, (e, b))) is = (own, (rest, (e, begins_more lines rest line after b is)))

module _ (text rest : Text) (lines : List Text) (front : Text) (before : ℕ) (seen : Seen text rest lines front before) where
  pub seen_next : (line after : Text) → rest ≡ line ++ 10 ∷ after → IsLine line → line ≢ divider
      → Seen text after (lines ++ line ∷ []) (front ++ (line ++ 10 ∷ [])) (before + 1)
  seen_next line after split is other = record {
    begins = begins_more lines text line after (subst (BeginsWithLines lines text) split seen.begins) is;
    undivided = each_more (λ l. l ≢ divider) lines line seen.undivided other;
    parted = seen.parted ∙ ap (λ z. front ++ z) (split ∙ sym (append_assoc line (10 ∷ []) after)) ∙ sym (append_assoc front (line ++ 10 ∷ []) after);
    count = omega (arith, seen.count, length-append lines (line ∷ []));
    few = omega (arith, seen.few, length-append lines (line ∷ []), length-append front (line ++ 10 ∷ []), length-append line (10 ∷ []));
  }

  front_size : length front ≡ length text - length rest
  front_size = omega (arith, ap length seen.parted, length-append front rest)

  pub rest_short : length rest ≤ length text
  rest_short = omega (arith, ap length seen.parted, length-append front rest)

  pub front_taken : take (length text - length rest) text ≡ front
  front_taken = subst (λ (n : ℕ). take n text ≡ front) front_size (subst (λ (z : Text). take (length front) z ≡ front) (sym seen.parted) (take_whole front rest))

  -- the rest is the divider and its end: here the text is divided
  pub divided_here : (ending second : Text) → rest ≡ divider ++ ending → Ends ending second
      → IsDivided text lines (take (length text - length rest) text) second
  divided_here ending second is ends = record {
    ending = ending;
    before = subst (BeginsWithLines lines text) is seen.begins;
    undivided = seen.undivided;
    first_is = seen.parted ∙ ap (λ z. front ++ z) is ∙ ap (λ (z : Text). z ++ (divider ++ ending)) (sym front_taken);
    second_is = ends;
  }

  -- the rest is a line without its line feed, and isn't the divider: the text isn't divided
  pub divided_nowhere : IsLine rest → rest ≢ divider → (others : List Text) (first second : Text) → IsDivided text others first second → ⊥
  divided_nowhere is other others first second d = no_way lines others text rest d.ending second seen.begins d.before seen.undivided d.undivided is other d.second_is

  -- so many bytes are no more than the text's
  pub seen_sizes : length text ≤ MOST_BYTES → (length (take (length text - length rest) text) ≤ MOST_BYTES) × (length rest ≤ MOST_BYTES) × (before ≤ MOST_BYTES + 1)
  seen_sizes short = (
    omega (arith, short, ap length front_taken, ap length seen.parted, length-append front rest),
    omega (arith, short, rest_short),
    omega (arith, short, seen.count, seen.few, ap length seen.parted, length-append front rest),
  )
