-- The groups of some words, one after another.
use Rattle.std.proofs.Common.{◌≡◌, ◌∙◌, ◌<◌, ◌++◌, ◌∷◌, [], List, Bool, true, false, Option, None, length, refl, sym, ap, subst, arith, append-nil, length-append}
use Rattle.std.proofs.lemmas.List.{length-map}
use Rattle.dump_token.specs.declared.token.Token.{Token}
use Rattle.dump_grammar.specs.declared.grouping.GroupWords.{GroupWords}
use Rattle.dump_grammar.specs.GroupWords.{group_of, groups_of}
use Rattle.dump_grammar.specs.Groups.{AreGroups, EndsGroups, Group, Base, Module, ModuleOption, IsGroup, current_after, mark_words}
use Rattle.dump_grammar.specs.Lines.{Text, Word, bare, word_of, words_of}
use Rattle.dump_grammar.proofs.GroupLemmas.{one_group}

grown : (found : List GroupWords) (g : GroupWords) (more : List Group) → groups_of found ++ group_of g ∷ more ≡ groups_of (found ++ g ∷ []) ++ more
grown [] g more = refl
grown (x ∷ found) g more = ap (λ (gs : List Group). group_of x ∷ gs) (grown found g more)

module _ (start : List Word) where
  -- what completes the rest completes the whole
  abbrev pub Completes : Option Text → List Word → List GroupWords → Type 0
  Completes current rest found = (more : List Group) (target : List Word) → AreGroups current rest more target → AreGroups None start (groups_of found ++ more) target

  -- what the whole has, the rest has
  abbrev pub Remains : Option Text → List Word → Type 0
  Remains current rest = (all : List Group) (target : List Word) → AreGroups None start all target → EndsGroups target
      → (more : List Group) × AreGroups current rest more target

  pub completes : (current now : Option Text) (rest after : List Word) (found with_last : List GroupWords) (g : GroupWords) → now ≡ current_after current (group_of g)
      → with_last ≡ found ++ g ∷ [] → IsGroup current rest (group_of g) after → Completes current rest found → Completes now after with_last
  completes current now rest after found with_last g e pushed is before more target are =
      subst (λ (gs : List Group). AreGroups None start gs target) (grown found g more ∙ ap (λ (all : List GroupWords). groups_of all ++ more) (sym pushed))
      (before (group_of g ∷ more) target (after, (is, subst (λ (c : Option Text). AreGroups c after more target) e are)))

  pub remains : (current now : Option Text) (rest after : List Word) (g : Group) → now ≡ current_after current g
      → IsGroup current rest g after → (EndsGroups rest → ⊥) → Remains current rest → Remains now after
  remains current now rest after g e is goes before all target are ends =
      let left = before all target are ends in
      by_cases left.0 left.1
    where
      by_cases : (more : List Group) → AreGroups current rest more target → (more : List Group) × AreGroups now after more target
      by_cases [] same = absurd (goes (subst EndsGroups (sym same) ends))
      by_cases (h ∷ hs) others =
          let one = one_group current rest g after h others.0 is others.1.0 in (
            hs,
            subst (λ (c : Option Text). AreGroups c after hs target) (sym (e ∙ ap (current_after current) one.0))
                (subst (λ (ws : List Word). AreGroups (current_after current h) ws hs target) (sym one.1) others.1.1),
          )

  pub refused : (current : Option Text) (rest : List Word) → ((g : Group) (after : List Word) → IsGroup current rest g after → ⊥) → (EndsGroups rest → ⊥)
      → Remains current rest → (all : List Group) (target : List Word) → AreGroups None start all target → EndsGroups target → ⊥
  refused current rest none goes before all target are ends =
      let left = before all target are ends in
      by_cases left.0 left.1
    where
      by_cases : (more : List Group) → AreGroups current rest more target → ⊥
      by_cases [] same = goes (subst EndsGroups (sym same) ends)
      by_cases (h ∷ hs) others = none h others.0 others.1.0

  pub completed : (current : Option Text) (rest : List Word) (found : List GroupWords) → Completes current rest found → AreGroups None start (groups_of found) rest
  completed current rest found before =
      subst (λ (gs : List Group). AreGroups None start gs rest) (append-nil (groups_of found)) (before [] rest refl)

marked : (negated : Bool) (w : Word) (a b : List Word) → length b < length (mark_words negated ++ w ∷ (a ++ b))
marked true w a b = omega (arith, length-append a b)
marked false w a b = omega (arith, length-append a b)

pub group_shorter : (current : Option Text) (words : List Word) (g : Group) (rest : List Word) → IsGroup current words g rest → length rest < length words
group_shorter current words (Base n o a) rest is = subst (λ (ws : List Word). length rest < length ws) (sym is.1.0) (marked n (bare o) is.0 rest)
group_shorter current words (Module name) rest is = let e = ap length is.1.0 in omega (arith, e)
group_shorter current words (ModuleOption m n o a) rest is = subst (λ (ws : List Word). length rest < length ws) (sym is.1.0) (marked n (bare o) is.0 rest)

pub shorter : (current : Option Text) (words rest : List Token) (g : Group) → IsGroup current (words_of words) g (words_of rest) → length rest < length words
shorter current words rest g is =
    let h = group_shorter current (words_of words) g (words_of rest) is in
    omega (arith, h, length-map words word_of, length-map rest word_of)
