-- The literals of groups, one group after another.
use Rattle.std.proofs.Common.{◌≡◌, ◌∙◌, ◌+◌, ◌-◌, ◌<◌, ◌≤◌, ℕ, List, [], ◌∷◌, ◌++◌, Bool, false, ◌||◌, Option, Some, refl, sym, ap, subst, append-nil, append_assoc, arith, drop, get_or, length, length-drop, take}
use Rattle.std.specs.Prelude.{option_to_list}
use Rattle.std.proofs.lemmas.List.{drop_all, drop_more, take_all}
use Rattle.fw_rule.specs.declared.rule.Lit.{Lit}
use Rattle.primitives.specs.declared.prim.Prim_.{Prim_}
use Rattle.dump_grammar.specs.declared.grouping.GroupWords.{GroupWords}
use Rattle.dump_grammar.specs.GroupWords.{group_of, groups_of}
use Rattle.dump_grammar.specs.ChainLines.{is_among}
use Rattle.dump_grammar.specs.Groups.{Group, Base, Module, ModuleOption, base_of}
use Rattle.dump_grammar.specs.Lines.{Text}
use Rattle.dump_grammar.specs.Literals.{AreLiterals, IsBaseLiteral}

-- the group can't stand in a line
abbrev pub GivesNone : (W : ℕ) → (Text → ℕ → Type 0) → List Group → Group → List Group → Type 0
GivesNone W Reads groups g after = (ls : List (Lit (Prim_ W))) → AreLiterals Reads groups (g ∷ after) ls → ⊥

module _ {W : ℕ} (Reads : Text → ℕ → Type 0) (groups : List Group) where
  left_after : (g : Group) (gs : List Group) (ls : List (Lit (Prim_ W))) → AreLiterals Reads groups (g ∷ gs) ls
      → (more : List (Lit (Prim_ W))) × AreLiterals Reads groups gs more
  left_after (Base n o a) gs ls are = (are.1, are.2.2)
  left_after (Module name) gs ls are = (are.0, are.1.1)
  left_after (ModuleOption c n o a) gs ls are = (are.1, are.2.2)

  -- what was read so far: what completes the rest completes the whole, and what the whole has, the rest has
  pub record LiteralsSoFar (all rest : List Group) (found : List (Lit (Prim_ W))) : Type 0 where
    pub read : (more : List (Lit (Prim_ W))) → AreLiterals Reads groups rest more → AreLiterals Reads groups all (found ++ more)
    pub each : (ls : List (Lit (Prim_ W))) → AreLiterals Reads groups all ls → (more : List (Lit (Prim_ W))) × AreLiterals Reads groups rest more

  pub literals_begin : (all rest : List Group) (found : List (Lit (Prim_ W))) → all ≡ rest → found ≡ [] → LiteralsSoFar all rest found
  literals_begin all rest found same none = record {
    read = λ more are. subst (λ (ls : List (Lit (Prim_ W))). AreLiterals Reads groups all (ls ++ more)) (sym none) (subst (λ (gs : List Group). AreLiterals Reads groups gs more) (sym same) are);
    each = λ ls are. (ls, subst (λ (gs : List Group). AreLiterals Reads groups gs ls) same are);
  }

  -- the literal that a group gives, if any, and those of the groups after it
  abbrev pub GivesLiteral : Group → List Group → Option (Lit (Prim_ W)) → Type 0
  GivesLiteral g after literal = (rest : List (Lit (Prim_ W))) → AreLiterals Reads groups after rest → AreLiterals Reads groups (g ∷ after) (option_to_list literal ++ rest)

  pub literals_passed : (all rest after : List Group) (g : Group) (found with_next : List (Lit (Prim_ W))) (literal : Option (Lit (Prim_ W))) → rest ≡ g ∷ after
      → with_next ≡ found ++ option_to_list literal → GivesLiteral g after literal → LiteralsSoFar all rest found → LiteralsSoFar all after with_next
  literals_passed all rest after g found with_next literal split pushed gives so_far = record {
    read = λ more are.
        subst (λ (ls : List (Lit (Prim_ W))). AreLiterals Reads groups all ls) (sym (ap (λ (ls : List (Lit (Prim_ W))). ls ++ more) pushed ∙ append_assoc found (option_to_list literal) more))
        (so_far.read (option_to_list literal ++ more) (subst (λ (gs : List Group). AreLiterals Reads groups gs (option_to_list literal ++ more)) (sym split) (gives more are)));
    each = λ ls are.
        let left = so_far.each ls are in
        left_after g after left.0 (subst (λ (gs : List Group). AreLiterals Reads groups gs left.0) split left.1);
  }

  pub literals_refused : (all rest after : List Group) (g : Group) (found : List (Lit (Prim_ W))) → rest ≡ g ∷ after
      → ((ls : List (Lit (Prim_ W))) → AreLiterals Reads groups (g ∷ after) ls → ⊥) → LiteralsSoFar all rest found
      → (ls : List (Lit (Prim_ W))) → AreLiterals Reads groups all ls → ⊥
  literals_refused all rest after g found split none so_far ls are =
      let left = so_far.each ls are in
      none left.0 (subst (λ (gs : List Group). AreLiterals Reads groups gs left.0) split left.1)

  pub literals_whole : (all rest : List Group) (found : List (Lit (Prim_ W))) → rest ≡ [] → LiteralsSoFar all rest found → AreLiterals Reads groups all found
  literals_whole all rest found end so_far =
      let none : AreLiterals {W = W} Reads groups [] [] = refl in
      subst (λ (ls : List (Lit (Prim_ W))). AreLiterals Reads groups all ls) (append-nil found)
      (so_far.read [] (subst (λ (gs : List Group). AreLiterals {W = W} Reads groups gs []) (sym end) none))

  pub base_gives : (g : Group) (after : List Group) (n : Bool) (o : Text) (a : List Text) (l : Lit (Prim_ W)) → g ≡ Base n o a → IsBaseLiteral Reads n o a l → GivesLiteral g after (Some l)
  base_gives g after n o a l same is rest are = subst (λ (x : Group). AreLiterals Reads groups (x ∷ after) (l ∷ rest)) (sym same) (l, rest, (refl, is, are))

  pub base_gives_none : (g : Group) (after : List Group) (n : Bool) (o : Text) (a : List Text) → g ≡ Base n o a → ((l : Lit (Prim_ W)) → IsBaseLiteral Reads n o a l → ⊥)
      → (ls : List (Lit (Prim_ W))) → AreLiterals Reads groups (g ∷ after) ls → ⊥
  base_gives_none g after n o a same none ls are =
      let its = subst (λ (x : Group). AreLiterals Reads groups (x ∷ after) ls) same are in
      none its.0 its.2.1

-- the group at a place and those after it
pub groups_here : (gs : List GroupWords) (i : ℕ) (g : GroupWords) → i < length gs → g ≡ get_or gs i g
    → groups_of (drop i gs) ≡ group_of g ∷ groups_of (drop (i + 1) gs)
groups_here gs i g inside is = ap groups_of (drop_more gs i g inside ∙ ap (λ (x : GroupWords). x ∷ drop (i + 1) gs) (sym is))

pub groups_after : (gs : List GroupWords) (i : ℕ) → groups_of (take (length gs - (i + 1)) (drop (i + 1) gs)) ≡ groups_of (drop (i + 1) gs)
groups_after gs i = ap groups_of (take_all (length gs - (i + 1)) (drop (i + 1) gs) (omega (arith, length-drop (i + 1) gs)))

pub groups_end : (gs : List GroupWords) (i : ℕ) → length gs ≤ i → groups_of (drop i gs) ≡ []
groups_end gs i all = ap groups_of (drop_all i gs all)

-- a group without this option is passed
pub base_passed : (gs : List GroupWords) (i : ℕ) (g : GroupWords) (o : Text) (r t : Bool) → i < length gs → g ≡ get_or gs i g
    → ((rest : List Group) → is_among (base_of (group_of g ∷ rest)) o ≡ (r || is_among (base_of rest) o)) → r ≡ false
    → is_among (base_of (groups_of (drop i gs))) o ≡ t → is_among (base_of (groups_of (drop (i + 1) gs))) o ≡ t
base_passed gs i g o r t inside is here off before =
    sym (ap (λ (x : Bool). x || is_among (base_of (groups_of (drop (i + 1) gs))) o) off)
    ∙ sym (here (groups_of (drop (i + 1) gs)))
    ∙ ap (λ (xs : List Group). is_among (base_of xs) o) (sym (groups_here gs i g inside is)) ∙ before
