-- Helper chains are numbered in order; the numbers that a set lacks.
use Rattle.std.proofs.Common.{◌≡◌, ◌∙◌, ◌++◌, ◌+◌, ◌-◌, ◌<◌, ◌≤◌, ℕ, zero, suc, List, [], ◌∷◌, Bool, true, false, Option, Some, None, is_some, length, map, drop, get_or, if◌then◌else◌, refl, ap, sym, append_assoc, arith}
use Rattle.std.proofs.lemmas.List.{drop_all, drop_more, map-append, append-nil}
use Rattle.box_norm.specs.declared.cube.SimpleRule.{SimpleRule}
use Rattle.dump_print.specs.Helpers.{HelpedRule, helped_from, needs_helper}
use Rattle.dump_print.specs.Numbers.{numbers_from}

-- ---- numbers of helper chains
abbrev pub number_of : Bool → ℕ → Option ℕ
number_of needs next = if needs then Some next else None

abbrev pub after : Option ℕ → ℕ → ℕ
after helper next = if is_some helper then next + 1 else next

step_by : {W : ℕ} (needs : Bool) (next : ℕ) (rule : SimpleRule W) (rules : List (SimpleRule W)) → needs_helper rule.cube ≡ needs →
    helped_from next (rule ∷ rules) ≡ record { rule = rule; helper = number_of needs next } ∷ helped_from (after (number_of needs next) next) rules
step_by true next rule rules e =
    ap (λ b. if b then record { rule = rule; helper = Some next } ∷ helped_from (next + 1) rules else record { rule = rule; helper = None } ∷ helped_from next rules) e
step_by false next rule rules e =
    ap (λ b. if b then record { rule = rule; helper = Some next } ∷ helped_from (next + 1) rules else record { rule = rule; helper = None } ∷ helped_from next rules) e

-- one rule more
pub helped_more : {W : ℕ} {X : Type 0} (g : X → HelpedRule W) (rules : List (SimpleRule W)) (i : ℕ) (rule : SimpleRule W) (helper : Option ℕ) (x : X)
    (all new : List X) (next later : ℕ) (whole : List (HelpedRule W)) → i < length rules → rule ≡ get_or rules i rule → g x ≡ record { rule = rule; helper = helper } →
    helper ≡ number_of (needs_helper rule.cube) next → later ≡ after helper next → new ≡ all ++ x ∷ [] →
    map g all ++ helped_from next (drop i rules) ≡ whole → map g new ++ helped_from later (drop (i + 1) rules) ≡ whole
helped_more g rules i rule helper x all new next later whole l is made numbered moved pushed h =
    let rest : List (SimpleRule _) = drop (i + 1) rules in
    let last : List (HelpedRule _) = helped_from later rest in
    let needs : Bool = needs_helper rule.cube in
    let this : g x ≡ record { rule = rule; helper = number_of needs next } = made ∙ ap (λ n. record { rule = rule; helper = n }) numbered in
    let following : later ≡ after (number_of needs next) next = moved ∙ ap (λ n. after n next) numbered in
    let step : g x ∷ last ≡ helped_from next (drop i rules) =
    (λ k. this k ∷ helped_from (following k) rest) ∙ sym (step_by needs next rule rest refl) ∙ ap (λ r. helped_from next (r ∷ rest)) is
    ∙ ap (helped_from next) (sym (drop_more rules i rule l)) in
    ap (λ a. map g a ++ last) pushed ∙ ap (λ a. a ++ last) (map-append g all (x ∷ [])) ∙ append_assoc (map g all) (g x ∷ []) last
    ∙ ap (λ t. map g all ++ t) step ∙ h

pub after_few : (helper : Option ℕ) (next later most : ℕ) → later ≡ after helper next → next ≤ most → later ≤ most + 1
after_few None next later most e l = omega arith
after_few (Some n) next later most e l = omega arith

-- all rules are passed
pub helped_all : {W : ℕ} {X : Type 0} (g : X → HelpedRule W) (rules : List (SimpleRule W)) (i : ℕ) (all : List X) (next : ℕ) (whole : List (HelpedRule W)) →
    length rules ≤ i → map g all ++ helped_from next (drop i rules) ≡ whole → map g all ≡ whole
helped_all g rules i all next whole l h =
    sym (append-nil (map g all)) ∙ ap (λ rs. map g all ++ helped_from next rs) (sym (drop_all i rules l)) ∙ h

-- ---- numbers of a range
numbers_last : (first k : ℕ) → numbers_from first (suc k) ≡ numbers_from first k ++ (first + k) ∷ []
numbers_last first zero = ap (λ n. n ∷ []) (omega arith)
numbers_last first (suc k) =
    ap (λ ns. first ∷ ns) (numbers_last (first + 1) k ∙ ap (λ n. numbers_from (first + 1) k ++ n ∷ []) (omega arith))

pub numbers_none : (first : ℕ) (old : List ℕ) → old ≡ old ++ numbers_from first (first - first)
numbers_none first old =
    let none : first - first ≡ 0 = omega arith in
    sym (append-nil old) ∙ ap (λ k. old ++ numbers_from first k) (sym none)

pub numbers_more : (first n : ℕ) (old mid new : List ℕ) → first ≤ n → mid ≡ old ++ numbers_from first (n - first) → new ≡ mid ++ n ∷ [] →
    new ≡ old ++ numbers_from first (n + 1 - first)
numbers_more first n old mid new l h k =
    let last : first + (n - first) ≡ n = omega arith in
    let count : n + 1 - first ≡ suc (n - first) = omega arith in
    k ∙ ap (λ s. s ++ n ∷ []) h ∙ append_assoc old (numbers_from first (n - first)) (n ∷ [])
    ∙ ap (λ t. old ++ t) (ap (λ x. numbers_from first (n - first) ++ x ∷ []) (sym last) ∙ sym (numbers_last first (n - first)) ∙ ap (numbers_from first) (sym count))
