-- The numbers of helper chains.
use Rattle.std.proofs.Common.{◌≡◌, ◌≢◌, ◌∙◌, ◌+◌, ◌^◌, ◌<◌, ◌≤◌, ℕ, List, [], ◌∷◌, Bool, true, false, cond, Option, Some, None, length, refl, ap, sym, arith}
use Rattle.std.specs.Prelude.{if◌then◌else◌}
use Rattle.std.specs.List.{AllByRecursion, position_from}
use Rattle.std.specs.Str.{bytes_eq}
use Rattle.box_norm.specs.declared.cube.SimpleRule.{SimpleRule}
use Rattle.dump_grammar.specs.Lines.{Text}
use Rattle.dump_print.specs.Helpers.{HelpedRule, helped_from, helper_name, needs_helper}
use Rattle.printed_text.proofs.Blocks.{AreApart, Block, block_names}
use Rattle.printed_text.proofs.ChainLemmas.{helper_once}
use Rattle.printed_text.proofs.HelperLemmas.{helper_block, helper_blocks}
use Rattle.basics.proofs.Lists.{each_append, each_weaker}
use Rattle.printed_text.proofs.ListLemmas.{bytes_differ, bytes_same}

-- the number is from the first on and below the end
abbrev pub IsNumberIn : ℕ → ℕ → Option ℕ → Type 0
IsNumberIn first end None = Unit {0}
IsNumberIn first end (Some n) = (first ≤ n) × (n < end)

-- the helper chain is found by its name, where the names begin with this number
abbrev pub IsFoundAt : ℕ → List Text → Option ℕ → Type 0
IsFoundAt first names None = Unit {0}
IsFoundAt first names (Some n) = position_from (bytes_eq (helper_name n)) first names ≡ Some n

-- a name is found behind another one
later_found : (next : ℕ) (names : List Text) (end : ℕ) → end ≤ 2 ^ 64 → next < end → (o : Option ℕ)
    → IsNumberIn (next + 1) end o → IsFoundAt (next + 1) names o → IsFoundAt next (helper_name next ∷ names) o
later_found next names end small in_it None is found = tt
later_found next names end small in_it (Some n) is found =
    let differs : bytes_eq (helper_name n) (helper_name next) ≡ false = bytes_differ (helper_name n) (helper_name next)
    (λ e. let same = helper_once n next (omega (arith, is.1)) (omega arith) e in omega (arith, is.0)) in
    ap (λ (b : Bool). cond b (Some next) (position_from (bytes_eq (helper_name n)) (next + 1) names)) differs ∙ found

module _ {W : ℕ} where
  abbrev with_helper : ℕ → SimpleRule W → HelpedRule W
  with_helper next rule = record { rule = rule; helper = Some next }

  abbrev without_helper : SimpleRule W → HelpedRule W
  without_helper rule = record { rule = rule; helper = None }

  either_way : (P : List (HelpedRule W) → Type 0) (b : Bool) (x y : List (HelpedRule W)) → P x → P y → P (if b then x else y)
  either_way P true x y p q = p
  either_way P false x y p q = q

  -- what holds of the rules, holds of the rules with their helpers
  pub all_helped : (P : SimpleRule W → Type 0) (next : ℕ) (rules : List (SimpleRule W)) → AllByRecursion P rules
      → AllByRecursion (λ (h : HelpedRule W). P h.rule) (helped_from next rules)
  all_helped P next [] p = tt
  all_helped P next (rule ∷ rules) p =
      either_way (AllByRecursion (λ (h : HelpedRule W). P h.rule)) (needs_helper rule.cube) (with_helper next rule ∷ helped_from (next + 1) rules)
      (without_helper rule ∷ helped_from next rules) (p.0, all_helped P (next + 1) rules p.1) (p.0, all_helped P next rules p.1)

  wider : (first first' end end' : ℕ) → first ≤ first' → end' ≤ end → (h : HelpedRule W) → IsNumberIn first' end' h.helper → IsNumberIn first end h.helper
  wider first first' end end' low high h is = wide h.helper is
    where
      wide : (o : Option ℕ) → IsNumberIn first' end' o → IsNumberIn first end o
      wide None is = tt
      wide (Some n) is = (omega (arith, is.0), omega (arith, is.1))

  pub numbers_in : (next : ℕ) (rules : List (SimpleRule W)) → AllByRecursion (λ (h : HelpedRule W). IsNumberIn next (next + length rules) h.helper) (helped_from next rules)
  numbers_in next [] = tt
  numbers_in next (rule ∷ rules) =
      let P = λ (h : HelpedRule W). IsNumberIn next (next + length (rule ∷ rules)) h.helper in
      either_way (AllByRecursion P) (needs_helper rule.cube) (with_helper next rule ∷ helped_from (next + 1) rules) (without_helper rule ∷ helped_from next rules) (
        (omega arith, omega arith),
        each_weaker (λ (h : HelpedRule W). IsNumberIn (next + 1) (next + 1 + length rules) h.helper) P
            (wider next (next + 1) (next + length (rule ∷ rules)) (next + 1 + length rules) (omega arith) (omega arith)) (helped_from (next + 1) rules) (numbers_in (next + 1) rules),
      ) (
        tt,
        each_weaker (λ (h : HelpedRule W). IsNumberIn next (next + length rules) h.helper) P
            (wider next next (next + length (rule ∷ rules)) (next + length rules) (omega arith) (omega arith)) (helped_from next rules) (numbers_in next rules),
      )

  -- ---- the names of the helper chains
  pub record IsHelperBlock (first end : ℕ) (block : Block W) : Type 0 where
    pub number : ℕ
    pub name : block.name ≡ helper_name number
    pub low : first ≤ number
    pub high : number < end

  one_block : (first end : ℕ) (rule : SimpleRule W) (helper : Option ℕ) → IsNumberIn first end helper → AllByRecursion (IsHelperBlock first end) (helper_block rule helper)
  one_block first end rule None is = tt
  one_block first end rule (Some n) is = (record { number = n; name = refl; low = is.0; high = is.1 }, tt)

  pub blocks_in : (first end : ℕ) (rules : List (HelpedRule W)) → AllByRecursion (λ (h : HelpedRule W). IsNumberIn first end h.helper) rules
      → AllByRecursion (IsHelperBlock first end) (helper_blocks rules)
  blocks_in first end [] is = tt
  blocks_in first end (h ∷ rules) is =
      each_append (IsHelperBlock first end) (helper_block h.rule h.helper) (helper_blocks rules) (one_block first end h.rule h.helper is.0) (blocks_in first end rules is.1)

  other_name : (next end : ℕ) → end ≤ 2 ^ 64 → next < end → (b : Block W) → IsHelperBlock (next + 1) end b → b.name ≢ helper_name next
  other_name next end small in_it b is e =
      let same = helper_once is.number next (omega (arith, is.high)) (omega arith) (sym is.name ∙ e) in
      omega (arith, is.low)

  pub helpers_apart : (next : ℕ) (rules : List (SimpleRule W)) → next + length rules ≤ 2 ^ 64 → AreApart (helper_blocks (helped_from next rules))
  helpers_apart next [] small = tt
  helpers_apart next (rule ∷ rules) small =
      let end = next + 1 + length rules in
      either_way (λ (l : List (HelpedRule W)). AreApart (helper_blocks l)) (needs_helper rule.cube) (with_helper next rule ∷ helped_from (next + 1) rules) (without_helper rule ∷ helped_from next rules) (
        each_weaker (IsHelperBlock (next + 1) end) (λ (b : Block W). b.name ≢ helper_name next) (other_name next end (omega arith) (omega arith))
            (helper_blocks (helped_from (next + 1) rules)) (blocks_in (next + 1) end (helped_from (next + 1) rules) (numbers_in (next + 1) rules)),
        helpers_apart (next + 1) rules (omega arith),
      )
      (helpers_apart next rules (omega arith))

  -- ---- each helper chain is found by its name
  zip_found : (next : ℕ) (names : List Text) (end : ℕ) → end ≤ 2 ^ 64 → next < end → (rules : List (HelpedRule W))
      → AllByRecursion (λ (h : HelpedRule W). IsNumberIn (next + 1) end h.helper) rules → AllByRecursion (λ (h : HelpedRule W). IsFoundAt (next + 1) names h.helper) rules
      → AllByRecursion (λ (h : HelpedRule W). IsFoundAt next (helper_name next ∷ names) h.helper) rules
  zip_found next names end small in_it [] is found = tt
  zip_found next names end small in_it (h ∷ rules) is found =
      (later_found next names end small in_it h.helper is.0 found.0, zip_found next names end small in_it rules is.1 found.1)

  pub helpers_found : (next : ℕ) (rules : List (SimpleRule W)) → next + length rules ≤ 2 ^ 64
      → AllByRecursion (λ (h : HelpedRule W). IsFoundAt next (block_names (helper_blocks (helped_from next rules))) h.helper) (helped_from next rules)
  helpers_found next [] small = tt
  helpers_found next (rule ∷ rules) small =
      let names = block_names (helper_blocks (helped_from (next + 1) rules)) in
      either_way (λ (l : List (HelpedRule W)). AllByRecursion (λ (h : HelpedRule W). IsFoundAt next (block_names (helper_blocks l)) h.helper) l)
      (needs_helper rule.cube) (with_helper next rule ∷ helped_from (next + 1) rules) (without_helper rule ∷ helped_from next rules) (
        ap (λ (b : Bool). cond b (Some next) (position_from (bytes_eq (helper_name next)) (next + 1) names)) (bytes_same (helper_name next)),
        zip_found next names (next + 1 + length rules) (omega arith) (omega arith) (helped_from (next + 1) rules) (numbers_in (next + 1) rules)
            (helpers_found (next + 1) rules (omega arith)),
      )
      (tt, helpers_found next rules (omega arith))
