-- Printed chains one after another: what their lines say, and which dump they are.
use Rattle.std.proofs.Common.{◌≡◌, ◌≢◌, ◌∙◌, ◌++◌, ◌+◌, ℕ, List, [], ◌∷◌, true, false, map, length, refl, ap, ap₂, sym, subst, append_assoc, append-nil, Option}
use Rattle.std.specs.Prelude.{Bool, filter, ◌&&◌}
use Rattle.std.specs.List.{AllByRecursion}
use Rattle.std.specs.Str.{bytes_eq}
use Rattle.std.proofs.lemmas.Bool.{or_left, or_right}
use Rattle.std.proofs.lemmas.List.{length-map, map-append}
use Rattle.std.proofs.lemmas.List.Elements.{filter-append}
use Rattle.primitives.specs.declared.prim.Prim_.{Prim_}
use Rattle.fw_rule.specs.declared.rule.Chain.{Chain}
use Rattle.fw_rule.specs.declared.rule.Rule.{Rule}
use Rattle.fw_rule.specs.declared.rule.Verdict.{Verdict}
use Rattle.dump_grammar.specs.declared.chains.Declared.{Declared}
use Rattle.dump_grammar.specs.declared.rule.RuleLine.{RuleLine}
use Rattle.dump_grammar.specs.declared.rule.Target.{Target}
use Rattle.dump_grammar.specs.ChainLines.{IsChainLine, is_among}
use Rattle.dump_grammar.specs.Lines.{Numbered, Text, Word, numbered_from}
use Rattle.dump_grammar.specs.Reads.{dump_of, is_defined, is_in, rule_of}
use Rattle.dump_grammar.specs.RuleLines.{IsRuleLine}
use Rattle.dump_grammar.specs.Tables.{AreChainLines, AreRuleLines, Placed, names_of}
use Rattle.dump_print.specs.Printed.{chain_words}
use Rattle.printed_filter.specs.PrintedDump.{Said, placed_from}
use Rattle.basics.proofs.Lists.{each_append, each_both, each_weaker}
use Rattle.printed_text.proofs.ListLemmas.{bytes_differ, bytes_same, filter_in, filter_out}
use Rattle.printed_text.proofs.TextLines.{IsPrinted, line_of, numbered_joined}

-- a rule line: its words, and what it says
pub record RuleText (W : ℕ) : Type 0 where
  pub words : List Word
  pub said : Said W

-- a chain, with its rule lines
pub record Block (W : ℕ) : Type 0 where
  pub name : Text
  pub policy : Option Verdict
  pub lines : List (RuleText W)

module _ {W : ℕ} where
  abbrev pub declared_of : Block W → Declared
  declared_of block = record { name = block.name; policy = block.policy }

  abbrev pub chain_line : Block W → List Word
  chain_line block = chain_words block.name block.policy

  abbrev pub rule_in : Text → Said W → RuleLine W
  rule_in chain said = record { chain = chain; literals = said.literals; target = Target.Does said.action }

  abbrev pub words_of : List (RuleText W) → List (List Word)
  words_of lines = map (λ (line : RuleText W). line.words) lines

  abbrev pub said_of : List (RuleText W) → List (Said W)
  said_of lines = map (λ (line : RuleText W). line.said) lines

  abbrev pub all_words : List (Block W) → List (List Word)
  all_words [] = []
  all_words (block ∷ blocks) = words_of block.lines ++ all_words blocks

  -- the rules of a chain, on lines one after another
  abbrev pub places : Text → ℕ → List (RuleText W) → List (Placed W)
  places chain n [] = []
  places chain n (line ∷ lines) = record { number = n; rule = rule_in chain line.said } ∷ places chain (n + 1) lines

  abbrev pub all_places : ℕ → List (Block W) → List (Placed W)
  all_places n [] = []
  all_places n (block ∷ blocks) = places block.name n block.lines ++ all_places (n + length block.lines) blocks

  -- the chains as a dump has them
  abbrev pub chains_from : ℕ → List (Block W) → List (Chain (Prim_ W))
  chains_from n [] = []
  chains_from n (block ∷ blocks) =
      record { name = block.name; policy = block.policy; rules = placed_from n (said_of block.lines) }
      ∷ chains_from (n + length block.lines) blocks

  -- no two chains have one name
  abbrev pub AreApart : List (Block W) → Type 0
  AreApart [] = Unit {0}
  AreApart (block ∷ blocks) = AllByRecursion (λ (other : Block W). other.name ≢ block.name) blocks × AreApart blocks

  abbrev pub chain_in : List (Placed W) → Block W → Chain (Prim_ W)
  chain_in rules block = record { name = block.name; policy = block.policy; rules = map rule_of (filter (is_in block.name) rules) }

  rules_placed : (chain : Text) (n : ℕ) (lines : List (RuleText W)) → map rule_of (places chain n lines) ≡ placed_from n (said_of lines)
  rules_placed chain n [] = refl
  rules_placed chain n (line ∷ lines) =
      ap (λ (l : List (Rule (Prim_ W))). record { lits = line.said.literals; action = line.said.action; line = n } ∷ l) (rules_placed chain (n + 1) lines)

  filter_same : (chain : Text) (n : ℕ) (lines : List (RuleText W)) → filter (is_in chain) (places chain n lines) ≡ places chain n lines
  filter_same chain n [] = refl
  filter_same chain n (line ∷ lines) =
      let first : Placed W = record { number = n; rule = rule_in chain line.said } in
      filter_in (is_in chain) first (places chain (n + 1) lines) (bytes_same chain)
      ∙ ap (λ (l : List (Placed W)). first ∷ l) (filter_same chain (n + 1) lines)

  filter_other : (chain other : Text) (n : ℕ) (lines : List (RuleText W)) → bytes_eq chain other ≡ false → filter (is_in other) (places chain n lines) ≡ []
  filter_other chain other n [] e = refl
  filter_other chain other n (line ∷ lines) e =
      filter_out (is_in other) (record { number = n; rule = rule_in chain line.said }) (places chain (n + 1) lines) e ∙ filter_other chain other (n + 1) lines e

  filter_apart : (name : Text) (n : ℕ) (blocks : List (Block W)) → AllByRecursion (λ (b : Block W). b.name ≢ name) blocks → filter (is_in name) (all_places n blocks) ≡ []
  filter_apart name n [] apart = refl
  filter_apart name n (block ∷ blocks) apart =
      filter-append (is_in name) (places block.name n block.lines) (all_places (n + length block.lines) blocks)
      ∙ ap₂ (λ (a b : List (Placed W)). a ++ b) (filter_other block.name name n block.lines (bytes_differ block.name name apart.0))
      (filter_apart name (n + length block.lines) blocks apart.1)

  -- the rules of the first chain among those of all
  filter_first : (before : List (Placed W)) (n : ℕ) (block : Block W) (blocks : List (Block W)) → filter (is_in block.name) before ≡ []
      → AllByRecursion (λ (b : Block W). b.name ≢ block.name) blocks
      → filter (is_in block.name) (before ++ all_places n (block ∷ blocks)) ≡ places block.name n block.lines
  filter_first before n block blocks none apart =
      let own = places block.name n block.lines in
      let rest = all_places (n + length block.lines) blocks in
      filter-append (is_in block.name) before (own ++ rest)
      ∙ ap (λ (l : List (Placed W)). l ++ filter (is_in block.name) (own ++ rest)) none
      ∙ filter-append (is_in block.name) own rest
      ∙ ap₂ (λ (a b : List (Placed W)). a ++ b) (filter_same block.name n block.lines) (filter_apart block.name (n + length block.lines) blocks apart)
      ∙ append-nil own

  -- the rules before a later chain
  none_before : (before : List (Placed W)) (n : ℕ) (block : Block W) (blocks : List (Block W)) → AllByRecursion (λ (b : Block W). filter (is_in b.name) before ≡ []) blocks
      → AllByRecursion (λ (b : Block W). b.name ≢ block.name) blocks
      → AllByRecursion (λ (b : Block W). filter (is_in b.name) (before ++ places block.name n block.lines) ≡ []) blocks
  none_before before n block blocks none apart =
      each_both (λ (b : Block W). filter (is_in b.name) before ≡ []) (λ (b : Block W). b.name ≢ block.name)
      (λ (b : Block W). filter (is_in b.name) (before ++ places block.name n block.lines) ≡ [])
      (λ b empty ne. filter-append (is_in b.name) before (places block.name n block.lines)
      ∙ ap₂ (λ (x y : List (Placed W)). x ++ y) empty (filter_other block.name b.name n block.lines (bytes_differ block.name b.name (λ e. ne (sym e)))))
      blocks none apart

  each_chain : (before : List (Placed W)) (n : ℕ) (blocks : List (Block W)) → AllByRecursion (λ (b : Block W). filter (is_in b.name) before ≡ []) blocks
      → AreApart blocks → map (chain_in (before ++ all_places n blocks)) blocks ≡ chains_from n blocks
  each_chain before n [] none apart = refl
  each_chain before n (block ∷ blocks) none apart =
      let own = places block.name n block.lines in
      let next = n + length block.lines in
      let rules : map rule_of (filter (is_in block.name) (before ++ all_places n (block ∷ blocks))) ≡ placed_from n (said_of block.lines)
      = ap (λ (l : List (Placed W)). map rule_of l) (filter_first before n block blocks none.0 apart.0) ∙ rules_placed block.name n block.lines in
      let rest : map (chain_in (before ++ all_places n (block ∷ blocks))) blocks ≡ chains_from next blocks
      = ap (λ (l : List (Placed W)). map (chain_in l) blocks) (sym (append_assoc before own (all_places next blocks)))
      ∙ each_chain (before ++ own) next blocks (none_before before n block blocks none.1 apart.0) apart.1 in
      ap₂ (λ (rs : List (Rule (Prim_ W))) (cs : List (Chain (Prim_ W))). record { name = block.name; policy = block.policy; rules = rs } ∷ cs) rules rest

  map_declared : (rules : List (Placed W)) (blocks : List (Block W)) →
      map (λ (c : Declared). record { name = c.name; policy = c.policy; rules = map rule_of (filter (is_in c.name) rules) }) (map declared_of blocks) ≡ map (chain_in rules) blocks
  map_declared rules [] = refl
  map_declared rules (block ∷ blocks) = ap (λ (l : List (Chain (Prim_ W))). chain_in rules block ∷ l) (map_declared rules blocks)

  all_none : (blocks : List (Block W)) → AllByRecursion (λ (b : Block W). filter (is_in {W = W} b.name) [] ≡ []) blocks
  all_none [] = tt
  all_none (block ∷ blocks) = (refl, all_none blocks)

  -- the dump of the chains
  pub dump_is : (n : ℕ) (blocks : List (Block W)) → AreApart blocks → dump_of (map declared_of blocks) (all_places n blocks) ≡ record { chains = chains_from n blocks }
  dump_is n blocks apart =
      ap (λ (cs : List (Chain (Prim_ W))). record { chains = cs }) (map_declared (all_places n blocks) blocks ∙ each_chain [] n blocks (all_none blocks) apart)

  -- ---- each rule's chain is declared
  places_declared : (names : List Text) (chain : Text) (n : ℕ) (lines : List (RuleText W)) → is_among names chain ≡ true
      → AllByRecursion (λ (p : Placed W). (is_among names p.rule.chain && is_defined p.rule.target) ≡ true) (places chain n lines)
  places_declared names chain n [] e = tt
  places_declared names chain n (line ∷ lines) e = (ap (λ (b : Bool). b && true) e, places_declared names chain (n + 1) lines e)

  all_declared : (names : List Text) (n : ℕ) (blocks : List (Block W)) → AllByRecursion (λ (b : Block W). is_among names b.name ≡ true) blocks
      → AllByRecursion (λ (p : Placed W). (is_among names p.rule.chain && is_defined p.rule.target) ≡ true) (all_places n blocks)
  all_declared names n [] e = tt
  all_declared names n (block ∷ blocks) e =
      each_append _ (places block.name n block.lines) (all_places (n + length block.lines) blocks)
      (places_declared names block.name n block.lines e.0) (all_declared names (n + length block.lines) blocks e.1)

  abbrev pub block_names : List (Block W) → List Text
  block_names blocks = names_of (map declared_of blocks)

  each_among : (blocks : List (Block W)) → AllByRecursion (λ (b : Block W). is_among (block_names blocks) b.name ≡ true) blocks
  each_among [] = tt
  each_among (block ∷ blocks) = (
    or_left (bytes_eq block.name block.name) (is_among (block_names blocks) block.name) (bytes_same block.name),
    each_weaker (λ (b : Block W). is_among (block_names blocks) b.name ≡ true) (λ (b : Block W). is_among (block_names (block ∷ blocks)) b.name ≡ true)
        (λ b e. or_right (bytes_eq block.name b.name) (is_among (block_names blocks) b.name) e) blocks (each_among blocks),
  )

  pub rules_declared : (n : ℕ) (blocks : List (Block W)) → AllByRecursion (λ (p : Placed W). (is_among (block_names blocks) p.rule.chain && is_defined p.rule.target) ≡ true) (all_places n blocks)
  rules_declared n blocks = all_declared (block_names blocks) n blocks (each_among blocks)

  -- ---- the lines of the chains
  -- the line declares the chain
  pub record IsGoodChain (block : Block W) : Type 0 where
    pub printed : IsPrinted (chain_line block)
    pub says : IsChainLine (chain_line block) (declared_of block)

  pub chains_declared : (n : ℕ) (blocks : List (Block W)) → AllByRecursion IsGoodChain blocks
      → AreChainLines (numbered_from n (map line_of (map chain_line blocks))) (map declared_of blocks)
  chains_declared n [] good = tt
  chains_declared n (block ∷ blocks) good = ((chain_line block, good.0.printed.kept, good.0.says), chains_declared (n + 1) blocks good.1)

module _ {W : ℕ} (Reads : Text → ℕ → Type 0) (names : List Text) where
  -- the line is the rule
  pub record IsGoodRule (chain : Text) (line : RuleText W) : Type 0 where
    pub printed : IsPrinted line.words
    pub says : IsRuleLine Reads names line.words (rule_in chain line.said)

  -- each line of the chain is its rule
  abbrev pub HasGoodRules : Block W → Type 0
  HasGoodRules block = AllByRecursion (IsGoodRule block.name) block.lines

  joined_rules : (a b : List Numbered) (x y : List (Placed W)) → AreRuleLines W Reads names a x → AreRuleLines W Reads names b y → AreRuleLines W Reads names (a ++ b) (x ++ y)
  joined_rules [] b [] y p q = q
  joined_rules [] b (placed ∷ x) y p q = absurd p
  joined_rules (line ∷ a) b [] y p q = absurd p
  joined_rules (line ∷ a) b (placed ∷ x) y p q = (p.0, joined_rules a b x y p.1 q)

  rules_spelled : (n : ℕ) (chain : Text) (lines : List (RuleText W)) → AllByRecursion (IsGoodRule chain) lines
      → AreRuleLines W Reads names (numbered_from n (map line_of (words_of lines))) (places chain n lines)
  rules_spelled n chain [] good = tt
  rules_spelled n chain (line ∷ lines) good =
      ((refl, (line.words, good.0.printed.kept, good.0.says)), rules_spelled (n + 1) chain lines good.1)

  length_words : (lines : List (RuleText W)) → length (map line_of (words_of lines)) ≡ length lines
  length_words lines = length-map (words_of lines) line_of ∙ length-map lines (λ (line : RuleText W). line.words)

  parted : (n : ℕ) (block : Block W) (blocks : List (Block W)) →
      numbered_from n (map line_of (all_words (block ∷ blocks)))
      ≡ numbered_from n (map line_of (words_of block.lines)) ++ numbered_from (n + length block.lines) (map line_of (all_words blocks))
  parted n block blocks =
      ap (numbered_from n) (map-append line_of (words_of block.lines) (all_words blocks))
      ∙ numbered_joined n (map line_of (words_of block.lines)) (map line_of (all_words blocks))
      ∙ ap (λ m. numbered_from n (map line_of (words_of block.lines)) ++ numbered_from (n + m) (map line_of (all_words blocks))) (length_words block.lines)

  pub all_spelled : (n : ℕ) (blocks : List (Block W)) → AllByRecursion HasGoodRules blocks
      → AreRuleLines W Reads names (numbered_from n (map line_of (all_words blocks))) (all_places n blocks)
  all_spelled n [] good = tt
  all_spelled n (block ∷ blocks) good =
      subst (λ (ls : List Numbered). AreRuleLines W Reads names ls (all_places n (block ∷ blocks))) (sym (parted n block blocks))
      (joined_rules (numbered_from n (map line_of (words_of block.lines))) (numbered_from (n + length block.lines) (map line_of (all_words blocks)))
      (places block.name n block.lines) (all_places (n + length block.lines) blocks)
      (rules_spelled n block.name block.lines good.0) (all_spelled (n + length block.lines) blocks good.1))

  -- ---- each line is printed
  rules_printed : (chain : Text) (lines : List (RuleText W)) → AllByRecursion (IsGoodRule chain) lines → AllByRecursion IsPrinted (words_of lines)
  rules_printed chain [] good = tt
  rules_printed chain (line ∷ lines) good = (good.0.printed, rules_printed chain lines good.1)

  pub all_printed : (blocks : List (Block W)) → AllByRecursion HasGoodRules blocks → AllByRecursion IsPrinted (all_words blocks)
  all_printed [] good = tt
  all_printed (block ∷ blocks) good =
      each_append IsPrinted (words_of block.lines) (all_words blocks) (rules_printed block.name block.lines good.0) (all_printed blocks good.1)

pub chains_printed : {W : ℕ} (blocks : List (Block W)) → AllByRecursion IsGoodChain blocks → AllByRecursion IsPrinted (map chain_line blocks)
chains_printed [] good = tt
chains_printed (block ∷ blocks) good = (good.0.printed, chains_printed blocks good.1)
