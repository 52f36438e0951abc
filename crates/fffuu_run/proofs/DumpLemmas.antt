-- What the rules of a dump come from: rule lines with numbers of their own, whose calls name declared chains.
use Rattle.std.proofs.Common.{◌≡◌, ◌∙◌, ◌⊎◌, ◌+◌, ◌<◌, ◌≤◌, ◌++◌, ◌∷◌, [], ℕ, zero, suc, List, Bool, true, false, cond, Option, Some, None, refl, inl, inr, arith, ap, sym, subst, append_assoc, length, map, filter, not, Contains}
use Rattle.std.specs.List.{flat_map}
use Rattle.std.specs.Str.{bytes_eq}
use Rattle.std.proofs.lemmas.List.{length-map}
use Rattle.std.proofs.lemmas.List.Quantifiers.{position-Some}
use Rattle.basics.proofs.Lists.{map_contains, map_place}
use Rattle.primitives.specs.declared.prim.Prim_.{Prim_}
use Rattle.fw_rule.specs.declared.rule.Action.{Action}
use Rattle.fw_rule.specs.declared.rule.Rule.{Rule}
use Rattle.fw_rule.specs.declared.rule.Chain.{Chain}
use Rattle.fw_rule.specs.declared.rule.Dump.{Dump}
use Rattle.fw_rule.specs.Walk.{RuleOf, target_of}
use Rattle.chain_graph.specs.Paths.{CallsNameChains}
use Rattle.dump_grammar.specs.declared.chains.Declared.{Declared}
use Rattle.dump_grammar.specs.declared.rule.Target.{Target}
use Rattle.dump_grammar.specs.Lines.{Text, Word, Numbered, numbered_from, is_passed_over}
use Rattle.dump_grammar.specs.ChainLines.{is_among, built_in}
use Rattle.dump_grammar.specs.RuleLines.{IsRuleLine}
use Rattle.dump_grammar.specs.Targets.{IsJump, IsTarget, user_chain}
use Rattle.dump_grammar.specs.Tables.{DumpTable, Placed, AreRuleLines, lines_of, names_of}
use Rattle.dump_grammar.specs.Reads.{IsDump, action_of, dump_of, is_in, rule_of}

-- an element of a list is the first one or one after it
pub contains_cons : {X : Type 0} (z : X) (zs : List X) (x : X) → Contains (z ∷ zs) x → (z ≡ x) ⊎ Contains zs x
contains_cons z zs x (zero, below, is) = inl is
contains_cons z zs x (suc k, below, is) = inr (k, omega arith, is)

pub contains_here : {X : Type 0} (z : X) (zs : List X) → Contains (z ∷ zs) z
contains_here z zs = (0, omega arith, refl)

pub contains_there : {X : Type 0} (z : X) (zs : List X) (x : X) → Contains zs x → Contains (z ∷ zs) x
contains_there z zs x (k, below, is) = (suc k, omega arith, is)

pub contains_none : {X : Type 0} (x : X) → Contains [] x → ⊥
contains_none x (k, below, is) = omega arith

kept : {X : Type 0} (b : Bool) (y x : X) (rest : List X) → Contains (cond b (y ∷ rest) rest) x → (y ≡ x) ⊎ Contains rest x
kept true y x rest h = contains_cons y rest x h
kept false y x rest h = inr h

filter_from : {X : Type 0} (p : X → Bool) (xs : List X) (x : X) → Contains (filter p xs) x → Contains xs x
filter_from p [] x h = absurd (contains_none x h)
filter_from p (y ∷ ys) x h = elim (kept (p y) y x (filter p ys) h) [
  | inl same ↦ subst (Contains (y ∷ ys)) same (contains_here y ys)
  | inr later ↦ contains_there y ys x (filter_from p ys x later)
]

module _ {X : Type 0} (number : X → ℕ) where
  -- numbers that rise from `n` on
  Rises : ℕ → List X → Type 0
  Rises n [] = Unit {0}
  Rises n (x ∷ xs) = (n ≤ number x) × Rises (number x + 1) xs

  rises_lower : (m n : ℕ) (xs : List X) → m ≤ n → Rises n xs → Rises m xs
  unfolding Rises
  rises_lower m n [] below h = tt
  rises_lower m n (x ∷ xs) below (first, rest) = (omega arith, rest)

  rises_back : (front back : List X) (n : ℕ) → Rises n (front ++ back) → Rises 0 back
  unfolding Rises
  rises_back [] back n h = rises_lower 0 n back (omega arith) h
  rises_back (x ∷ front) back n (first, rest) = rises_back front back (number x + 1) rest

  rises_front : (front back : List X) (n : ℕ) → Rises n (front ++ back) → Rises n front
  unfolding Rises
  rises_front [] back n h = tt
  rises_front (x ∷ front) back n (first, rest) = (first, rises_front front back (number x + 1) rest)

  rises_if : (b : Bool) (n : ℕ) (x : X) (rest : List X) → n ≤ number x → Rises (number x + 1) rest → Rises n (cond b (x ∷ rest) rest)
  unfolding Rises
  rises_if true n x rest first h = (first, h)
  rises_if false n x rest first h = rises_lower n (number x + 1) rest (omega arith) h

  rises_filter : (p : X → Bool) (n : ℕ) (xs : List X) → Rises n xs → Rises n (filter p xs)
  unfolding Rises
  rises_filter p n [] h = tt
  rises_filter p n (x ∷ xs) (first, rest) = rises_if (p x) n x (filter p xs) first (rises_filter p (number x + 1) xs rest)

  least : (n : ℕ) (xs : List X) (x : X) → Rises n xs → Contains xs x → n ≤ number x
  unfolding Rises
  least n [] x h there = absurd (contains_none x there)
  least n (y ∷ xs) x (first, rest) there = elim (contains_cons y xs x there) [
    | inl same ↦ omega (arith, ap number same)
    | inr later ↦ omega (arith, least (number y + 1) xs x rest later)
  ]

  -- where numbers rise one element has each number
  one_of : (n : ℕ) (xs : List X) (x y : X) → Rises n xs → Contains xs x → Contains xs y → number x ≡ number y → x ≡ y
  unfolding Rises
  one_of n [] x y h in_x in_y same = absurd (contains_none x in_x)
  one_of n (z ∷ xs) x y (first, rest) in_x in_y same = elim (contains_cons z xs x in_x) [
    | inl is_x ↦ elim (contains_cons z xs y in_y) [
      | inl is_y ↦ sym is_x ∙ is_y
      | inr later ↦ absurd (omega (arith, ap number is_x, least (number z + 1) xs y rest later, same))
    ]
    | inr later ↦ elim (contains_cons z xs y in_y) [
      | inl is_y ↦ absurd (omega (arith, ap number is_y, least (number z + 1) xs x rest later, same))
      | inr also ↦ one_of (number z + 1) xs x y rest later also same
    ]
  ]

line_number : Numbered → ℕ
line_number line = line.number

rises_numbered : (n : ℕ) (lines : List Text) → Rises line_number n (numbered_from n lines)
unfolding Rises line_number
rises_numbered n [] = tt
rises_numbered n (line ∷ lines) = (omega arith, rises_numbered (n + 1) lines)

-- the lines of each of some tables stand together
pub lines_there : (tables : List DumpTable) (t : DumpTable) → Contains tables t → (before after : List Numbered) × (flat_map lines_of tables ≡ before ++ (lines_of t ++ after))
lines_there [] t h = absurd (contains_none t h)
lines_there (u ∷ tables) t h = elim (contains_cons u tables t h) [
  | inl same ↦ ([], flat_map lines_of tables, ap (λ (v : DumpTable). lines_of v ++ flat_map lines_of tables) same)
  | inr later ↦
      let (before, after, is) = lines_there tables t later in
      (lines_of u ++ before, after, ap (λ rest. lines_of u ++ rest) is ∙ sym (append_assoc (lines_of u) before (lines_of t ++ after)))
]

module _ {W : ℕ} where
  rule_number : Placed W → ℕ
  rule_number placed = placed.number

  chain_with : List (Placed W) → Declared → Chain (Prim_ W)
  chain_with rules d = record { name = d.name; policy = d.policy; rules = map rule_of (filter (is_in d.name) rules) }

  -- a rule of a dump is that of a placed one
  pub placed_of : (chains : List Declared) (rules : List (Placed W)) (c : ℕ) (rule : Rule (Prim_ W)) → RuleOf (dump_of chains rules) c rule
      → (placed : Placed W) × Contains rules placed × (rule_of placed ≡ rule)
  unfolding chain_with
  placed_of chains rules c rule (here, at, inside) =
      let (d, there, is) = map_place (chain_with rules) chains c here at in
      let (placed, among, same) = map_contains rule_of (filter (is_in d.name) rules) rule
      (subst (λ (r : Chain (Prim_ W)). Contains r.rules rule) (sym is) inside) in
      (placed, filter_from (is_in d.name) rules placed among, same)

chosen : (b : Bool) (o : Option ℕ) (k : ℕ) → cond b None o ≡ Some k → o ≡ Some k
chosen true o k is = absurd (cc)
chosen false o k is = is

user_below : (names : List Text) (name : Text) (j k : ℕ) → user_chain names name ≡ Some j → Some j ≡ Some k → k < length names
user_below names name j k is e = let same : j ≡ k = cc in
    subst (λ (n : ℕ). n < length names) same (position-Some (bytes_eq name) names j [] (chosen (is_among built_in name) _ j is)).0

jump_below : (names : List Text) (name : Text) (following : List Word) (action : Action) (k : ℕ) → target_of action ≡ Some k → IsJump names name following action → k < length names
jump_below names name following Action.Accept k e jump = let wrong : None ≡ Some k = e in absurd (cc)
jump_below names name following Action.Drop k e jump = let wrong : None ≡ Some k = e in absurd (cc)
jump_below names name following Action.Pass k e jump = let wrong : None ≡ Some k = e in absurd (cc)
jump_below names name following Action.Back k e jump = let wrong : None ≡ Some k = e in absurd (cc)
jump_below names name following (Action.Call j) k e jump = user_below names name j k jump.1 e
jump_below names name following (Action.Goto j) k e jump = absurd jump
jump_below names name following (Action.Other shown) k e jump = let wrong : None ≡ Some k = e in absurd (cc)

-- what a target leads to is one of the declared chains
target_below : (names : List Text) (words : List Word) (target : Target) (k : ℕ) → target_of (action_of target) ≡ Some k → IsTarget names words target → k < length names
target_below names words (Target.Does action) k e (inl (none, is)) = let wrong : None ≡ Some k = sym (ap target_of is) ∙ e in absurd (cc)
target_below names words (Target.Does action) k e (inr (inl (name, following, (spelled, jump)))) = jump_below names name.text following action k e jump
target_below names words (Target.Does action) k e (inr (inr (name, j, (spelled, user, is)))) = user_below names name.text j k user (sym (ap target_of is) ∙ e)
target_below names words Target.Undefined k e is = let wrong : None ≡ Some k = e in absurd (cc)

module _ {W : ℕ} (Reads : Text → ℕ → Type 0) where
  pub line_of_rule : (names : List Text) (lines : List Numbered) (rules : List (Placed W)) → AreRuleLines W Reads names lines rules → (p : Placed W) → Contains rules p
      → (words : List Word) × IsRuleLine Reads names words p.rule
  line_of_rule names [] [] spells p there = absurd (contains_none p there)
  line_of_rule names [] (q ∷ rules) spells p there = absurd spells
  line_of_rule names (line ∷ lines) [] spells p there = absurd spells
  line_of_rule names (line ∷ lines) (q ∷ rules) ((number, (words, has, spelled)), rest) p there = elim (contains_cons q rules p there) [
    | inl same ↦ (words, subst (λ (r : Placed W). IsRuleLine Reads names words r.rule) same spelled)
    | inr later ↦ line_of_rule names lines rules rest p later
  ]

  rises_spelled : (names : List Text) (lines : List Numbered) (rules : List (Placed W)) (n : ℕ) → AreRuleLines W Reads names lines rules
      → Rises line_number n lines → Rises rule_number n rules
  unfolding Rises line_number rule_number
  rises_spelled names [] [] n spells h = tt
  rises_spelled names [] (q ∷ rules) n spells h = absurd spells
  rises_spelled names (line ∷ lines) [] n spells h = absurd spells
  rises_spelled names (line ∷ lines) (q ∷ rules) n ((number, (words, has, spelled)), more) (first, rest) = (
    omega arith,
    rises_lower rule_number (q.number + 1) (line.number + 1) rules (omega arith) (rises_spelled names lines rules (line.number + 1) more rest),
  )

  -- each call and goto of a dump that was read names a chain
  pub calls_named : (text : Text) (dump : Dump (Prim_ W)) → IsDump W Reads text dump → CallsNameChains dump
  unfolding chain_with
  calls_named text dump reads = subst CallsNameChains (sym reads.dump_is) (λ a b (rule, there, calls).
      let (p, among, is) = placed_of reads.chains reads.rules a rule there in
      let (words, line) = line_of_rule (names_of reads.chains) reads.filter_is.inside.rule_lines reads.rules reads.filter_is.inside.spells p among in
      let below = target_below (names_of reads.chains) line.target p.rule.target b (ap (λ (r : Rule (Prim_ W)). target_of r.action) is ∙ calls) line.targeted in
      omega (arith, below, length-map reads.chains (λ (d : Declared). d.name), length-map reads.chains (chain_with reads.rules)))

  -- of the rules of a dump that was read one has each line
  pub one_rule : (text : Text) (dump : Dump (Prim_ W)) → IsDump W Reads text dump → (a b : ℕ) (r s : Rule (Prim_ W)) → RuleOf dump a r → RuleOf dump b s
      → r.line ≡ s.line → r ≡ s
  unfolding rule_number
  one_rule text dump reads a b r s in_a in_b same =
      let f = reads.filter_is in
      let (p, in_p, is_p) = placed_of reads.chains reads.rules a r (subst (λ (d : Dump (Prim_ W)). RuleOf d a r) reads.dump_is in_a) in
      let (q, in_q, is_q) = placed_of reads.chains reads.rules b s (subst (λ (d : Dump (Prim_ W)). RuleOf d b s) reads.dump_is in_b) in
      let numbers : p.number ≡ q.number = ap (λ (x : Rule (Prim_ W)). x.line) is_p ∙ same ∙ sym (ap (λ (x : Rule (Prim_ W)). x.line) is_q) in
      let (before, after, is) = lines_there f.tables f.table f.there in
      let all = subst (Rises line_number 1) (f.tabled.whole ∙ is)
      (rises_filter line_number (λ (line : Numbered). not (is_passed_over line.bytes)) 1 (numbered_from 1 f.lines) (rises_numbered 1 f.lines)) in
      let table = rises_front line_number (lines_of f.table) after 0 (rises_back line_number before (lines_of f.table ++ after) 1 all) in
      let body = rises_front line_number f.table.body (f.table.close ∷ []) 0 (rises_back line_number (f.table.opener ∷ []) (f.table.body ++ f.table.close ∷ []) 0 table) in
      let lines = rises_back line_number f.inside.chain_lines f.inside.rule_lines 0 (subst (Rises line_number 0) f.inside.whole body) in
      let rises = rises_spelled (names_of reads.chains) f.inside.rule_lines reads.rules 0 f.inside.spells lines in
      sym is_p ∙ ap rule_of (one_of rule_number 0 reads.rules p q rises in_p in_q numbers) ∙ is_q
