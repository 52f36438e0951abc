-- The words of a line are one rule at most.
use Rattle.std.proofs.Common.{◌≡◌, ◌∙◌, ◌≤◌, ℕ, List, [], ◌∷◌, ◌++◌, Bool, true, false, ◌||◌, Option, Some, None, refl, sym, ap, subst, arith, codes, inl, inr, length, length-append}
use Rattle.std.specs.Prelude.{if◌then◌else◌}
use Rattle.std.specs.Str.{bytes_eq}
use Rattle.addr_text.specs.Nets.{HasOneNet, HasOneRange}
use Rattle.fw_rule.specs.declared.rule.Action.{Action}
use Rattle.fw_rule.specs.declared.rule.Lit.{Lit}
use Rattle.primitives.specs.declared.prim.Prim_.{Prim_}
use Rattle.dump_grammar.specs.declared.rule.RuleLine.{RuleLine}
use Rattle.dump_grammar.specs.declared.rule.Target.{Target}
use Rattle.dump_grammar.specs.ChainLines.{IsCounter, is_among, passing, target_words}
use Rattle.dump_grammar.specs.Groups.{AreGroups, EndsGroups, Group, Base, Module, ModuleOption, all_differ, base_of, current_after, is_known_module}
use Rattle.dump_grammar.specs.Lines.{Text, Word, bare}
use Rattle.dump_grammar.specs.Literals.{AreLiterals, modules_literals, option_follows, text_of}
use Rattle.dump_grammar.specs.RuleLines.{IsRuleHead, IsRuleLine}
use Rattle.dump_grammar.specs.Targets.{IsJump, IsTarget, user_chain}
use Rattle.dump_grammar.proofs.BaseLemmas.{differ}
use Rattle.dump_grammar.proofs.DivisionLemmas.{group_shorter}
use Rattle.dump_grammar.proofs.LawLemmas.{one_division_of}
use Rattle.dump_grammar.proofs.LiteralOnce.{base_once}
use Rattle.dump_grammar.proofs.SayingOnce.{option_once}

no_counter : (w : Word) → w ≡ bare (codes "-A") → IsCounter w → ⊥
no_counter w is (plain, counter) =
    let s = counter.spelled in
    differ (91 ∷ (counter.packets ++ 58 ∷ (counter.bytes ++ 93 ∷ []))) (codes "-A") w.text refl s (ap (λ (v : Word). v.text) is)

-- the words of a rule line begin in one way
pub head_once : (words : List Word) (c d : Text) (rest end : List Word) → IsRuleHead words c rest → IsRuleHead words d end → (c ≡ d) × (rest ≡ end)
head_once words c d rest end ([], n, (is, named, split)) ([], m, (as', named', split')) =
    let same : bare (codes "-A") ∷ n ∷ rest ≡ bare (codes "-A") ∷ m ∷ end = sym split ∙ split' in
    let name : n ≡ m = cc in
    (sym named ∙ ap (λ (w : Word). w.text) name ∙ named', cc)
head_once words c d rest end ([], n, (is, named, split)) (v ∷ [], m, (as', named', split')) =
    let same : bare (codes "-A") ∷ n ∷ rest ≡ v ∷ bare (codes "-A") ∷ m ∷ end = sym split ∙ split' in
    absurd (no_counter v (let h : v ≡ bare (codes "-A") = cc in h) as')
head_once words c d rest end ([], n, (is, named, split)) (v ∷ w ∷ vs, m, (as', named', split')) = absurd as'
head_once words c d rest end (w ∷ [], n, (is, named, split)) ([], m, (as', named', split')) =
    let same : w ∷ bare (codes "-A") ∷ n ∷ rest ≡ bare (codes "-A") ∷ m ∷ end = sym split ∙ split' in
    absurd (no_counter w (let h : w ≡ bare (codes "-A") = cc in h) is)
head_once words c d rest end (w ∷ [], n, (is, named, split)) (v ∷ [], m, (as', named', split')) =
    let same : w ∷ bare (codes "-A") ∷ n ∷ rest ≡ v ∷ bare (codes "-A") ∷ m ∷ end = sym split ∙ split' in
    let name : n ≡ m = cc in
    (sym named ∙ ap (λ (w : Word). w.text) name ∙ named', cc)
head_once words c d rest end (w ∷ [], n, (is, named, split)) (v ∷ u ∷ vs, m, (as', named', split')) = absurd as'
head_once words c d rest end (w ∷ u ∷ ws, n, (is, named, split)) q = absurd is

-- the action of a name that may be followed so
abbrev other_of : Option ℕ → Text → Action
other_of (Some k) name = Action.Call k
other_of None name = Action.Other name

abbrev action_of : List Text → Text → Action
action_of names name =
    if is_among passing name then Action.Pass
    else if bytes_eq (codes "ACCEPT") name then Action.Accept
    else if bytes_eq (codes "DROP") name then Action.Drop
    else if bytes_eq (codes "REJECT") name then Action.Drop
    else if bytes_eq (codes "RETURN") name then Action.Back
    else other_of (user_chain names name) name

or_false : (a b : Bool) → (a || b) ≡ false → (a ≡ false) × (b ≡ false)
or_false true b e = let f : true ≡ false = e in (cc, cc)
or_false false b e = (refl, e)

no_word : (names : List Text) (name : Text) → is_among target_words name ≡ false → other_of (user_chain names name) name ≡ action_of names name
no_word names name other =
    let a = or_false (bytes_eq (codes "ACCEPT") name) _ other in
    let b = or_false (bytes_eq (codes "DROP") name) _ a.1 in
    let c = or_false (bytes_eq (codes "REJECT") name) _ b.1 in
    let d = or_false (bytes_eq (codes "RETURN") name) _ c.1 in
    let last = other_of (user_chain names name) name in
    sym (
    ap (λ (t : Bool). if t then Action.Pass else if bytes_eq (codes "ACCEPT") name then Action.Accept else if bytes_eq (codes "DROP") name then Action.Drop else if bytes_eq (codes "REJECT") name then Action.Drop else if bytes_eq (codes "RETURN") name then Action.Back else last) d.1
    ∙ ap (λ (t : Bool). if t then Action.Accept else if bytes_eq (codes "DROP") name then Action.Drop else if bytes_eq (codes "REJECT") name then Action.Drop else if bytes_eq (codes "RETURN") name then Action.Back else last) a.0
    ∙ ap (λ (t : Bool). if t then Action.Drop else if bytes_eq (codes "REJECT") name then Action.Drop else if bytes_eq (codes "RETURN") name then Action.Back else last) b.0
    ∙ ap (λ (t : Bool). if t then Action.Drop else if bytes_eq (codes "RETURN") name then Action.Back else last) c.0
    ∙ ap (λ (t : Bool). if t then Action.Back else last) d.0)

action_is : (names : List Text) (name : Text) (following : List Word) (a : Action) → IsJump names name following a → a ≡ action_of names name
action_is names name following Action.Accept is = subst (λ (t : Text). Action.Accept ≡ action_of names t) (sym is.0) refl
action_is names name following Action.Drop (inl is) = subst (λ (t : Text). Action.Drop ≡ action_of names t) (sym is.0) refl
action_is names name following Action.Drop (inr is) = subst (λ (t : Text). Action.Drop ≡ action_of names t) (sym is.0) refl
action_is names name following Action.Back is = subst (λ (t : Text). Action.Back ≡ action_of names t) (sym is.0) refl
action_is names name following Action.Pass is =
    ap (λ (t : Bool). if t then Action.Pass else if bytes_eq (codes "ACCEPT") name then Action.Accept else if bytes_eq (codes "DROP") name then Action.Drop else if bytes_eq (codes "REJECT") name then Action.Drop else if bytes_eq (codes "RETURN") name then Action.Back else other_of (user_chain names name) name) (sym is)
action_is names name following (Action.Call k) (other, number, end) = ap (λ (n : Option ℕ). other_of n name) (sym number) ∙ no_word names name other
action_is names name following (Action.Goto k) is = absurd is
action_is names name following (Action.Other shown) (other, number, is) = ap Action.Other is ∙ ap (λ (n : Option ℕ). other_of n name) (sym number) ∙ no_word names name other

same_words : (n m : Word) (f g : List Word) → bare (codes "-j") ∷ n ∷ f ≡ bare (codes "-j") ∷ m ∷ g → n ≡ m
same_words n m f g e = cc

jump_no_goto : (n m : Word) (f g : List Word) → bare (codes "-j") ∷ n ∷ f ≡ bare (codes "-g") ∷ m ∷ g → ⊥
jump_no_goto n m f g e = differ (codes "-j") (codes "-g") (codes "-j") refl refl (ap (λ (w : Word). w.text) (let h : bare (codes "-j") ≡ bare (codes "-g") = cc in h))

same_goto : (n m : Word) → bare (codes "-g") ∷ n ∷ [] ≡ bare (codes "-g") ∷ m ∷ [] → n ≡ m
same_goto n m e = cc

number_once : (names : List Text) (n m : Word) (a b : Option ℕ) → n ≡ m → user_chain names n.text ≡ a → user_chain names m.text ≡ b → a ≡ b
number_once names n m a b e p q = sym p ∙ ap (λ (w : Word). user_chain names w.text) e ∙ q

action_once : (names : List Text) (words : List Word) (a b : Action) → IsTarget names words (Target.Does a) → IsTarget names words (Target.Does b) → a ≡ b
action_once names words a b (inl (e, p)) (inl (f, q)) = p ∙ sym q
action_once names words a b (inl (e, p)) (inr (inl (n, f, (g, jump)))) = let h = sym e ∙ g in cc
action_once names words a b (inl (e, p)) (inr (inr (n, k, (f, u, q)))) = let h = sym e ∙ f in cc
action_once names words a b (inr (inl (n, f, (e, jump)))) (inl (g, q)) = let h = sym g ∙ e in cc
action_once names words a b (inr (inl (n, f, (e, jump)))) (inr (inl (m, g, (h, jump')))) =
    let same = same_words n m f g (sym e ∙ h) in
    action_is names n.text f a jump ∙ ap (λ (w : Word). action_of names w.text) same ∙ sym (action_is names m.text g b jump')
action_once names words a b (inr (inl (n, f, (e, jump)))) (inr (inr (m, k, (g, u, q)))) = absurd (jump_no_goto n m f [] (sym e ∙ g))
action_once names words a b (inr (inr (n, k, (e, u, p)))) (inl (g, q)) = let h = sym g ∙ e in cc
action_once names words a b (inr (inr (n, k, (e, u, p)))) (inr (inl (m, g, (f, jump)))) = absurd (jump_no_goto m n g [] (sym f ∙ e))
action_once names words a b (inr (inr (n, k, (e, u, p)))) (inr (inr (m, j, (g, v, q)))) =
    let number : Some k ≡ Some j = number_once names n m (Some k) (Some j) (same_goto n m (sym e ∙ g)) u v in
    let same : k ≡ j = cc in
    p ∙ ap Action.Goto same ∙ sym q

-- no words are a target with an action and undefined
defined_once : (names : List Text) (words : List Word) (a : Action) → IsTarget names words (Target.Does a) → IsTarget names words Target.Undefined → ⊥
defined_once names words a (inl (e, p)) (m, (g, v)) = let h = sym e ∙ g in cc
defined_once names words a (inr (inl (n, f, (e, jump)))) (m, (g, v)) = jump_no_goto n m f [] (sym e ∙ g)
defined_once names words a (inr (inr (n, k, (e, u, p)))) (m, (g, v)) =
    let number : Some k ≡ None = number_once names n m (Some k) None (same_goto n m (sym e ∙ g)) u v in cc

pub target_once : (names : List Text) (words : List Word) (a b : Target) → IsTarget names words a → IsTarget names words b → a ≡ b
target_once names words (Target.Does a) (Target.Does b) x y = ap Target.Does (action_once names words a b x y)
target_once names words (Target.Does a) Target.Undefined x y = absurd (defined_once names words a x y)
target_once names words Target.Undefined (Target.Does b) x y = absurd (defined_once names words b y x)
target_once names words Target.Undefined Target.Undefined x y = refl

pub target_ends : (names : List Text) (words : List Word) (t : Target) → IsTarget names words t → EndsGroups words
target_ends names words (Target.Does a) (inl (e, p)) = subst EndsGroups (sym e) tt
target_ends names words (Target.Does a) (inr (inl (n, f, (e, jump)))) = subst EndsGroups (sym e) (inl refl)
target_ends names words (Target.Does a) (inr (inr (n, k, (e, u, p)))) = subst EndsGroups (sym e) (inr refl)
target_ends names words Target.Undefined (n, (e, p)) = subst EndsGroups (sym e) (inr refl)

module _ {W : ℕ} (Reads : Text → ℕ → Type 0) (one_net : HasOneNet Reads W) (one_range : HasOneRange Reads) (groups : List Group) (apart : all_differ (base_of groups) ≡ true) where
  literals_once : (gs : List Group) (ls ms : List (Lit (Prim_ W))) → AreLiterals Reads groups gs ls → AreLiterals Reads groups gs ms → ls ≡ ms
  literals_once [] ls ms p q = p ∙ sym q
  literals_once (Base n o a ∷ gs) ls ms (l, rest, (e, is, are)) (m, rest', (f, is', are')) =
      let first = base_once Reads one_net n o a l m is is' in
      let more = literals_once gs rest rest' are are' in
      e ∙ ap (λ (x : Lit (Prim_ W)). x ∷ rest) first ∙ ap (λ (xs : List (Lit (Prim_ W))). m ∷ xs) more ∙ sym f
  literals_once (Module name ∷ gs) ls ms (rest, (e, are)) (rest', (f, are')) =
      e ∙ ap (λ (xs : List (Lit (Prim_ W))). modules_literals name gs ++ xs) (literals_once gs rest rest' are are') ∙ sym f
  literals_once (ModuleOption c n o a ∷ gs) ls ms (l, rest, (e, is, are)) (m, rest', (f, is', are')) =
      let first = option_once Reads groups one_range apart c n o a l m is is' in
      let more = literals_once gs rest rest' are are' in
      e ∙ ap (λ (x : Lit (Prim_ W)). x ∷ rest) first ∙ ap (λ (xs : List (Lit (Prim_ W))). m ∷ xs) more ∙ sym f

-- the parts of a rule line are those that were read
pub record HasParts {W : ℕ} (Reads : Text → ℕ → Type 0) (names : List Text) (chain : Text) (groups : List Group) (target : List Word) (rule : RuleLine W) : Type 0 where
  pub chain_is : chain ≡ rule.chain
  pub once : all_differ (base_of groups) ≡ true
  pub literals : AreLiterals Reads groups groups rule.literals
  pub targeted : IsTarget names target rule.target

module _ {W : ℕ} (Reads : Text → ℕ → Type 0) (names : List Text) (words : List Word) where
  pub parts_of : (chain : Text) (rest target : List Word) (groups : List Group) (rule : RuleLine W) → IsRuleHead words chain rest → AreGroups None rest groups target → EndsGroups target
      → IsRuleLine Reads names words rule → HasParts Reads names chain groups target rule
  parts_of chain rest target groups rule head grouped ends is =
      let begins = head_once words chain rule.chain rest is.rest head is.head in
      let its = subst (λ (ws : List Word). AreGroups None ws is.groups is.target) (sym begins.1) is.grouped in
      let same = one_division_of None rest groups is.groups target is.target grouped ends its (target_ends names is.target rule.target is.targeted) in
      record {
        chain_is = begins.0;
        once = subst (λ (gs : List Group). all_differ (base_of gs) ≡ true) (sym same.0) is.once;
        literals = subst (λ (gs : List Group). AreLiterals Reads gs gs rule.literals) (sym same.0) is.literals;
        targeted = subst (λ (ws : List Word). IsTarget names ws rule.target) (sym same.1) is.targeted;
      }

same_rule : {W : ℕ} (a b : RuleLine W) → a.chain ≡ b.chain → a.literals ≡ b.literals → a.target ≡ b.target → a ≡ b
same_rule a b e f g = λ i. record { chain = e i; literals = f i; target = g i }

-- the words of a line are one rule at most
pub one_rule_line : {W : ℕ} (Reads : Text → ℕ → Type 0) (names : List Text) (words : List Word) (a b : RuleLine W) → HasOneNet Reads W → HasOneRange Reads
    → IsRuleLine Reads names words a → IsRuleLine Reads names words b → a ≡ b
one_rule_line Reads names words a b one_net one_range p q =
    let parts = parts_of Reads names words a.chain p.rest p.target p.groups b p.head p.grouped (target_ends names p.target a.target p.targeted) q in
    same_rule a b parts.chain_is
    (literals_once Reads one_net one_range p.groups p.once p.groups a.literals b.literals p.literals parts.literals)
    (target_once names p.target a.target b.target p.targeted parts.targeted)

modules_few : (W : ℕ) (name : Text) (gs : List Group) → length (modules_literals {W = W} name gs) ≤ 1
modules_few W name gs = by_cases (is_known_module name || option_follows gs)
  where
    by_cases : (b : Bool) → length {A = Lit (Prim_ W)} (if b then [] else Lit.Unknown (text_of (Module name)) ∷ []) ≤ 1
    by_cases true = omega arith
    by_cases false = omega arith

literals_few : {W : ℕ} (Reads : Text → ℕ → Type 0) (groups gs : List Group) (ls : List (Lit (Prim_ W))) → AreLiterals Reads groups gs ls → length ls ≤ length gs
literals_few Reads groups [] ls are = omega (arith, ap length are)
literals_few Reads groups (Base n o a ∷ gs) ls (l, rest, (e, is, are)) = let more = literals_few Reads groups gs rest are in omega (arith, ap length e, more)
literals_few {W} Reads groups (Module name ∷ gs) ls (rest, (e, are)) =
    let more = literals_few Reads groups gs rest are in
    let one = modules_few W name gs in
    omega (arith, ap length e, length-append (modules_literals {W = W} name gs) rest, more, one)
literals_few Reads groups (ModuleOption c n o a ∷ gs) ls (l, rest, (e, is, are)) = let more = literals_few Reads groups gs rest are in omega (arith, ap length e, more)

groups_few : (current : Option Text) (words target : List Word) (gs : List Group) → AreGroups current words gs target → length gs ≤ length words
groups_few current words target [] are = omega arith
groups_few current words target (g ∷ gs) (rest, (is, are)) =
    let shorter = group_shorter current words g rest is in
    let more = groups_few (current_after current g) rest target gs are in
    omega (arith, shorter, more)

head_few : (words : List Word) (chain : Text) (rest : List Word) → IsRuleHead words chain rest → length rest ≤ length words
head_few words chain rest (counter, name, (is, named, split)) = omega (arith, ap length split, length-append counter (bare (codes "-A") ∷ name ∷ rest))

-- a line has at most as many literals as words
pub rule_few : {W : ℕ} (Reads : Text → ℕ → Type 0) (words : List Word) (chain : Text) (rest target : List Word) (groups : List Group) (ls : List (Lit (Prim_ W)))
    → IsRuleHead words chain rest → AreGroups None rest groups target → AreLiterals Reads groups groups ls → length ls ≤ length words
rule_few Reads words chain rest target groups ls head grouped are =
    let a = head_few words chain rest head in
    let b = groups_few None rest target groups grouped in
    let c = literals_few Reads groups groups ls are in
    omega (arith, a, b, c)
