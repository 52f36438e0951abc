-- The steps of the flat list.
use Rattle.std.proofs.Common.{◌≡◌, ℕ, zero, suc, ◌+◌, ◌*◌, ◌-◌, ◌^◌, ◌<◌, ◌≤◌, Bool, true, false, List, [], ◌∷◌, ◌++◌, drop, length, get_or, Some, slice_get, refl, sym, ◌∙◌, ap, subst, arith, append_assoc}
use Rattle.match_expr.specs.declared.expr.Expr.{Expr}
use Rattle.match_expr.specs.declared.expr.Expr.TheVariants.{Not}
use Rattle.fw_rule.specs.declared.rule.Action.{Action}
use Rattle.fw_rule.specs.declared.rule.Rule.{Rule}
use Rattle.fw_rule.specs.declared.rule.Chain.{Chain}
use Rattle.fw_rule.specs.declared.rule.Dump.{Dump}
use Rattle.fw_rule.specs.Walk.{Calls, RuleOf, Within, InSettled, target_of}
use Rattle.fw_rule.proofs.Turns.{chain_read, rule_read, shallower, further}
use Rattle.fw_rule.proofs.Ends.{contains_at}
use Rattle.fw_rule.specs.declared.side.Side.{Side}
use Rattle.rewriting.specs.declared.kinds.ActionKind.{ActionKind}
use Rattle.rewriting.specs.declared.kinds.ActionKind.TheVariants.{GoodVerdict, BadVerdict, GoOn, GoBack, CallTo, GoTo}
use Rattle.rewriting.specs.declared.rows.Row.{Row}
use Rattle.closure.specs.declared.modes.Escape.{Escape}
use Rattle.rewriting.specs.declared.rows.Mode.{Mode}
use Rattle.closure.specs.declared.modes.RulesFrom.{RulesFrom}
use Rattle.rewriting.specs.declared.rows.Mode.TheVariants.{Hard, Soft}
use Rattle.fw_rule.specs.Matching.{known_of, doubt_in}
use Rattle.closure.specs.Rewriting.{Tree, Leave, Block, shape, items, rules_of, tree}
use Rattle.rewriting.specs.Table.{kind, row_of, level}
use Rattle.closure.specs.inner.Items.{items_from}
use Rattle.closure.specs.Flat.{escape, carried, stayed, escapes}
use Rattle.closure.proofs.Outcomes.{target_in}

pub escape_first : {P : Type 0} (past : List (Expr P)) (n : ℕ) (e : Expr P) (rest : List (Escape P)) → escape past n e rest ≡ escape past n e [] ++ rest
escape_first past zero e rest = refl
escape_first past (suc n) e rest = refl

-- 0 in the mode in which nothing is made of the rest twice, else 1
abbrev pub hardness : Mode → ℕ
hardness Hard = 1
hardness (Soft zero) = 0
hardness (Soft (suc j)) = 1

pub hardness_small : (m : Mode) → hardness m ≤ 1
hardness_small Hard = omega arith
hardness_small (Soft zero) = omega arith
hardness_small (Soft (suc j)) = omega arith

-- a bound of the calls that are still to come
abbrev pub work : RulesFrom → ℕ
work from = 2 * from.depth + hardness from.mode

pub within_some : {P : Type 0} (dump : Dump P) (d c : ℕ) → Within dump d c → 1 ≤ d
within_some dump zero c w = elim w [ ]
within_some dump (suc d) c w = omega arith

-- the row runs a block of this chain in this mode
abbrev pub Runs : Row → ℕ → Mode → Type 0
Runs Row.Skip c inner = ⊥
Runs (Row.Decide v) c inner = ⊥
Runs (Row.Leave n) c inner = ⊥
Runs Row.LeaveLater c inner = ⊥
Runs (Row.Run k m) c inner = (k ≡ c) × (m ≡ inner)
Runs (Row.RunThenLeave k m) c inner = (k ≡ c) × (m ≡ inner)
Runs (Row.RunLater k) c inner = (k ≡ c) × (Soft 1 ≡ inner)

-- such a row is of a call or a goto
pub run_kind : (side : Side) (d : Bool) (what : ActionKind) (mode inner : Mode) (c : ℕ) → Runs (row_of side d what mode) c inner → (target_in what ≡ Some c) × (level inner ≤ level mode + 1)
run_kind side true GoodVerdict mode inner c h = absurd h
run_kind side false GoodVerdict mode inner c h = absurd h
run_kind side true BadVerdict mode inner c h = absurd h
run_kind side false BadVerdict Hard inner c h = absurd h
run_kind side false BadVerdict (Soft j) inner c h = absurd h
run_kind side true GoOn mode inner c h = absurd h
run_kind side false GoOn mode inner c h = absurd h
run_kind side false GoBack mode inner c h = absurd h
run_kind side true GoBack Hard inner c h = absurd h
run_kind side true GoBack (Soft zero) inner c h = absurd h
run_kind side true GoBack (Soft (suc j)) inner c h = absurd h
run_kind side false (CallTo k) Hard inner c h = (ap Some h.0, rw (← h.1) (omega arith))
run_kind side false (CallTo k) (Soft j) inner c h = (ap Some h.0, rw (← h.1) (omega arith))
run_kind side true (CallTo k) mode inner c h = (ap Some h.0, rw (← h.1) (omega arith))
run_kind side false (GoTo k) Hard inner c h = (ap Some h.0, rw (← h.1) (omega arith))
run_kind side false (GoTo k) (Soft j) inner c h = (ap Some h.0, rw (← h.1) (omega arith))
run_kind side true (GoTo k) Hard inner c h = (ap Some h.0, rw (← h.1) (omega arith))
run_kind side true (GoTo k) (Soft zero) inner c h = (ap Some h.0, rw (← h.1) (omega arith))
run_kind side true (GoTo k) (Soft (suc j)) inner c h = (ap Some h.0, rw (← h.1) (omega arith))

-- a rule that is seen as a call or a goto leads to the chain
pub calls : (side : Side) (action : Action) (k : ℕ) → target_in (kind side action) ≡ Some k → target_of action ≡ Some k
calls Side.Upper Action.Accept k e = cc
calls Side.Upper Action.Drop k e = cc
calls Side.Upper Action.Pass k e = cc
calls Side.Upper Action.Back k e = cc
calls Side.Upper (Action.Call j) k e = e
calls Side.Upper (Action.Goto j) k e = e
calls Side.Upper (Action.Other name) k e = cc
calls Side.Lower Action.Accept k e = cc
calls Side.Lower Action.Drop k e = cc
calls Side.Lower Action.Pass k e = cc
calls Side.Lower Action.Back k e = cc
calls Side.Lower (Action.Call j) k e = e
calls Side.Lower (Action.Goto j) k e = e
calls Side.Lower (Action.Other name) k e = cc

pub drop_at : {X : Type 0} (xs : List X) (n : ℕ) (x : X) → slice_get xs n ≡ Some x → drop n xs ≡ x ∷ drop (n + 1) xs
drop_at [] n x e = cc
drop_at (y ∷ xs) zero x e = let q : y ≡ x = cc in rw q refl
drop_at (y ∷ xs) (suc n) x e = let q : suc (n + 1) ≡ suc n + 1 = omega arith in subst (λ (z : ℕ). drop n xs ≡ x ∷ drop z (y ∷ xs)) q (drop_at xs n x e)

pub drop_past : {X : Type 0} (xs : List X) (n : ℕ) → length xs ≤ n → drop n xs ≡ []
drop_past [] zero h = refl
drop_past [] (suc n) h = refl
drop_past (x ∷ xs) zero h = absurd (omega arith)
drop_past (x ∷ xs) (suc n) h = drop_past xs n (omega arith)

-- the items from a rule on
pub items_at : {P : Type 0} (side : Side) (callee : ℕ → Mode → Tree P) (rules : List (Rule P)) (n : ℕ) (rule : Rule P) (mode : Mode) (r : Row) →
    slice_get rules n ≡ Some rule → r ≡ row_of side (doubt_in rule.lits) (kind side rule.action) mode →
    items side callee (drop n rules) mode ≡ shape callee (known_of rule) (λ (m : Mode). items side callee (drop (n + 1) rules) m) mode r
items_at side callee rules n rule mode r e q =
    rw (drop_at rules n rule e, q) refl

module _ {P : Type 0} (past : List (Expr P)) (k : Expr P) (found E : List (Escape P)) where
  pub left_escapes : (n : ℕ) (rest : Tree P) (past' : List (Expr P)) (found' : List (Escape P)) → past' ≡ past ++ Not k ∷ [] → found' ≡ found ++ escape past n k [] →
      found ++ escapes past (Leave k n rest) ≡ E → found' ++ escapes past' rest ≡ E
  left_escapes n rest past' found' e f h =
      rw (e, f) (append_assoc found (escape past n k []) (escapes (past ++ Not k ∷ []) rest) ∙ ap (λ (z : List (Escape P)). found ++ z) (sym (escape_first past n k (escapes (past ++ Not k ∷ []) rest))) ∙ h)

  pub ran_escapes : (inner rest : Tree P) (xs : List (Escape P)) (past' : List (Expr P)) (found' : List (Escape P)) →
      xs ≡ escapes [] inner → past' ≡ past ++ stayed k xs → found' ≡ found ++ carried past k xs →
      found ++ escapes past (Block k inner rest) ≡ E → found' ++ escapes past' rest ≡ E
  ran_escapes inner rest xs past' found' q f g h =
      rw (f, g, q) (append_assoc found (carried past k (escapes [] inner)) (escapes (past ++ stayed k (escapes [] inner)) rest) ∙ h)

-- the rule that the code has read
pub rule_here : {P : Type 0} (dump : Dump P) (c next : ℕ) (chains : List (Chain P)) (x : Chain P) (rules : List (Rule P)) → chains ≡ dump.chains → InSettled dump c →
    x ≡ get_or chains c x → rules ≡ (get_or chains c x).rules → (rule : Rule P) → next < length rules → rule ≡ get_or rules next rule → slice_get (rules_of dump c) next ≡ Some rule
rule_here dump c next chains x rules a s b r rule n i =
    let e : slice_get dump.chains c ≡ Some x = chain_read dump c next chains x rules a s b r in
    rw e (rule_read dump c next chains x rules a s b r rule n i x e)

-- it stands in the chain
pub stands_here : {P : Type 0} (dump : Dump P) (c next : ℕ) (chains : List (Chain P)) (x : Chain P) (rules : List (Rule P)) → chains ≡ dump.chains → InSettled dump c →
    x ≡ get_or chains c x → rules ≡ (get_or chains c x).rules → (rule : Rule P) → next < length rules → rule ≡ get_or rules next rule → RuleOf dump c rule
stands_here dump c next chains x rules a s b r rule n i =
    let e : slice_get dump.chains c ≡ Some x = chain_read dump c next chains x rules a s b r in
    (x, e, contains_at x.rules next rule (rule_read dump c next chains x rules a s b r rule n i x e))

pub rules_over : {P : Type 0} (dump : Dump P) (c next : ℕ) (chains : List (Chain P)) (x : Chain P) (rules : List (Rule P)) → chains ≡ dump.chains → InSettled dump c →
    x ≡ get_or chains c x → rules ≡ (get_or chains c x).rules → length rules ≤ next → drop next (rules_of dump c) ≡ []
rules_over dump c next chains x rules a s b r n =
    let e : slice_get dump.chains c ≡ Some x = chain_read dump c next chains x rules a s b r in
    rw e (drop_past x.rules next (let q : rules ≡ x.rules = r ∙ ap (λ (z : Chain _). z.rules) (sym b) in omega (arith, ap length q)))

-- one more call
pub tree_called : {P : Type 0} (side : Side) (dump : Dump P) (depth c : ℕ) (m : Mode) → 1 ≤ depth → tree side dump depth c m ≡ items side (tree side dump (depth - 1)) (drop 0 (rules_of dump c)) m
tree_called side dump zero c m h = absurd (omega arith)
tree_called side dump (suc d) c m h = let q : suc d - 1 ≡ d = omega arith in rw q refl

-- what is known of a chain to which a rule leads
pub record Led {P : Type 0} (side : Side) (dump : Dump P) (behind : RulesFrom) (c : ℕ) (inner : Mode) : Type 0 where
  pub deep : 1 ≤ behind.depth
  pub within : Within dump (behind.depth - 1) c
  pub settled : InSettled dump c
  pub room : level inner + (behind.depth - 1) < 2 ^ 32
  pub same : tree side dump (behind.depth - 1) c inner ≡ items_from side dump (record { chain = c; first = 0; depth = behind.depth - 1; mode = inner })

pub led : {P : Type 0} (side : Side) (dump : Dump P) (behind : RulesFrom) (rule : Rule P) → RuleOf dump behind.chain rule → InSettled dump behind.chain → Within dump behind.depth behind.chain →
    level behind.mode + behind.depth < 2 ^ 32 → (r : Row) → r ≡ row_of side (doubt_in rule.lits) (kind side rule.action) behind.mode → (c : ℕ) (inner : Mode) → Runs r c inner → Led side dump behind c inner
led side dump behind rule stands settled within room r is c inner runs =
    let k = run_kind side (doubt_in rule.lits) (kind side rule.action) behind.mode inner c (subst (λ (z : Row). Runs z c inner) is runs) in
    let call : Calls dump behind.chain c = (rule, stands, calls side rule.action c k.0) in
    let less = shallower dump behind.depth behind.chain c within call in
    record {
      deep = less.0;
      within = less.1;
      settled = further dump behind.chain c settled call;
      room = omega (arith, less.0, k.1, room);
      same = tree_called side dump (behind.depth - 1) c inner (within_some dump (behind.depth - 1) c less.1);
    }
