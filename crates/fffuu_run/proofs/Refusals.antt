-- Of the refusals of a question one comes at most, and none where no number is past its limit.
use Rattle.std.proofs.Common.{◌≡◌, ◌∙◌, ◌<◌, ◌≤◌, ℕ, zero, suc, List, refl, arith, ap, sym, subst, length, slice_get}
use Rattle.std.proofs.lemmas.Option.{slice_get_within}
use Rattle.fw_rule.specs.declared.rule.Action.{Action}
use Rattle.fw_rule.specs.declared.rule.Chain.{Chain}
use Rattle.fw_rule.specs.declared.rule.Dump.{Dump}
use Rattle.fw_rule.specs.declared.rule.Rule.{Rule}
use Rattle.fw_rule.specs.Calls.{RuleOf, Settled}
use Rattle.chain_graph.specs.Faults.{IsFirstLoop, IsLeastUnsupported, NoLoop, NoneUnsupported}
use Rattle.simple_filter.specs.declared.refusal.Kind.{Kind}
use Rattle.simple_filter.specs.declared.refusal.Kind.TheVariants as kind
use Rattle.simple_filter.specs.declared.refusal.Refusal.{Refusal}
use Rattle.fffuu_run.specs.Questions.{Comes, IsNameOf, IsToldAs, IsWithin, order_of}
use Rattle.fffuu_run.specs.declared.status.Status.{Status}
use Rattle.fffuu_run.specs.declared.status.Status.TheVariants as status
use Rattle.fffuu_run.proofs.Options.{one_some}

-- the limit that stands there in the order
kind_at : ℕ → Kind
kind_at zero = kind.Depth
kind_at (suc zero) = kind.Nodes
kind_at (suc (suc zero)) = kind.Literals
kind_at (suc (suc (suc zero))) = kind.Boxes
kind_at (suc (suc (suc (suc zero)))) = kind.Rules
kind_at (suc (suc (suc (suc (suc zero))))) = kind.Lines
kind_at (suc (suc (suc (suc (suc (suc zero)))))) = kind.Atoms
kind_at (suc (suc (suc (suc (suc (suc (suc zero))))))) = kind.Regions
kind_at (suc (suc (suc (suc (suc (suc (suc (suc k)))))))) = kind.Visits

stands_there : (k : Kind) → kind_at (order_of k) ≡ k
unfolding kind_at
stands_there kind.Depth = refl
stands_there kind.Nodes = refl
stands_there kind.Literals = refl
stands_there kind.Boxes = refl
stands_there kind.Rules = refl
stands_there kind.Lines = refl
stands_there kind.Atoms = refl
stands_there kind.Regions = refl
stands_there kind.Visits = refl

-- two limits don't stand in one place
pub one_order : (k l : Kind) → order_of k ≡ order_of l → k ≡ l
one_order k l is = sym (stands_there k) ∙ ap kind_at is ∙ stands_there l

-- a refusal that a status tells; want of memory tells nothing
abbrev pub IsCause : Refusal → Type 0
IsCause Refusal.Memory = ⊥
IsCause refusal = Unit {0}

module _ {P : Type 0} (dump : Dump P) where
  -- rules on one line are the same
  abbrev pub OneRule : Type 0
  OneRule = (a b : ℕ) (r s : Rule P) → RuleOf dump a r → RuleOf dump b s → r.line ≡ s.line → r ≡ s

  -- what a settled chain lacks
  pub settled_targets : (chain : ℕ) → Settled dump chain → NoneUnsupported dump chain
  settled_targets chain s rule name (c, reach, there, is) = s.known_targets c rule name reach there is

  pub settled_loops : (chain : ℕ) → Settled dump chain → NoLoop dump chain
  settled_loops chain s c (reach, (k, calls, back)) = s.no_loop c k reach calls back

  one_target : (r s : Rule P) (n m : List ℕ) → r ≡ s → r.action ≡ Action.Other n → s.action ≡ Action.Other m → n ≡ m
  one_target r s n m is a b = cc

  least_once : (asked line line' : ℕ) (n n' : List ℕ) → OneRule → IsLeastUnsupported dump asked line n → IsLeastUnsupported dump asked line' n'
      → Refusal.Unsupported line n ≡ Refusal.Unsupported line' n'
  least_once asked line line' n n' one ((r, (c, reach, in_c, is), at), low) ((s, (d, reach', in_d, is'), at'), low') =
      let below : line ≤ line' = omega (arith, low s n' (d, reach', in_d, is'), at') in
      let above : line' ≤ line = omega (arith, low' r n (c, reach, in_c, is), at) in
      let lines : line ≡ line' = omega arith in
      let names : n ≡ n' = one_target r s n n' (one c d r s in_c in_d (at ∙ lines ∙ sym at')) is is' in
      cc

  loop_once : (asked c d : ℕ) → IsFirstLoop dump asked c → IsFirstLoop dump asked d → c ≡ d
  loop_once asked c d (a, low) (b, low') = omega (arith, low d b, low' c a)

  unsupported : (asked line : ℕ) (n : List ℕ) → NoneUnsupported dump asked → IsLeastUnsupported dump asked line n → ⊥
  unsupported asked line n none ((r, is, at), low) = none r n is

  module _ (chain : ℕ) (IsOver : Kind → Type 0) where
    -- limits that both come first are one
    one_limit : (k l : Kind) → IsOver k → ((e : Kind) → order_of e < order_of k → IsOver e → ⊥) → IsOver l
        → ((e : Kind) → order_of e < order_of l → IsOver e → ⊥) → k ≡ l
    one_limit k l p first q first' =
        let above : order_of l < order_of k → ⊥ = λ lower. first l lower q in
        let below : order_of k < order_of l → ⊥ = λ lower. first' k lower p in
        one_order k l (omega (arith, above, below))

    one_comes : OneRule → (a b : Refusal) → IsCause a → IsCause b → Comes dump chain IsOver a → Comes dump chain IsOver b → a ≡ b
    one_comes one (Refusal.Unsupported line n) (Refusal.Unsupported line' n') ca cb p q = least_once chain line line' n n' one p q
    one_comes one (Refusal.Unsupported line n) (Refusal.Loop c) ca cb p q = absurd (unsupported chain line n q.0 p)
    one_comes one (Refusal.Unsupported line n) (Refusal.Limit k) ca cb p q = absurd (unsupported chain line n q.0 p)
    one_comes one (Refusal.Loop c) (Refusal.Unsupported line n) ca cb p q = absurd (unsupported chain line n p.0 q)
    one_comes one (Refusal.Loop c) (Refusal.Loop d) ca cb p q = ap Refusal.Loop (loop_once chain c d p.1 q.1)
    one_comes one (Refusal.Loop c) (Refusal.Limit k) ca cb p q = absurd (q.1 c (p.1).0)
    one_comes one (Refusal.Limit k) (Refusal.Unsupported line n) ca cb p q = absurd (unsupported chain line n p.0 q)
    one_comes one (Refusal.Limit k) (Refusal.Loop c) ca cb p q = absurd (p.1 c (q.1).0)
    one_comes one (Refusal.Limit k) (Refusal.Limit l) ca cb p q = ap Refusal.Limit (one_limit k l p.2 p.3 q.2 q.3)
    one_comes one Refusal.Memory b ca cb p q = absurd ca
    one_comes one a Refusal.Memory ca cb p q = absurd cb

    none_comes : IsWithin dump chain IsOver → (a : Refusal) → IsCause a → Comes dump chain IsOver a → ⊥
    none_comes w (Refusal.Unsupported line n) ca p = unsupported chain line n (settled_targets chain w.settled) p
    none_comes w (Refusal.Loop c) ca p = settled_loops chain w.settled c (p.1).0
    none_comes w (Refusal.Limit k) ca p = w.within k p.2
    none_comes w Refusal.Memory ca p = ca

    -- a chain that calls itself is one of the dump
    pub loop_there : (a : Refusal) → Comes dump chain IsOver a → (c : ℕ) → a ≡ Refusal.Loop c → c < length dump.chains
    loop_there a p c is =
        let (none, ((reached, (k, (rule, (here, at, inside), calls), back)), low)) = subst (Comes dump chain IsOver) is p in
        slice_get_within dump.chains c here at

  told_cause : (r : Refusal) (s : Status) → IsToldAs dump r s → IsCause r
  told_cause (Refusal.Unsupported line target) s told = tt
  told_cause (Refusal.Loop c) s told = tt
  told_cause (Refusal.Limit k) s told = tt
  told_cause Refusal.Memory s told = told

  one_name : (c : ℕ) (n m : List ℕ) → IsNameOf dump c n → IsNameOf dump c m → n ≡ m
  one_name c n m (here, at, is) (there, at', is') =
      let same : there ≡ here = one_some (slice_get dump.chains c) there here at' at in
      sym is ∙ sym (ap (λ (h : Chain P). h.name) same) ∙ is'

  told_once : (r : Refusal) (s t : Status) → IsToldAs dump r s → IsToldAs dump r t → s ≡ t
  told_once (Refusal.Unsupported line target) s t p q = p ∙ sym q
  told_once (Refusal.Loop c) s t (n, named, is) (m, named', is') = is ∙ ap status.CallLoop (one_name c n m named named') ∙ sym is'
  told_once (Refusal.Limit k) s t p q = p ∙ sym q
  told_once Refusal.Memory s t p q = absurd p

  -- so one status tells a refusal that comes, or none does
  pub one_told : (chain : ℕ) (IsOver : Kind → Type 0) → OneRule → (s t : Status)
      → (r : Refusal) × Comes dump chain IsOver r × IsToldAs dump r s → (r : Refusal) × Comes dump chain IsOver r × IsToldAs dump r t → s ≡ t
  one_told chain IsOver one s t (r, comes, told) (r', comes', told') =
      let same : r' ≡ r = one_comes chain IsOver one r' r (told_cause r' t told') (told_cause r s told) comes' comes in
      told_once r s t told (subst (λ (x : Refusal). IsToldAs dump x t) same told')

  pub none_told : (chain : ℕ) (IsOver : Kind → Type 0) → IsWithin dump chain IsOver → (s : Status)
      → (r : Refusal) × Comes dump chain IsOver r × IsToldAs dump r s → ⊥
  none_told chain IsOver within s (r, comes, told) = none_comes chain IsOver within r (told_cause r s told) comes
