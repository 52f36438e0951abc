-- A dump whose literals are mapped has the calls, the targets and the loops of the dump.
use Rattle.std.proofs.Common.{◌≡◌, ◌∙◌, ℕ, List, [], ◌∷◌, Contains, map, inl, inr, ap, sym, subst}
use Rattle.std.specs.Option.{option_map}
use Rattle.std.proofs.lemmas.Option.{slice_get-map}
use Rattle.basics.proofs.Lists.{map_contains, map_place}
use Rattle.fw_rule.specs.declared.rule.Dump.{Dump}
use Rattle.fw_rule.specs.declared.rule.Lit.{Lit}
use Rattle.fw_rule.specs.declared.rule.Rule.{Rule}
use Rattle.fw_rule.specs.Walk.{Calls, Reaches, RuleOf, mapped_by, mapped_chain, mapped_rule}
use Rattle.fw_laws.proofs.Mapping.{calls_stay, settled_stays, shape_stays}
use Rattle.fw_laws.proofs.Settle.{reaches_there}
use Rattle.chain_graph.specs.Faults.{IsLoop, IsUnsupported, NoLoop, NoneUnsupported}
use Rattle.simple_filter.specs.declared.refusal.Kind.{Kind}
use Rattle.simple_filter.specs.declared.refusal.Refusal.{Refusal}
use Rattle.fffuu_run.specs.Questions.{Comes, IsWithin}
use Rattle.fffuu_run.proofs.DumpLemmas.{contains_cons, contains_here, contains_none, contains_there}

map_to : {X Y : Type 0} (f : X → Y) (xs : List X) (x : X) → Contains xs x → Contains (map f xs) (f x)
map_to f [] x there = absurd (contains_none x there)
map_to f (z ∷ xs) x there = elim (contains_cons z xs x there) [
  | inl same ↦ subst (λ (y : _). Contains (map f (z ∷ xs)) (f y)) same (contains_here (f z) (map f xs))
  | inr later ↦ contains_there (f z) (map f xs) (f x) (map_to f xs x later)
]

module _ {P : Type 0} (image : Lit P → Lit P) (dump : Dump P) where
  abbrev other : Dump P
  other = mapped_by image dump

  pub rule_from : (c : ℕ) (r : Rule P) → RuleOf other c r → (rule : Rule P) × RuleOf dump c rule × (mapped_rule image rule ≡ r)
  rule_from c r (there, at, inside) =
      let (here, found, is) = map_place (mapped_chain image) dump.chains c there at in
      let (rule, within, same) = map_contains (mapped_rule image) here.rules r (subst (λ (h : _). Contains h.rules r) (sym is) inside) in
      (rule, (here, found, within), same)

  rule_to : (c : ℕ) (rule : Rule P) → RuleOf dump c rule → RuleOf other c (mapped_rule image rule)
  rule_to c rule (here, at, inside) = (
    mapped_chain image here,
    slice_get-map (mapped_chain image) dump.chains c ∙ ap (option_map (mapped_chain image)) at,
    map_to (mapped_rule image) here.rules rule inside,
  )

  calls_from : (a b : ℕ) → Calls other a b → Calls dump a b
  calls_from a b calls = ((calls_stay dump image).1 a b).1 calls

  calls_to : (a b : ℕ) → Calls dump a b → Calls other a b
  calls_to a b calls = ((calls_stay dump image).1 a b).0 calls

  reaches_from : (a b : ℕ) → Reaches other a b → Reaches dump a b
  reaches_from = reaches_there other dump (sym (shape_stays dump image))

  reaches_to : (a b : ℕ) → Reaches dump a b → Reaches other a b
  reaches_to = reaches_there dump other (shape_stays dump image)

  target_from : (asked : ℕ) (r : Rule P) (name : List ℕ) → IsUnsupported other asked r name
      → (rule : Rule P) × IsUnsupported dump asked rule name × (rule.line ≡ r.line)
  target_from asked r name (c, reach, of, is) =
      let (rule, there, same) = rule_from c r of in
      (rule, (c, reaches_from asked c reach, there, ap (λ (x : Rule P). x.action) same ∙ is), ap (λ (x : Rule P). x.line) same)

  target_to : (asked : ℕ) (rule : Rule P) (name : List ℕ) → IsUnsupported dump asked rule name → IsUnsupported other asked (mapped_rule image rule) name
  target_to asked rule name (c, reach, of, is) = (c, reaches_to asked c reach, rule_to c rule of, is)

  targets_from : (asked : ℕ) → NoneUnsupported other asked → NoneUnsupported dump asked
  targets_from asked none rule name is = none (mapped_rule image rule) name (target_to asked rule name is)

  loop_from : (asked c : ℕ) → IsLoop other asked c → IsLoop dump asked c
  loop_from asked c (reach, (k, calls, back)) = (reaches_from asked c reach, (k, calls_from c k calls, reaches_from k c back))

  loop_to : (asked c : ℕ) → IsLoop dump asked c → IsLoop other asked c
  loop_to asked c (reach, (k, calls, back)) = (reaches_to asked c reach, (k, calls_to c k calls, reaches_to k c back))

  loops_from : (asked : ℕ) → NoLoop other asked → NoLoop dump asked
  loops_from asked none c is = none c (loop_to asked c is)

  -- what refuses a question on the one refuses it on the other
  pub comes_from : (chain : ℕ) (IsOver : Kind → Type 0) (r : Refusal) → Comes other chain IsOver r → Comes dump chain IsOver r
  comes_from chain IsOver (Refusal.Unsupported line name) ((r, is, at), low) =
      let (rule, there, lines) = target_from chain r name is in
      ((rule, there, lines ∙ at), λ s n also. low (mapped_rule image s) n (target_to chain s n also))
  comes_from chain IsOver (Refusal.Loop c) (none, (is, low)) =
      (targets_from chain none, (loop_from chain c is, λ k also. low k (loop_to chain k also)))
  comes_from chain IsOver (Refusal.Limit kind) (none, no_loop, over, first) = (targets_from chain none, loops_from chain no_loop, over, first)
  comes_from chain IsOver Refusal.Memory p = tt

  -- and what is within the limits on the one is so on the other
  pub within_from : (chain : ℕ) (IsOver : Kind → Type 0) → IsWithin other chain IsOver → IsWithin dump chain IsOver
  within_from chain IsOver w = record { settled = (settled_stays dump image chain).1 w.settled; within = w.within }
