-- The visits of a chain, as they are listed rule by rule.
use Rattle.std.specs.Prelude.{ℕ, ◌+◌, ◌<◌, ◌≤◌, ◌≡◌, List, [], ◌∷◌, ◌++◌, Option, None, Some, length, slice_get, get_or, refl}
use Rattle.std.proofs.Common.{subst, sym, ap, ◌∙◌, arith, append_assoc, append-nil}
use Rattle.std.specs.Option.{option_and_then}
use Rattle.fw_rule.specs.declared.rule.Rule.{Rule}
use Rattle.fw_rule.specs.declared.rule.Chain.{Chain}
use Rattle.fw_rule.specs.declared.rule.Dump.{Dump}
use Rattle.fw_rule.specs.Walk.{Path, target_of}
use Rattle.fw_laws.specs.Frames.{step_of}
use Rattle.fw_laws.specs.Shape.{rule_at as rule_in}
use Rattle.chain_graph.specs.Marks.{AreRulesOf}
use Rattle.explain.proofs.Going.{rule_at, past_at}
use Rattle.region_queries.specs.Visits.{AtEnd, Called, Plain, VisitsFrom}

module _ {P : Type 0} (dump : Dump P) (chain : ℕ) (path : Path) (before : List Path) where
  -- the visits up to the rule `next` stand behind those from before
  pub record ListedTo (next : ℕ) (now : List Path) : Type 0 where
    pub added : List Path
    pub now_is : now ≡ before ++ added
    pub goes : (later : List Path) → VisitsFrom dump chain next path later → VisitsFrom dump chain 0 path (added ++ later)

  -- all of them do
  abbrev pub Listed : List Path → Type 0
  Listed now = (added : List Path) × (now ≡ before ++ added) × VisitsFrom dump chain 0 path added

  pub none_yet : ListedTo 0 before
  none_yet = record { added = []; now_is = sym (append-nil before); goes = λ later h. h }

  module _ (rules : List (Rule P)) (at : AreRulesOf dump chain rules) (next : ℕ) (now : List Path) (s : ListedTo next now) where
    pub all_listed : length rules ≤ next → Listed now
    all_listed h = (
      s.added,
      s.now_is,
      subst (VisitsFrom dump chain 0 path) (append-nil s.added) (s.goes [] (AtEnd (at.0, at.1, past_at dump chain rules at next h at.0 at.1))),
    )

    module _ (rule : Rule P) (inside : next < length rules) (is : rule ≡ get_or rules next rule) (own : Path) (own_is : own ≡ path ++ step_of chain next ∷ [])
        (one : List Path) (one_is : one ≡ now ++ own ∷ []) where
      rule_is : rule_in dump chain next ≡ Some rule
      rule_is = ap (option_and_then (λ (x : Chain P). slice_get x.rules next)) at.1 ∙ rule_at dump chain rules at next rule inside is at.0 at.1

      pub plain : target_of rule.action ≡ None → ListedTo (next + 1) one
      plain none = record {
        added = s.added ++ own ∷ [];
        now_is = one_is ∙ ap (λ (xs : List Path). xs ++ own ∷ []) s.now_is ∙ append_assoc before s.added (own ∷ []);
        goes = λ later h. subst (VisitsFrom dump chain 0 path) (sym (append_assoc s.added (own ∷ []) later))
            (s.goes (own ∷ later) (subst (λ (x : Path). VisitsFrom dump chain next path (x ∷ later)) (sym own_is) (Plain rule rule_is none h)));
      }

      pub called : (k : ℕ) → target_of rule.action ≡ Some k → (all inside : List Path) → all ≡ one ++ inside → VisitsFrom dump k 0 own inside → ListedTo (next + 1) all
      called k to all inside all_is there = record {
        added = s.added ++ own ∷ inside;
        now_is = all_is ∙ ap (λ (xs : List Path). xs ++ inside) (one_is ∙ ap (λ (xs : List Path). xs ++ own ∷ []) s.now_is) ∙ ap (λ (xs : List Path). xs ++ inside) (append_assoc before s.added (own ∷ []))
            ∙ append_assoc before (s.added ++ own ∷ []) inside ∙ ap (λ (xs : List Path). before ++ xs) (append_assoc s.added (own ∷ []) inside);
        goes = λ later h. subst (VisitsFrom dump chain 0 path) (sym (append_assoc s.added (own ∷ inside) later))
            (s.goes (own ∷ inside ++ later) (subst (λ (x : Path). VisitsFrom dump chain next path (x ∷ inside ++ later)) (sym own_is)
            (Called rule k rule_is to (subst (λ (x : Path). VisitsFrom dump k 0 x inside) own_is there) h)));
      }
