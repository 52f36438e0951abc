-- The text of a closed chain's rules is a filter of the chain.
use Rattle.std.proofs.Common.{◌≡◌, ◌∙◌, ◌↔◌, ℕ, List, [], ◌∷◌, Bool, true, false, Option, Some, None, refl, ap, sym, subst, slice_get, is_some, unwrap_or, Contains, map, filter, inl, inr}
use Rattle.basics.proofs.Lists.{map_place}
use Rattle.primitives.specs.declared.prim.Prim_.{Prim_}
use Rattle.primitives.specs.Holds.{holds_of}
use Rattle.fw_rule.specs.declared.rule.Verdict.{Verdict}
use Rattle.fw_rule.specs.declared.rule.Chain.{Chain}
use Rattle.fw_rule.specs.declared.rule.Dump.{Dump}
use Rattle.fw_rule.specs.Walk.{Walks, is_accept}
use Rattle.fw_rule.proofs.Ends.{contains_at}
use Rattle.fw_rule.proofs.WalkLaws.{one_verdict}
use Rattle.fw_rule.specs.declared.side.Side.{Side}
use Rattle.box_norm.specs.declared.cube.SimpleRule.{SimpleRule}
use Rattle.box_norm.specs.Normal.{first_of}
use Rattle.simple_filter.specs.Closed.{Accepts}
use Rattle.dump_grammar.specs.declared.chains.Declared.{Declared}
use Rattle.dump_grammar.specs.ChainLines.{IsChainLine, built_in, is_among}
use Rattle.dump_grammar.specs.Lines.{Numbered, Text, Word}
use Rattle.dump_grammar.specs.Tables.{AreChainLines, Placed}
use Rattle.dump_grammar.specs.Reads.{IsDump, is_in, rule_of}
use Rattle.dump_print.specs.Printed.{printed}
use Rattle.printed_filter.specs.Laws.{MeansItsRules, verdict_of}
use Rattle.printed_filter.specs.PrintedDump.{printed_dump}
use Rattle.fffuu_run.specs.Headline.{IsFilterOf, IsChain}
use Rattle.fffuu_run.proofs.DumpLemmas.{contains_cons, contains_none}

-- each declared chain has its line
line_of_chain : (lines : List Numbered) (chains : List Declared) → AreChainLines lines chains → (d : Declared) → Contains chains d
    → (words : List Word) × IsChainLine words d
line_of_chain [] [] declares d there = absurd (contains_none d there)
line_of_chain [] (c ∷ chains) declares d there = absurd declares
line_of_chain (line ∷ lines) [] declares d there = absurd declares
line_of_chain (line ∷ lines) (c ∷ chains) ((words, has, is), rest) d there = elim (contains_cons c chains d there) [
  | inl same ↦ (words, subst (IsChainLine words) same is)
  | inr later ↦ line_of_chain lines chains rest d later
]

policy_some : (o : Option Verdict) (v : Verdict) → o ≡ Some v → is_some o ≡ true
policy_some (Some w) v is = refl
policy_some None v is = absurd (cc)

module _ {W : ℕ} where
  chain_with : List (Placed W) → Declared → Chain (Prim_ W)
  chain_with rules d = record { name = d.name; policy = d.policy; rules = map rule_of (filter (is_in d.name) rules) }

module _ {W : ℕ} (Reads : Text → ℕ → Type 0) where
  -- a chain with a policy is a built-in one
  pub built_in_name : (text : Text) (dump : Dump (Prim_ W)) → IsDump W Reads text dump → (chain : ℕ) (name : Text) (policy : Verdict)
      → IsChain dump chain name policy → is_among built_in name ≡ true
  unfolding chain_with
  built_in_name text dump reads chain name policy (here, at, named, has) =
      let same = ap (λ (d : Dump (Prim_ W)). slice_get d.chains chain) reads.dump_is in
      let (d, there, is) = map_place (chain_with reads.rules) reads.chains chain here (sym same ∙ at) in
      let f = reads.filter_is in
      let (words, line) = line_of_chain f.inside.chain_lines reads.chains f.inside.declares d (contains_at reads.chains chain d there) in
      let names : d.name ≡ name = ap (λ (h : Chain (Prim_ W)). h.name) is ∙ named in
      let policies : d.policy ≡ Some policy = ap (λ (h : Chain (Prim_ W)). h.policy) is ∙ has in
      subst (λ (n : Text). is_among built_in n ≡ true) names (line.policy ∙ policy_some d.policy policy policies)

-- a verdict accepts where the rules do, or else the policy
accepting : (o : Option Bool) (policy : Verdict) → (unwrap_or o (is_accept policy) ≡ true) ↔ (verdict_of o policy ≡ Verdict.Accept)
accepting (Some true) policy = (λ h. refl, λ h. refl)
accepting (Some false) policy = (λ h. absurd (cc), λ h. absurd (cc))
accepting None Verdict.Accept = (λ h. refl, λ h. refl)
accepting None Verdict.Drop = (λ h. absurd (cc), λ h. absurd (cc))

module _ {W : ℕ} (Reads : Text → ℕ → Type 0) (text_of : ℕ → Text) where
  pub is_filter_of : (side : Side) (original : Dump (Prim_ W)) (chain : ℕ) (name : Text) (policy : Verdict) (rules : List (SimpleRule W))
      → Accepts side original chain policy rules → MeansItsRules name policy rules
      → IsDump W Reads (printed text_of W name policy rules) (printed_dump name policy rules)
      → IsFilterOf W Reads side original chain name policy (printed text_of W name policy rules)
  is_filter_of side original chain name policy rules accepts means reads = record {
    filter = printed_dump name policy rules;
    reads = reads;
    first = means.asked;
    settled = means.settled;
    known = means.nothing_unknown;
    exact = λ p valid m.
        let walks = means.walks p valid m in
        let both = accepting (first_of rules p) policy in
        let said = accepts p valid in (
          λ accepted. said.0 (both.1 (one_verdict holds_of (printed_dump name policy rules) p m 0 (verdict_of (first_of rules p) policy) Verdict.Accept walks accepted)),
          λ allowed. subst (Walks holds_of (printed_dump name policy rules) p m 0) (both.0 (said.1 allowed)) walks,
        );
  }
