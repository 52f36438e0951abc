-- A text has one cause of refusal at most, and none where it has an answer.
use Rattle.std.proofs.Common.{◌≡◌, ◌≤◌, ℕ, List, Bool, true, false, arith}
use Rattle.addr_text.specs.Grammar.{IsIpv4, IsIpv6}
use Rattle.addr_text.specs.Ipv4Laws.{ipv4_one, ipv4_plain, ipv4_not_number}
use Rattle.addr_text.specs.Ipv6Laws.{ipv6_one, ipv6_plain, ipv6_not_number}
use Rattle.addr_text.proofs.TextLemmas.{IsFamily}
use Rattle.fw_rule.specs.declared.side.Side.{Side}
use Rattle.dump_grammar.proofs.PolicyLemmas.{one_chain_line}
use Rattle.dump_read.proofs.Readers.{one_rule as one_rule_line}
use Rattle.dump_read.proofs.ReadingLemmas.{one_dump_of, one_malformed_of, one_undefined_of, exclude_of}
use Rattle.request.specs.declared.types.Mode.{Mode}
use Rattle.request.specs.declared.types.Mode.TheVariants as mode
use Rattle.request.specs.declared.types.Request.{Request}
use Rattle.load_dump.specs.Generated.{load_text}
use Rattle.primitives.specs.Holds.{holds_of}
use Rattle.fffuu_run.specs.Answers.{IsAnswer, IsOutput, IsOutputIn, IsRefusedAs, RefusesMode, RefusesModeIn, ipv4_of, ipv6_of}
use Rattle.fffuu_run.specs.Checks.{IsCheckOver}
use Rattle.fffuu_run.specs.Counts.{counts_line}
use Rattle.fffuu_run.specs.Explanations.{Explained, IsExplanationOver}
use Rattle.fffuu_run.specs.Filters.{IsFilterOver, IsPrintedFilter}
use Rattle.fffuu_run.specs.Loads.{IsLoadOver, load_summary}
use Rattle.fffuu_run.specs.Matrices.{IsMatrixOver, IsMatrixText}
use Rattle.fffuu_run.specs.Respecting.{with_spaces}
use Rattle.fffuu_run.specs.Spaces.{IsRoutesText, IsZonesText}
use Rattle.fffuu_run.specs.Spoofing.{AreVerdicts, IsSpoofOver}
use Rattle.fffuu_run.specs.declared.status.Status.{Status}
use Rattle.fffuu_run.proofs.Settled.{IsRefusal, IsSettled, ReadingLaws, settled}
use Rattle.fffuu_run.proofs.CoverCauses.{cover_settled}

-- a family's addresses are read in one way, and so are texts
laws_of : (W : ℕ) (Reads : List ℕ → ℕ → Type 0) → IsFamily Reads → W ≤ 128 → ReadingLaws W Reads
laws_of W Reads family most =
    let rules = one_rule_line W Reads family most in
    record {
      one_dump = one_dump_of W Reads one_chain_line rules;
      one_malformed = one_malformed_of W Reads one_chain_line rules;
      one_undefined = one_undefined_of W Reads one_chain_line rules;
      exclude = exclude_of W Reads one_chain_line rules;
    }

ipv4_laws : ReadingLaws 32 IsIpv4
ipv4_laws = laws_of 32 IsIpv4 (record { one = ipv4_one; plain = ipv4_plain; not_number = ipv4_not_number }) (omega arith)

ipv6_laws : ReadingLaws 128 IsIpv6
ipv6_laws = laws_of 128 IsIpv6 (record { one = ipv6_one; plain = ipv6_plain; not_number = ipv6_not_number }) (omega arith)

module _ (W : ℕ) (Reads : List ℕ → ℕ → Type 0) (laws : ReadingLaws W Reads) (text_of : ℕ → List ℕ) (name text : List ℕ) where
  -- the question of each mode is one of these
  mode_settled : (m : Mode) → IsSettled (λ s. RefusesMode W Reads text_of m name text s) (λ written. IsOutput W Reads text_of m name text written)
  mode_settled mode.Check = settled laws name text (λ dump chain. IsCheckOver dump chain) (λ written dump chain. written ≡ counts_line dump)
  mode_settled mode.Upper = settled laws name text (λ dump chain. IsFilterOver text_of Side.Upper name dump chain)
      (λ written dump chain. IsPrintedFilter W Reads text_of Side.Upper name dump chain written)
  mode_settled mode.Lower = settled laws name text (λ dump chain. IsFilterOver text_of Side.Lower name dump chain)
      (λ written dump chain. IsPrintedFilter W Reads text_of Side.Lower name dump chain written)
  mode_settled (mode.Matrix service side zones hops) = settled laws name text (λ dump chain. IsMatrixOver side (with_spaces zones hops dump) chain)
      (λ written dump chain. IsMatrixText text_of side service zones hops dump chain written)
  mode_settled (mode.Zones claims) = settled laws name text (λ dump chain. IsCheckOver dump chain)
      (λ written dump chain. IsZonesText text_of claims dump chain written)
  mode_settled (mode.Routes hops) = settled laws name text (λ dump chain. IsCheckOver dump chain)
      (λ written dump chain. IsRoutesText text_of W hops dump chain written)
  mode_settled (mode.Spoof claims) = settled laws name text (λ dump chain. IsSpoofOver dump chain claims)
      (λ written dump chain. AreVerdicts dump chain text_of claims written)
  mode_settled (mode.Load n) = settled ipv4_laws name (load_text n) (λ dump chain. IsLoadOver ipv4_of name dump chain)
      (λ written dump chain. written ≡ load_summary ipv4_of name dump chain n)
  mode_settled (mode.Explain p) = settled laws name text (λ dump chain. IsExplanationOver dump chain)
      (λ written dump chain. Explained holds_of dump chain p written)
  mode_settled mode.Cover = cover_settled laws text_of name text

in_settled : (six : Bool) (m : Mode) (name text : List ℕ)
    → IsSettled (λ s. RefusesModeIn six m name text s) (λ written. IsOutputIn six m name text written)
in_settled false m name text = mode_settled 32 IsIpv4 ipv4_laws ipv4_of name text m
in_settled true m name text = mode_settled 128 IsIpv6 ipv6_laws ipv6_of name text m

module _ (request : Request) (text : List ℕ) where
  -- a text has one cause of refusal at most
  pub one_cause : (s t : Status) → IsRefusedAs request text s → IsRefusedAs request text t → s ≡ t
  one_cause s t p q = (in_settled request.six request.mode request.chain text).one s t p q

  -- a text with an answer has none
  pub no_cause : (written : List ℕ) (s : Status) → IsAnswer request text written → IsRefusedAs request text s → ⊥
  no_cause written s o r = (in_settled request.six request.mode request.chain text).none written s o r

  -- why a text has no answer is one of the causes that its status tells
  pub is_refusal : (s : Status) → IsRefusedAs request text s → IsRefusal s
  is_refusal s r = (in_settled request.six request.mode request.chain text).cause s r
