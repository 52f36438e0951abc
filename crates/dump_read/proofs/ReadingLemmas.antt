-- What a text is, by where its lines lead: so it is that in one way.
use Rattle.std.proofs.Common.{ℕ, ◌≡◌, true, false, None, Some, Option, List, [], ◌∷◌, ◌++◌, refl, sym, ap, subst, ◌∙◌}
use Rattle.std.specs.List.{AllByRecursion, flat_map}
use Rattle.primitives.specs.declared.prim.Prim_.{Prim_}
use Rattle.fw_rule.specs.declared.rule.Dump.{Dump}
use Rattle.dump_grammar.specs.Lines.{Text, Word, Numbered, AreLines, numbered_from}
use Rattle.dump_grammar.specs.declared.chains.Declared.{Declared}
use Rattle.dump_grammar.specs.ChainLines.{IsChainLine}
use Rattle.dump_grammar.specs.declared.rule.RuleLine.{RuleLine}
use Rattle.dump_grammar.specs.RuleLines.{IsRuleLine}
use Rattle.dump_grammar.specs.Tables.{lines_of, IsFilterBody, Placed, WellFormed, IsBadLine}
use Rattle.dump_grammar.specs.Reads.{dump_of, HasFilter, is_declared, IsDump, IsUndefinedLine, HasNoFilter, IsMalformed}
use Rattle.dump_read.specs.inner.Positions.{Filter, Position, Leads}
use Rattle.dump_read.specs.Laws.{HasOneDump, HasOneMalformedLine, HasOneUndefinedLine, ExcludeEachOther}
use Rattle.basics.proofs.Lists.{head_same, tail_same}
use Rattle.basics.proofs.Truths.{clash}
use Rattle.dump_read.proofs.LineLemmas.{one_lines}
use Rattle.dump_read.proofs.StepLemmas.{leads_once}
use Rattle.dump_read.proofs.TableLemmas.{AreKept, all_kept, kept_left, kept_there, leads_of, tables_of, finds_none, finds_filter, there_found, none_left, body_leads}
use Rattle.dump_read.proofs.FitLemmas.{start, one_position, one_bad, none_bad}

module _ (W : ℕ) (Reads : Text → ℕ → Type 0) where
  pub has_filter_of : (text : Text) (lines : List Text) (chains : List Declared) (rules : List (Placed W)) → AreLines lines text →
      Leads W Reads (start W Reads) (numbered_from 1 lines) (Position.Outside (Some (chains, rules))) → HasFilter W Reads text chains rules
  has_filter_of text lines chains rules parted x =
      let t = tables_of W Reads (numbered_from 1 lines) (Some (chains, rules)) x in
      let f = finds_filter W Reads t.0 None (Some (chains, rules)) (chains, rules) t.1.1 refl refl in
      record {
        lines = lines;
        parted = parted;
        tables = t.0;
        tabled = t.1.0;
        table = f.0;
        there = f.1.0;
        is_filter = f.1.1;
        inside = f.1.2;
      }

  pub no_filter_of : (text : Text) (lines : List Text) → AreLines lines text → Leads W Reads (start W Reads) (numbered_from 1 lines) (Position.Outside None) → HasNoFilter W Reads text
  no_filter_of text lines parted x =
      let t = tables_of W Reads (numbered_from 1 lines) None x in
      record {
        lines = lines;
        parted = parted;
        tables = t.0;
        tabled = t.1.0;
        none = finds_none W Reads t.0 None None t.1.1 refl refl;
      }

  -- what stands before the first rule that isn't declared
  abbrev pub AllDeclared : List Declared → List (Placed W) → Type 0
  AllDeclared chains rules = AllByRecursion (λ (placed : Placed W). is_declared chains placed ≡ true) rules

module _ {W : ℕ} where
  some_same : (f g : Filter W) → Some f ≡ Some g → f ≡ g
  some_same f g e = cc

  none_some : (f : Filter W) → Some f ≡ None → ⊥
  none_some f e = cc

module _ (W : ℕ) (Reads : Text → ℕ → Type 0)
    (one_chain : (words : List Word) (a b : Declared) → IsChainLine words a → IsChainLine words b → a ≡ b)
    (one_rule : (names : List Text) (words : List Word) (a b : RuleLine W) → IsRuleLine Reads names words a → IsRuleLine Reads names words b → a ≡ b) where
  inside_same : (c d : List Declared) (r s : List (Placed W)) → Position.Inside c r ≡ Position.Inside d s → (c ≡ d) × (r ≡ s)
  inside_same c d r s e = (cc, cc)

  outside_same : (f g : Option (Filter W)) → Position.Outside f ≡ Position.Outside g → f ≡ g
  outside_same f g e = cc

  body_once : (body : List Numbered) (c d : List Declared) (r s : List (Placed W)) → AreKept body → IsFilterBody W Reads body c r → IsFilterBody W Reads body d s → (c ≡ d) × (r ≡ s)
  body_once body c d r s k a b =
      inside_same c d r s (leads_once W Reads one_chain one_rule (Position.Inside [] []) body (Position.Inside c r) (Position.Inside d s)
      (body_leads W Reads body c r k a) (body_leads W Reads body d s k b))

  pub filter_leads : (text : Text) (chains : List Declared) (rules : List (Placed W)) (h : HasFilter W Reads text chains rules) →
      Leads W Reads (start W Reads) (numbered_from 1 h.lines) (Position.Outside (Some (chains, rules)))
  filter_leads text chains rules h =
      let x = leads_of W Reads (numbered_from 1 h.lines) h.tables h.tabled in
      let y = there_found W Reads h.tables None x.0 h.table h.there.0 x.1.1 h.there.1 h.there.2 h.is_filter in
      let all : AreKept (flat_map lines_of h.tables) = subst AreKept h.tabled.whole (all_kept (numbered_from 1 h.lines)) in
      let here : AreKept (lines_of h.table) = kept_there h.tables h.table h.there.0 all h.there.1 h.there.2 in
      let same = body_once h.table.body y.0 chains y.1 rules (kept_left h.table.body (h.table.close ∷ []) here.1) y.2.0 h.inside in
      let e : x.0 ≡ Some (chains, rules) = y.2.1 ∙ (λ i. Some (same.0 i, same.1 i)) in
      subst (λ (z : Option (Filter W)). Leads W Reads (start W Reads) (numbered_from 1 h.lines) (Position.Outside z)) e x.1.0

  pub no_filter_leads : (text : Text) (h : HasNoFilter W Reads text) → Leads W Reads (start W Reads) (numbered_from 1 h.lines) (Position.Outside None)
  no_filter_leads text h =
      let x = leads_of W Reads (numbered_from 1 h.lines) h.tables h.tabled in
      subst (λ (z : Option (Filter W)). Leads W Reads (start W Reads) (numbered_from 1 h.lines) (Position.Outside z)) (none_left W Reads h.tables None x.0 x.1.1 h.none) x.1.0

  -- the lines of one text lead to one position
  one_end : (text : Text) (a b : List Text) (p q : Position W) → AreLines a text → AreLines b text →
      Leads W Reads (start W Reads) (numbered_from 1 a) p → Leads W Reads (start W Reads) (numbered_from 1 b) q → p ≡ q
  one_end text a b p q k l x y =
      one_position W Reads one_chain one_rule a p q x
      (subst (λ (z : List Text). Leads W Reads (start W Reads) (numbered_from 1 z) q) (one_lines b a text l k) y)

  one_filter : (text : Text) (c d : List Declared) (r s : List (Placed W)) → HasFilter W Reads text c r → HasFilter W Reads text d s → (c ≡ d) × (r ≡ s)
  one_filter text c d r s a b =
      let e = some_same (c, r) (d, s) (outside_same (Some (c, r)) (Some (d, s))
      (one_end text a.lines b.lines (Position.Outside (Some (c, r))) (Position.Outside (Some (d, s))) a.parted b.parted
      (filter_leads text c r a) (filter_leads text d s b))) in
      (ap (λ (z : Filter W). z.0) e, ap (λ (z : Filter W). z.1) e)

  filter_and_none : (text : Text) (c : List Declared) (r : List (Placed W)) → HasFilter W Reads text c r → HasNoFilter W Reads text → ⊥
  filter_and_none text c r a b =
      let e : Some (c, r) ≡ None = outside_same (Some (c, r)) None
      (one_end text a.lines b.lines (Position.Outside (Some (c, r))) (Position.Outside None) a.parted b.parted
      (filter_leads text c r a) (no_filter_leads text b)) in
      none_some (c, r) e

  whole_and_bad : (text : Text) (lines : List Text) (n : ℕ) → AreLines lines text → WellFormed W Reads lines → IsMalformed W Reads text n → ⊥
  whole_and_bad text lines n parted w m =
      none_bad W Reads one_chain one_rule m.lines n m.bad (subst (WellFormed W Reads) (one_lines lines m.lines text parted m.parted) w)

  -- the first rule that isn't declared is one
  first_once : (chains : List Declared) (before other : List (Placed W)) (p q : Placed W) (after more : List (Placed W)) → before ++ p ∷ after ≡ other ++ q ∷ more →
      AllDeclared W Reads chains before → AllDeclared W Reads chains other → is_declared chains p ≡ false → is_declared chains q ≡ false → p ≡ q
  first_once chains [] [] p q after more e a b x y = head_same p q after more e
  first_once chains [] (o ∷ other) p q after more e a b x y =
      absurd (clash (is_declared chains p) (ap (is_declared chains) (head_same p o after (other ++ q ∷ more) e) ∙ b.0) x)
  first_once chains (o ∷ before) [] p q after more e a b x y =
      absurd (clash (is_declared chains q) (ap (is_declared chains) (sym (head_same o q (before ++ p ∷ after) more e)) ∙ a.0) y)
  first_once chains (o ∷ before) (u ∷ other) p q after more e a b x y =
      first_once chains before other p q after more (tail_same o u (before ++ p ∷ after) (other ++ q ∷ more) e) a.1 b.1 x y

  not_all : (chains : List Declared) (before : List (Placed W)) (p : Placed W) (after : List (Placed W)) → AllDeclared W Reads chains (before ++ p ∷ after) → is_declared chains p ≡ false → ⊥
  not_all chains [] p after a x = clash (is_declared chains p) a.0 x
  not_all chains (o ∷ before) p after a x = not_all chains before p after a.1 x

  pub one_dump_of : (text : Text) → HasOneDump W Reads text
  one_dump_of text a b x y =
      let e = one_filter text x.chains y.chains x.rules y.rules x.filter_is y.filter_is in
      x.dump_is ∙ (λ i. dump_of (e.0 i) (e.1 i)) ∙ sym y.dump_is

  pub one_malformed_of : (text : Text) → HasOneMalformedLine W Reads text
  one_malformed_of text m n x y =
      one_bad W Reads one_chain one_rule x.lines m n x.bad
      (subst (λ (z : List Text). IsBadLine W Reads z n) (one_lines y.lines x.lines text y.parted x.parted) y.bad)

  pub one_undefined_of : (text : Text) → HasOneUndefinedLine W Reads text
  one_undefined_of text m n x y =
      let e = one_filter text x.chains y.chains (x.before ++ x.placed ∷ x.after) (y.before ++ y.placed ∷ y.after) x.filter_is y.filter_is in
      let there : AllDeclared W Reads x.chains y.before = subst (λ (z : List Declared). AllDeclared W Reads z y.before) (sym e.0) y.declared in
      let other : is_declared x.chains y.placed ≡ false = ap (λ (z : List Declared). is_declared z y.placed) e.0 ∙ y.undeclared in
      let same = first_once x.chains x.before y.before x.placed y.placed x.after y.after e.1 x.declared there x.undeclared other in
      sym x.number_is ∙ ap (λ (z : Placed W). z.number) same ∙ y.number_is

  dump_and_undefined : (text : Text) (dump : Dump (Prim_ W)) (n : ℕ) → IsDump W Reads text dump → IsUndefinedLine W Reads text n → ⊥
  dump_and_undefined text dump n x y =
      let e = one_filter text x.chains y.chains x.rules (y.before ++ y.placed ∷ y.after) x.filter_is y.filter_is in
      let all : AllDeclared W Reads x.chains (y.before ++ y.placed ∷ y.after) = subst (AllDeclared W Reads x.chains) e.1 x.declared in
      let here : is_declared x.chains y.placed ≡ false = ap (λ (z : List Declared). is_declared z y.placed) e.0 ∙ y.undeclared in
      not_all x.chains y.before y.placed y.after all here

  filter_whole : (text : Text) (c : List Declared) (r : List (Placed W)) (h : HasFilter W Reads text c r) (n : ℕ) → IsMalformed W Reads text n → ⊥
  filter_whole text c r h n m = whole_and_bad text h.lines n h.parted (h.tables, h.tabled) m

  pub exclude_of : (text : Text) → ExcludeEachOther W Reads text
  exclude_of text = record {
    dump_malformed = λ dump n x y. filter_whole text x.chains x.rules x.filter_is n y;
    dump_no_filter = λ dump x y. filter_and_none text x.chains x.rules x.filter_is y;
    dump_undefined = dump_and_undefined text;
    malformed_no_filter = λ n x y. whole_and_bad text y.lines n y.parted (y.tables, y.tabled) x;
    malformed_undefined = λ m n x y. filter_whole text y.chains (y.before ++ y.placed ∷ y.after) y.filter_is m x;
    no_filter_undefined = λ n x y. filter_and_none text y.chains (y.before ++ y.placed ∷ y.after) y.filter_is x;
  }
