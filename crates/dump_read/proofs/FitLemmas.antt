-- Lines fit exactly where they lead somewhere, so a front of lines that fit fits, and the bad line is the first that
-- leads nowhere.
use Rattle.std.proofs.Common.{ℕ, ◌+◌, ◌<◌, ◌≤◌, ◌≡◌, inl, inr, ◌⊎◌, false, None, Some, Option, List, [], ◌∷◌, ◌++◌, length, take, drop, refl, sym, subst, ◌∙◌, arith, codes, length-append}
use Rattle.std.proofs.Math.Seq.{take-append-add}
use Rattle.std.proofs.lemmas.List.{take-append-drop, take-append-le}
use Rattle.dump_token.specs.declared.token.Token.{Token}
use Rattle.dump_token.specs.Words.{IsPlain, Begins, IsFirst}
use Rattle.dump_grammar.specs.Lines.{Text, Word, Numbered, numbered_from, bare, HasWords}
use Rattle.dump_grammar.specs.declared.chains.Declared.{Declared}
use Rattle.dump_grammar.specs.ChainLines.{IsChainLine}
use Rattle.dump_grammar.specs.declared.rule.RuleLine.{RuleLine}
use Rattle.dump_grammar.specs.RuleLines.{IsRuleLine}
use Rattle.dump_grammar.specs.Tables.{IsCommit, WellFormed, Fit, IsBadLine}
use Rattle.dump_read.specs.inner.Positions.{Filter, Position, Step, Leads}
use Rattle.dump_read.proofs.LineLemmas.{numbered_append}
use Rattle.dump_read.proofs.StepLemmas.{leads_append, leads_part, leads_once}
use Rattle.dump_read.proofs.TableLemmas.{leads_of, tables_of}

middle : (n m : ℕ) → (n < m → ⊥) → (m < n → ⊥) → n ≡ m
middle n m a b = omega (arith, a, b)

commit_alone : IsCommit (codes "COMMIT")
commit_alone = ([], [], (refl, tt, tt))

commit_words : HasWords (codes "COMMIT") (bare (codes "COMMIT") ∷ [])
commit_words =
    let token : Token = record { text = codes "COMMIT"; quoted = false; start = 0; end = 6 } in
    let plain : IsPlain (codes "COMMIT") [] token = record {
      quoted = refl;
      text = refl;
      first = (λ e. omega arith, refl);
      run = (refl, (refl, (refl, (refl, (refl, (refl, tt))))));
      ends = tt;
    } in
    let begins : Begins 0 token (codes "COMMIT") [] = record { spelled = codes "COMMIT"; whole = refl; spells = inl plain; starts = refl; ends = refl } in
    let first : IsFirst 0 token (codes "COMMIT") [] = record { gap = []; after = codes "COMMIT"; whole = refl; blanks = tt; begins = begins } in
    (token ∷ [], ([], first, tt), refl)

module _ (W : ℕ) (Reads : Text → ℕ → Type 0) where
  abbrev pub start : Position W
  start = Position.Outside None

  closing : (p : Position W) (n : ℕ) → ((f : Option (Filter W)) → p ≡ Position.Outside f → ⊥) → (g : Option (Filter W)) × Step W Reads p (record { number = n; bytes = codes "COMMIT" }) (Position.Outside g)
  closing (Position.Outside f) n h = absurd (h f refl)
  closing (Position.Passing f) n h = (f, inr (refl, inl (commit_alone, refl)))
  closing (Position.Inside chains rules) n h = (Some (chains, rules), inr (refl, (bare (codes "COMMIT") ∷ [], (commit_words, inl (refl, refl)))))

  outside_or : (p : Position W) → ((f : Option (Filter W)) × (p ≡ Position.Outside f)) ⊎ ((f : Option (Filter W)) → p ≡ Position.Outside f → ⊥)
  outside_or (Position.Outside f) = inl (f, refl)
  outside_or (Position.Passing f) = inr (λ g e. cc)
  outside_or (Position.Inside chains rules) = inr (λ g e. cc)

  well_formed_of : (lines : List Text) (g : Option (Filter W)) → Leads W Reads start (numbered_from 1 lines) (Position.Outside g) → WellFormed W Reads lines
  well_formed_of lines g x = let t = tables_of W Reads (numbered_from 1 lines) g x in (t.0, t.1.0)

  pub leads_of_whole : (lines : List Text) → WellFormed W Reads lines → (g : Option (Filter W)) × Leads W Reads start (numbered_from 1 lines) (Position.Outside g)
  leads_of_whole lines w = let x = leads_of W Reads (numbered_from 1 lines) w.0 w.1 in (x.0, x.1.0)

  split : (a b : List Text) (q : Position W) → Leads W Reads start (numbered_from 1 (a ++ b)) q →
      (m : Position W) × (Leads W Reads start (numbered_from 1 a) m × Leads W Reads m (numbered_from (1 + length a) b) q)
  split a b q x =
      leads_part W Reads start (numbered_from 1 a) (numbered_from (1 + length a) b) q
      (subst (λ (z : List Numbered). Leads W Reads start z q) (numbered_append 1 a b) x)

  pub join : (a b : List Text) (m q : Position W) → Leads W Reads start (numbered_from 1 a) m → Leads W Reads m (numbered_from (1 + length a) b) q →
      Leads W Reads start (numbered_from 1 (a ++ b)) q
  join a b m q x y =
      subst (λ (z : List Numbered). Leads W Reads start z q) (sym (numbered_append 1 a b))
      (leads_append W Reads start (numbered_from 1 a) (numbered_from (1 + length a) b) m q x y)

  pub fit_of : (lines : List Text) (q : Position W) → Leads W Reads start (numbered_from 1 lines) q → Fit W Reads lines
  fit_of lines q x = by (outside_or q)
    where
      by : ((f : Option (Filter W)) × (q ≡ Position.Outside f)) ⊎ ((f : Option (Filter W)) → q ≡ Position.Outside f → ⊥) → Fit W Reads lines
      by (inl o) = inl (well_formed_of lines o.0 (subst (Leads W Reads start (numbered_from 1 lines)) o.1 x))
      by (inr o) =
          let c = closing q (1 + length lines) o in
          inr (well_formed_of (lines ++ codes "COMMIT" ∷ []) c.0 (join lines (codes "COMMIT" ∷ []) q (Position.Outside c.0) x (Position.Outside c.0, (c.1, refl))))

  pub leads_of_fit : (lines : List Text) → Fit W Reads lines → (q : Position W) × Leads W Reads start (numbered_from 1 lines) q
  leads_of_fit lines (inl w) = let x = leads_of_whole lines w in (Position.Outside x.0, x.1)
  leads_of_fit lines (inr w) =
      let x = leads_of_whole (lines ++ codes "COMMIT" ∷ []) w in
      let y = split lines (codes "COMMIT" ∷ []) (Position.Outside x.0) x.1 in
      (y.0, y.1.0)

  pub fit_front : (a b : List Text) → Fit W Reads (a ++ b) → Fit W Reads a
  fit_front a b f =
      let x = leads_of_fit (a ++ b) f in
      let y = split a b x.0 x.1 in
      fit_of a y.0 y.1.0

  pub fit_take : (k : ℕ) (lines : List Text) → Fit W Reads lines → Fit W Reads (take k lines)
  fit_take k lines f = fit_front (take k lines) (drop k lines) (subst (Fit W Reads) (sym (take-append-drop k lines)) f)

module _ (W : ℕ) (Reads : Text → ℕ → Type 0)
    (one_chain : (words : List Word) (a b : Declared) → IsChainLine words a → IsChainLine words b → a ≡ b)
    (one_rule : (names : List Text) (words : List Word) (a b : RuleLine W) → IsRuleLine Reads names words a → IsRuleLine Reads names words b → a ≡ b) where
  pub one_position : (lines : List Text) (q r : Position W) → Leads W Reads (start W Reads) (numbered_from 1 lines) q → Leads W Reads (start W Reads) (numbered_from 1 lines) r → q ≡ r
  one_position lines q r x y = leads_once W Reads one_chain one_rule (start W Reads) (numbered_from 1 lines) q r x y

  take_front : (done : List Text) (line : Text) (more : List Text) → take (length done + 1) (done ++ line ∷ more) ≡ done ++ line ∷ []
  take_front done line more = take-append-add done (line ∷ more) 1

  take_less : (k : ℕ) (done more : List Text) → k < length done + 1 → take k (done ++ more) ≡ take k done
  take_less k done more h = take-append-le k done more (omega arith)

  -- the first line that leads nowhere is the bad one
  pub bad_of : (done : List Text) (line : Text) (more : List Text) (p : Position W) → Leads W Reads (start W Reads) (numbered_from 1 done) p →
      ((q : Position W) → Step W Reads p (record { number = 1 + length done; bytes = line }) q → ⊥) → IsBadLine W Reads (done ++ line ∷ more) (length done + 1)
  bad_of done line more p x no_step = inl (inside, no_fit, fits)
    where
      inside : length done + 1 ≤ length (done ++ line ∷ more)
      inside = omega (arith, length-append done (line ∷ more))

      no_fit : Fit W Reads (take (length done + 1) (done ++ line ∷ more)) → ⊥
      no_fit f =
          let here : Fit W Reads (done ++ line ∷ []) = subst (Fit W Reads) (take_front done line more) f in
          let y = leads_of_fit W Reads (done ++ line ∷ []) here in
          let z = split W Reads done (line ∷ []) y.0 y.1 in
          let same : z.0 ≡ p = one_position done z.0 p z.1.0 x in
          no_step z.1.1.0 (subst (λ (m : Position W). Step W Reads m (record { number = 1 + length done; bytes = line }) z.1.1.0) same z.1.1.1.0)

      fits : (k : ℕ) → k < length done + 1 → Fit W Reads (take k (done ++ line ∷ more))
      fits k h = subst (Fit W Reads) (sym (take_less k done (line ∷ more) h)) (fit_take W Reads k done (fit_of W Reads done p x))

  -- where a table is open at the end, the bad line is one further
  pub bad_at_end : (lines : List Text) (p : Position W) → Leads W Reads (start W Reads) (numbered_from 1 lines) p →
      ((f : Option (Filter W)) → p ≡ Position.Outside f → ⊥) → IsBadLine W Reads lines (length lines + 1)
  bad_at_end lines p x is_open = inr (
    refl,
    fit_of W Reads lines p x,
    λ w.
        let y = leads_of_whole W Reads lines w in
        is_open y.0 (one_position lines p (Position.Outside y.0) x y.1),
  )

  no_two : (lines : List Text) (n m : ℕ) → (Fit W Reads (take n lines) → ⊥) → ((k : ℕ) → k < m → Fit W Reads (take k lines)) → n < m → ⊥
  no_two lines n m no_fit fits h = no_fit (fits n h)

  -- at most one line is bad
  pub one_bad : (lines : List Text) (n m : ℕ) → IsBadLine W Reads lines n → IsBadLine W Reads lines m → n ≡ m
  one_bad lines n m (inl a) (inl b) = middle n m (no_two lines n m a.1 b.2) (no_two lines m n b.1 a.2)
  one_bad lines n m (inl a) (inr b) = absurd (a.1 (fit_take W Reads n lines b.1))
  one_bad lines n m (inr a) (inl b) = absurd (b.1 (fit_take W Reads m lines a.1))
  one_bad lines n m (inr a) (inr b) = a.0 ∙ sym b.0

  -- well formed lines have no bad one
  pub none_bad : (lines : List Text) (n : ℕ) → IsBadLine W Reads lines n → WellFormed W Reads lines → ⊥
  none_bad lines n (inl a) w = a.1 (fit_take W Reads n lines (inl w))
  none_bad lines n (inr a) w = a.2 w
