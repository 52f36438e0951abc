-- The lines that are ended, and the one that isn't, as the bytes of a text come.
use Rattle.std.proofs.Common.{ℕ, ◌+◌, ◌<◌, ◌≤◌, ◌≡◌, ◌==◌, Bool, true, false, inl, inr, List, [], ◌∷◌, ◌++◌, Some, None, length, take, refl, sym, ap, subst, ◌∙◌, arith, append_assoc, length-append}
use Rattle.std.proofs.lemmas.List.{append-nil, take-append-le}
use Rattle.dump_grammar.specs.Lines.{Text, Word, IsLine, AreLines, numbered_from}
use Rattle.dump_grammar.specs.declared.chains.Declared.{Declared}
use Rattle.dump_grammar.specs.ChainLines.{IsChainLine}
use Rattle.dump_grammar.specs.declared.rule.RuleLine.{RuleLine}
use Rattle.dump_grammar.specs.RuleLines.{IsRuleLine}
use Rattle.dump_grammar.specs.Tables.{Fit, IsBadLine}
use Rattle.dump_grammar.specs.Reads.{IsMalformed}
use Rattle.dump_read.specs.declared.fault.ReadFault.{ReadFault}
use Rattle.dump_read.specs.declared.state.State.{State}
use Rattle.dump_read.specs.declared.line_reader.LineReader.{LineReader}
use Rattle.dump_read.specs.declared.reading.Reading.{Reading}
use Rattle.dump_read.specs.inner.Parts.{StopsAt}
use Rattle.dump_read.specs.inner.Positions.{Position, Step, Leads}
use Rattle.dump_read.specs.inner.States.{Shows}
use Rattle.dump_read.specs.Answers.{IsFaultOf}
use Rattle.dump_read.specs.Pieces.{BeginsWithLines, IsEnded, IsEarlyFaultOf, HasTaken, StandsFor, IsReading}
use Rattle.basics.proofs.Truths.{clash}
use Rattle.dump_read.proofs.ByteLemmas.{empty_tested, tested_empty}
use Rattle.dump_read.proofs.LineLemmas.{no_feed, same_line, one_lines, lines_of_text}
use Rattle.dump_read.proofs.FitLemmas.{start, join, fit_of, fit_take, bad_of}
use Rattle.dump_read.proofs.ReadLemmas.{names_below, IsRead}

pub begins_whole : (lines more : List Text) (text rest : Text) → BeginsWithLines lines text rest → AreLines more rest → AreLines (lines ++ more) text
begins_whole [] more text rest b h = subst (AreLines more) (sym b) h
begins_whole (line ∷ lines) more text rest (is, (after, (e, b))) h = (is, inl (after, e, begins_whole lines more after rest b h))

begins_append : (lines more : List Text) (text rest last : Text) → BeginsWithLines lines text rest → BeginsWithLines more rest last → BeginsWithLines (lines ++ more) text last
begins_append [] more text rest last b h = subst (λ (z : Text). BeginsWithLines more z last) (sym b) h
begins_append (line ∷ lines) more text rest last (is, (after, (e, b))) h = (is, (after, (e, begins_append lines more after rest last b h)))

pub begins_further : (lines : List Text) (text rest piece : Text) → BeginsWithLines lines text rest → BeginsWithLines lines (text ++ piece) (rest ++ piece)
begins_further [] text rest piece b = ap (λ z. z ++ piece) b
begins_further (line ∷ lines) text rest piece (is, (after, (e, b))) =
    (is, (after ++ piece, (ap (λ z. z ++ piece) e ∙ append_assoc line (10 ∷ after) piece, begins_further lines after rest piece b)))

begins_length : (lines : List Text) (text rest : Text) → BeginsWithLines lines text rest → length lines + length rest ≤ length text
begins_length [] text rest b = omega (arith, ap length b)
begins_length (line ∷ lines) text rest (is, (after, (e, b))) =
    let more = begins_length lines after rest b in
    omega (arith, more, ap length e, length-append line (10 ∷ after))

-- where no line feed is left, there are no more ended lines
begins_most : (lines ended : List Text) (text rest unfinished : Text) → BeginsWithLines lines text rest → BeginsWithLines ended text unfinished → IsLine unfinished → length lines ≤ length ended
begins_most [] ended text rest unfinished b c unended = omega arith
begins_most (line ∷ lines) [] text rest unfinished (is, (after, (e, b))) c unended = absurd (no_feed line after (subst IsLine (sym c ∙ e) unended))
begins_most (line ∷ lines) (other ∷ ended) text rest unfinished (is, (after, (e, b))) (is', (more, (f, c))) unended =
    let same = same_line line other after more is is' (sym e ∙ f) in
    let fewer = begins_most lines ended after rest unfinished b (subst (λ (z : Text). BeginsWithLines ended z unfinished) (sym same.1) c) unended in
    omega (arith, fewer)

pub line_joined : (a b : Text) → IsLine a → IsLine b → IsLine (a ++ b)
line_joined [] b p q = q
line_joined (x ∷ a) b p q = (p.0, line_joined a b p.1 q)

pub counted_empty : (bytes : Text) (n : ℕ) (b : Bool) → n ≡ length bytes → b ≡ (n == 0) → b ≡ true → bytes ≡ []
counted_empty bytes n b e is = empty_tested bytes b (is ∙ ap (λ z. z == 0) e)

pub counted_some : (bytes : Text) (n : ℕ) (b : Bool) → n ≡ length bytes → b ≡ (n == 0) → b ≡ false → bytes ≡ [] → ⊥
counted_some bytes n b e is f none = clash b (tested_empty bytes b (is ∙ ap (λ z. z == 0) e) none) f

pub some_length : (bytes : Text) → (bytes ≡ [] → ⊥) → 1 ≤ length bytes
some_length [] some = absurd (some refl)
some_length (b ∷ bytes) some = omega arith

-- an unfinished line with the bytes that end it
line_ended : (unfinished bytes line more : Text) → line ≡ unfinished ++ bytes → unfinished ++ (bytes ++ 10 ∷ more) ≡ line ++ 10 ∷ more
line_ended unfinished bytes line more e = sym (append_assoc unfinished bytes (10 ∷ more)) ∙ ap (λ z. z ++ 10 ∷ more) (sym e)

module _ (W : ℕ) (Reads : Text → ℕ → Type 0) where
  pub taken_none : (reader : LineReader W) → Shows reader.state (Position.Outside None) → reader.count ≡ 0 → reader.unfinished.items ≡ [] → HasTaken W Reads reader []
  taken_none reader s n u = record {
    ended = [];
    parted = sym u;
    unended = subst IsLine (sym u) tt;
    count = n;
    position = Position.Outside None;
    leads = refl;
    shows = s;
  }

  -- so many names at most
  pub taken_few : (reader : LineReader W) (text : Text) → HasTaken W Reads reader text → length reader.state.names + length reader.unfinished.items ≤ length text
  taken_few reader text t =
      let a = names_below W Reads reader.state t.position t.ended t.leads t.shows in
      let b = begins_length t.ended text reader.unfinished.items t.parted in
      omega (arith, a, b)

  pub taken_count : (reader : LineReader W) (text : Text) → HasTaken W Reads reader text → reader.count + length reader.unfinished.items ≤ length text
  taken_count reader text t =
      let b = begins_length t.ended text reader.unfinished.items t.parted in
      omega (arith, t.count, b)

  -- bytes without a line feed
  pub taken_bytes : (old new : LineReader W) (text bytes : Text) → HasTaken W Reads old text → IsLine bytes → new.state ≡ old.state → new.count ≡ old.count →
      new.unfinished.items ≡ old.unfinished.items ++ bytes → HasTaken W Reads new (text ++ bytes)
  taken_bytes old new text bytes t is s n u = record {
    ended = t.ended;
    parted = subst (BeginsWithLines t.ended (text ++ bytes)) (sym u) (begins_further t.ended text old.unfinished.items bytes t.parted);
    unended = subst IsLine (sym u) (line_joined old.unfinished.items bytes t.unended is);
    count = n ∙ t.count;
    position = t.position;
    leads = t.leads;
    shows = subst (λ (z : State W). Shows z t.position) (sym s) t.shows;
  }

  -- a line that ends
  pub taken_line : (old new : LineReader W) (text bytes line : Text) → HasTaken W Reads old text → IsLine bytes → line ≡ old.unfinished.items ++ bytes →
      ((p : Position W) → Shows old.state p → (q : Position W) × (Step W Reads p (record { number = old.count + 1; bytes = line }) q × Shows new.state q)) →
      new.count ≡ old.count + 1 → new.unfinished.items ≡ [] → HasTaken W Reads new (text ++ (bytes ++ 10 ∷ []))
  taken_line old new text bytes line t is e takes n u =
      let m = takes t.position t.shows in
      let k : old.count + 1 ≡ 1 + length t.ended = omega (arith, t.count) in
      let step = subst (λ (z : ℕ). Step W Reads t.position (record { number = z; bytes = line }) m.0) k m.1.0 in
      let whole = subst IsLine (sym e) (line_joined old.unfinished.items bytes t.unended is) in
      let there = begins_append t.ended (line ∷ []) (text ++ (bytes ++ 10 ∷ [])) (old.unfinished.items ++ (bytes ++ 10 ∷ [])) []
      (begins_further t.ended text old.unfinished.items (bytes ++ 10 ∷ []) t.parted) (whole, ([], (line_ended old.unfinished.items bytes line [] e, refl))) in
      record {
        ended = t.ended ++ line ∷ [];
        parted = subst (BeginsWithLines (t.ended ++ line ∷ []) (text ++ (bytes ++ 10 ∷ []))) (sym u) there;
        unended = subst IsLine (sym u) tt;
        count = omega (arith, n, t.count, length-append t.ended (line ∷ []));
        position = m.0;
        leads = join W Reads t.ended (line ∷ []) t.position m.0 t.leads (m.0, (step, refl));
        shows = m.1.1;
      }

  -- no line that is ended is the first that is wrong
  fits_not : (ended more : List Text) (position : Position W) (n : ℕ) → Leads W Reads (start W Reads) (numbered_from 1 ended) position → n ≤ length ended →
      (Fit W Reads (take n (ended ++ more)) → ⊥) → ⊥
  fits_not ended more position n leads le no_fit =
      no_fit (subst (Fit W Reads) (sym (take-append-le n ended more le)) (fit_take W Reads n ended (fit_of W Reads ended position leads)))

  bad_later : (ended more : List Text) (position : Position W) (n : ℕ) → Leads W Reads (start W Reads) (numbered_from 1 ended) position → n ≤ length ended →
      IsBadLine W Reads (ended ++ more) n → ⊥
  bad_later ended more position n leads le (inl a) = fits_not ended more position n leads le a.1
  bad_later ended more position n leads le (inr a) = omega (arith, le, a.0, length-append ended more)

  pub taken_good : (reader : LineReader W) (text : Text) → HasTaken W Reads reader text → (n : ℕ) → IsMalformed W Reads text n → IsEnded text n → ⊥
  taken_good reader text t n m (lines, rest, (begins, inside)) =
      let few = begins_most lines t.ended text rest reader.unfinished.items begins t.parted t.unended in
      let more = lines_of_text reader.unfinished.items in
      let parted = begins_whole t.ended more.0 text reader.unfinished.items t.parted more.1 in
      bad_later t.ended more.0 t.position n t.leads (omega (arith, few, inside))
      (subst (λ (z : List Text). IsBadLine W Reads z n) (one_lines m.lines (t.ended ++ more.0) text m.parted parted) m.bad)

  -- the end of the text, behind a line feed
  pub read_ended : (reader : LineReader W) (text : Text) → HasTaken W Reads reader text → reader.unfinished.items ≡ [] → IsRead W Reads reader.state text reader.count
  read_ended reader text t u =
      let b = begins_length t.ended text reader.unfinished.items t.parted in
      record {
        done = t.ended;
        position = t.position;
        leads = t.leads;
        shows = t.shows;
        count = t.count;
        fits = omega (arith, b);
        parted = subst (λ (z : List Text). AreLines z text) (append-nil t.ended) (begins_whole t.ended [] text reader.unfinished.items t.parted u);
      }

  pub last_line : (reader : LineReader W) (text : Text) (t : HasTaken W Reads reader text) → (reader.unfinished.items ≡ [] → ⊥) → AreLines (t.ended ++ reader.unfinished.items ∷ []) text
  last_line reader text t some =
      begins_whole t.ended (reader.unfinished.items ∷ []) text reader.unfinished.items t.parted (t.unended, inr (refl, some, refl))

  -- the end of the text, behind a line without a line feed
  pub read_last : (reader : LineReader W) (new : State W) (text line : Text) → HasTaken W Reads reader text → (reader.unfinished.items ≡ [] → ⊥) → line ≡ reader.unfinished.items →
      ((p : Position W) → Shows reader.state p → (q : Position W) × (Step W Reads p (record { number = reader.count + 1; bytes = line }) q × Shows new q)) →
      IsRead W Reads new text (reader.count + 1)
  read_last reader new text line t some e takes =
      let m = takes t.position t.shows in
      let k : reader.count + 1 ≡ 1 + length t.ended = omega (arith, t.count) in
      let here = subst (λ (z : Text). Step W Reads t.position (record { number = reader.count + 1; bytes = z }) m.0) e m.1.0 in
      let step = subst (λ (z : ℕ). Step W Reads t.position (record { number = z; bytes = reader.unfinished.items }) m.0) k here in
      let b = begins_length t.ended text reader.unfinished.items t.parted in
      let one = some_length reader.unfinished.items some in
      record {
        done = t.ended ++ reader.unfinished.items ∷ [];
        position = m.0;
        leads = join W Reads t.ended (reader.unfinished.items ∷ []) t.position m.0 t.leads (m.0, (step, refl));
        shows = m.1.1;
        count = omega (arith, t.count, length-append t.ended (reader.unfinished.items ∷ []));
        fits = omega (arith, b, one, length-append t.ended (reader.unfinished.items ∷ []));
        parted = last_line reader text t some;
      }

  early_of : (text : Text) (number : ℕ) (P : Type 0) (fault : ReadFault) → StopsAt number P fault → (P → IsMalformed W Reads text number × IsEnded text number) → IsEarlyFaultOf W Reads text fault
  early_of text number P (ReadFault.Malformed n) s f = subst (λ (z : ℕ). IsMalformed W Reads text z × IsEnded text z) (sym s.0) (f s.1)
  early_of text number P ReadFault.NoFilter s f = s
  early_of text number P (ReadFault.UndefinedChain n) s f = s
  early_of text number P ReadFault.Memory s f = tt

  fault_of : (text : Text) (number : ℕ) (P : Type 0) (fault : ReadFault) → StopsAt number P fault → (P → IsMalformed W Reads text number) → IsFaultOf W Reads text fault
  fault_of text number P (ReadFault.Malformed n) s f = subst (IsMalformed W Reads text) (sym s.0) (f s.1)
  fault_of text number P ReadFault.NoFilter s f = absurd s
  fault_of text number P (ReadFault.UndefinedChain n) s f = absurd s
  fault_of text number P ReadFault.Memory s f = tt

  -- an early fault is the text's own
  pub early_fault : (text : Text) (fault : ReadFault) → IsEarlyFaultOf W Reads text fault → IsFaultOf W Reads text fault
  early_fault text (ReadFault.Malformed n) h = h.0
  early_fault text ReadFault.NoFilter h = absurd h
  early_fault text (ReadFault.UndefinedChain n) h = absurd h
  early_fault text ReadFault.Memory h = tt

module _ (W : ℕ) (Reads : Text → ℕ → Type 0)
    (one_chain : (words : List Word) (a b : Declared) → IsChainLine words a → IsChainLine words b → a ≡ b)
    (one_rule : (names : List Text) (words : List Word) (a b : RuleLine W) → IsRuleLine Reads names words a → IsRuleLine Reads names words b → a ≡ b) where
  -- a line that leads nowhere is the first that is wrong
  stuck_at : (reader : LineReader W) (text : Text) (ended more : List Text) (line : Text) (position : Position W) → Leads W Reads (start W Reads) (numbered_from 1 ended) position →
      reader.count ≡ length ended → Shows reader.state position → AreLines (ended ++ line ∷ more) text →
      ((p q : Position W) → Shows reader.state p → Step W Reads p (record { number = reader.count + 1; bytes = line }) q → ⊥) → IsMalformed W Reads text (reader.count + 1)
  stuck_at reader text ended more line position leads count shows parted sticks =
      let n : 1 + length ended ≡ reader.count + 1 = omega (arith, count) in
      let e : length ended + 1 ≡ reader.count + 1 = omega (arith, count) in
      let stuck : (q : Position W) → Step W Reads position (record { number = 1 + length ended; bytes = line }) q → ⊥ =
      λ q step. sticks position q shows (subst (λ (k : ℕ). Step W Reads position (record { number = k; bytes = line }) q) n step) in
      record {
        lines = ended ++ line ∷ more;
        parted = parted;
        bad = subst (IsBadLine W Reads (ended ++ line ∷ more)) e (bad_of W Reads one_chain one_rule ended line more position leads stuck);
      }

  -- a line that ends leads nowhere
  pub stuck_line : (reader : LineReader W) (text bytes line more : Text) (fault : ReadFault) → HasTaken W Reads reader text → IsLine bytes → line ≡ reader.unfinished.items ++ bytes →
      StopsAt (reader.count + 1) ((p q : Position W) → Shows reader.state p → Step W Reads p (record { number = reader.count + 1; bytes = line }) q → ⊥) fault →
      IsEarlyFaultOf W Reads (text ++ (bytes ++ 10 ∷ more)) fault
  stuck_line reader text bytes line more fault t is e stops =
      let whole = subst IsLine (sym e) (line_joined reader.unfinished.items bytes t.unended is) in
      let further = begins_further t.ended text reader.unfinished.items (bytes ++ 10 ∷ more) t.parted in
      let same = line_ended reader.unfinished.items bytes line more e in
      let rest = lines_of_text more in
      let parted = begins_whole t.ended (line ∷ rest.0) (text ++ (bytes ++ 10 ∷ more)) (reader.unfinished.items ++ (bytes ++ 10 ∷ more)) further (whole, inl (more, same, rest.1)) in
      let there = begins_append t.ended (line ∷ []) (text ++ (bytes ++ 10 ∷ more)) (reader.unfinished.items ++ (bytes ++ 10 ∷ more)) more further (whole, (more, (same, refl))) in
      let inside : reader.count + 1 ≤ length (t.ended ++ line ∷ []) = omega (arith, t.count, length-append t.ended (line ∷ [])) in
      early_of W Reads (text ++ (bytes ++ 10 ∷ more)) (reader.count + 1) _ fault stops
      (λ sticks. (stuck_at reader (text ++ (bytes ++ 10 ∷ more)) t.ended rest.0 line t.position t.leads t.count t.shows parted sticks, (t.ended ++ line ∷ [], more, (there, inside))))

  -- the last line leads nowhere
  pub stuck_last : (reader : LineReader W) (text line : Text) (fault : ReadFault) → HasTaken W Reads reader text → (reader.unfinished.items ≡ [] → ⊥) → line ≡ reader.unfinished.items →
      StopsAt (reader.count + 1) ((p q : Position W) → Shows reader.state p → Step W Reads p (record { number = reader.count + 1; bytes = line }) q → ⊥) fault →
      IsFaultOf W Reads text fault
  stuck_last reader text line fault t some e stops =
      fault_of W Reads text (reader.count + 1) _ fault stops
      (λ sticks. stuck_at reader text t.ended [] line t.position t.leads t.count t.shows
      (subst (λ (z : Text). AreLines (t.ended ++ z ∷ []) text) (sym e) (last_line W Reads reader text t some)) sticks)

-- a reading that hasn't failed stands for some bytes
pub reading_stands : {F : Type 0} (W : ℕ) (Reads : Text → ℕ → Type 0) (reading : Reading F W) → reading.fault ≡ None → IsReading W Reads reading → (text : Text) × StandsFor W Reads reading text
reading_stands W Reads reading none (inl (fault, some)) = absurd (let e : None ≡ Some fault = sym none ∙ some in cc)
reading_stands W Reads reading none (inr stands) = stands

-- A piece of which some bytes are taken, and the others are left.
module _ (W : ℕ) (Reads : Text → ℕ → Type 0) where
  pub record HasPart (reader : LineReader W) (piece rest text : Text) : Type 0 where
    pub front : Text
    pub whole : piece ≡ front ++ rest
    pub taken : HasTaken W Reads reader (text ++ front)

  pub part_none : (reader : LineReader W) (piece text : Text) → HasTaken W Reads reader text → HasPart reader piece piece text
  part_none reader piece text t = record { front = []; whole = refl; taken = subst (HasTaken W Reads reader) (sym (append-nil text)) t }

  pub part_more : (old new : LineReader W) (piece rest line after text : Text) (part : HasPart old piece rest text) → rest ≡ line ++ 10 ∷ after →
      HasTaken W Reads new ((text ++ part.front) ++ (line ++ 10 ∷ [])) → HasPart new piece after text
  part_more old new piece rest line after text part e t = record {
    front = part.front ++ (line ++ 10 ∷ []);
    whole = part.whole ∙ ap (λ z. part.front ++ z) (e ∙ sym (append_assoc line (10 ∷ []) after)) ∙ sym (append_assoc part.front (line ++ 10 ∷ []) after);
    taken = subst (HasTaken W Reads new) (append_assoc text part.front (line ++ 10 ∷ [])) t;
  }

  part_whole : (reader : LineReader W) (piece rest text : Text) (part : HasPart reader piece rest text) → (text ++ part.front) ++ rest ≡ text ++ piece
  part_whole reader piece rest text part = append_assoc text part.front rest ∙ ap (λ z. text ++ z) (sym part.whole)

  pub part_stuck : (reader : LineReader W) (piece rest line after text : Text) (fault : ReadFault) (part : HasPart reader piece rest text) → rest ≡ line ++ 10 ∷ after →
      IsEarlyFaultOf W Reads ((text ++ part.front) ++ (line ++ 10 ∷ after)) fault → IsEarlyFaultOf W Reads (text ++ piece) fault
  part_stuck reader piece rest line after text fault part e h =
      subst (λ (z : Text). IsEarlyFaultOf W Reads z fault) (ap (λ z. (text ++ part.front) ++ z) (sym e) ∙ part_whole reader piece rest text part) h

  -- the bytes behind the last line feed are kept
  pub part_end : (old new : LineReader W) (piece rest text : Text) → HasPart old piece rest text → IsLine rest → new.state ≡ old.state → new.count ≡ old.count →
      new.unfinished.items ≡ old.unfinished.items ++ rest → HasTaken W Reads new (text ++ piece)
  part_end old new piece rest text part is s n u =
      subst (HasTaken W Reads new) (part_whole old piece rest text part) (taken_bytes W Reads old new (text ++ part.front) rest part.taken is s n u)

  pub part_room : (reader : LineReader W) (piece rest line after text : Text) (most : ℕ) (part : HasPart reader piece rest text) → rest ≡ line ++ 10 ∷ after →
      length text + length piece ≤ most → length (text ++ part.front) + length line < most
  part_room reader piece rest line after text most part e le =
      omega (arith, le, length-append text part.front, ap length part.whole, length-append part.front rest, ap length e, length-append line (10 ∷ after))
