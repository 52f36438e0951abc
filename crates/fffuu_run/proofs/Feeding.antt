-- A reading that is fed a text in pieces, and what it ends as.
use Rattle.std.proofs.Common.{refl, ◌==◌, ◌∷◌, zero, suc, cond, ◌≡◌, ◌∙◌, ◌<◌, ◌≤◌, ◌+◌, ◌-◌, ◌++◌, ℕ, Bool, true, List, [], Result, Ok, Err, IfOk, IfErr, OnOk, Option, Some, None, inl, inr, arith, ap, sym, subst, length, take, append_assoc, append-nil, length-append}
use Rattle.std.proofs.lemmas.List.{length-take-le}
use Rattle.std.specs.Io.KnownBytes.{Consumes, IsAtEnd}
use Rattle.std.proofs.KnownBytes.{Consumes-trans}
use Rattle.limits.specs.declared.TheConstants.{MOST_BYTES}
use Rattle.primitives.specs.declared.prim.Prim_.{Prim_}
use Rattle.fw_rule.specs.declared.rule.Dump.{Dump}
use Rattle.fw_rule.specs.Calls.{HasRoom}
use Rattle.dump_grammar.specs.Reads.{IsDump}
use Rattle.dump_read.specs.declared.fault.ReadFault.{ReadFault}
use Rattle.dump_read.specs.declared.reading.Reading.{Reading}
use Rattle.dump_read.specs.Answers.{IsFaultOf, IsPrintableDump}
use Rattle.dump_read.specs.Pieces.{IsEarlyFaultOf, IsReading, StandsFor}
use Rattle.dump_read.proofs.AnswerLemmas.{early_stays}
use Rattle.dump_read.proofs.PieceLemmas.{early_fault}
use Rattle.fffuu_run.specs.Runs.{GivesTooMuch, GivesWhole, ReadsTooMuch, ReadsWhole}
use Rattle.fffuu_run.specs.inner.Readings.{IsFed, IsReadOf}

module _ {W : ℕ} {F : Type 0} (Reads : List ℕ → ℕ → Type 0) where
  -- what was fed some text can be fed further, and can be ended
  pub is_reading : (reading : Reading F W) (text : List ℕ) → IsFed W Reads reading text → IsReading W Reads reading
  is_reading reading text (inl stands) = inr (text, stands)
  is_reading reading text (inr (fault, (is, early))) = inl (fault, is)

  pub has_room : (reading : Reading F W) (text : List ℕ) (more : ℕ) → IsFed W Reads reading text → length text + more ≤ MOST_BYTES
      → reading.fault ≡ None → reading.size + more ≤ MOST_BYTES
  has_room reading text more (inl stands) few sound = omega (arith, stands.size, few)
  has_room reading text more (inr (fault, (is, early))) few sound = absurd (cc)

  -- a fault stays the fault of what follows
  pub fed_on : {A : Type 0} (old new : Reading F W) (text piece : List ℕ) (result : Result A ReadFault)
      → OnOk result ((front : List ℕ) → StandsFor W Reads old front → StandsFor W Reads new (front ++ piece))
      → IfErr result (λ fault. (front : List ℕ) → StandsFor W Reads old front → IsEarlyFaultOf W Reads (front ++ piece) fault)
      → IfErr result (λ fault. new.fault ≡ Some fault)
      → ((fault : ReadFault) → old.fault ≡ Some fault → (result ≡ Err fault) × (new ≡ old))
      → IsFed W Reads old text → IsFed W Reads new (text ++ piece)
  fed_on old new text piece (Ok x) ok fault fails failed (inl stands) = inl (ok text stands)
  fed_on old new text piece (Err e) ok fault fails failed (inl stands) = inr (e, (fails, fault text stands))
  fed_on old new text piece result ok fault fails failed (inr (e, (is, early))) =
      inr (e, (ap (λ (reading : Reading F W). reading.fault) (failed e is).1 ∙ is, early_stays W Reads text piece e early))

  -- at its end a reading is what the text is read as
  pub ended_as : (reading : Reading F W) (text : List ℕ) (result : Result (Dump (Prim_ W)) ReadFault)
      → IfOk result (λ dump. (all : List ℕ) → StandsFor W Reads reading all → IsDump W Reads all dump)
      → IfErr result (λ fault. (all : List ℕ) → StandsFor W Reads reading all → IsFaultOf W Reads all fault)
      → IfOk result HasRoom → IfOk result IsPrintableDump
      → ((fault : ReadFault) → reading.fault ≡ Some fault → result ≡ Err fault)
      → IsFed W Reads reading text → IsReadOf W Reads text result
  ended_as reading text (Ok dump) ok fault room printable failed (inl stands) =
      record { answers = (ok text stands, tt); room = room; printable = printable }
  ended_as reading text (Err e) ok fault room printable failed (inl stands) =
      record { answers = (tt, fault text stands); room = tt; printable = tt }
  ended_as reading text result ok fault room printable failed (inr (e, (is, early))) =
      subst (IsReadOf W Reads text) (sym (failed e is)) (record { answers = (tt, early_fault W Reads text e early); room = tt; printable = tt })

-- the source gave this text since it was `left_old` and had given `given_old`, and the text, which has so many bytes, was taken
pub record HasFed (Taken : List ℕ → Type 0) (text : List ℕ) (size : ℕ) (left_old left_new : Option (List ℕ)) (given_old given_new : List ℕ) : Type 0 where
  pub fed : Taken text
  pub taken : Consumes left_old left_new text
  pub given : given_new ≡ given_old ++ text
  pub size_is : length text ≡ size

module _ (Taken : List ℕ → Type 0) (text : List ℕ) (size : ℕ)
    (left_old left left_new : Option (List ℕ)) (given_old given given_new : List ℕ) (so_far : HasFed Taken text size left_old left given_old given) where
  module _ (buffer : List ℕ) (count : ℕ) (bound : count ≤ length buffer) (takes : Consumes left left_new (take count buffer)) (gives : given_new ≡ given ++ take count buffer) where
    piece_size : length (take count buffer) ≡ count
    piece_size = length-take-le count buffer bound

    consumed : Consumes left_old left_new (text ++ take count buffer)
    consumed = Consumes-trans left_old left left_new text (take count buffer) so_far.taken takes

    gained : given_new ≡ given_old ++ (text ++ take count buffer)
    gained = gives ∙ ap (λ (before : List ℕ). before ++ take count buffer) so_far.given ∙ append_assoc given_old text (take count buffer)

    -- so it is with one piece more
    pub fed_next : (TakenNow : List ℕ → Type 0) → TakenNow (text ++ take count buffer)
        → HasFed TakenNow (text ++ take count buffer) (size + count) left_old left_new given_old given_new
    fed_next TakenNow fed = record {
      fed = fed;
      taken = consumed;
      given = gained;
      size_is = omega (arith, length-append text (take count buffer), piece_size, so_far.size_is);
    }

    -- the piece is too much
    pub too_long : size ≤ MOST_BYTES → MOST_BYTES - size < count → count ≤ MOST_BYTES + 1 - size → ReadsTooMuch left_old left_new (text ++ take count buffer)
    too_long some more few = record {
      taken = consumed;
      long = omega (arith, length-append text (take count buffer), piece_size, so_far.size_is);
    }

    pub gives_too_long : (ended_old ended_new : Bool) → size ≤ MOST_BYTES → MOST_BYTES - size < count → count ≤ MOST_BYTES + 1 - size
        → GivesTooMuch (record { given = given_old; ended = ended_old }) (record { given = given_new; ended = ended_new }) (text ++ take count buffer)
    gives_too_long ended_old ended_new some more few = record {
      given = gained;
      long = omega (arith, length-append text (take count buffer), piece_size, so_far.size_is);
    }

  -- the source gave no more
  pub whole : size ≤ MOST_BYTES → Consumes left left_new [] → IsAtEnd left_new → ReadsWhole left_old left_new text
  whole few takes end = record {
    taken = subst (Consumes left_old left_new) (append-nil text) (Consumes-trans left_old left left_new text [] so_far.taken takes);
    end = end;
    short = omega (arith, so_far.size_is);
  }

  pub gives_whole : (ended_old ended_new : Bool) → size ≤ MOST_BYTES → given_new ≡ given ++ [] → ended_new ≡ true
      → GivesWhole (record { given = given_old; ended = ended_old }) (record { given = given_new; ended = ended_new }) text
  gives_whole ended_old ended_new few gives end = record {
    given = gives ∙ append-nil given ∙ so_far.given;
    ended = end;
    short = omega (arith, so_far.size_is);
  }

-- a read that gave no byte of a buffer that has room is the end
pub ended_now : (before : Bool) (n : ℕ) (buffer : List ℕ) (now : Bool) → now ≡ cond (length buffer == 0) before (n == 0) → n ≡ 0 → 0 < length buffer → now ≡ true
ended_now before n buffer now e z l = grind (arith, e, z, l)

-- a front that lies in the first part of a list
pub take_front : (n : ℕ) (a b : List ℕ) → n ≤ length a → take n (a ++ b) ≡ take n a
take_front zero a b few = refl
take_front (suc n) [] b few = absurd (omega (arith, few))
take_front (suc n) (x ∷ a) b few = ap (λ (l : List ℕ). x ∷ l) (take_front n a b (omega (arith, few)))
