-- Pairs of digits, one after the other.
use Rattle.std.proofs.Common.{◌≡◌, ◌∙◌, ◌++◌, refl, sym, ap, ℕ, List, [], ◌∷◌, Option, None, Some, append_assoc, ◌≤◌, ◌-◌, length, length-drop, take, drop, get_or, arith}
use Rattle.std.proofs.lemmas.List.{take_all}
use Rattle.request.specs.Names.{byte_before, byte_of, bytes_of, hex_value}

-- the bytes before those that are still to come, where they come
abbrev pub bytes_before : List ℕ → Option (List ℕ) → Option (List ℕ)
bytes_before bytes None = None
bytes_before bytes (Some more) = Some (bytes ++ more)

one_more : (bytes : List ℕ) (byte : ℕ) (more : Option (List ℕ)) → bytes_before bytes (byte_before (Some byte) more) ≡ bytes_before (bytes ++ byte ∷ []) more
one_more bytes byte None = refl
one_more bytes byte (Some more) = ap Some (sym (append_assoc bytes (byte ∷ []) more))

-- two digits are passed
pub pair_passed : (bytes : List ℕ) (byte high low : ℕ) (rest : List ℕ) → byte_of (hex_value high) (hex_value low) ≡ Some byte
    → bytes_before bytes (bytes_of (high ∷ low ∷ rest)) ≡ bytes_before (bytes ++ byte ∷ []) (bytes_of rest)
pair_passed bytes byte high low rest is = ap (λ (b : Option ℕ). bytes_before bytes (byte_before b (bytes_of rest))) is ∙ one_more bytes byte (bytes_of rest)

pub no_pair : (bytes : List ℕ) (high low : ℕ) (rest : List ℕ) → byte_of (hex_value high) (hex_value low) ≡ None
    → bytes_before bytes (bytes_of (high ∷ low ∷ rest)) ≡ None
no_pair bytes high low rest is = ap (λ (b : Option ℕ). bytes_before bytes (byte_before b (bytes_of rest))) is

-- a list of two or more begins with its first two
pub two_first : (rest : List ℕ) → 2 ≤ length rest → rest ≡ get_or rest 0 0 ∷ get_or rest 1 0 ∷ drop 2 rest
two_first [] h = absurd (omega (arith, h))
two_first (a ∷ []) h = absurd (omega (arith, h))
two_first (a ∷ b ∷ rest) h = refl

-- so are the first two of the rest
pub pair_step : (bytes rest : List ℕ) (byte : ℕ) (whole : Option (List ℕ)) → 2 ≤ length rest → byte_of (hex_value (get_or rest 0 0)) (hex_value (get_or rest 1 0)) ≡ Some byte
    → bytes_before bytes (bytes_of rest) ≡ whole → bytes_before (bytes ++ byte ∷ []) (bytes_of (take (length rest - 2) (drop 2 rest))) ≡ whole
pair_step bytes rest byte whole two is before =
    ap (λ (ds : List ℕ). bytes_before (bytes ++ byte ∷ []) (bytes_of ds)) (take_all (length rest - 2) (drop 2 rest) (omega (arith, length-drop 2 rest)))
    ∙ sym (pair_passed bytes byte (get_or rest 0 0) (get_or rest 1 0) (drop 2 rest) is)
    ∙ ap (λ (ds : List ℕ). bytes_before bytes (bytes_of ds)) (sym (two_first rest two)) ∙ before

pub begun : (bytes : Option (List ℕ)) → bytes_before [] bytes ≡ bytes
begun None = refl
begun (Some bytes) = refl
