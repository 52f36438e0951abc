-- A counter is parted at its colon and its last bracket in one way.
use Rattle.std.proofs.Common.{◌≡◌, ◌≢◌, ◌++◌, ◌∷◌, [], ℕ, All, arith}
use Rattle.basics.specs.Parts.{Lacks}
use Rattle.basics.proofs.PartingLemmas.{one_parting, lacks_none}
use Rattle.dump_grammar.specs.ChainLines.{IsCounterText, IsDigit}
use Rattle.dump_grammar.specs.Lines.{Text}

no_colon : (b : ℕ) → IsDigit b → b ≢ 58
no_colon b d same = let h = d.1 in absurd (omega arith)

pub digits_lack : (text : Text) → All IsDigit text → Lacks 58 text
digits_lack text each k d within = no_colon _ (each k d within)

inner_of : (text inner : Text) (bracket : ℕ) → text ≡ bracket ∷ inner → (c : IsCounterText text) → inner ≡ c.packets ++ 58 ∷ (c.bytes ++ 93 ∷ [])
inner_of text inner bracket is c =
    let s = c.spelled in
    let h : inner ≡ c.packets ++ 58 ∷ (c.bytes ++ 93 ∷ []) = cc in h

pub counter_halves : (text inner front rest : Text) (bracket : ℕ) → text ≡ bracket ∷ inner → inner ≡ front ++ 58 ∷ rest → Lacks 58 front
    → (c : IsCounterText text) → (front ≡ c.packets) × (rest ≡ c.bytes ++ 93 ∷ [])
counter_halves text inner front rest bracket is split lacks c =
    one_parting 58 inner front rest c.packets (c.bytes ++ 93 ∷ []) lacks (digits_lack c.packets c.packet_digits.1) split (inner_of text inner bracket is c)

pub counter_parted : (text inner : Text) (bracket : ℕ) → text ≡ bracket ∷ inner → Lacks 58 inner → IsCounterText text → ⊥
counter_parted text inner bracket is lacks c = lacks_none 58 inner c.packets (c.bytes ++ 93 ∷ []) lacks (inner_of text inner bracket is c)

pub one_last : (a b : Text) (x y : ℕ) → a ++ x ∷ [] ≡ b ++ y ∷ [] → (a ≡ b) × (x ≡ y)
one_last [] [] x y e = (cc, cc)
one_last [] (z ∷ b) x y e = absurd (none b (let h : b ++ y ∷ [] ≡ [] = cc in h))
  where
    none : (b : Text) → b ++ y ∷ [] ≡ [] → ⊥
    none [] e = cc
    none (z ∷ b) e = cc
one_last (z ∷ a) [] x y e = absurd (none a (let h : a ++ x ∷ [] ≡ [] = cc in h))
  where
    none : (b : Text) → b ++ x ∷ [] ≡ [] → ⊥
    none [] e = cc
    none (z ∷ b) e = cc
one_last (z ∷ a) (w ∷ b) x y e =
    let rest = one_last a b x y (let h : a ++ x ∷ [] ≡ b ++ y ∷ [] = cc in h) in
    (let h : z ≡ w = cc in let f = rest.0 in cc, rest.1)

pub some_last : (b : Text) (y : ℕ) → [] ≡ b ++ y ∷ [] → ⊥
some_last [] y e = cc
some_last (z ∷ b) y e = cc

pub spelled_as : (text inner packets rest bytes : Text) (bracket close : ℕ) → text ≡ bracket ∷ inner → bracket ≡ 91 → inner ≡ packets ++ 58 ∷ rest
    → rest ≡ bytes ++ close ∷ [] → close ≡ 93 → text ≡ 91 ∷ (packets ++ 58 ∷ (bytes ++ 93 ∷ []))
spelled_as text inner packets rest bytes bracket close a b c d e = cc
