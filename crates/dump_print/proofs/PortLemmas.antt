-- Lists of ranges of ports.
use Rattle.std.proofs.Common.{◌≡◌, ◌∙◌, ◌==◌, ◌++◌, ◌+◌, ◌<◌, ◌≤◌, ℕ, zero, suc, List, [], ◌∷◌, Bool, true, false, nat_le, length, take, drop, get_or, codes, if◌then◌else◌, refl, ap, sym, append_assoc, arith}
use Rattle.std.proofs.lemmas.List.{drop_all, drop_more, take_all, take_more}
use Rattle.std.proofs.lemmas.Bool.Decides.{nat_tests}
use Rattle.std.specs.List.{flat_map}
use Rattle.interval_set.specs.declared.set.Range.{Range}
use Rattle.dump_print.specs.Ports.{chunks, chunks_after, port_list, port_text, unless_empty, weight_of}
use Rattle.primitives.proofs.Growing.{grown}
use Rattle.dump_print.proofs.Steps.{flat_more}

pub weight_joined : (a b : List Range) → weight_of (a ++ b) ≡ weight_of a + weight_of b
weight_joined [] b = omega arith
weight_joined (r ∷ a) b = omega (arith, weight_joined a b)

-- what counts at most 15
fits : (n : ℕ) → n ≤ 15 → nat_le n 15 ≡ true
fits n l = grind (arith, nat_tests)

fails : (n : ℕ) → 15 < n → nat_le n 15 ≡ false
fails n l = grind (arith, nat_tests)

-- the next range goes into the list
range_fits : (chunk : List Range) (r : Range) (rs : List Range) → weight_of chunk + weight_of (r ∷ []) ≤ 15 →
    chunks_after chunk (r ∷ rs) ≡ chunks_after (chunk ++ r ∷ []) rs
range_fits chunk r rs l =
    ap (λ b. if b then chunks_after (chunk ++ r ∷ []) rs else chunk ∷ chunks_after (r ∷ []) rs)
    (fits (weight_of (chunk ++ r ∷ [])) (omega (arith, weight_joined chunk (r ∷ []), l)))

-- the next range begins a new list
range_fails : (chunk : List Range) (r : Range) (rs : List Range) → 15 < weight_of chunk + weight_of (r ∷ []) →
    chunks_after chunk (r ∷ rs) ≡ chunk ∷ chunks_after (r ∷ []) rs
range_fails chunk r rs l =
    ap (λ b. if b then chunks_after (chunk ++ r ∷ []) rs else chunk ∷ chunks_after (r ∷ []) rs)
    (fails (weight_of (chunk ++ r ∷ [])) (omega (arith, weight_joined chunk (r ∷ []), l)))

weight_at : (b : Bool) → (if b then 1 else 2) + 0 ≤ 2
weight_at true = omega arith
weight_at false = omega arith

pub small_weight : (r : Range) → weight_of (r ∷ []) ≤ 2
small_weight r = weight_at (r.lo == r.hi)

first_range : (r : Range) (rs : List Range) → chunks (r ∷ rs) ≡ chunks_after (r ∷ []) rs
first_range r rs = range_fits [] r rs (omega (arith, small_weight r))

-- one range more in the list
pub more_lists : (rs : List Range) (i total weight : ℕ) (d : Range) → total ≡ weight_of (take i rs) → weight ≡ weight_of (get_or rs i d ∷ []) →
    i < length rs → total + weight ≤ 15 →
    chunks rs ≡ chunks_after (take i rs) (drop i rs) → chunks rs ≡ chunks_after (take (i + 1) rs) (drop (i + 1) rs)
more_lists rs i total weight d t u l w h =
    h ∙ ap (chunks_after (take i rs)) (drop_more rs i d l) ∙ range_fits (take i rs) (get_or rs i d) (drop (i + 1) rs) (omega (arith, t, u, w))
    ∙ ap (λ c. chunks_after c (drop (i + 1) rs)) (sym (take_more rs i d l))

pub more_weight : (rs : List Range) (i total weight : ℕ) (d : Range) → total ≡ weight_of (take i rs) → weight ≡ weight_of (get_or rs i d ∷ []) →
    i < length rs → total + weight ≡ weight_of (take (i + 1) rs)
more_weight rs i total weight d t u l = (λ k. t k + u k) ∙ sym (ap weight_of (take_more rs i d l) ∙ weight_joined (take i rs) (get_or rs i d ∷ []))

-- the list ends before a range
pub list_ends : (rs : List Range) (i total weight : ℕ) (d : Range) → total ≡ weight_of (take i rs) → weight ≡ weight_of (get_or rs i d ∷ []) →
    i < length rs → 15 < total + weight →
    chunks rs ≡ chunks_after (take i rs) (drop i rs) → chunks rs ≡ take i rs ∷ chunks (drop i rs)
list_ends rs i total weight d t u l w h =
    h ∙ ap (chunks_after (take i rs)) (drop_more rs i d l) ∙ range_fails (take i rs) (get_or rs i d) (drop (i + 1) rs) (omega (arith, t, u, w))
    ∙ ap (λ c. take i rs ∷ c) (sym (first_range (get_or rs i d) (drop (i + 1) rs)) ∙ ap chunks (sym (drop_more rs i d l)))

alone : (rs : List Range) → 0 < length rs → unless_empty rs ≡ rs ∷ []
alone [] l = absurd (omega arith)
alone (r ∷ rs) l = refl

-- all ranges go into the list
pub last_list : (rs : List Range) (i : ℕ) → length rs ≤ i → 0 < length rs → chunks rs ≡ chunks_after (take i rs) (drop i rs) →
    chunks rs ≡ take (length rs) rs ∷ chunks (drop (length rs) rs)
last_list rs i l some h =
    let whole : take i rs ≡ rs = take_all i rs l in
    let none : drop i rs ≡ [] = drop_all i rs l in
    let all : take (length rs) rs ≡ rs = take_all (length rs) rs (omega arith) in
    let rest : drop (length rs) rs ≡ [] = drop_all (length rs) rs (omega arith) in
    h ∙ (λ k. chunks_after (whole k) (none k)) ∙ alone rs some ∙ (λ k. sym all k ∷ chunks (sym rest k))

pub has_first : (rs : List Range) (i : ℕ) (n : ℕ) → weight_of (take i rs) ≤ 15 → 15 < weight_of (take i rs) + n → n ≤ 2 → 0 < i
has_first rs zero n a b c = absurd (omega arith)
has_first rs (suc i) n a b c = omega arith

-- one range more after a comma
pub ports_more : (first : Range) (rest : List Range) (i : ℕ) (d : Range) (old mid comma new : List ℕ) → i < length rest →
    mid ≡ old ++ port_list (first ∷ take i rest) → comma ≡ mid ++ 44 ∷ [] → new ≡ comma ++ port_text (get_or rest i d) →
    new ≡ old ++ port_list (first ∷ take (i + 1) rest)
ports_more first rest i d old mid comma new l h k n =
    let more : List Range → List ℕ = λ rs. flat_map (λ (r : Range). codes "," ++ port_text r) rs in
    grown old (port_list (first ∷ take i rest)) mid (44 ∷ port_text (get_or rest i d)) new _ h
    (n ∙ ap (λ t. t ++ port_text (get_or rest i d)) k ∙ append_assoc mid (44 ∷ []) (port_text (get_or rest i d)))
    (ap (λ t. port_text first ++ t) (flat_more (λ (r : Range). codes "," ++ port_text r) rest i d l)
    ∙ sym (append_assoc (port_text first) (more (take i rest)) (44 ∷ port_text (get_or rest i d))))
