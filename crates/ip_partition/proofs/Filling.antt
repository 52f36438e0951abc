-- The loops that put the ends of ranges, one after another.
use Rattle.std.proofs.Common.{ℕ, ◌+◌, ◌<◌, ◌≤◌, ◌≡◌, ◌∙◌, List, [], ◌∷◌, ◌++◌, sym, ap, subst, arith, length, get_or, drop, drop-cons, add-one}
use Rattle.std.specs.List.{flat_map}
use Rattle.std.proofs.lemmas.List.{drop_all}
use Rattle.limits.specs.declared.TheConstants.{MOST_BOUNDARIES}
use Rattle.interval_set.specs.declared.set.Range.{Range}
use Rattle.interval_set.proofs.Lists.{left_from, zero_range}
use Rattle.ip_partition.specs.Boundaries.{Ascend}
use Rattle.ip_partition.specs.inner.Starts.{after, ends, with_number, with_numbers, PassesLimit}
use Rattle.ip_partition.specs.declared.fault.GroupFault.{GroupFault}
use Rattle.ip_partition.proofs.Sorted.{all_added, with_all}

-- `all` is what `now` becomes by what is left
pub record Fills (left now all : List ℕ) : Type 0 where
  pub ascend : Ascend 0 now
  pub few : length now ≤ MOST_BOUNDARIES + 1
  pub put : with_numbers left now ≡ all

pub ascend_with : (n : ℕ) (ns : List ℕ) → Ascend 0 ns → Ascend 0 (with_number n ns)
ascend_with n ns a = (all_added (n ∷ []) ns a).ascend

pub ascend_all : (more ns : List ℕ) → Ascend 0 ns → Ascend 0 (with_numbers more ns)
ascend_all more ns a = (all_added more ns a).ascend

longer_all : (more ns : List ℕ) → Ascend 0 ns → length ns ≤ length (with_numbers more ns)
longer_all more ns a = (all_added more ns a).longer

-- what is left of the ranges from an index on
pub range_left : (top : ℕ) (rs : List Range) (i : ℕ) → i < length rs →
    ends top (drop i rs) ≡ (get_or rs i zero_range).lo ∷ (after top (get_or rs i zero_range).hi ++ ends top (drop (i + 1) rs))
range_left top rs i h = ap (ends top) (left_from rs i h)

-- a turn puts both ends of a range
pub filled : (top : ℕ) (rs : List Range) (i : ℕ) (now mid next all : List ℕ) → i < length rs → Fills (ends top (drop i rs)) now all →
    mid ≡ with_number (get_or rs i zero_range).lo now → next ≡ with_numbers (after top (get_or rs i zero_range).hi) mid → length next ≤ MOST_BOUNDARIES + 1 → Fills (ends top (drop (i + 1) rs)) next all
filled top rs i now mid next all h f e g few =
    let r = get_or rs i zero_range in
    let more = after top r.hi in
    let rest = ends top (drop (i + 1) rs) in
    let is : next ≡ with_numbers more (with_number r.lo now) = g ∙ ap (with_numbers more) e in
    let P : List ℕ → Type 0 = λ ns. Ascend 0 ns in
    record {
      ascend = subst P (sym is) (ascend_all more (with_number r.lo now) (ascend_with r.lo now f.ascend));
      few = few;
      put = ap (with_numbers rest) is ∙ sym (with_all more rest (with_number r.lo now)) ∙ ap (λ ns. with_numbers ns now) (sym (range_left top rs i h)) ∙ f.put;
    }

-- too many already are too many in the end
pub passed_low : (top : ℕ) (rs : List Range) (i : ℕ) (now all : List ℕ) (e : GroupFault) → i < length rs → Fills (ends top (drop i rs)) now all →
    PassesLimit (with_number (get_or rs i zero_range).lo now) e → PassesLimit all e
passed_low top rs i now all GroupFault.Memory h f p = tt
passed_low top rs i now all GroupFault.Atoms h f p =
    let r = get_or rs i zero_range in
    let more = after top r.hi ++ ends top (drop (i + 1) rs) in
    let is : with_numbers more (with_number r.lo now) ≡ all = ap (λ ns. with_numbers ns now) (sym (range_left top rs i h)) ∙ f.put in
    let l = longer_all more (with_number r.lo now) (ascend_with r.lo now f.ascend) in
    omega (arith, l, p, ap length is)

pub passed_high : (top : ℕ) (rs : List Range) (i : ℕ) (now mid all : List ℕ) (e : GroupFault) → i < length rs → Fills (ends top (drop i rs)) now all →
    mid ≡ with_number (get_or rs i zero_range).lo now → PassesLimit (with_numbers (after top (get_or rs i zero_range).hi) mid) e → PassesLimit all e
passed_high top rs i now mid all GroupFault.Memory h f m p = tt
passed_high top rs i now mid all GroupFault.Atoms h f m p =
    let r = get_or rs i zero_range in
    let more = after top r.hi in
    let rest = ends top (drop (i + 1) rs) in
    let P : List ℕ → Type 0 = λ ns. MOST_BOUNDARIES + 1 < length (with_numbers more ns) in
    let q : P (with_number r.lo now) = subst P m p in
    let is : with_numbers rest (with_numbers more (with_number r.lo now)) ≡ all =
    sym (with_all more rest (with_number r.lo now)) ∙ ap (λ ns. with_numbers ns now) (sym (range_left top rs i h)) ∙ f.put in
    let l = longer_all rest (with_numbers more (with_number r.lo now)) (ascend_all more (with_number r.lo now) (ascend_with r.lo now f.ascend)) in
    omega (arith, l, q, ap length is)

pub filled_at_end : (top : ℕ) (rs : List Range) (i : ℕ) (now all : List ℕ) → length rs ≤ i → Fills (ends top (drop i rs)) now all → now ≡ all
filled_at_end top rs i now all h f = ap (λ xs. with_numbers (ends top xs) now) (sym (drop_all i rs h)) ∙ f.put

-- the same for the sets
pub set_left : (top : ℕ) (sets : List (List Range)) (i : ℕ) (d : List Range) → i < length sets →
    flat_map (ends top) (drop i sets) ≡ ends top (get_or sets i d) ++ flat_map (ends top) (drop (i + 1) sets)
set_left top sets i d h =
    let e : drop i sets ≡ get_or sets i d ∷ drop (i + 1) sets = rw add-one (drop-cons sets i d h) in
    ap (flat_map (ends top)) e

pub set_filled : (top : ℕ) (sets : List (List Range)) (i : ℕ) (d : List Range) (now next all : List ℕ) → i < length sets → Fills (flat_map (ends top) (drop i sets)) now all →
    next ≡ with_numbers (ends top (get_or sets i d)) now → length next ≤ MOST_BOUNDARIES + 1 → Fills (flat_map (ends top) (drop (i + 1) sets)) next all
set_filled top sets i d now next all h f e few =
    let more = ends top (get_or sets i d) in
    let rest = flat_map (ends top) (drop (i + 1) sets) in
    let P : List ℕ → Type 0 = λ ns. Ascend 0 ns in
    record {
      ascend = subst P (sym e) (ascend_all more now f.ascend);
      few = few;
      put = ap (with_numbers rest) e ∙ sym (with_all more rest now) ∙ ap (λ ns. with_numbers ns now) (sym (set_left top sets i d h)) ∙ f.put;
    }

pub set_passed : (top : ℕ) (sets : List (List Range)) (i : ℕ) (d set : List Range) (now all : List ℕ) (e : GroupFault) → i < length sets → Fills (flat_map (ends top) (drop i sets)) now all →
    set ≡ get_or sets i d → PassesLimit (with_numbers (ends top set) now) e → PassesLimit all e
set_passed top sets i d set now all GroupFault.Memory h f s p = tt
set_passed top sets i d set now all GroupFault.Atoms h f s q =
    let P : List Range → Type 0 = λ rs. MOST_BOUNDARIES + 1 < length (with_numbers (ends top rs) now) in
    let p : P (get_or sets i d) = subst P s q in
    let more = ends top (get_or sets i d) in
    let rest = flat_map (ends top) (drop (i + 1) sets) in
    let is : with_numbers rest (with_numbers more now) ≡ all = sym (with_all more rest now) ∙ ap (λ ns. with_numbers ns now) (sym (set_left top sets i d h)) ∙ f.put in
    let l = longer_all rest (with_numbers more now) (ascend_all more now f.ascend) in
    omega (arith, l, p, ap length is)

pub sets_filled : (top : ℕ) (sets : List (List Range)) (i : ℕ) (now all : List ℕ) → length sets ≤ i → Fills (flat_map (ends top) (drop i sets)) now all → now ≡ all
sets_filled top sets i now all h f = ap (λ xs. with_numbers (flat_map (ends top) xs) now) (sym (drop_all i sets h)) ∙ f.put
