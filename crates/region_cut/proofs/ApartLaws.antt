-- Where a dimension of two cubes has nothing in common.
use Rattle.std.proofs.Common.{◌≡◌, ℕ, ◌+◌, ◌-◌, ◌^◌, ◌<◌, ◌≤◌, ◌==◌, List, [], ◌∷◌, Bool, true, false, ◌&&◌, Option, None, Some, refl, ◌∙◌, ap, arith, length, get_or, drop, bit_and}
use Rattle.std.specs.Prelude.{if◌then◌else◌}
use Rattle.std.proofs.lemmas.Bool.Decides.{nat_tests}
use Rattle.std.proofs.lemmas.List.{drop_all}
use Rattle.interval_set.specs.declared.set.Range.{Range}
use Rattle.interval_set.specs.Numbers.{Ascends, IsSet, has}
use Rattle.interval_set.specs.Spelling.{set_and}
use Rattle.interval_set.specs.Laws.{has-below}
use Rattle.name_set.specs.declared.set.NameSet.{NameSet}
use Rattle.box_norm.specs.declared.cube.Cube.{Cube}
use Rattle.box_norm.specs.Cubes.{has_no_range, is_none}
use Rattle.box_norm.specs.Overlaps.{and_names, and_of, both_of, names_common}
use Rattle.region_cut.proofs.Items.{drop_at}

-- a cube without a value in one of its dimensions is empty
module _ {W : ℕ} (c : Cube W) where
  pub none_src : c.src ≡ [] → is_none c ≡ true
  none_src e = let h = ap has_no_range e in grind (arith, h)

  pub none_dst : c.dst ≡ [] → is_none c ≡ true
  none_dst e = let h = ap has_no_range e in grind (arith, h)

  pub none_proto : c.proto ≡ [] → is_none c ≡ true
  none_proto e = let h = ap has_no_range e in grind (arith, h)

  pub none_sport : c.sport ≡ [] → is_none c ≡ true
  none_sport e = let h = ap has_no_range e in grind (arith, h)

  pub none_dport : c.dport ≡ [] → is_none c ≡ true
  none_dport e = let h = ap has_no_range e in grind (arith, h)

  pub none_flags : c.flags ≡ 0 → is_none c ≡ true
  none_flags e = let h = ap (λ n. n == 0) e in grind (arith, h)

  pub none_state : c.state ≡ 0 → is_none c ≡ true
  none_state e = let h = ap (λ n. n == 0) e in grind (arith, h)

  pub none_icmp : c.icmp ≡ [] → is_none c ≡ true
  none_icmp e = let h = ap has_no_range e in grind (arith, h)

module _ {W : ℕ} (a b : Cube W) where
  and_by : (i o : Option NameSet) → ((i o : NameSet) → is_none (both_of a b i o) ≡ true) → and_names a b i o ≡ None
  and_by None o h = refl
  and_by (Some i) None h = refl
  and_by (Some i) (Some o) h = ap (λ t. if t then None else Some (both_of a b i o)) (h i o)

  and_none : ((i o : NameSet) → is_none (both_of a b i o) ≡ true) → and_of a b ≡ None
  and_none h = and_by (names_common a.in_name b.in_name) (names_common a.out_name b.out_name) h

  pub apart_src : set_and W a.src b.src ≡ [] → and_of a b ≡ None
  apart_src e = and_none (λ i o. none_src (both_of a b i o) e)

  pub apart_dst : set_and W a.dst b.dst ≡ [] → and_of a b ≡ None
  apart_dst e = and_none (λ i o. none_dst (both_of a b i o) e)

  pub apart_proto : set_and 8 a.proto b.proto ≡ [] → and_of a b ≡ None
  apart_proto e = and_none (λ i o. none_proto (both_of a b i o) e)

  pub apart_sport : set_and 16 a.sport b.sport ≡ [] → and_of a b ≡ None
  apart_sport e = and_none (λ i o. none_sport (both_of a b i o) e)

  pub apart_dport : set_and 16 a.dport b.dport ≡ [] → and_of a b ≡ None
  apart_dport e = and_none (λ i o. none_dport (both_of a b i o) e)

  pub apart_flags : bit_and a.flags b.flags ≡ 0 → and_of a b ≡ None
  apart_flags e = and_none (λ i o. none_flags (both_of a b i o) e)

  pub apart_state : bit_and a.state b.state ≡ 0 → and_of a b ≡ None
  apart_state e = and_none (λ i o. none_state (both_of a b i o) e)

  pub apart_icmp : set_and 8 a.icmp b.icmp ≡ [] → and_of a b ≡ None
  apart_icmp e = and_none (λ i o. none_icmp (both_of a b i o) e)

  no_out : (i : Option NameSet) → and_names a b i None ≡ None
  no_out None = refl
  no_out (Some i) = refl

  pub apart_in_name : names_common a.in_name b.in_name ≡ None → and_of a b ≡ None
  apart_in_name e = ap (λ i. and_names a b i (names_common a.out_name b.out_name)) e

  pub apart_out_name : names_common a.out_name b.out_name ≡ None → and_of a b ≡ None
  apart_out_name e = ap (λ o. and_names a b (names_common a.in_name b.in_name) o) e ∙ no_out (names_common a.in_name b.in_name)

-- `xs` and `ys` are what is left of `a` and `b` in the test
pub record Passed (w : ℕ) (a b xs ys : List Range) : Type 0 where
  pub numbers : (n : ℕ) → (has a n && has b n) ≡ (has xs n && has ys n)
  pub left : (from : ℕ) × Ascends (2 ^ w - 1) from xs
  pub right : (from : ℕ) × Ascends (2 ^ w - 1) from ys

pub passed_begin : (w : ℕ) (a b : List Range) → IsSet w a → IsSet w b → Passed w a b a b
passed_begin w a b s t = record { numbers = λ n. refl; left = (0, s.1); right = (0, t.1) }

module _ (w : ℕ) (a b : List Range) (x y : Range) (xs ys : List Range) (m : Passed w a b (x ∷ xs) (y ∷ ys)) where
  -- no number of the second ranges is in the first range, which ends before them
  pub left_passed : x.hi < y.lo → Passed w a b xs (y ∷ ys)
  left_passed h = record {
    numbers = λ n.
        let f : n < y.lo → has (y ∷ ys) n ≡ false = λ l. has-below (2 ^ w - 1) y.lo n (y ∷ ys) (omega arith, m.right.1.1, m.right.1.2, m.right.1.3) l in
        let e = m.numbers n in
        grind (arith, nat_tests, f, e, h);
    left = (x.hi + 2, m.left.1.3);
    right = m.right;
  }

  pub right_passed : y.hi < x.lo → Passed w a b (x ∷ xs) ys
  right_passed h = record {
    numbers = λ n.
        let f : n < x.lo → has (x ∷ xs) n ≡ false = λ l. has-below (2 ^ w - 1) x.lo n (x ∷ xs) (omega arith, m.left.1.1, m.left.1.2, m.left.1.3) l in
        let e = m.numbers n in
        grind (arith, nat_tests, f, e, h);
    left = m.left;
    right = (y.hi + 2, m.right.1.3);
  }

-- the turns of the loop
module _ (w : ℕ) (a b : List Range) (i j : ℕ) (d : Range) (h : i < length a) (k : j < length b) (m : Passed w a b (drop i a) (drop j b)) where
  at_both : Passed w a b (get_or a i d ∷ drop (i + 1) a) (get_or b j d ∷ drop (j + 1) b)
  at_both = rw (← drop_at a i d h, ← drop_at b j d k) m

  pub left_turn : (get_or a i d).hi < (get_or b j d).lo → Passed w a b (drop (i + 1) a) (drop j b)
  left_turn l = let e = drop_at b j d k in rw e (left_passed w a b (get_or a i d) (get_or b j d) (drop (i + 1) a) (drop (j + 1) b) at_both l)

  pub right_turn : (get_or b j d).hi < (get_or a i d).lo → Passed w a b (drop i a) (drop (j + 1) b)
  right_turn l = let e = drop_at a i d h in rw e (right_passed w a b (get_or a i d) (get_or b j d) (drop (i + 1) a) (drop (j + 1) b) at_both l)

none_right : (t : Bool) → (t && false) ≡ false
none_right true = refl
none_right false = refl

-- one of the two is passed whole
pub left_over : (w : ℕ) (a b : List Range) (i j : ℕ) → length a ≤ i → Passed w a b (drop i a) (drop j b) → (n : ℕ) → (has a n && has b n) ≡ false
left_over w a b i j h m n = m.numbers n ∙ ap (λ xs. has xs n && has (drop j b) n) (drop_all i a h)

pub right_over : (w : ℕ) (a b : List Range) (i j : ℕ) → length b ≤ j → Passed w a b (drop i a) (drop j b) → (n : ℕ) → (has a n && has b n) ≡ false
right_over w a b i j h m n = m.numbers n ∙ ap (λ ys. has (drop i a) n && has ys n) (drop_all j b h) ∙ none_right (has (drop i a) n)
