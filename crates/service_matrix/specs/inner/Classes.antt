-- Classes of addresses while groups are joined.
use Rattle.std.specs.Prelude.{ℕ, ◌≡◌, ◌<◌, ◌^◌, ◌&&◌, ◌⊎◌, nat_lt, true, Bool, List, [], ◌∷◌, ◌++◌, map, Some, length, slice_get, set}
use Rattle.std.specs.List.{AllByRecursion}
use Rattle.interval_set.specs.declared.set.Range.{Range}
use Rattle.interval_set.specs.Numbers.{has, IsSet, IsLeast}
use Rattle.interval_set.specs.Spelling.{set_or}
use Rattle.ip_partition.specs.Partition.{IsIn}
use Rattle.service_matrix.specs.declared.classes.Class.{Class}
use Rattle.service_matrix.specs.declared.rows.Fixed.{Fixed}

-- the address is in a class
abbrev pub InSome : List (List Range) → ℕ → Type 0
InSome classes n = (i : ℕ) × IsIn classes i n

-- classes that share no address, none of them empty, in the order of their least addresses
pub record Ordered (w : ℕ) (classes : List (List Range)) : Type 0 where
  pub sets : AllByRecursion (IsSet w) classes
  pub some : (i : ℕ) → i < length classes → (n : ℕ) × IsIn classes i n
  pub apart : (i j n : ℕ) → IsIn classes i n → IsIn classes j n → i ≡ j
  pub ordered : (i j n : ℕ) → i < j → IsIn classes j n → (m : ℕ) × IsIn classes i m × (m < n)

module _ {W : ℕ} where
  -- the row of a class, or its column
  abbrev pub line : Class W → Fixed → List Range
  line class Fixed.Source = class.row
  line class Fixed.Destination = class.column

  -- their rows or their columns differ
  abbrev pub Differ : Class W → Class W → Type 0
  Differ a b = ((n : ℕ) → has a.row n ≡ has b.row n) → ((n : ℕ) → has a.column n ≡ has b.column n) → ⊥

  -- the class of this place, from 0, has the row and the column of the other
  pub record HasSameAt (classes : List (Class W)) (new : Class W) (at : ℕ) : Type 0 where
    pub class : Class W
    pub there : slice_get classes at ≡ Some class
    pub row : class.row ≡ new.row
    pub column : class.column ≡ new.column

  -- the class with the addresses of another too
  abbrev pub wider : Class W → Class W → Class W
  wider class new = record { addresses = set_or W class.addresses new.addresses; least = class.least; row = class.row; column = class.column }

  -- a class is put to the one that has its row and its column, or else behind all
  abbrev pub Put : List (Class W) → Class W → List (Class W) → Type 0
  Put old new after = (AllByRecursion (λ (class : Class W). Differ class new) old × (after ≡ old ++ new ∷ []))
      ⊎ ((at : ℕ) × (s : HasSameAt old new at) × (after ≡ set old at (wider s.class new)))

  abbrev pub addresses_of : List (Class W) → List (List Range)
  addresses_of = map (λ (class : Class W). class.addresses)

  -- whether an edge goes from a class to each of some
  abbrev pub edge_row : Class W → List (Class W) → List Bool
  edge_row from = map (λ (class : Class W). has from.row class.least)

  -- from each class to each
  abbrev pub edges_of : List (Class W) → List (List Bool)
  edges_of classes = map (λ (class : Class W). edge_row class classes) classes

  -- no two have the same row and the same column
  abbrev pub Distinct : List (Class W) → Type 0
  Distinct [] = Unit {0}
  Distinct (c ∷ cs) = AllByRecursion (λ (class : Class W). Differ c class) cs × Distinct cs

  -- the least addresses ascend
  abbrev pub Rising : List (Class W) → Type 0
  Rising [] = Unit {0}
  Rising (c ∷ cs) = AllByRecursion (λ (class : Class W). c.least < class.least) cs × Rising cs

-- a set with some address, whose addresses no edge tells apart: `f` tells from which address of w bits an edge goes to which
pub record IsGroup (w : ℕ) (f : ℕ → ℕ → Bool) (group : List Range) : Type 0 where
  pub range : IsSet w group
  pub some : (n : ℕ) × (has group n ≡ true)
  pub from : (s t d : ℕ) → has group s ≡ true → has group t ≡ true → d < 2 ^ w → f s d ≡ f t d
  pub to : (s d e : ℕ) → has group d ≡ true → has group e ≡ true → s < 2 ^ w → f s d ≡ f s e

module _ {W : ℕ} (f : ℕ → ℕ → Bool) where
  -- the class has its least address, and the row and the column of each of its addresses
  pub record IsClass (class : Class W) : Type 0 where
    pub range : IsSet W class.addresses
    pub first : IsLeast class.addresses class.least
    pub from : (s d : ℕ) → has class.addresses s ≡ true → has class.row d ≡ (nat_lt d (2 ^ W) && f s d)
    pub to : (s d : ℕ) → has class.addresses d ≡ true → has class.column s ≡ (nat_lt s (2 ^ W) && f s d)

  -- classes of the groups so far, while those of `left` are still to come
  pub record AreClasses (groups left : List (List Range)) (classes : List (Class W)) : Type 0 where
    pub order : Ordered W left
    pub alike : AllByRecursion (IsGroup W f) left
    pub each : AllByRecursion IsClass classes
    pub distinct : Distinct classes
    pub rising : Rising classes
    pub before : AllByRecursion (λ (class : Class W). (n : ℕ) → InSome left n → class.least < n) classes
    pub all : (n : ℕ) → InSome groups n → InSome left n ⊎ InSome (addresses_of classes) n
