-- The texts of nets and ranges, in a family of a width whose addresses are those that `Reads` says.
use Rattle.std.specs.Prelude.{◌≡◌, ◌≤◌, ◌++◌, ◌⊎◌, ℕ, List, codes, decimal}
use Rattle.interval_set.specs.declared.set.Range.{Range}
use Rattle.addr_text.specs.Masks.{mask_of, shortened, HasHole}
use Rattle.addr_text.specs.declared.net.Net.{Net}
use Rattle.addr_text.specs.declared.net.Net.TheVariants.{Prefix, Masked}

-- the text is the length as a number, or its mask in the form of an address
abbrev pub IsLength : (List ℕ → ℕ → Type 0) → ℕ → List ℕ → ℕ → Type 0
IsLength Reads width text len = (len ≤ width) × ((text ≡ decimal len) ⊎ Reads text (mask_of width len))

-- the text is a mask that is no length's
abbrev pub IsHole : (List ℕ → ℕ → Type 0) → ℕ → List ℕ → Type 0
IsHole Reads width text = (mask : ℕ) × Reads text mask × HasHole width mask

-- the net of an address and of what stands after the '/'; the bits of the address past the length are cleared
abbrev pub IsNetOf : (List ℕ → ℕ → Type 0) → ℕ → ℕ → List ℕ → Net → Type 0
IsNetOf Reads width address text (Prefix value len) =
    IsLength Reads width text len × (value ≡ shortened width len address)
IsNetOf Reads width address text Masked = IsHole Reads width text

-- an address alone has the full length
abbrev pub IsAlone : (List ℕ → ℕ → Type 0) → ℕ → List ℕ → Net → Type 0
IsAlone Reads width text net = (address : ℕ) × Reads text address × (net ≡ Prefix address width)

-- an address and a length or a mask, with '/' between them
abbrev pub IsSlashed : (List ℕ → ℕ → Type 0) → ℕ → List ℕ → Net → Type 0
IsSlashed Reads width text net = (front back : List ℕ) × (address : ℕ) × (text ≡ front ++ codes "/" ++ back)
    × Reads front address × IsNetOf Reads width address back net

-- the text is that of a net
abbrev pub IsNetText : (List ℕ → ℕ → Type 0) → ℕ → List ℕ → Net → Type 0
IsNetText Reads width text net = IsAlone Reads width text net ⊎ IsSlashed Reads width text net

-- the text is two addresses with '-' between them, the first not above the second
abbrev pub IsRangeText : (List ℕ → ℕ → Type 0) → List ℕ → Range → Type 0
IsRangeText Reads text range = (front back : List ℕ) × (text ≡ front ++ codes "-" ++ back) × Reads front range.lo
    × Reads back range.hi × (range.lo ≤ range.hi)

-- a text has at most one net
abbrev pub HasOneNet : (List ℕ → ℕ → Type 0) → ℕ → Type 0
HasOneNet Reads width =
    (text : List ℕ) (a b : Net) → IsNetText Reads width text a → IsNetText Reads width text b → a ≡ b

-- a text has at most one range
abbrev pub HasOneRange : (List ℕ → ℕ → Type 0) → Type 0
HasOneRange Reads = (text : List ℕ) (a b : Range) → IsRangeText Reads text a → IsRangeText Reads text b → a ≡ b
