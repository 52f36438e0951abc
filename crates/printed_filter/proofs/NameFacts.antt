-- What a line and the returns of a helper chain say of the name of an interface.
use Rattle.std.proofs.Common.{◌≡◌, ℕ, List, [], ◌∷◌, Bool, true, false, not, ◌&&◌, ◌||◌, map, refl, sym, ◌∙◌, ap}
use Rattle.std.specs.Prelude.{if◌then◌else◌}
use Rattle.name_set.specs.declared.pattern.Pattern.{Pattern}
use Rattle.name_set.specs.declared.set.NameSet.{NameSet}
use Rattle.name_set.specs.Names.{has_name, some_fits}
use Rattle.name_set.specs.Patterns.{fits}
use Rattle.primitives.specs.declared.prim.Packet.{Packet}
use Rattle.primitives.specs.declared.prim.Prim_.{Prim_}
use Rattle.primitives.specs.Holds.{holds_of}
use Rattle.fw_rule.specs.declared.rule.Lit.{Lit}
use Rattle.fw_rule.specs.Walk.{doubt_in}
use Rattle.dump_print.specs.Helpers.{returned_patterns}
use Rattle.dump_print.specs.Names.{is_every_name, is_plain_names}
use Rattle.printed_filter.specs.Literals.{yes, no, name_literals}
use Rattle.printed_filter.proofs.Facts.{eval-Prim, facts, facts-append, known-append, one_fact}
use Rattle.printed_filter.proofs.Truths.{and_true}

every_fits : (base : Pattern) (name : List ℕ) → is_every_name base ≡ true → fits base name ≡ true
every_fits (Pattern.Exact text) name e = let wrong : false ≡ true = e in cc
every_fits (Pattern.Prefix []) name e = refl
every_fits (Pattern.Prefix (b ∷ bs)) name e = let wrong : false ≡ true = e in cc

not_or : (a b : Bool) → (not a && not b) ≡ not (a || b)
not_or true b = refl
not_or false b = refl

module _ {W : ℕ} (p : Packet) (prim : Pattern → Prim_ W) (name : List ℕ) (says : (pattern : Pattern) → holds_of (prim pattern) p ≡ fits pattern name) where
  abbrev told : List (Lit (Prim_ W)) → Bool
  told = facts (holds_of {W = W}) p

  base_meets : (base : Pattern) (b : Bool) → is_every_name base ≡ b → told (if b then [] else yes (prim base) ∷ []) ≡ fits base name
  base_meets base true e = sym (every_fits base name e)
  base_meets base false e = one_fact (holds_of {W = W}) p (prim base) ∙ says base

  denied : (ps : List Pattern) → told (map (λ pattern. no (prim pattern)) ps) ≡ not (some_fits ps name)
  denied [] = refl
  denied (q ∷ ps) =
      (λ i. not ((eval-Prim (λ y. holds_of y p) (prim q) ∙ says q) i) && denied ps i) ∙ not_or (fits q name) (some_fits ps name)

  by_plain : (names : NameSet) (b : Bool) →
      ((fits names.base name && told (if b then map (λ pattern. no (prim pattern)) names.excluded else []))
      && not (some_fits (if b then [] else names.excluded) name)) ≡ has_name names name
  by_plain names true =
      and_true (fits names.base name && told (map (λ pattern. no (prim pattern)) names.excluded))
      ∙ ap (λ x. fits names.base name && x) (denied names.excluded)
  by_plain names false = ap (λ x. x && not (some_fits names.excluded name)) (and_true (fits names.base name))

  -- what the line says and no return says is the set of names
  pub names_meet : (names : NameSet) → (told (name_literals prim names) && not (some_fits (returned_patterns names) name)) ≡ has_name names name
  names_meet names =
      ap (λ x. x && not (some_fits (returned_patterns names) name))
      (facts-append (holds_of {W = W}) p (if is_every_name names.base then [] else yes (prim names.base) ∷ [])
      (if is_plain_names names then map (λ pattern. no (prim pattern)) names.excluded else [])
      ∙ ap (λ x. x && told (if is_plain_names names then map (λ pattern. no (prim pattern)) names.excluded else []))
      (base_meets names.base (is_every_name names.base) refl))
      ∙ by_plain names (is_plain_names names)

module _ {W : ℕ} (prim : Pattern → Prim_ W) where
  base_known : (base : Pattern) (b : Bool) → doubt_in (if b then [] else yes (prim base) ∷ []) ≡ false
  base_known base true = refl
  base_known base false = refl

  denied_known : (ps : List Pattern) → doubt_in (map (λ pattern. no (prim pattern)) ps) ≡ false
  denied_known [] = refl
  denied_known (q ∷ ps) = denied_known ps

  except_known : (ps : List Pattern) (b : Bool) → doubt_in (if b then map (λ pattern. no (prim pattern)) ps else []) ≡ false
  except_known ps true = denied_known ps
  except_known ps false = refl

  pub names_known : (names : NameSet) → doubt_in (name_literals prim names) ≡ false
  names_known names = known-append (if is_every_name names.base then [] else yes (prim names.base) ∷ [])
      (if is_plain_names names then map (λ pattern. no (prim pattern)) names.excluded else [])
      (base_known names.base (is_every_name names.base)) (except_known names.excluded (is_plain_names names))
