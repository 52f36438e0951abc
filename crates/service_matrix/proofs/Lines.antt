-- The row or the column of a class, where no rule tells an address from the least of the class.
use Rattle.std.proofs.Common.{◌≡◌, ℕ, ◌^◌, nat_lt, Bool, ◌&&◌, List, [], ◌∷◌, if◌then◌else◌, Option, Some, Result, Ok, Err, IfOk, slice_get, unwrap_or, refl, sym, ◌∙◌, ap}
use Rattle.std.specs.List.{AllByRecursion}
use Rattle.interval_set.specs.declared.set.Range.{Range}
use Rattle.interval_set.specs.Numbers.{has}
use Rattle.box_norm.specs.declared.cube.Cube.{Cube}
use Rattle.box_norm.specs.declared.cube.SimpleRule.{SimpleRule}
use Rattle.box_norm.specs.Cubes.{holds_cube}
use Rattle.box_norm.specs.Normal.{first_of}
use Rattle.fw_rule.specs.declared.rule.Verdict.{Verdict}
use Rattle.fw_rule.specs.Answers.{is_accept}
use Rattle.service_packet.specs.declared.service.Service.{Service}
use Rattle.service_matrix.specs.declared.classes.Class.{Class}
use Rattle.service_matrix.specs.declared.rows.Fixed.{Fixed}
use Rattle.service_matrix.specs.inner.Classes.{IsClass, line}
use Rattle.service_matrix.specs.inner.Passes.{StandAlike, accepts_at, far, near, packet_at}
use Rattle.service_matrix.specs.Services.{accepts_service}
use Rattle.basics.proofs.Lists.{each_at}
use Rattle.service_matrix.proofs.Passes.{by_addresses, fits_service}

module _ {W : ℕ} (fixed : Fixed) (service : Service) (one other there : ℕ) where
  same_cube : (cube : Cube W) → has (near cube fixed) one ≡ has (near cube fixed) other → holds_cube cube (packet_at fixed service one there) ≡ holds_cube cube (packet_at fixed service other there)
  same_cube cube e = by_addresses cube service fixed one there ∙ ap (λ (b : Bool). b && (has (far cube fixed) there && fits_service cube service)) e ∙ sym (by_addresses cube service fixed other there)

  pub same_first : (rules : List (SimpleRule W)) → StandAlike fixed rules one other → first_of rules (packet_at fixed service one there) ≡ first_of rules (packet_at fixed service other there)
  same_first [] h = refl
  same_first (rule ∷ rules) h =
      ap (λ (b : Bool). if b then Some rule.accept else first_of rules (packet_at fixed service one there)) (same_cube rule.cube h.0)
      ∙ ap (λ (later : Option Bool). if holds_cube rule.cube (packet_at fixed service other there) then Some rule.accept else later) (same_first rules h.1)

module _ {W : ℕ} (rules : List (SimpleRule W)) (policy : Verdict) (service : Service) where
  class_line : (fixed : Fixed) (class : Class W) → IsClass (accepts_service rules policy service) class → (there : ℕ) →
      has (line class fixed) there ≡ (nat_lt there (2 ^ W) && accepts_at fixed rules policy service class.least there)
  class_line Fixed.Source class is there = is.from class.least there is.first.0
  class_line Fixed.Destination class is there = is.to there class.least is.first.0

  known_line : (fixed : Fixed) (known : List (Class W)) (i : ℕ) (class : Class W) → AllByRecursion (IsClass (accepts_service rules policy service)) known → slice_get known i ≡ Some class →
      (here : ℕ) → StandAlike fixed rules class.least here → (set : List Range) → set ≡ line class fixed → (there : ℕ) → has set there ≡ (nat_lt there (2 ^ W) && accepts_at fixed rules policy service here there)
  known_line fixed known i class each at here alike set e there =
      ap (λ (z : List Range). has z there) e ∙ class_line fixed class (each_at (IsClass (accepts_service rules policy service)) known i class each at) there
      ∙ ap (λ (answer : Option Bool). nat_lt there (2 ^ W) && unwrap_or answer (is_accept policy)) (same_first fixed service class.least here there rules alike)

  pub known_line_ok : {E : Type 0} (fixed : Fixed) (known : List (Class W)) (i : ℕ) (class : Class W) → AllByRecursion (IsClass (accepts_service rules policy service)) known → slice_get known i ≡ Some class →
      (here : ℕ) → StandAlike fixed rules class.least here → (r : Result (List Range) E) → IfOk r (λ set. set ≡ line class fixed) →
      IfOk r (λ set. (there : ℕ) → has set there ≡ (nat_lt there (2 ^ W) && accepts_at fixed rules policy service here there))
  known_line_ok fixed known i class each at here alike (Ok set) e = known_line fixed known i class each at here alike set e
  known_line_ok fixed known i class each at here alike (Err f) e = tt
