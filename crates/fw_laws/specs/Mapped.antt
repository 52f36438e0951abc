-- What any mapping of literals keeps.
use Rattle.std.specs.Prelude.{ℕ, ◌≡◌, ◌↔◌, length}
use Rattle.fw_rule.specs.declared.rule.Lit.{Lit}
use Rattle.fw_rule.specs.declared.rule.Dump.{Dump}
use Rattle.fw_rule.specs.Walk.{policy_of, Calls, HasRoom, Settled, mapped_by}
use Rattle.fw_laws.specs.Shape.{SameShape}

module _ {P : Type 0} (dump : Dump P) where
  -- where each literal is its own image the dump stays as it is
  abbrev pub SameStays : Type 0
  SameStays = (image : Lit P → Lit P) → ((lit : Lit P) → image lit ≡ lit) → mapped_by image dump ≡ dump

  -- the policies and actions stay
  abbrev pub ShapeStays : Type 0
  ShapeStays = (image : Lit P → Lit P) → SameShape dump (mapped_by image dump)

  -- a chain is settled before and after or neither time
  abbrev pub SettledStays : Type 0
  SettledStays = (image : Lit P → Lit P) (chain : ℕ) → Settled dump chain ↔ Settled (mapped_by image dump) chain

  -- the numbers of chains, rules and literals fit their types where they did
  abbrev pub RoomStays : Type 0
  RoomStays = (image : Lit P → Lit P) → HasRoom dump → HasRoom (mapped_by image dump)

  -- there are as many chains, and the calls and gotos of each lead to those that they did
  abbrev pub CallsStay : Type 0
  CallsStay = (image : Lit P → Lit P) → (length (mapped_by image dump).chains ≡ length dump.chains)
      × ((a b : ℕ) → Calls dump a b ↔ Calls (mapped_by image dump) a b)

  -- a chain has the policy that it had, or none as before
  abbrev pub PoliciesStay : Type 0
  PoliciesStay = (image : Lit P → Lit P) (chain : ℕ) → policy_of (mapped_by image dump) chain ≡ policy_of dump chain
