-- Which literal each group of a rule line gives.
use Rattle.std.specs.Prelude.{ℕ, ◌≡◌, ◌≤◌, ◌⊎◌, Bool, true, false, List, [], ◌∷◌, ◌++◌, length, Option, Some, None, codes, if◌then◌else◌, ◌||◌}
use Rattle.std.specs.List.{join_with_byte}
use Rattle.interval_set.specs.declared.set.Range.{Range}
use Rattle.interval_set.specs.Prefix.{prefix_range}
use Rattle.match_expr.specs.declared.expr.Expr.{Expr}
use Rattle.match_expr.specs.declared.expr.Expr.TheVariants.{Prim}
use Rattle.name_set.specs.declared.pattern.Pattern.{Pattern}
use Rattle.primitives.specs.declared.prim.Prim_.{Prim_}
use Rattle.primitives.specs.Words.{SpellsProto}
use Rattle.addr_text.specs.Nets.{IsNetText}
use Rattle.fw_rule.specs.declared.rule.Lit.{Lit}
use Rattle.addr_text.specs.declared.net.Net.{Net}
use Rattle.dump_grammar.specs.Lines.{Text}
use Rattle.dump_grammar.specs.Groups.{Group, Base, Module, ModuleOption, mark, is_known_module}
use Rattle.dump_grammar.specs.Arguments.{Says}

-- `-m` and the module, where there is one
abbrev pub module_text : Option Text → List Text
module_text None = []
module_text (Some name) = codes "-m" ∷ name ∷ []

-- the text by which a group that isn't understood is known: its words without quotes and with one space between them;
-- in front of an option of a module stand `-m` and that module
abbrev pub text_of : Group → Text
text_of (Base negated option arguments) = join_with_byte 32 (mark negated ++ option ∷ arguments)
text_of (Module name) = join_with_byte 32 (codes "-m" ∷ name ∷ [])
text_of (ModuleOption current negated option arguments) =
    join_with_byte 32 (module_text current ++ (mark negated ++ option ∷ arguments))

-- whether an option of a module follows before the next module is named
abbrev pub option_follows : List Group → Bool
option_follows (Base negated option arguments ∷ groups) = option_follows groups
option_follows (ModuleOption current negated option arguments ∷ groups) = true
option_follows groups = false

-- the name of an interface, or where it ends in `+` every name that begins with what stands before that `+`
abbrev pub IsPattern : Text → Pattern → Type 0
IsPattern text (Pattern.Prefix front) = text ≡ front ++ codes "+"
IsPattern text (Pattern.Exact name) = (text ≡ name) × ((front : Text) → text ≡ front ++ codes "+" → ⊥)

-- the words for every protocol
abbrev pub IsEveryProtocol : Text → Type 0
IsEveryProtocol text = (text ≡ codes "all") ⊎ (text ≡ codes "0")

-- the option of this name, with one argument, of which something holds
abbrev pub HasOne : Text → Text → List Text → (Text → Type 0) → Type 0
HasOne name option arguments Holds = (text : Text) × ((option ≡ name) × (arguments ≡ text ∷ []) × Holds text)

module _ {W : ℕ} where
  -- a module without a row is unknown itself, unless an option follows before the next module is named
  abbrev pub modules_literals : Text → List Group → List (Lit (Prim_ W))
  modules_literals name after =
      if is_known_module name || option_follows after then [] else Lit.Unknown (text_of (Module name)) ∷ []

  -- the literal of an interface option: a pattern of 1 to 255 bytes
  abbrev pub IsNameLiteral : (Pattern → Prim_ W) → Text → Bool → Lit (Prim_ W) → Type 0
  IsNameLiteral prim text negated literal = (pattern : Pattern) × (IsPattern text pattern × (1 ≤ length text)
      × (length text ≤ 255) × (literal ≡ Lit.Known negated (Prim (prim pattern))))

  -- the literal of a protocol option: a name or a number from 1 to 255, or every protocol, which can't be negated; else
  -- it is unknown
  abbrev pub IsProtocolLiteral : Text → Bool → Text → Lit (Prim_ W) → Type 0
  IsProtocolLiteral text negated unknown (Lit.Known neg expr) =
      (IsEveryProtocol text × (negated ≡ false) × (neg ≡ false) × (expr ≡ Prim Prim_.Always))
      ⊎ ((n : ℕ) × (SpellsProto text n × (1 ≤ n) × (neg ≡ negated) × (expr ≡ Prim (Prim_.Proto n))))
  IsProtocolLiteral text negated unknown (Lit.Unknown shown) =
      (IsEveryProtocol text → ⊥) × ((n : ℕ) → SpellsProto text n → ⊥) × (shown ≡ unknown)

module _ {W : ℕ} (Reads : Text → ℕ → Type 0) where
  -- the literal of an address option: a net with a mask that isn't a prefix is unknown
  abbrev pub IsNetLiteral : (List Range → Prim_ W) → Text → Bool → Text → Lit (Prim_ W) → Type 0
  IsNetLiteral prim text negated unknown (Lit.Known neg expr) =
      (value len : ℕ) × (IsNetText Reads W text (Net.Prefix value len) × (neg ≡ negated)
      × (expr ≡ Prim (prim (prefix_range W value len ∷ []))))
  IsNetLiteral prim text negated unknown (Lit.Unknown shown) = IsNetText Reads W text Net.Masked × (shown ≡ unknown)

  -- the literal of an option that needs no module
  abbrev pub IsBaseLiteral : Bool → Text → List Text → Lit (Prim_ W) → Type 0
  IsBaseLiteral negated option arguments literal =
      let unknown = text_of (Base negated option arguments) in
      HasOne (codes "-s") option arguments (λ text. IsNetLiteral Prim_.Src text negated unknown literal)
      ⊎ HasOne (codes "-d") option arguments (λ text. IsNetLiteral Prim_.Dst text negated unknown literal)
      ⊎ HasOne (codes "-i") option arguments (λ text. IsNameLiteral Prim_.InName text negated literal)
      ⊎ HasOne (codes "-o") option arguments (λ text. IsNameLiteral Prim_.OutName text negated literal)
      ⊎ HasOne (codes "-p") option arguments (λ text. IsProtocolLiteral text negated unknown literal)
      ⊎ ((option ≡ codes "-f") × (literal ≡ Lit.Unknown unknown))

module _ {W : ℕ} (Reads : Text → ℕ → Type 0) (groups : List Group) where
  -- the literal of an option: what its row says of the arguments; unknown where there is no row, or the arguments
  -- aren't of its form
  abbrev pub IsOptionLiteral : Option Text → Bool → Text → List Text → Lit (Prim_ W) → Type 0
  IsOptionLiteral current negated option arguments (Lit.Known neg expr) =
      (name : Text) × ((current ≡ Some name) × (neg ≡ negated) × Says Reads groups name option arguments negated expr)
  IsOptionLiteral current negated option arguments (Lit.Unknown shown) =
      (shown ≡ text_of (ModuleOption current negated option arguments))
      × ((name : Text) (expr : Expr (Prim_ W)) → current ≡ Some name
      → Says Reads groups name option arguments negated expr → ⊥)

  -- the groups, of which these are the last, give these literals, in the order of the line
  abbrev pub AreLiterals : List Group → List (Lit (Prim_ W)) → Type 0
  AreLiterals [] literals = literals ≡ []
  AreLiterals (Base negated option arguments ∷ after) literals =
      (literal : Lit (Prim_ W)) × (rest : List (Lit (Prim_ W))) × ((literals ≡ literal ∷ rest)
      × IsBaseLiteral Reads negated option arguments literal × AreLiterals after rest)
  AreLiterals (Module name ∷ after) literals = (rest : List (Lit (Prim_ W))) ×
      ((literals ≡ modules_literals name after ++ rest) × AreLiterals after rest)
  AreLiterals (ModuleOption current negated option arguments ∷ after) literals =
      (literal : Lit (Prim_ W)) × (rest : List (Lit (Prim_ W))) × ((literals ≡ literal ∷ rest)
      × IsOptionLiteral current negated option arguments literal × AreLiterals after rest)
