-- Parts of a rule line: words that are groups, and the literals that these give.
use Rattle.std.proofs.Common.{◌≡◌, ◌∙◌, ◌++◌, ◌∷◌, [], ℕ, List, Bool, true, false, ◌&&◌, ◌||◌, Option, Some, length, refl, sym, ap, subst, append_assoc, if◌then◌else◌}
use Rattle.std.specs.List.{AllByRecursion, find}
use Rattle.std.specs.Prelude.{option_map}
use Rattle.std.specs.Str.{bytes_eq}
use Rattle.match_expr.specs.declared.expr.Expr.{Expr}
use Rattle.primitives.specs.declared.prim.Prim_.{Prim_}
use Rattle.fw_rule.specs.declared.rule.Lit.{Lit}
use Rattle.opt_table.specs.Options.{Spelling, known_options}
use Rattle.dump_grammar.specs.Arguments.{Says}
use Rattle.dump_grammar.specs.ChainLines.{is_among}
use Rattle.dump_grammar.specs.Groups.{AreGroups, Base, Group, IsOptionName, Module, ModuleOption, Takes, arity_in, arity_of, base_of, base_options, is_known_module, mark_words, row_of}
use Rattle.dump_grammar.specs.Lines.{Text, Word, bare, texts}
use Rattle.dump_grammar.specs.Literals.{AreLiterals, IsBaseLiteral, modules_literals, option_follows, text_of}
use Rattle.dump_print.specs.Parts.{has_words, module_words}
use Rattle.printed_text.proofs.WordLemmas.{CanStand, mark_is_written, module_mark_is_written}
use Rattle.basics.proofs.Lists.{each_append}

-- the options of two lists of groups
pub base_joined : (a b : List Group) → base_of (a ++ b) ≡ base_of a ++ base_of b
base_joined [] b = refl
base_joined (Base negated option arguments ∷ a) b = ap (λ (os : List Text). option ∷ os) (base_joined a b)
base_joined (Module name ∷ a) b = base_joined a b
base_joined (ModuleOption current negated option arguments ∷ a) b = base_joined a b

-- the option, where it is there
abbrev pub chosen : Bool → Text → List Text
chosen true option = option ∷ []
chosen false option = []

pub join_groups : (current : Option Text) (w1 w2 rest : List Word) (g1 g2 more : List Group) (target : List Word)
    → AreGroups current (w1 ++ (w2 ++ rest)) (g1 ++ (g2 ++ more)) target → AreGroups current ((w1 ++ w2) ++ rest) ((g1 ++ g2) ++ more) target
join_groups current w1 w2 rest g1 g2 more target are =
    subst (λ (ws : List Word). AreGroups current ws ((g1 ++ g2) ++ more) target) (sym (append_assoc w1 w2 rest))
    (subst (λ (gs : List Group). AreGroups current (w1 ++ (w2 ++ rest)) gs target) (sym (append_assoc g1 g2 more)) are)

pub marked : (negated : Bool) (words rest : List Word) → (mark_words negated ++ words) ++ rest ≡ mark_words negated ++ (words ++ rest)
marked true words rest = refl
marked false words rest = refl

pub mark_written : (negated : Bool) (words : List Word) → AllByRecursion CanStand words → AllByRecursion CanStand (mark_words negated ++ words)
mark_written true words p = (mark_is_written, p)
mark_written false words p = p

mark_has_words : (negated : Bool) (words : List Word) → has_words words ≡ true → has_words (mark_words negated ++ words) ≡ true
mark_has_words true words some = refl
mark_has_words false words some = some

-- how many arguments an option takes, by its row in the table
pub arity_is : (name option : Text) (count : ℕ)
    → option_map (λ (row : Spelling). row.arity) (find (λ (row : Spelling). bytes_eq row.name name && bytes_eq row.option option) known_options) ≡ Some count
    → arity_of name option ≡ Some count
unfolding arity_of row_of
arity_is name option count row = row

taken_there : (name option : Text) (taken rest : List Word) → arity_of name option ≡ Some (length taken) → Takes (arity_in (Some name) option) taken rest
taken_there name option taken rest arity = subst (λ (count : Option ℕ). Takes count taken rest) (sym arity) refl

-- `Knows` is what the groups of the whole line have to know
module _ {W : ℕ} (Reads : Text → ℕ → Type 0) (Knows : List Group → Type 0) where
  -- the words are groups, whatever module was named before them, of these options that need no module, and give these literals
  pub record IsPart (options : List Text) (words : List Word) (literals : List (Lit (Prim_ W))) : Type 0 where
    pub groups : List Group
    pub divides : (current : Option Text) (rest : List Word) (more : List Group) (target : List Word)
        → ((next : Option Text) → AreGroups next rest more target) → AreGroups current (words ++ rest) (groups ++ more) target
    pub gives : (all : List Group) → Knows all → (more : List Group) (others : List (Lit (Prim_ W)))
        → AreLiterals Reads all more others → AreLiterals Reads all (groups ++ more) (literals ++ others)
    pub based : base_of groups ≡ options
    pub written : AllByRecursion CanStand words

  -- the words are groups of options of this module
  pub record IsInner (name : Text) (words : List Word) (literals : List (Lit (Prim_ W))) : Type 0 where
    pub groups : List Group
    pub divides : (rest : List Word) (more : List Group) (target : List Word)
        → AreGroups (Some name) rest more target → AreGroups (Some name) (words ++ rest) (groups ++ more) target
    pub gives : (all : List Group) → Knows all → (more : List Group) (others : List (Lit (Prim_ W)))
        → AreLiterals Reads all more others → AreLiterals Reads all (groups ++ more) (literals ++ others)
    pub based : base_of groups ≡ []
    pub written : AllByRecursion CanStand words
    pub none : has_words words ≡ false → literals ≡ []

  -- the same, where the option that needs no module may be missing
  pub record MaybePart (option : Text) (words : List Word) (literals : List (Lit (Prim_ W))) : Type 0 where
    pub there : Bool
    pub part : IsPart (chosen there option) words literals

  abbrev pub no_part : IsPart [] [] []
  no_part = record {
    groups = [];
    divides = λ current rest more target are. are current;
    gives = λ all knows more others are. are;
    based = refl;
    written = tt;
  }

  pub no_inner : (name : Text) → IsInner name [] []
  no_inner name = record {
    groups = [];
    divides = λ rest more target are. are;
    gives = λ all knows more others are. are;
    based = refl;
    written = tt;
    none = λ e. refl;
  }

  pub join_literals : (all g1 g2 more : List Group) (l1 l2 others : List (Lit (Prim_ W)))
      → AreLiterals Reads all (g1 ++ (g2 ++ more)) (l1 ++ (l2 ++ others)) → AreLiterals Reads all ((g1 ++ g2) ++ more) ((l1 ++ l2) ++ others)
  join_literals all g1 g2 more l1 l2 others are =
      subst (λ (ls : List (Lit (Prim_ W))). AreLiterals Reads all ((g1 ++ g2) ++ more) ls) (sym (append_assoc l1 l2 others))
      (subst (λ (gs : List Group). AreLiterals Reads all gs (l1 ++ (l2 ++ others))) (sym (append_assoc g1 g2 more)) are)

  -- one part after another
  abbrev pub join_parts : (o1 o2 : List Text) (w1 w2 : List Word) (l1 l2 : List (Lit (Prim_ W))) → IsPart o1 w1 l1 → IsPart o2 w2 l2 → IsPart (o1 ++ o2) (w1 ++ w2) (l1 ++ l2)
  join_parts o1 o2 w1 w2 l1 l2 p q = record {
    groups = p.groups ++ q.groups;
    divides = λ current rest more target are. join_groups current w1 w2 rest p.groups q.groups more target
        (p.divides current (w2 ++ rest) (q.groups ++ more) target (λ next. q.divides next rest more target are));
    gives = λ all knows more others are. join_literals all p.groups q.groups more l1 l2 others
        (p.gives all knows (q.groups ++ more) (l2 ++ others) (q.gives all knows more others are));
    based = base_joined p.groups q.groups ∙ ap (λ (os : List Text). os ++ base_of q.groups) p.based ∙ ap (λ (os : List Text). o1 ++ os) q.based;
    written = each_append CanStand w1 w2 p.written q.written;
  }

  none_joined : (w1 w2 : List Word) (l1 l2 : List (Lit (Prim_ W))) → (has_words w1 ≡ false → l1 ≡ []) → (has_words w2 ≡ false → l2 ≡ [])
      → has_words (w1 ++ w2) ≡ false → l1 ++ l2 ≡ []
  none_joined [] w2 l1 l2 p q e = ap (λ (ls : List (Lit (Prim_ W))). ls ++ l2) (p refl) ∙ q e
  none_joined (word ∷ w1) w2 l1 l2 p q e = let wrong : true ≡ false = e in cc

  pub join_inner : (name : Text) (w1 w2 : List Word) (l1 l2 : List (Lit (Prim_ W))) → IsInner name w1 l1 → IsInner name w2 l2 → IsInner name (w1 ++ w2) (l1 ++ l2)
  join_inner name w1 w2 l1 l2 p q = record {
    groups = p.groups ++ q.groups;
    divides = λ rest more target are. join_groups (Some name) w1 w2 rest p.groups q.groups more target
        (p.divides (w2 ++ rest) (q.groups ++ more) target (q.divides rest more target are));
    gives = λ all knows more others are. join_literals all p.groups q.groups more l1 l2 others
        (p.gives all knows (q.groups ++ more) (l2 ++ others) (q.gives all knows more others are));
    based = base_joined p.groups q.groups ∙ ap (λ (os : List Text). os ++ base_of q.groups) p.based ∙ q.based;
    written = each_append CanStand w1 w2 p.written q.written;
    none = none_joined w1 w2 l1 l2 p.none q.none;
  }

  -- an option that needs no module, with its one argument
  abbrev pub base_part : (negated : Bool) (option : Text) (word : Word) (literal : Lit (Prim_ W)) → is_among base_options option ≡ true → arity_of [] option ≡ Some 1
      → IsBaseLiteral Reads negated option (word.text ∷ []) literal → CanStand (bare option) → CanStand word
      → IsPart (option ∷ []) (mark_words negated ++ (bare option ∷ word ∷ [])) (literal ∷ [])
  base_part negated option word literal among arity is named written = record {
    groups = Base negated option (word.text ∷ []) ∷ [];
    divides = λ current rest more target are. (rest, ((word ∷ [], (marked negated (bare option ∷ word ∷ []) rest, among, arity, refl)), are current));
    gives = λ all knows more others are. (literal, others, (refl, is, are));
    based = refl;
    written = mark_written negated (bare option ∷ word ∷ []) (named, (written, tt));
  }

  -- an option of a module, with as many arguments as its row says
  pub option_part : (negated : Bool) (name option : Text) (taken : List Word) (expr : Expr (Prim_ W)) → arity_of name option ≡ Some (length taken) → IsOptionName option
      → ((all : List Group) → Knows all → Says Reads all name option (texts taken) negated expr) → CanStand (bare option) → AllByRecursion CanStand taken
      → IsInner name (mark_words negated ++ (bare option ∷ taken)) (Lit.Known negated expr ∷ [])
  option_part negated name option taken expr arity is_name says named written = record {
    groups = ModuleOption (Some name) negated option (texts taken) ∷ [];
    divides = λ rest more target are. (rest, ((taken, (marked negated (bare option ∷ taken) rest, refl, is_name, taken_there name option taken rest arity, refl)), are));
    gives = λ all knows more others are. (Lit.Known negated expr, others, (refl, (name, (refl, refl, says all knows)), are));
    based = refl;
    written = mark_written negated (bare option ∷ taken) (named, written);
    none = λ e. let wrong : true ≡ false = sym (mark_has_words negated (bare option ∷ taken) refl) ∙ e in cc;
  }

  known_nothing : (name : Text) (after : List Group) → is_known_module name ≡ true → modules_literals {W = W} name after ≡ []
  known_nothing name after known =
      ap (λ (b : Bool). if◌then◌else◌ {A = List (Lit (Prim_ W))} (b || option_follows after) [] (Lit.Unknown (text_of (Module name)) ∷ [])) known

  -- a module with some of its options
  pub module_part : (name : Text) (words : List Word) (literals : List (Lit (Prim_ W))) → is_known_module name ≡ true → CanStand (bare name)
      → IsInner name words literals → IsPart [] (module_words name words) literals
  module_part name [] literals known written inner = subst (λ (ls : List (Lit (Prim_ W))). IsPart [] [] ls) (sym (inner.none refl)) no_part
  module_part name (word ∷ words) literals known written inner = record {
    groups = Module name ∷ inner.groups;
    divides = λ current rest more target are. ((word ∷ words) ++ rest, ((bare name, (refl, refl)), inner.divides rest more target (are (Some name))));
    gives = λ all knows more others are. (
      literals ++ others,
      (sym (ap (λ (ls : List (Lit (Prim_ W))). ls ++ (literals ++ others)) (known_nothing name (inner.groups ++ more) known)), inner.gives all knows more others are),
    );
    based = inner.based;
    written = (module_mark_is_written, (written, inner.written));
  }
