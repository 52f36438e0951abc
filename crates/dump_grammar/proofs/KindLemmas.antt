-- The form of a known option is that of a kind.
use Rattle.std.proofs.Common.{◌≡◌, ◌∙◌, ℕ, List, [], ◌∷◌, Bool, true, false, ◌&&◌, Option, Some, None, refl, sym, ap, subst}
use Rattle.std.specs.List.{AllByRecursion, find}
use Rattle.std.specs.Prelude.{if◌then◌else◌, option_map}
use Rattle.std.specs.Str.{bytes_eq}
use Rattle.opt_table.specs.declared.kind.Kind.{Kind}
use Rattle.opt_table.specs.declared.kind.Messages.{Messages}
use Rattle.opt_table.specs.declared.kind.Side.{Side}
use Rattle.opt_table.specs.declared.kind.Transport.{Transport}
use Rattle.opt_table.specs.Options.{Form, Spelling, known_options}
use Rattle.opt_table.specs.Rows.{form_of}
use Rattle.dump_grammar.specs.Groups.{row_of}
use Rattle.dump_grammar.specs.Kinds.{form_named}
use Rattle.dump_grammar.specs.Lines.{Text}

found_each : (Q : Spelling → Type 0) (p : Spelling → Bool) (rows : List Spelling) (row : Spelling)
    → find p rows ≡ Some row → AllByRecursion Q rows → Q row
found_each Q p [] row is each = let h : None ≡ Some row = is in absurd (cc h)
found_each Q p (x ∷ rows) row is each = by_cases (p x) (λ e. found_each Q p rows row e each.1) is
  where
    by_cases : (b : Bool) → (find p rows ≡ Some row → Q row) → (if b then Some x else find p rows) ≡ Some row → Q row
    by_cases true more e = let same : x ≡ row = cc in subst Q same each.0
    by_cases false more e = more e

abbrev IsOfKind : Spelling → Type 0
IsOfKind row = (k : Kind) × (row.form ≡ form_of k)

each_known : AllByRecursion IsOfKind known_options
each_known = (
  (Kind.Base, refl),
  (
    (Kind.Base, refl),
    (
      (Kind.Base, refl),
      (
        (Kind.Base, refl),
        (
          (Kind.Base, refl),
          (
            (Kind.Base, refl),
            (
              (Kind.Port Transport.Tcp Side.Source, refl),
              (
                (Kind.Port Transport.Tcp Side.Destination, refl),
                (
                  (Kind.Port Transport.Udp Side.Source, refl),
                  (
                    (Kind.Port Transport.Udp Side.Destination, refl),
                    (
                      (Kind.Flags, refl),
                      (
                        (Kind.Syn, refl),
                        (
                          (Kind.Ports Side.Source, refl),
                          (
                            (Kind.Ports Side.Destination, refl),
                            (
                              (Kind.EitherPorts, refl),
                              (
                                (Kind.Addresses Side.Source, refl),
                                (
                                  (Kind.Addresses Side.Destination, refl),
                                  (
                                    (Kind.States, refl),
                                    (
                                      (Kind.States, refl),
                                      ((Kind.Comment, refl), ((Kind.IcmpType Messages.Icmp, refl), ((Kind.IcmpType Messages.Icmpv6, refl), tt))),
                                    ),
                                  ),
                                ),
                              ),
                            ),
                          ),
                        ),
                      ),
                    ),
                  ),
                ),
              ),
            ),
          ),
        ),
      ),
    ),
  ),
)

-- the form of each row is that of a kind
pub row_kind : (name option : Text) (row : Spelling) → row_of name option ≡ Some row
    → (k : Kind) × (row.form ≡ form_of k)
unfolding row_of
row_kind name option row is =
    found_each IsOfKind (λ (here : Spelling). bytes_eq here.name name && bytes_eq here.option option)
    known_options row is each_known

form_row_of : (o : Option Spelling) (f : Form) → Some f ≡ option_map (λ (row : Spelling). row.form) o
    → (row : Spelling) × ((o ≡ Some row) × (row.form ≡ f))
form_row_of None f e = let h : Some f ≡ None = e in absurd (cc h)
form_row_of (Some row) f e = let h : Some f ≡ Some row.form = e in (row, (refl, cc))

-- where a form is told there is a row
pub form_row : (name option : Text) (f : Form) → Some f ≡ form_named name option
    → (row : Spelling) × ((row_of name option ≡ Some row) × (row.form ≡ f))
form_row name option f e = form_row_of (row_of name option) f e

no_row_of : (o : Option Spelling) (row : Spelling) → None ≡ option_map (λ (row : Spelling). row.form) o
    → o ≡ Some row → ⊥
no_row_of None row e is = let h : None ≡ Some row = is in cc h
no_row_of (Some other) row e is = let h : None ≡ Some other.form = e in cc h

-- where none is told there is no row
pub no_row : (name option : Text) (row : Spelling) → None ≡ form_named name option → row_of name option ≡ Some row → ⊥
no_row name option row e is = no_row_of (row_of name option) row e is
