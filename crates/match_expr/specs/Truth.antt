-- What is known of a match with several parts.
use Rattle.std.specs.Prelude.{Bool, true, false, List, if◌then◌else◌}
use Rattle.std.specs.List.{list_any}
use Rattle.match_expr.specs.declared.tri.Tri.{Tri}

abbrev pub is_no : Tri → Bool
is_no Tri.No = true
is_no Tri.Maybe = false
is_no Tri.Yes = false

abbrev pub is_maybe : Tri → Bool
is_maybe Tri.No = false
is_maybe Tri.Maybe = true
is_maybe Tri.Yes = false

-- no where a part is no, else maybe where a part is maybe, else yes
abbrev pub all_of : List Tri → Tri
all_of parts =
    if list_any is_no parts then Tri.No
    else if list_any is_maybe parts then Tri.Maybe
    else Tri.Yes
