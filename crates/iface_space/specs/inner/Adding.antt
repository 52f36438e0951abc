-- Patterns that are added one by one.
use Rattle.std.specs.Prelude.{if◌then◌else◌, List, [], ◌∷◌, ◌++◌}
use Rattle.std.specs.List.{list_any}
use Rattle.name_set.specs.declared.pattern.Pattern.{Pattern}
use Rattle.iface_space.specs.Tested.{same_pattern}

-- these patterns and one more, where it isn't among them
abbrev pub with_new : List Pattern → Pattern → List Pattern
with_new found by = if list_any (same_pattern by) found then found else found ++ by ∷ []
