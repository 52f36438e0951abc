use Rattle.std.proofs.Common.{◌≡◌, ◌++◌, ◌∷◌, get_or, take}
use Rattle.std.specs.Net.Text.{groups_text}
use Rattle.addr_text.proofs.ipv6.append_groups.Given as goal

abbrev pub invariant-loop-group : goal.invariant-loop-group
invariant-loop-group l = l.out.items ≡ l.fn.out.items ++ groups_text (get_or l.groups 0 0 ∷ take l.group-index l.rest)
