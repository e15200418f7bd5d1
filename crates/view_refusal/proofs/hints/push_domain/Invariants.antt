use Rattle.std.proofs.Common.{◌≡◌, ◌++◌, take}
use Rattle.std.specs.List.{flat_map}
use Rattle.view_refusal.specs.Hints.{attr_domain}
use Rattle.view_refusal.proofs.hints.push_domain.Given as goal

abbrev pub invariant-loop-attr : goal.invariant-loop-attr
invariant-loop-attr l = l.out.items ≡ l.fn.out.items ++ flat_map (attr_domain l.table.name l.name) (take l.attr-index l.table.attrs)
