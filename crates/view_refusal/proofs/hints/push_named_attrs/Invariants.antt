use Rattle.std.proofs.Common.{◌≡◌, ◌++◌, take}
use Rattle.std.specs.List.{flat_map}
use Rattle.view_refusal.specs.Hints.{attrs_if_named}
use Rattle.view_refusal.proofs.hints.push_named_attrs.Given as goal

abbrev pub invariant-loop-table : goal.invariant-loop-table
invariant-loop-table l = l.out.items ≡ l.fn.out.items ++ flat_map (attrs_if_named l.tokens) (take l.table-index l.tables)
