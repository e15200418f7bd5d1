use Rattle.std.proofs.Common.{◌≡◌, ◌++◌, take}
use Rattle.std.specs.List.{flat_map}
use Rattle.view_refusal.specs.Hints.{domain_if_named}
use Rattle.view_refusal.proofs.hints.push_named_domains.Given as goal

abbrev pub invariant-loop-table : goal.invariant-loop-table
invariant-loop-table l = l.out.items ≡ l.fn.out.items ++ flat_map (domain_if_named l.tokens l.attr) (take l.table-index l.tables)
