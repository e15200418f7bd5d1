use Rattle.std.proofs.Common.{◌≡◌}
use Rattle.std.specs.Prelude.{map, filter}
use Rattle.std.specs.List.{range_with_len}
use Rattle.schema_core.specs.Lookups.{domain_at}
use Rattle.cell_values.specs.TableRules.{occurs}
use Rattle.cell_values.specs.Values.{cell_values}
use Rattle.cell_values.proofs.values.occurring.Given as goal

-- those so far
abbrev pub invariant-loop-attr : goal.invariant-loop-attr
invariant-loop-attr l = l.cells ≡ map (λ attr. cell_values l.rules attr (domain_at l.attrs attr)) (filter (occurs l.rules) (range_with_len 0 l.attr))
