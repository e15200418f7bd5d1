use Rattle.std.proofs.Common.{◌≡◌, false}
use Rattle.std.specs.Prelude.{find, map, slice_index_or, ◌==◌}
use Rattle.std.specs.List.{range_with_len}
use Rattle.schema_core.specs.Lookups.{domain_at}
use Rattle.cell_values.specs.Readings.{attr_text}
use Rattle.cell_values.proofs.readings.tuple_of.Given as goal

-- the texts so far
abbrev pub invariant-loop-attr : goal.invariant-loop-attr
invariant-loop-attr l = l.tuple ≡ map (λ attr. attr_text l.which l.cells (λ var. slice_index_or l.truth var false) attr (domain_at l.attrs attr) (find (λ cell. cell.attr == attr) l.cells)) (range_with_len 0 l.attr)
