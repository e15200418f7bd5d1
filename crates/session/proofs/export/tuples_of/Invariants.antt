use Rattle.std.proofs.Common.{◌≡◌, ◌++◌}
use Rattle.cfd_semantics.specs.Tuple.{tuples_of}
use Rattle.session.proofs.export.tuples_of.Given as goal

-- the tuples so far, and those of the rows that are left
abbrev pub invariant-loop-row : goal.invariant-loop-row
invariant-loop-row l = l.tuples ++ tuples_of l.row-iterator.rest.items ≡ tuples_of l.fn.rows
