use Rattle.std.specs.Prelude.{◌≡◌, ℕ, ◌<◌, Some, slice_get}
use Rattle.cfd_semantics.specs.declared.dependency.TableauRow.{TableauRow}
use Rattle.group_index.specs.Tableaux.{FindsRow}
use Rattle.group_index.proofs.tableau.finder_of.Given as goal

-- the rows so far are found
abbrev pub invariant-loop-k : goal.invariant-loop-k
invariant-loop-k l = (at : ℕ) (t : TableauRow ℕ) → at < l.k → slice_get l.rows at ≡ Some t → FindsRow l.finder at t
