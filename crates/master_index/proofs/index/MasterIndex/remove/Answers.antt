use Rattle.std.proofs.Common.{None, sym, ap, subst, ◌∙◌, arith}
use Rattle.std.specs.Prelude.{All}
use Rattle.std.specs.FinMap as finite
use Rattle.row_store.specs.Tuple.{ids_of}
use Rattle.master_index.specs.Between.{in_rows, with_one}
use Rattle.master_index.specs.InStep.{IndexIsBetween, IsInStepWith}
use Rattle.master_index.specs.Masters.{IsWideFor, MasterRows}
use Rattle.master_index.specs.Tables.{rows_of_tables}
use Rattle.master_index.proofs.IndexLists.{lists_in}
use Rattle.master_index.proofs.MasterRowFacts.{row_after_remove}
use Rattle.master_index.proofs.MasterSteps.{row_is_wide, row_left, written_whole, kept_later, going_each}
use Rattle.master_index.proofs.index.MasterIndex.remove.Goals as goal

pub take_from_each-requires-clause-wide : goal.take_from_each-requires-clause-wide
take_from_each-requires-clause-wide g c =
    let old = ids_of c.take-tuple.result in
    let wide = row_is_wide c.self.inside.columns.items (rows_of_tables c.self.inside.tables.stores.items) c.args.master c.args.row c.self.invariant.wide old c.take-tuple.ensures.old in
    subst (λ xs. IsWideFor (lists_in xs) c.args.master old) (sym c.as_mut_slice-columns.ensures.value) wide

-- the row is gone
pub take_from_each-requires-clause-wide_left : goal.take_from_each-requires-clause-wide_left
take_from_each-requires-clause-wide_left g c ids there =
    absurd (row_left (rows_of_tables c.self.inside.tables.stores.items) (rows_of_tables c.take-tuple.new.self.stores.items) c.args.master c.args.row c.take-tuple.ensures.rows ids there)

pub take_from_each-requires-clause-between : goal.take_from_each-requires-clause-between
take_from_each-requires-clause-between g c =
    let was = c.self.inside.columns.items in
    let rows = rows_of_tables c.self.inside.tables.stores.items in
    let old = ids_of c.take-tuple.result in
    let each = going_each was rows c.args.master c.args.row old c.take-tuple.ensures.old c.self.invariant.in_step in
    subst (λ (m : MasterRows). All (IndexIsBetween (in_rows m) (with_one (in_rows m) c.args.master c.args.row old)) c.as_mut_slice-columns.result.now) (sym c.take-tuple.ensures.rows)
    (subst (All (IndexIsBetween (in_rows (finite.remove rows (c.args.master, c.args.row))) (with_one (in_rows (finite.remove rows (c.args.master, c.args.row))) c.args.master c.args.row old)))
    (sym c.as_mut_slice-columns.ensures.value) each)

pub invariant_of-self : goal.invariant_of-self
invariant_of-self g c =
    let was = c.self.inside.columns.items in
    let new = c.take_from_each.new.columns in
    let rows = rows_of_tables c.self.inside.tables.stores.items in
    let lists = c.take_from_each.ensures.lists ∙ ap lists_in c.as_mut_slice-columns.ensures.value in
    let whole = written_whole c.self.inside.columns.len was new (omega arith) lists in
    rw (whole, c.take-tuple.ensures.rows) (kept_later was new rows (finite.remove rows (c.args.master, c.args.row)) c.args.master c.args.row None c.self.invariant.wide lists tt
    (λ t r. row_after_remove rows c.args.master c.args.row t r) (subst (λ (m : MasterRows). All (IsInStepWith m) new) c.take-tuple.ensures.rows c.take_from_each.ensures.in_step))

pub returns-clause-rows : goal.returns-clause-rows
returns-clause-rows g c =
    c.take-tuple.ensures.rows ∙ ap (λ m. finite.remove m.rows (c.args.master, c.args.row)) c.self.view_is

pub returns-clause-lists : goal.returns-clause-lists
returns-clause-lists g c =
    let was = c.self.inside.columns.items in
    let lists = c.take_from_each.ensures.lists ∙ ap lists_in c.as_mut_slice-columns.ensures.value in
    rw (written_whole c.self.inside.columns.len was c.take_from_each.new.columns (omega arith) lists) (lists ∙ ap (λ m. m.lists) c.self.view_is)
