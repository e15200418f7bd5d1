use Rattle.std.proofs.Common.{List, sym, ap, ◌∙◌, subst}
use Rattle.std.specs.FinMap as finite
use Rattle.row_store.specs.Tuple.{ids_of}
use Rattle.master_index.specs.declared.column_list.ColumnList.{ColumnList}
use Rattle.master_index.specs.Masters.{IsWideFor, MasterRows}
use Rattle.master_index.proofs.MasterRowFacts.{no_row}
use Rattle.library_tests.proofs.Masters.{masters-put, no_masters, wide_for}
use Rattle.library_tests.proofs.fix_runs.masters_of.Goals as goal

pub add-requires-clause-absent : goal.add-requires-clause-absent
add-requires-clause-absent g c = ap (λ (rows : MasterRows). finite.get rows (1, 1)) c.in_ok-masters.ensures.empty ∙ no_row 1 1

pub add-requires-clause-wide : goal.add-requires-clause-wide
add-requires-clause-wide g c =
    let lists = c.in_ok-masters.ensures.lists ∙ c.in_ok-lists.ensures.lists in
    subst (λ (lists : List ColumnList). IsWideFor lists 1 (ids_of c.args.row.now)) (sym lists) (wide_for c.args.rules.now 1 (ids_of c.args.row.now) c.in_ok-lists.ensures.book c.requires.wide)

pub returns : goal.returns
returns g c =
    let rules = c.args.rules.now in
    let pool = c.args.pool.now in
    let none = no_masters rules pool c.in_ok-masters.masters (c.in_ok-masters.ensures.lists ∙ c.in_ok-lists.ensures.lists) c.in_ok-masters.ensures.empty in
    masters-put rules pool c.in_ok-masters.masters c.add.new.self 1 1 (ids_of c.args.row.now) none c.in_ok-add.ensures.lists c.in_ok-add.ensures.ok (record { width = c.requires.wide; ids = c.requires.ids })
