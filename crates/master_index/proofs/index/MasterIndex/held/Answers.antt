use Rattle.std.proofs.Common.{◌<◌, ℕ, length, get_or, sym, ap, subst, ◌∙◌, arith}
use Rattle.std.specs.Prelude.{map, All, Contains, IfSome, MatchOption}
use Rattle.std.specs.FinMap as finite
use Rattle.master_index.specs.declared.column_list.ColumnList.{ColumnList}
use Rattle.master_index.specs.Masters.{Masters, IsRowWith}
use Rattle.master_index.specs.Tables.{rows_of_tables}
use Rattle.master_index.specs.InStep.{AreRowsWith, IsInStepWith}
use Rattle.master_index.proofs.MatchFacts.{held_under, not_handed, reaches_list}
use Rattle.master_index.proofs.index.MasterIndex.held.Goals as goal

pub returns-then-is_of : goal.returns-then-is_of
returns-then-is_of c =
    let wanted : ColumnList = record { master = c.args.master; columns = c.args.columns.now } in
    let index = c.index-item.result in
    let ids = c.args.ids.now in
    let rows = rows_of_tables c.self.inside.tables.stores.items in
    let at = c.index-item.is ∙ ap (λ xs. get_or xs c.loop-index.index-index index) c.deref-index-items.ensures.value in
    let within : c.loop-index.index-index < length c.self.inside.columns.items = omega (arith, c.loop-index-test.true, ap length c.deref-index-items.ensures.value) in
    let in_step = subst (IsInStepWith rows) (sym at) (c.self.invariant.in_step c.loop-index.index-index index within) in
    let of_list = c.is_of.ensures.0 c.if-is_of.true in
    let handed = subst (λ m. Contains m.lists wanted) (sym c.self.view_is) c.requires in
    let wide = λ (row : ℕ). reaches_list (finite.get rows (c.args.master, row)) (map (λ other. other.list) c.self.inside.columns.items) wanted handed (c.self.invariant.wide c.args.master row) in
    subst (λ (m : Masters). MatchOption c.rows.result ((row : ℕ) → ¬ IsRowWith m.rows c.args.master c.args.columns.now ids row) (λ held. AreRowsWith m.rows c.args.master c.args.columns.now ids held.now)) c.self.view_is
    (subst (λ (list : ColumnList). ((row : ℕ) → IfSome (finite.get rows (list.master, row)) (λ tuple. All (λ column. column < length tuple) list.columns)) → MatchOption c.rows.result ((row : ℕ) → ¬ IsRowWith rows list.master list.columns ids row) (λ held. AreRowsWith rows list.master list.columns ids held.now)) of_list
    (λ reaches. held_under rows index.list index.rows.entries ids in_step index.kept.rising reaches c.rows.result c.rows.ensures) wide)

pub returns : goal.returns
returns c row with_ids =
    let wanted : ColumnList = record { master = c.args.master; columns = c.args.columns.now } in
    let handed = subst (λ m. Contains m.lists wanted) (sym c.self.view_is) c.requires in
    absurd (not_handed c.self.inside.columns.items wanted (λ k d within same. c.loop-index.invariant k d (omega (arith, within, ap length c.deref-index-items.ensures.value)) (ap (λ xs. (get_or xs k d).list) c.deref-index-items.ensures.value ∙ same)) handed)
