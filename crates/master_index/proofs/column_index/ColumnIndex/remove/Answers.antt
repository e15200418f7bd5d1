use Rattle.std.proofs.Common.{◌≡◌, ℕ, List, Some, false, sym, ap, subst, ◌∙◌, arith}
use Rattle.std.specs.FinMap as finite
use Rattle.std.specs.Str.{bytes_eq}
use Rattle.std.proofs.lemmas.Bool.Decides.{nat_tests}
use Rattle.std.proofs.lemmas.Option.{none-some, same_Some}
use Rattle.std.proofs.lemmas.Slice.Eq.{bytes_eq-Decides}
use Rattle.row_store.specs.Tuple.{ids_at, ids_of}
use Rattle.master_index.specs.ColumnRows.{IsTakenFrom}
use Rattle.master_index.specs.Between.{IsBetween, in_rows, with_one}
use Rattle.master_index.specs.Tables.{rows_of_tables}
use Rattle.master_index.proofs.BetweenFacts.{after_take, stays_under}
use Rattle.master_index.proofs.column_index.ColumnIndex.remove.Goals as goal
use Rattle.master_index.proofs.column_index.ColumnIndex.remove.Goals.{in-Some+else-agree, in_default}

pub returns-then-agree-clause-in_step : goal.returns-then-agree-clause-in_step
returns-then-agree-clause-in_step g c =
    let list = c.args.self.now.list in
    let old = c.args.self.now.rows.entries in
    let rows = rows_of_tables c.args.tables.now.stores.items in
    let tuple = ids_of c.args.tuple.now in
    let left = ids_of c.in-Some.left.now in
    let here : c.args.master ≡ list.master = grind (arith, nat_tests, c.if-master-self.false) in
    let got = subst (λ n. finite.get rows (n, c.args.row) ≡ Some left) here (sym c.in-Some.ensures) in
    let alike = (bytes_eq-Decides (ids_at left c.as_slice-columns.result.now) (ids_at tuple c.as_slice-columns.result.now)).0 (sym c.agree.ensures ∙ c.if-agree.true) in
    stays_under rows list old old c.args.row tuple (subst (λ n. IsBetween (in_rows rows) (with_one (in_rows rows) n c.args.row tuple) list old) here c.requires.between) left got
    (subst (λ columns. ids_at left columns ≡ ids_at tuple columns) c.as_slice-columns.ensures alike)

pub returns-clause-in_step : goal.returns-clause-in_step
returns-clause-in_step g c =
    let list = c.args.self.now.list in
    let old = c.args.self.now.rows.entries in
    let new = c.take_row.new.map.entries in
    let row = c.args.row in
    let rows = rows_of_tables c.args.tables.now.stores.items in
    let tuple = ids_of c.args.tuple.now in
    let here : c.args.master ≡ list.master = grind (arith, nat_tests, c.if-master-self.false) in
    let key = c.as_slice.ensures ∙ c.write_key.ensures.ids ∙ ap (ids_at tuple) c.as_slice-columns.ensures in
    let Apart = λ (n : ℕ). (left : List ℕ) → finite.get rows (n, row) ≡ Some left → bytes_eq (ids_at left list.columns) (ids_at tuple list.columns) ≡ false in
    let apart : Apart c.args.master = λ left got. elim c.match-get.branch [
      | in-Some+else-agree w ↦
          let same : ids_of w.in-Some.left.now ≡ left = same_Some (ids_of w.in-Some.left.now) left (w.in-Some.ensures ∙ got) in
          subst (λ columns. bytes_eq (ids_at left columns) (ids_at tuple columns) ≡ false) c.as_slice-columns.ensures
          (subst (λ ids. bytes_eq (ids_at ids c.as_slice-columns.result.now) (ids_at tuple c.as_slice-columns.result.now) ≡ false) same (sym w.agree.ensures ∙ w.if-agree.false))
      | in_default w ↦ absurd (none-some left (w.in_default.ensures ∙ got))
    ] in
    after_take rows list old new row tuple (subst (λ n. IsBetween (in_rows rows) (with_one (in_rows rows) n row tuple) list old) here c.requires.between)
    (subst (λ ids. IsTakenFrom old new ids row) key c.take_row.ensures.left) c.take_row.ensures.noted (subst Apart here apart)
