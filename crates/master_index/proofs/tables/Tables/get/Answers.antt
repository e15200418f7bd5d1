use Rattle.std.proofs.Common.{◌<◌, ◌≤◌, length, get_or, sym, ap, ◌∙◌, arith}
use Rattle.std.proofs.lemmas.Bool.Decides.{nat_tests}
use Rattle.std.proofs.lemmas.Bool.{ltb-true}
use Rattle.row_store.specs.Tuple.{ids_behind}
use Rattle.master_index.proofs.TableRows.{row_in, no_table}
use Rattle.master_index.proofs.tables.Tables.get.Goals as goal

pub returns-in_err-get : goal.returns-in_err-get
returns-in_err-get c =
    let items = c.args.self.now.stores.items in
    let past : length items ≤ c.args.table = grind (arith, nat_tests, c.in_err-get.ensures.lookup, c.deref.ensures.value) in
    ap ids_behind c.from_residual.ensures ∙ sym (no_table items c.args.table c.args.row past)

pub returns : goal.returns
returns c =
    let items = c.args.self.now.stores.items in
    let store = c.in_ok-get.field-0.now in
    let within : c.args.table < length items = omega (arith, ltb-true c.args.table (length c.deref.result.now) (sym c.in_ok-get.ensures.lookup.0), ap length c.deref.ensures.value) in
    let at = c.in_ok-get.ensures.lookup.1 ∙ ap (λ xs. get_or xs c.args.table store) c.deref.ensures.value in
    c.get-2.ensures ∙ sym (row_in items c.args.table c.args.row store within at)
