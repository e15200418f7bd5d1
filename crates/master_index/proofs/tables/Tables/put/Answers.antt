use Rattle.std.proofs.Common.{sym, ◌∙◌}
use Rattle.row_store.specs.Tuple.{ids_of}
use Rattle.master_index.proofs.TableRows.{room_within, row_in, row_put}
use Rattle.master_index.proofs.tables.Tables.put.Goals as goal

pub put_back-requires-clause-absent : goal.put_back-requires-clause-absent
put_back-requires-clause-absent c =
    let items = c.args.self.now.stores.items in
    sym (row_in items c.args.table c.args.row c.index_mut.result.now (room_within items c.args.table c.args.row c.requires.room) c.index_mut.ensures.value) ∙ c.requires.absent

pub returns : goal.returns
returns c =
    let items = c.args.self.now.stores.items in
    row_put items c.args.table c.index_mut.result.now c.put_back.new.self (room_within items c.args.table c.args.row c.requires.room) c.index_mut.ensures.value c.args.row (ids_of c.args.tuple) c.put_back.ensures.rows
