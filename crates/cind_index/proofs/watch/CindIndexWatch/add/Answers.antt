use Rattle.std.proofs.Common.{sym, ap, ◌∙◌}
use Rattle.row_store.specs.Tuple.{ids_of, ids_behind}
use Rattle.cind_index.specs.declared.side.Side.TheVariants.{Left, Right}
use Rattle.cind_index.specs.Entries.{table_on}
use Rattle.cind_index.specs.KeysHeld.{held}
use Rattle.cind_index.specs.Index.{made_of}
use Rattle.cind_index.proofs.WatchFacts.{present_on, wide_now, wide_if}
use Rattle.cind_index.proofs.SideFacts.{wide_here}
use Rattle.cind_index.proofs.watch.CindIndexWatch.add.Goals as goal

pub add_on-requires-clause-present : goal.add_on-requires-clause-present
add_on-requires-clause-present g c =
    present_on c.args.self.now c.make_room.new.self Left c.args.table c.args.row (ids_behind c.args.old) c.make_room.ensures.made (λ e. ap (λ keys. held keys Left e) c.make_room.ensures.keys) c.requires.present

pub add_on-requires-clause-wide_old : goal.add_on-requires-clause-wide_old
add_on-requires-clause-wide_old g c = wide_if (made_of c.args.self.now) (made_of c.make_room.new.self) c.args.table Left (ids_behind c.args.old) c.make_room.ensures.made c.requires.wide_old

pub add_on-requires-clause-wide_new : goal.add_on-requires-clause-wide_new
add_on-requires-clause-wide_new g c = wide_now (made_of c.args.self.now) (made_of c.make_room.new.self) c.args.table Left (ids_of c.args.new.now) c.make_room.ensures.made c.requires.wide_new

pub add_on-requires-2-clause-present : goal.add_on-requires-2-clause-present
add_on-requires-2-clause-present g c =
    present_on c.args.self.now c.add_on.new.self Right c.args.table c.args.row (ids_behind c.args.old) (c.in_ok-left.ensures.made.made ∙ c.make_room.ensures.made)
    (λ e. c.in_ok-left.ensures.ok.beside e ∙ ap (λ keys. held keys Right e) c.make_room.ensures.keys) c.requires.present

pub add_on-requires-2-clause-wide_old : goal.add_on-requires-2-clause-wide_old
add_on-requires-2-clause-wide_old g c = wide_if (made_of c.args.self.now) (made_of c.add_on.new.self) c.args.table Right (ids_behind c.args.old) (c.in_ok-left.ensures.made.made ∙ c.make_room.ensures.made) c.requires.wide_old

pub add_on-requires-2-clause-wide_new : goal.add_on-requires-2-clause-wide_new
add_on-requires-2-clause-wide_new g c = wide_now (made_of c.args.self.now) (made_of c.add_on.new.self) c.args.table Right (ids_of c.args.new.now) (c.in_ok-left.ensures.made.made ∙ c.make_room.ensures.made) c.requires.wide_new

pub take_back-requires-clause-wide : goal.take_back-requires-clause-wide
take_back-requires-clause-wide g c =
    let known = rw c.in-Some.is at c.in_ok-left.ensures.new in
    let made = c.in-Err.ensures.made.made ∙ c.in_ok-left.ensures.made.made in
    let here = known.0 ∙ ap (λ m. table_on m Left) (sym made) in
    let now = made_of c.add_on-2.new.self in
    wide_here now c.args.table Left (ids_of c.args.new.now) here (wide_now (made_of c.args.self.now) now c.args.table Left (ids_of c.args.new.now) (made ∙ c.make_room.ensures.made) c.requires.wide_new)
