use Rattle.std.proofs.Common.{refl}
use Rattle.row_store.specs.Tuple.{ids_of, ids_behind}
use Rattle.cind_index.specs.declared.side.Side.TheVariants.{Left, Right}
use Rattle.cind_index.specs.Index.{made_of}
use Rattle.cind_index.proofs.WatchFacts.{present_both, wide_now, wide_if}
use Rattle.cind_index.proofs.watch.CindIndexWatch.remove.Goals as goal

pub remove_on-requires-clause-present : goal.remove_on-requires-clause-present
remove_on-requires-clause-present g c =
    present_both c.args.self.now c.args.self.now Left c.args.table c.args.row (ids_of c.args.old.now) (ids_behind c.args.new) refl (λ e. refl) c.requires.present

pub remove_on-requires-clause-wide_old : goal.remove_on-requires-clause-wide_old
remove_on-requires-clause-wide_old g c = wide_now (made_of c.args.self.now) (made_of c.args.self.now) c.args.table Left (ids_of c.args.old.now) refl c.requires.wide_old

pub remove_on-requires-clause-wide_new : goal.remove_on-requires-clause-wide_new
remove_on-requires-clause-wide_new g c = wide_if (made_of c.args.self.now) (made_of c.args.self.now) c.args.table Left (ids_behind c.args.new) refl c.requires.wide_new

pub remove_on-requires-2-clause-present : goal.remove_on-requires-2-clause-present
remove_on-requires-2-clause-present g c =
    present_both c.args.self.now c.remove_on.new.self Right c.args.table c.args.row (ids_of c.args.old.now) (ids_behind c.args.new) c.remove_on.ensures.made.made c.remove_on.ensures.beside c.requires.present

pub remove_on-requires-2-clause-wide_old : goal.remove_on-requires-2-clause-wide_old
remove_on-requires-2-clause-wide_old g c = wide_now (made_of c.args.self.now) (made_of c.remove_on.new.self) c.args.table Right (ids_of c.args.old.now) c.remove_on.ensures.made.made c.requires.wide_old

pub remove_on-requires-2-clause-wide_new : goal.remove_on-requires-2-clause-wide_new
remove_on-requires-2-clause-wide_new g c = wide_if (made_of c.args.self.now) (made_of c.remove_on.new.self) c.args.table Right (ids_behind c.args.new) c.remove_on.ensures.made.made c.requires.wide_new
