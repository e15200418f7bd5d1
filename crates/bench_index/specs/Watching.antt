-- The two kinds of indexes as watches.
use Rattle.row_store.specs.declared.watch.Watch.{Ghosts}
use Rattle.group_index.specs.GroupSet.{GroupSet}
use Rattle.group_index.specs.contracts.index.GroupIndexWatch.TheImpl as group_impl
use Rattle.cind_index.specs.declared.index.CindIndex.{CindIndex}
use Rattle.cind_index.specs.contracts.watch.CindIndexWatch.TheImpl as cind_impl

abbrev pub group_watch : Ghosts GroupSet
group_watch = group_impl.ghosts

abbrev pub cind_watch : Ghosts CindIndex
cind_watch = cind_impl.ghosts
