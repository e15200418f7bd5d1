use Rattle.std.proofs.Common.{sym, subst}
use Rattle.group_index.specs.GroupSet.{GroupsMade}
use Rattle.group_index.specs.Answers.{IsSettled}
use Rattle.group_index.proofs.DirtyPlaces.{dirty_are_marked}
use Rattle.group_index.proofs.index.GroupIndex.dirty.Goals as goal

pub returns-clause-groups : goal.returns-clause-groups
returns-clause-groups c settled =
    let made : GroupsMade = record { table = c.self.inside.table; dependency = record { x = c.self.inside.x; a = c.self.inside.a; rows = c.self.inside.tableau } } in
    dirty_are_marked made c.self.inside.groups c.args.self.now c.marked.result c.self.view_is c.len-len.ensures.distinct (subst IsSettled (sym c.self.view_is) settled) c.self.invariant.marks c.marked.ensures.within c.marked.ensures.marked
