use Rattle.std.proofs.Common.{length}
use Rattle.dep_search.proofs.Known.{parts_within}
use Rattle.dep_search.proofs.finder.push_open.Goals as goal

pub places-requires-clause-parts : goal.places-requires-clause-parts
places-requires-clause-parts c =
    rw (c.requires.parts) (parts_within (length c.args.table.now.columns.now) c.args.x.now c.requires.x)
