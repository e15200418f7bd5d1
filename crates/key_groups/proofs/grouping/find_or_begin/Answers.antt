use Rattle.std.proofs.Common.{rules}
use Rattle.indexmap.proofs.CallerLemmas.{insert_entry-new}
use Rattle.key_groups.proofs.grouping.find_or_begin.Goals as goal

-- what an entry's `insert` leaves at a new key is the entries and its own
pub returns-in-Ok-Vacant-clause-begun : goal.returns-in-Ok-Vacant-clause-begun
returns-in-Ok-Vacant-clause-begun g c none =
    rw (← insert_entry-new g.K.PartialEq.eq c.args.groups.now c.args.key c.args.none none) (search rules)
