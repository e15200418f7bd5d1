use Rattle.group_index.proofs.PairFacts.{put_from_insert}
use Rattle.group_index.proofs.group.Group.put.Goals as goal

pub returns-in_ok-insert-in-Many-clause-ok : goal.returns-in_ok-insert-in-Many-clause-ok
returns-in_ok-insert-in-Many-clause-ok c =
    rw c.in-Many.is (put_from_insert c.in-Many.pairs c.insert.new.self (c.args.a, c.args.row) c.in_ok-insert-in-Many.ensures.updates.0)
