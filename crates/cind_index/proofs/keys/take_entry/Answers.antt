use Rattle.cind_index.proofs.KeyFacts.{key_found, nothing_less}
use Rattle.cind_index.proofs.keys.take_entry.Goals as goal

pub returns-in-Some-clause-left : goal.returns-in-Some-clause-left
returns-in-Some-clause-left g c = c.take_at.ensures.left c.args.key.now.items (key_found c.args.keys.now c.args.key.now c.in-Some.place c.in-Some.ensures.found)

pub returns-in_default-clause-left : goal.returns-in_default-clause-left
returns-in_default-clause-left g c = nothing_less c.args.keys.now c.args.key.now c.args.side c.args.pattern.now c.args.row c.in_default.ensures.absent
