use Rattle.project_flaws.proofs.ItemAt.{item_at}
use Rattle.project_flaws.proofs.items.item.Goals as goal

pub returns : goal.returns
returns g c = item_at c.args.items.now c.args.place c.get.result c.get.ensures.lookup.0 c.get.ensures.lookup.1
