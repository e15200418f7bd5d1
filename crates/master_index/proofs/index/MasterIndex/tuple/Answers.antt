use Rattle.std.proofs.Common.{ap, ◌∙◌}
use Rattle.std.specs.FinMap as finite
use Rattle.master_index.proofs.index.MasterIndex.tuple.Goals as goal

pub returns : goal.returns
returns c = c.get.ensures ∙ ap (λ m. finite.get m.rows (c.args.master, c.args.row)) c.self.view_is
