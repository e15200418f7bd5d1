use Rattle.master_index.proofs.ColumnBits.{or_bit}
use Rattle.master_index.proofs.column_set.ColumnSet.with.Goals as goal

pub returns : goal.returns
returns c = or_bit c.args.self.0 c.args.column c.requires
