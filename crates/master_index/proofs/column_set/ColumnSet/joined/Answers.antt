use Rattle.master_index.proofs.ColumnBits.{or_bits}
use Rattle.master_index.proofs.column_set.ColumnSet.joined.Goals as goal

pub returns : goal.returns
returns c = or_bits c.args.self.0 c.args.other.0
