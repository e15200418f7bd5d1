use Rattle.std.proofs.Common.{◌<◌, ◌^◌, arith}
use Rattle.std.proofs.lemmas.Nat.{or_lt}
use Rattle.rule_runs.proofs.MarkBits.{or_bit, or_bit-more, bit_below}
use Rattle.rule_runs.proofs.marks.Marks.with.Goals as goal

pub returns-clause-set : goal.returns-clause-set
returns-clause-set c = or_bit c.args.self.0 c.args.attr c.requires

pub returns-clause-more : goal.returns-clause-more
returns-clause-more c = or_bit-more c.args.self.0 c.args.attr c.requires

pub returns-clause-most : goal.returns-clause-most
returns-clause-most c =
    let fits : c.args.self.0 < 2 ^ 64 = omega arith in
    or_lt 64 c.args.self.0 _ fits (bit_below c.args.attr)
