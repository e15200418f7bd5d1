use Rattle.cert_check.specs.Shown.{IsShortText}
use Rattle.cell_values.proofs.Lists.{AllZip-long}
use Rattle.cert_check.proofs.tuples.is_short_tuple.Goals as goal

pub returns-then-attrs-tuple : goal.returns-then-attrs-tuple
returns-then-attrs-tuple c = (λ no. absurd cc, λ all. absurd (c.if-attrs-tuple.true (AllZip-long IsShortText c.args.attrs.now c.args.tuple.now all)))
