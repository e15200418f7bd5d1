use Rattle.cert_check.proofs.tuples.satisfy_of.Goals as goal

pub returns : goal.returns
returns c = (λ yes here. c.in_ok-yes.ensures.0 yes, λ holds. c.in_ok-yes.ensures.1 (holds c.if-dep-table.false))
