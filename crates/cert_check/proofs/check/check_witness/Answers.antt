use Rattle.cert_check.proofs.check.check_witness.Goals as goal

pub returns-then-satisfied : goal.returns-then-satisfied
returns-then-satisfied c = (c.is_tuple_of.ensures.0 c.if-not-is_tuple_of.false, (c.in_ok-satisfied.ensures.0 c.if-satisfied.true, tt))
