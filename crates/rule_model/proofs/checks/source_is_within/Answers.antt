use Rattle.rule_model.proofs.checks.source_is_within.Goals as goal

pub returns : goal.returns
returns c = rw (← c.attrs_of.ensures, ← c.attrs_of-2.ensures, ← c.domain_of-source.ensures, ← c.domain_of-target.ensures) c.is_within.ensures
