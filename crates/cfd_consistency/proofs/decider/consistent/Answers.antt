use Rattle.cfd_consistency.proofs.Questions.{law_named}
use Rattle.cfd_consistency.proofs.decider.consistent.Goals as goal

pub returns-in_err-asked-clause-law : goal.returns-in_err-asked-clause-law
returns-in_err-asked-clause-law c = law_named c.args.rules.now c.schema.ensures.valid c.args.table.now

pub returns-in_err-decide-clause-law : goal.returns-in_err-decide-clause-law
returns-in_err-decide-clause-law c = law_named c.args.rules.now c.schema.ensures.valid c.args.table.now

pub returns-clause-law : goal.returns-clause-law
returns-clause-law c = law_named c.args.rules.now c.schema.ensures.valid c.args.table.now
