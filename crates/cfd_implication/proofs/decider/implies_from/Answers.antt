use Rattle.cfd_implication.proofs.Questions.{law}
use Rattle.cfd_implication.proofs.decider.implies_from.Goals as goal

pub returns-in_err-asked-clause-law : goal.returns-in_err-asked-clause-law
returns-in_err-asked-clause-law c = law c.args.schema.now c.args.deps.now c.args.dep.now c.requires.schema c.requires.deps c.requires.dep c.requires.row

pub returns-clause-law : goal.returns-clause-law
returns-clause-law c = law c.args.schema.now c.args.deps.now c.args.dep.now c.requires.schema c.requires.deps c.requires.dep c.requires.row
