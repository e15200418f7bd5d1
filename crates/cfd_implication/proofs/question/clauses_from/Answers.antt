use Rattle.cfd_implication.proofs.Questions.{law}
use Rattle.cfd_implication.proofs.question.clauses_from.Goals as goal

pub returns-in_err-new-clause-law : goal.returns-in_err-new-clause-law
returns-in_err-new-clause-law c = law c.args.schema.now c.args.deps.now c.args.dep.now c.requires.schema c.requires.deps c.requires.dep

pub returns-clause-law : goal.returns-clause-law
returns-clause-law c = law c.args.schema.now c.args.deps.now c.args.dep.now c.requires.schema c.requires.deps c.requires.dep
