use Rattle.cfd_consistency.proofs.Questions.{law}
use Rattle.cfd_consistency.proofs.question.consistency_clauses.Goals as goal

pub returns-in_err-new-clause-law : goal.returns-in_err-new-clause-law
returns-in_err-new-clause-law c = law c.args.rules.now c.new.ensures.valid c.args.table

pub returns-clause-law : goal.returns-clause-law
returns-clause-law c = law c.args.rules.now c.new.ensures.valid c.args.table
