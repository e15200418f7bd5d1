use Rattle.bench_core.proofs.target.Target.change.Goals as goal

pub returns-in-Insert-clause-edited : goal.returns-in-Insert-clause-edited
returns-in-Insert-clause-edited c = rw c.in-Insert.is c.insert.ensures.edited

pub returns-in-Set-clause-edited : goal.returns-in-Set-clause-edited
returns-in-Set-clause-edited c = rw c.in-Set.is c.set.ensures.edited

pub returns-in-Delete-clause-edited : goal.returns-in-Delete-clause-edited
returns-in-Delete-clause-edited c = rw c.in-Delete.is c.delete.ensures.edited

pub returns-in-Fix-clause-edited : goal.returns-in-Fix-clause-edited
returns-in-Fix-clause-edited c = rw c.in-Fix.is c.fix.ensures.edited
