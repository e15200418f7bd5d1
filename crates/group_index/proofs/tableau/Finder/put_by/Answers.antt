use Rattle.group_index.proofs.tableau.Finder.put_by.Goals as goal

pub returns-in-In-clause-row : goal.returns-in-In-clause-row
returns-in-In-clause-row c = rw (c.in-In.is, ← c.as_slice.ensures) c.put_members.ensures.row
