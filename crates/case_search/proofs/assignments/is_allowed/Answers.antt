use Rattle.case_search.proofs.assignments.is_allowed.Goals as goal

pub returns-clause-allowed : goal.returns-clause-allowed
returns-clause-allowed c = λ yes. record {
  at_most_one = c.are_cells_right.ensures.most c.if-not-are_cells_right.false;
  one_demanded = c.are_cells_right.ensures.least c.if-not-are_cells_right.false;
  clauses_true = c.are_clauses_true.ensures yes;
}
