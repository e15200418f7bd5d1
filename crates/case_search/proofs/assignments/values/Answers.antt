use Rattle.std.proofs.Common.{Bool, List, ◌∷◌, ◌++◌, [], sym, ap, ◌∙◌}
use Rattle.case_tree.specs.CaseTree.{value_on}
use Rattle.case_search.specs.Model.{values_of}
use Rattle.case_search.proofs.Models.{is_true_from, values_of-more}
use Rattle.case_search.proofs.assignments.values.Goals as goal

pub loop-var-preserved : goal.loop-var-preserved
loop-var-preserved c =
    c.in_ok-push.ensures.items ∙ ap (λ (xs : List Bool). xs ++ c.gives.result ∷ []) c.loop-var.invariant
    ∙ ap (λ (b : Bool). values_of c.args.trail.now.path c.loop-var.var ++ b ∷ []) (is_true_from c.gives.result (value_on c.args.trail.now.path c.loop-var.var) c.gives.ensures)
    ∙ sym (values_of-more c.args.trail.now.path c.loop-var.var)
