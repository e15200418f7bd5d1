use Rattle.std.proofs.Common.{ℕ, List, Option, sym, subst}
use Rattle.case_tree.specs.Verdict.{IsVerdict}
use Rattle.case_tree.specs.declared.tree.Node.{Node}
use Rattle.cert_check.specs.Verdict.{TreePasses}
use Rattle.cert_check.proofs.NodeLines.{asks_with, lines_of}
use Rattle.cert_check.proofs.trees.check_tree.Goals as goal

pub closed_verdict-requires : goal.closed_verdict-requires
closed_verdict-requires c = (c.args.clauses.now, c.args.names.now, subst (λ (nodes : List Node). IsVerdict c.args.clauses.now nodes c.in_ok-checked.checked) c.in_ok-tree.ensures c.in_ok-checked.ensures)

pub spent_verdict-requires : goal.spent_verdict-requires
spent_verdict-requires c = (c.args.clauses.now, c.args.names.now, subst (λ (nodes : List Node). IsVerdict c.args.clauses.now nodes c.in_ok-checked.checked) c.in_ok-tree.ensures c.in_ok-checked.ensures)

pub returns-in-None : goal.returns-in-None
returns-in-None c =
    let clauses = c.args.clauses.now in
    let names = c.args.names.now in
    let lines = c.args.lines.now in
    let found = c.closed_verdict.ensures clauses names (subst (λ (nodes : List Node). IsVerdict clauses nodes c.in_ok-checked.checked) c.in_ok-tree.ensures c.in_ok-checked.ensures) in
    subst (λ (budget : Option ℕ). TreePasses (asks_with clauses names) (lines_of lines.line budget lines.nodes) c.closed_verdict.result) (sym c.in-None.is) found

pub returns : goal.returns
returns c =
    let clauses = c.args.clauses.now in
    let names = c.args.names.now in
    let lines = c.args.lines.now in
    let found = c.spent_verdict.ensures clauses names (subst (λ (nodes : List Node). IsVerdict clauses nodes c.in_ok-checked.checked) c.in_ok-tree.ensures c.in_ok-checked.ensures) in
    subst (λ (budget : Option ℕ). TreePasses (asks_with clauses names) (lines_of lines.line budget lines.nodes) c.spent_verdict.result) (sym c.in-Some.is) found
