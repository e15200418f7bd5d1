use Rattle.std.proofs.Common.{◌∙◌, subst}
use Rattle.case_tree.specs.Verdict.{IsVerdict}
use Rattle.case_tree.specs.declared.checker.Checked.{Checked}
use Rattle.cert_text.specs.declared.cert.NodeLine.{NodeLine}
use Rattle.cert_text.specs.declared.names.NodeName.TheVariants.{Open}
use Rattle.cert_check.specs.Shown.{nodes_of}
use Rattle.cert_check.proofs.NodeLines.{none_open, other_count, spent_holds, wrong_node, wrong_within}
use Rattle.cert_check.proofs.trees.spent_verdict.Goals as goal

any_line : NodeLine
any_line = record { line = 0; node = Open }

pub line_at-requires : goal.line_at-requires
line_at-requires c =
    let nodes = nodes_of c.requires.1 c.args.lines.now in
    wrong_within c.requires.0 c.requires.1 c.args.lines.now c.in-Wrong.node (subst (λ (checked : Checked). IsVerdict c.requires.0 nodes checked) c.in-Wrong.is c.requires.2)

pub returns-in-Closed : goal.returns-in-Closed
returns-in-Closed c set names verdict =
    let found = subst (λ (checked : Checked). IsVerdict set (nodes_of names c.args.lines.now) checked) c.in-Closed.is verdict in
    none_open set names c.args.lines.now c.args.line c.args.budget found.0

pub returns-then-leaves-budget : goal.returns-then-leaves-budget
returns-then-leaves-budget c set names verdict =
    let found = subst (λ (checked : Checked). IsVerdict set (nodes_of names c.args.lines.now) checked) c.in-Partial.is verdict in
    spent_holds set names c.args.lines.now c.args.line c.args.budget found.0 (found.1 ∙ c.if-leaves-budget.true)

pub returns-else-leaves-budget : goal.returns-else-leaves-budget
returns-else-leaves-budget c set names verdict =
    let found = subst (λ (checked : Checked). IsVerdict set (nodes_of names c.args.lines.now) checked) c.in-Partial.is verdict in
    other_count set names c.args.lines.now c.args.line c.args.budget c.in-Partial.leaves found.0 found.1 c.if-leaves-budget.false

pub returns-in-Wrong : goal.returns-in-Wrong
returns-in-Wrong c set names verdict =
    let found = subst (λ (checked : Checked). IsVerdict set (nodes_of names c.args.lines.now) checked) c.in-Wrong.is verdict in
    let line = c.line_at.ensures any_line in
    rw line (wrong_node set names c.args.lines.now c.args.line c.args.budget c.in-Wrong.node any_line found)
