use Rattle.std.proofs.Common.{subst, arith}
use Rattle.case_tree.specs.Verdict.{IsVerdict}
use Rattle.case_tree.specs.declared.checker.Checked.{Checked}
use Rattle.cert_text.specs.declared.cert.NodeLine.{NodeLine}
use Rattle.cert_text.specs.declared.names.NodeName.TheVariants.{Open}
use Rattle.cert_check.specs.Shown.{nodes_of}
use Rattle.cert_check.proofs.NodeLines.{closed_holds, open_before_wrong, open_in_partial, some_open, wrong_first, wrong_within}
use Rattle.cert_check.proofs.trees.closed_verdict.Goals as goal

any_line : NodeLine
any_line = record { line = 0; node = Open }

pub line_at-requires : goal.line_at-requires
line_at-requires c =
    let names = c.requires.1 in
    let lines = c.args.lines.now in
    let found = subst (λ (checked : Checked). IsVerdict c.requires.0 (nodes_of names lines) checked) c.in-Partial.is c.requires.2 in
    omega (arith, c.open_place-open.ensures, some_open names lines found.0.open_node)

pub line_at-requires-then-node-open : goal.line_at-requires-then-node-open
line_at-requires-then-node-open c =
    let names = c.requires.1 in
    let lines = c.args.lines.now in
    wrong_within c.requires.0 names lines c.in-Wrong.node (subst (λ (checked : Checked). IsVerdict c.requires.0 (nodes_of names lines) checked) c.in-Wrong.is c.requires.2)

pub line_at-requires-else-node-open : goal.line_at-requires-else-node-open
line_at-requires-else-node-open c =
    let names = c.requires.1 in
    let lines = c.args.lines.now in
    omega (arith, c.if-node-open.false, wrong_within c.requires.0 names lines c.in-Wrong.node (subst (λ (checked : Checked). IsVerdict c.requires.0 (nodes_of names lines) checked) c.in-Wrong.is c.requires.2))

pub returns-in-Closed : goal.returns-in-Closed
returns-in-Closed c set names verdict =
    let found = subst (λ (checked : Checked). IsVerdict set (nodes_of names c.args.lines.now) checked) c.in-Closed.is verdict in
    closed_holds set names c.args.lines.now c.args.line found.0

pub returns-in-Partial : goal.returns-in-Partial
returns-in-Partial c set names verdict =
    let lines = c.args.lines.now in
    let found = subst (λ (checked : Checked). IsVerdict set (nodes_of names lines) checked) c.in-Partial.is verdict in
    let line = c.line_at.ensures any_line in
    rw line (open_in_partial set names lines c.args.line c.open_place-open.result any_line found.0 c.open_place-open.ensures)

pub returns-then-node-open : goal.returns-then-node-open
returns-then-node-open c set names verdict =
    let lines = c.args.lines.now in
    let found = subst (λ (checked : Checked). IsVerdict set (nodes_of names lines) checked) c.in-Wrong.is verdict in
    let line = c.line_at-then-node-open.ensures any_line in
    rw line (wrong_first set names lines c.args.line c.in-Wrong.node any_line found (omega (arith, c.open_place-open.ensures, c.if-node-open.true)) (wrong_within set names lines c.in-Wrong.node found))

pub returns-else-node-open : goal.returns-else-node-open
returns-else-node-open c set names verdict =
    let lines = c.args.lines.now in
    let found = subst (λ (checked : Checked). IsVerdict set (nodes_of names lines) checked) c.in-Wrong.is verdict in
    let line = c.line_at-else-node-open.ensures any_line in
    rw line (open_before_wrong set names lines c.args.line c.in-Wrong.node c.open_place-open.result any_line found c.open_place-open.ensures (omega (arith, c.if-node-open.false)))
