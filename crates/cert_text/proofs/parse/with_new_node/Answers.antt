use Rattle.std.proofs.Common.{◌≤◌, ap, sym, subst, ◌∙◌, arith}
use Rattle.std.proofs.lemmas.Result.{err_from_is_err_and}
use Rattle.line_grammar.proofs.FaultLemmas.{told_on}
use Rattle.cert_text.specs.declared.answers.Kind.{Kind}
use Rattle.cert_text.specs.declared.cert.NodeLine.{NodeLine}
use Rattle.cert_text.specs.CertFiles.{kind_of, read_whole}
use Rattle.cert_text.specs.CertLines.{node_at}
use Rattle.cert_text.specs.Written.{IsNodeOf}
use Rattle.cert_text.proofs.NodeTexts.{exact_added, node_added, node_fault, none_may_stand, seen_added, seen_new, spells, tree_added, tree_more}
use Rattle.cert_text.proofs.parse.with_new_node.Goals as goal

pub returns-then-missing-eq0-clause-exact : goal.returns-then-missing-eq0-clause-exact
returns-then-missing-eq0-clause-exact c =
    none_may_stand c.args.asked.now c.args.tree.now c.args.missing c.args.number c.args.text.now c.in-Some.content c.no_line.result c.if-missing-eq0.true (sym c.in-Some.is ∙ c.content_of.ensures) c.no_line.ensures

pub returns-in_err-node-clause-exact : goal.returns-in_err-node-clause-exact
returns-in_err-node-clause-exact c =
    let p = err_from_is_err_and c.from_residual.result c.from_residual.ensures.1 in
    let some : 1 ≤ c.args.missing = omega arith in
    rw (p.1, p.2)
    (told_on _ _ _ (λ fault e. node_fault c.args.asked.now c.args.tree.now c.args.missing c.args.number c.args.text.now c.in-Some.content fault some (sym c.in-Some.is ∙ c.content_of.ensures)
    (ap (λ (k : Kind). read_whole (node_at k) (record { number = c.args.number; content = c.in-Some.content })) (sym c.kind_of.ensures) ∙ e)) c.in_err-node.ensures.exact)

pub returns-clause-exact : goal.returns-clause-exact
returns-clause-exact c =
    let some : 1 ≤ c.args.missing = omega arith in
    let read = ap (λ (k : Kind). read_whole (node_at k) (record { number = c.args.number; content = c.in-Some.content })) (sym c.kind_of.ensures) ∙ c.in_ok-node.ensures.exact in
    let node = spells (kind_of c.args.asked.now.question) c.args.number c.args.text.now c.in-Some.content c.in_ok-node.node (sym c.in-Some.is ∙ c.content_of.ensures) read in
    exact_added c.args.asked.now c.args.tree.now c.push_new.new.tree c.args.missing c.args.number c.in_ok-node.node _ c.push_new.result
    (node_added c.args.asked.now c.args.tree.now c.args.missing c.args.number c.args.text.now c.in_ok-node.node some node) c.push_new.ensures.count c.push_new.ensures.tree c.push_new.ensures.memory

pub returns-clause-tree : goal.returns-clause-tree
returns-clause-tree c =
    let kind = kind_of c.args.asked.now.question in
    let some : 1 ≤ c.args.missing = omega arith in
    let node = subst (λ (k : Kind). IsNodeOf k c.in_ok-node.node) c.kind_of.ensures c.in_ok-node.ensures.fit in
    tree_added kind c.args.tree.now c.push_new.new.tree c.args.missing c.args.number c.in_ok-node.node c.push_new.result
    (tree_more kind c.args.tree.now c.args.missing c.args.number c.in_ok-node.node some node c.requires.tree) c.push_new.ensures.count c.push_new.ensures.tree

pub returns-clause-seen : goal.returns-clause-seen
returns-clause-seen c =
    let kind = kind_of c.args.asked.now.question in
    let line : NodeLine = record { line = c.args.number; node = c.in_ok-node.node } in
    let read = ap (λ (k : Kind). read_whole (node_at k) (record { number = c.args.number; content = c.in-Some.content })) (sym c.kind_of.ensures) ∙ c.in_ok-node.ensures.exact in
    let node = spells kind c.args.number c.args.text.now c.in-Some.content c.in_ok-node.node (sym c.in-Some.is ∙ c.content_of.ensures) read in
    seen_added kind c.args.tree.now c.push_new.new.tree c.args.number c.in_ok-node.node _ c.push_new.new.seen c.push_new.result
    (seen_new kind c.args.tree.now.nodes line c.args.seen.now c.args.text.now node c.requires.seen) c.push_new.ensures.tree c.push_new.ensures.seen
