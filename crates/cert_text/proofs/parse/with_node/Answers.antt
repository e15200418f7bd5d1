use Rattle.std.proofs.Common.{ℕ, ◌≤◌, List, get_or, arith}
use Rattle.std.proofs.lemmas.List.Elements.{All-contains}
use Rattle.cert_text.specs.declared.cert.NodeLine.{NodeLine}
use Rattle.cert_text.specs.declared.names.NodeName.TheVariants.{Open}
use Rattle.cert_text.specs.CertFiles.{kind_of}
use Rattle.cert_text.specs.NodeTexts.{IsReadAs}
use Rattle.cert_text.proofs.NodeTexts.{exact_added, node_added, seen_kept, seen_still, tree_added, tree_more}
use Rattle.cert_text.proofs.parse.with_node.Goals as goal

any_line : NodeLine
any_line = record { line = 0; node = Open }

pub returns-in-Some-clause-exact : goal.returns-in-Some-clause-exact
unfolding any_line
returns-in-Some-clause-exact c =
    let kind = kind_of c.args.asked.now.question in
    let tree = c.args.tree.now in
    let some : 1 ≤ c.args.missing = omega arith in
    let found = All-contains (λ (line : List ℕ × ℕ). IsReadAs kind tree.nodes line.0 line.1) c.args.seen.now _ c.requires.seen c.in-Some.ensures in
    let node = (get_or tree.nodes c.in-Some.place any_line).node in
    exact_added c.args.asked.now tree c.push_again.new.tree c.args.missing c.args.number node _ c.push_again.result
    (node_added c.args.asked.now tree c.args.missing c.args.number c.args.text.now node some (found.node any_line)) (c.push_again.ensures.count any_line) (c.push_again.ensures.tree any_line) c.push_again.ensures.memory

pub returns-in-Some-clause-tree : goal.returns-in-Some-clause-tree
returns-in-Some-clause-tree c =
    let kind = kind_of c.args.asked.now.question in
    let tree = c.args.tree.now in
    let some : 1 ≤ c.args.missing = omega arith in
    let found = All-contains (λ (line : List ℕ × ℕ). IsReadAs kind tree.nodes line.0 line.1) c.args.seen.now _ c.requires.seen c.in-Some.ensures in
    let node = (get_or tree.nodes c.in-Some.place any_line).node in
    tree_added kind tree c.push_again.new.tree c.args.missing c.args.number node c.push_again.result
    (tree_more kind tree c.args.missing c.args.number node some (c.requires.tree.nodes c.in-Some.place any_line found.within) c.requires.tree) (c.push_again.ensures.count any_line) (c.push_again.ensures.tree any_line)

pub returns-in-Some-clause-seen : goal.returns-in-Some-clause-seen
returns-in-Some-clause-seen c =
    let kind = kind_of c.args.asked.now.question in
    let tree = c.args.tree.now in
    let node = (get_or tree.nodes c.in-Some.place any_line).node in
    seen_kept kind tree c.push_again.new.tree c.args.number node c.args.seen.now c.push_again.result
    (seen_still kind tree.nodes (record { line = c.args.number; node = node }) c.args.seen.now c.requires.seen) (c.push_again.ensures.tree any_line)
