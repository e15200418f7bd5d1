use Rattle.std.proofs.Common.{◌≡◌, ◌++◌, take}
use Rattle.std.specs.Prelude.{All, map}
use Rattle.line_grammar.specs.Spelling.{file_text}
use Rattle.cert_check.specs.Made.{IsFitNode, named_parts}
use Rattle.cert_check.proofs.tree_lines.push_nodes.Given as goal

abbrev pub invariant-loop-node : goal.invariant-loop-node
invariant-loop-node l = record {
  text : l.out.items ≡ l.initial.out.items ++ file_text (map (named_parts l.names) (take l.node-index l.nodes));
  fit : All (IsFitNode l.names) (take l.node-index l.nodes);
}
