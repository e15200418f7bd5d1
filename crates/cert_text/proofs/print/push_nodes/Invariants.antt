use Rattle.std.proofs.Common.{◌≡◌, ◌++◌, take, map}
use Rattle.line_grammar.specs.Spelling.{file_text}
use Rattle.cert_text.specs.CertText.{node_line}
use Rattle.cert_text.proofs.print.push_nodes.Given as goal

abbrev pub invariant-loop-place : goal.invariant-loop-place
invariant-loop-place l = l.out.items ≡ l.fn.out.items ++ file_text (map node_line (take l.place l.nodes))
