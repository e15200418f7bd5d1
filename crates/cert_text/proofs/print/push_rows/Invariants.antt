use Rattle.std.proofs.Common.{◌≡◌, ◌++◌, take}
use Rattle.std.specs.List.{flat_map}
use Rattle.line_grammar.specs.Spelling.{line_text}
use Rattle.cert_text.specs.CertText.{row_parts}
use Rattle.cert_text.proofs.print.push_rows.Given as goal

abbrev pub invariant-loop-row : goal.invariant-loop-row
invariant-loop-row l = l.out.items ≡ l.fn.out.items ++ line_text (flat_map row_parts (take l.row-index l.rows))
