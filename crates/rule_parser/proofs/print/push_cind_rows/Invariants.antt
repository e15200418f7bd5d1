use Rattle.std.proofs.Common.{◌≡◌, ◌++◌, take}
use Rattle.std.specs.Prelude.{map}
use Rattle.line_grammar.specs.Spelling.{file_text}
use Rattle.rule_parser.specs.RuleText.{cind_row_line}
use Rattle.rule_parser.proofs.print.push_cind_rows.Given as goal

abbrev pub invariant-loop-row : goal.invariant-loop-row
invariant-loop-row l = l.out.items ≡ l.fn.out.items ++ file_text (map cind_row_line (take l.row-index l.rows))
