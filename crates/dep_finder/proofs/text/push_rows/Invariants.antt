use Rattle.std.proofs.Common.{◌≡◌, ◌++◌, map, take}
use Rattle.line_grammar.specs.Spelling.{file_text}
use Rattle.rule_parser.specs.RuleText.{cfd_row_line}
use Rattle.dep_finder.specs.FoundText.{row_decl}
use Rattle.dep_finder.proofs.text.push_rows.Given as goal

abbrev pub invariant-loop-row : goal.invariant-loop-row
invariant-loop-row l = l.text.items ≡ l.fn.text.items ++ file_text (map cfd_row_line (map row_decl (take l.row-index l.rows)))
