use Rattle.std.proofs.Common.{◌≡◌, ◌++◌, take}
use Rattle.std.specs.List.{flat_map}
use Rattle.line_grammar.specs.Spelling.{line_text}
use Rattle.rule_parser.specs.RuleText.{dep_row}
use Rattle.rule_parser.proofs.print.push_dep_rows.Given as goal

abbrev pub invariant-loop-row : goal.invariant-loop-row
invariant-loop-row l = l.out.items ≡ l.fn.out.items ++ line_text (flat_map dep_row (take l.row-index l.rows))
