use Rattle.std.proofs.Common.{◌≡◌, take}
use Rattle.std.specs.List.{flat_map}
use Rattle.line_grammar.specs.Spelling.{file_text}
use Rattle.rule_parser.specs.RuleText.{decl_lines}
use Rattle.rule_parser.proofs.print.print_rules.Given as goal

abbrev pub invariant-loop-decl : goal.invariant-loop-decl
invariant-loop-decl l = l.out.items ≡ file_text (flat_map decl_lines (take l.decl-index l.decl-items))
