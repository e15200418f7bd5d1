use Rattle.std.proofs.Common.{◌≡◌, ◌++◌, map, take}
use Rattle.std.specs.List.{flat_map}
use Rattle.line_grammar.specs.Spelling.{file_text}
use Rattle.rule_parser.specs.RuleText.{decl_lines}
use Rattle.dep_finder.specs.FoundText.{decl_of}
use Rattle.dep_finder.proofs.text.push_found.Given as goal

abbrev pub invariant-loop-dep : goal.invariant-loop-dep
invariant-loop-dep l = l.text.items ≡ l.fn.text.items ++ file_text (flat_map decl_lines (map (decl_of l.table) (take l.dep-index l.found)))
