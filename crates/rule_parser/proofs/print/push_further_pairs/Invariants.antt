use Rattle.std.proofs.Common.{◌≡◌, ◌++◌, take}
use Rattle.std.specs.List.{flat_map, zip}
use Rattle.line_grammar.specs.Spelling.{line_text, after_comma}
use Rattle.rule_parser.specs.RuleText.{pair_parts}
use Rattle.rule_parser.proofs.print.push_further_pairs.Given as goal

abbrev pub invariant-loop-i : goal.invariant-loop-i
invariant-loop-i l = l.out.items ≡ l.fn.out.items ++ line_text (flat_map (after_comma pair_parts) (take l.i (zip l.left l.right)))
