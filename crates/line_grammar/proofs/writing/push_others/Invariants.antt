use Rattle.std.proofs.Common.{◌≡◌, ◌++◌, take}
use Rattle.std.specs.List.{flat_map}
use Rattle.line_grammar.specs.Spelling.{line_text, after_comma}
use Rattle.line_grammar.proofs.writing.push_others.Given as goal

abbrev pub invariant-loop-item : goal.invariant-loop-item
invariant-loop-item g l = l.out.items ≡ l.initial.out.items ++ line_text (flat_map (after_comma g.W.Writes.written) (take l.item-index l.others))
