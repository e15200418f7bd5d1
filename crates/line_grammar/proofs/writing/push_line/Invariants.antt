use Rattle.std.proofs.Common.{◌≡◌, ◌++◌, take}
use Rattle.line_grammar.specs.Spelling.{line_text}
use Rattle.line_grammar.proofs.writing.push_line.Given as goal

abbrev pub invariant-loop-part : goal.invariant-loop-part
invariant-loop-part l = l.out.items ≡ l.fn.out.items ++ line_text (take l.part-index l.line)
