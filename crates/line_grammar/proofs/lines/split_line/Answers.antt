use Rattle.std.proofs.Common.{◌-◌, drop, length, arith, length-drop}
use Rattle.std.proofs.lemmas.List.{take_all}
use Rattle.line_grammar.proofs.lines.split_line.Goals as goal

pub returns-clause-line : goal.returns-clause-line
returns-clause-line c =
    rw (take_all (length c.args.bytes.now - c.first_line-len.result.1) (drop c.first_line-len.result.1 c.args.bytes.now) (omega (arith, length-drop c.first_line-len.result.1 c.args.bytes.now)))
    c.first_line-len.ensures.line
