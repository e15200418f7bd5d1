use Rattle.std.proofs.Common.{◌∙◌, arith}
use Rattle.std.proofs.lemmas.List.{take_all}
use Rattle.line_grammar.proofs.LineLemmas.{without_return-dropped, without_return-kept, without_return-empty}
use Rattle.line_grammar.proofs.lines.len_without_return.Goals as goal
use Rattle.line_grammar.proofs.lines.len_without_return.Goals.{else-len-gt0-via-then-len-gt0+else-bytes-len-eq13, else-len-gt0-via-else-len-gt0}

pub returns-then-bytes-len-eq13-clause-front : goal.returns-then-bytes-len-eq13-clause-front
returns-then-bytes-len-eq13-clause-front c =
    without_return-dropped c.args.bytes.now _ (omega (arith, c.if-len-gt0.true)) c.if-bytes-len-eq13.true

pub returns-else-len-gt0-clause-front : goal.returns-else-len-gt0-clause-front
returns-else-len-gt0-clause-front c =
    take_all _ c.args.bytes.now (omega arith) ∙ elim c.else-len-gt0.branch [
      | else-len-gt0-via-then-len-gt0+else-bytes-len-eq13 w ↦ without_return-kept c.args.bytes.now _ (omega (arith, w.if-len-gt0.true)) w.if-bytes-len-eq13.false
      | else-len-gt0-via-else-len-gt0 w ↦ without_return-empty c.args.bytes.now w.if-len-gt0.false
    ]
