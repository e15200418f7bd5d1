use Rattle.std.proofs.Common.{subst}
use Rattle.line_grammar.specs.Spelling.{part_text}
use Rattle.line_grammar.specs.Appending.{AppendsPart}
use Rattle.line_grammar.proofs.PushLemmas.{OnErr-from, stopped_at}
use Rattle.line_grammar.proofs.SpelledLines.{line_tokens-written}
use Rattle.line_grammar.proofs.writing.push_line.Goals as goal

pub returns-in_err-push_part-clause-err : goal.returns-in_err-push_part-clause-err
returns-in_err-push_part-clause-err c =
    OnErr-from _ _ (stopped_at part_text c.args.out.now.items _ _ c.args.line.now c.loop-part.part-index c.part-item.result c.loop-part-test.true c.loop-part.invariant
    (subst (λ p. AppendsPart c.loop-part.out.items c.push_part.new.out.items (part_text p)) c.part-item.is c.in_err-push_part.ensures.err))

pub returns-in_err-push_part-clause-read_again : goal.returns-in_err-push_part-clause-read_again
returns-in_err-push_part-clause-read_again c = line_tokens-written c.args.line.now

pub returns-clause-read_again : goal.returns-clause-read_again
returns-clause-read_again c = line_tokens-written c.args.line.now
