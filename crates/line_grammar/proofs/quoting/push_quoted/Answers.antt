use Rattle.line_grammar.proofs.SpelledTexts.{has_one_spelling}
use Rattle.line_grammar.proofs.PushLemmas.{quoted-whole, quoted-stopped_in, quoted-stopped_last, OnErr-from}
use Rattle.line_grammar.proofs.quoting.push_quoted.Goals as goal

pub returns-in_err-push_piece-clause-err : goal.returns-in_err-push_piece-clause-err
returns-in_err-push_piece-clause-err c =
    OnErr-from _ _ (quoted-stopped_in c.args.out.now.items _ _ _ c.args.text.now c.loop-byte.byte-index c.loop-byte-test.true c.as_bytes-byte-items.ensures.value c.loop-byte.invariant c.in_err-push_piece.ensures.err)

pub returns-in_err-push-2-clause-err : goal.returns-in_err-push-2-clause-err
returns-in_err-push-2-clause-err c =
    OnErr-from _ _ (quoted-stopped_last c.args.out.now.items _ _ _ c.args.text.now c.loop-byte.byte-index c.loop-byte-test.false c.as_bytes-byte-items.ensures.value c.loop-byte.invariant c.in_err-push-2.ensures.items)

pub returns-clause-ok : goal.returns-clause-ok
returns-clause-ok c =
    quoted-whole c.args.out.now.items _ _ _ c.args.text.now c.loop-byte.byte-index c.loop-byte-test.false c.as_bytes-byte-items.ensures.value c.loop-byte.invariant c.in_ok-push-2.ensures.items

pub returns-in_err-push-clause-one_spelling : goal.returns-in_err-push-clause-one_spelling
returns-in_err-push-clause-one_spelling c = has_one_spelling c.args.text.now

pub returns-in_err-push_piece-clause-one_spelling : goal.returns-in_err-push_piece-clause-one_spelling
returns-in_err-push_piece-clause-one_spelling c = has_one_spelling c.args.text.now

pub returns-in_err-push-2-clause-one_spelling : goal.returns-in_err-push-2-clause-one_spelling
returns-in_err-push-2-clause-one_spelling c = has_one_spelling c.args.text.now

pub returns-clause-one_spelling : goal.returns-clause-one_spelling
returns-clause-one_spelling c = has_one_spelling c.args.text.now
