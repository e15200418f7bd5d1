use Rattle.line_grammar.proofs.Digits.{AllDigits-front}
use Rattle.line_grammar.proofs.reading.number_at.Goals as goal

pub number_of-requires-clause-digits : goal.number_of-requires-clause-digits
number_of-requires-clause-digits c =
    rw (c.split_at.ensures.front, c.digits_len.ensures.len) (AllDigits-front 12 c.args.bytes.now)
