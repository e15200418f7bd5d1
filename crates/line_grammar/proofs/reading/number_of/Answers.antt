use Rattle.std.proofs.Common.{arith, get_or}
use Rattle.line_grammar.proofs.Digits.{digit_from_value, AllDigits-get_or, digits_value-bound}
use Rattle.std.proofs.lemmas.Int.Digits.{digits_value_more}
use Rattle.line_grammar.proofs.reading.number_of.Goals as goal

pub overflow_mul-number : goal.overflow_mul-number
overflow_mul-number c =
    omega (arith, digits_value-bound c.args.digits.now c.loop-digit.digit-index c.requires.digits c.requires.few, c.loop-digit.invariant)

pub overflow_sub-digit : goal.overflow_sub-digit
overflow_sub-digit c =
    omega (arith, digit_from_value (get_or c.args.digits.now c.loop-digit.digit-index 0) (AllDigits-get_or c.args.digits.now c.loop-digit.digit-index c.requires.digits c.loop-digit-test.true))

pub overflow_add-number : goal.overflow_add-number
overflow_add-number c =
    omega (
      arith,
      digits_value-bound c.args.digits.now c.loop-digit.digit-index c.requires.digits c.requires.few,
      c.loop-digit.invariant,
      digit_from_value (get_or c.args.digits.now c.loop-digit.digit-index 0) (AllDigits-get_or c.args.digits.now c.loop-digit.digit-index c.requires.digits c.loop-digit-test.true),
      AllDigits-get_or c.args.digits.now c.loop-digit.digit-index c.requires.digits c.loop-digit-test.true,
      c.from.ensures,
    )

pub loop-digit-preserved : goal.loop-digit-preserved
loop-digit-preserved c =
    omega (
      arith,
      digits_value_more 10 c.args.digits.now c.loop-digit.digit-index c.loop-digit-test.true,
      c.loop-digit.invariant,
      digit_from_value (get_or c.args.digits.now c.loop-digit.digit-index 0) (AllDigits-get_or c.args.digits.now c.loop-digit.digit-index c.requires.digits c.loop-digit-test.true),
      c.from.ensures,
    )
