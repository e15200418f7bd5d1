use Rattle.std.proofs.Common.{◌≡◌, ◌<◌, ◌^◌, true, sym, arith}
use Rattle.call_words.specs.Words.{is_number}
use Rattle.call_words.proofs.NumberWords.{not_read}
use Rattle.call_words.proofs.numbers.number_within.Goals as goal

pub returns-in_default-3-clause-number : goal.returns-in_default-3-clause-number
returns-in_default-3-clause-number c =
    let number : is_number c.args.word.now ≡ true = cc in
    let few : c.args.most < 2 ^ 64 = omega (arith, c.ranges.most.fits) in
    sym (not_read c.args.least c.args.most c.args.word.now number few (rw c.as_str-2.ensures.bytes at c.in_default.ensures.value.0))
