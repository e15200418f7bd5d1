use Rattle.std.proofs.Common.{◌≡◌, take}
use Rattle.row_takers.specs.Taken.{texts_in}
use Rattle.row_takers.proofs.taker.owned_texts.Given as goal

abbrev pub invariant-loop-text : goal.invariant-loop-text
invariant-loop-text l = l.texts.items ≡ texts_in (take l.text-index l.row)
