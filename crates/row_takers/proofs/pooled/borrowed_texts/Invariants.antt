use Rattle.std.proofs.Common.{◌≡◌, take}
use Rattle.row_takers.specs.Taken.{texts_in}
use Rattle.row_takers.proofs.pooled.borrowed_texts.Given as goal

abbrev pub invariant-loop-text : goal.invariant-loop-text
invariant-loop-text l = texts_in l.texts.items ≡ take l.text-index l.row
