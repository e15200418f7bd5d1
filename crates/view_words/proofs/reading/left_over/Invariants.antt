use Rattle.std.proofs.Common.{◌≡◌, ◌++◌, drop}
use Rattle.view_words.specs.Words.{left_over}
use Rattle.view_words.proofs.reading.left_over.Given as goal

abbrev pub invariant-loop-word : goal.invariant-loop-word
invariant-loop-word l = l.left ++ left_over l.before (drop l.word-index l.words) ≡ left_over l.first l.words
