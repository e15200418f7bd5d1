use Rattle.std.proofs.Common.{◌≡◌, drop}
use Rattle.view_words.specs.Words.{are_words}
use Rattle.view_words.proofs.reading.are_words.Given as goal

abbrev pub invariant-loop-word : goal.invariant-loop-word
invariant-loop-word l = are_words l.before (drop l.word-index l.words) ≡ are_words l.first l.words
