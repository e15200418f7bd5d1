use Rattle.std.proofs.Common.{◌≡◌, ◌++◌, drop}
use Rattle.view_words.specs.Words.{values}
use Rattle.view_words.proofs.reading.values.Given as goal

abbrev pub invariant-loop-word : goal.invariant-loop-word
invariant-loop-word l = l.found ++ values l.name l.before (drop l.word-index l.words) ≡ values l.name l.first l.words
