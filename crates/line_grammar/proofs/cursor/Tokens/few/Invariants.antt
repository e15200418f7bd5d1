use Rattle.std.proofs.Common.{length, ◌<◌}
use Rattle.std.specs.Prelude.{All}
use Rattle.line_grammar.specs.TokenLists.{list1_at}
use Rattle.line_grammar.proofs.ListLemmas.{ListLeft}
use Rattle.line_grammar.proofs.cursor.Tokens.few.Given as goal

abbrev pub invariant-loop-values : goal.invariant-loop-values
invariant-loop-values g l = ListLeft g.P.Phrase.reads (list1_at g.P.Phrase.reads l.initial.self) l.values l.self × All g.P.Phrase.is_fit l.values × (length l.values < l.most)

abbrev pub decreases-loop-values : goal.decreases-loop-values
decreases-loop-values g l = length l.self
