use Rattle.std.proofs.Common.{length}
use Rattle.line_grammar.proofs.LeadLemmas.{SomeLeft}
use Rattle.line_grammar.proofs.reading.is_token_list.Given as goal

abbrev pub invariant-loop-rest : goal.invariant-loop-rest
invariant-loop-rest l = SomeLeft l.line l.after_word l.rest

abbrev pub decreases-loop-rest : goal.decreases-loop-rest
decreases-loop-rest l = length l.rest
