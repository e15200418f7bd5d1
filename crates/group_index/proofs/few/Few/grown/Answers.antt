use Rattle.std.proofs.Common.{rules}
use Rattle.std.proofs.lemmas.Iterator.{YieldsList-from_slice}
use Rattle.std.proofs.lemmas.Iterator.Adapters.{fact_from_extend}
use Rattle.group_index.proofs.AnswerFacts.{own_answer}
use Rattle.group_index.proofs.FewFacts.{all_put}
use Rattle.group_index.proofs.few.Few.grown.Goals as goal

pub returns : goal.returns
returns c = rw (← c.self.view_is)
    (own_answer c.extend.result c.in_ok-extend.field-0 c.in_ok-extend.was
    (fact_from_extend (λ x. x.now) c.extend.result c.extend.ensures.ran (λ it b. YieldsList-from_slice c.self.inside.pairs.items (search rules))
    (λ xs same inserts. all_put c.new-pairs.result c.insert.new.self c.extend.new.self (c.args.a, c.args.row) c.self.inside.pairs.items c.new-pairs.ensures.empty c.in_ok-insert.ensures.updates.0 (rw (← same) inserts))))
