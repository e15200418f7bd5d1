use Rattle.std.proofs.Common.{◌∙◌, rules, tests}
use Rattle.std.proofs.lemmas.Iterator.Consumers.{YieldsList-from_rest}
use Rattle.std.proofs.lemmas.Iterator.Search.{any_from_yields_List}
use Rattle.group_index.specs.Pairs.{Pair}
use Rattle.group_index.specs.Tableaux.{offends_at}
use Rattle.group_index.proofs.TableauFacts.{asked_range}
use Rattle.group_index.proofs.tableau.some_asking.Goals as goal

pub returns : goal.returns
returns c =
    any_from_yields_List (λ (p : Pair). offends_at c.args.rows.now c.args.x.now c.args.a p.1) _ _ _ c.any.ensures.ran (YieldsList-from_rest _ (c.range.ensures.between tt)) (λ x b q k. search (rules, tests))
    ∙ asked_range c.args.id (λ (p : Pair). offends_at c.args.rows.now c.args.x.now c.args.a p.1) c.args.asked.now.keys
