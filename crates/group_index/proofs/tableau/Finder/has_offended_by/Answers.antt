use Rattle.std.proofs.Common.{◌∙◌, ap, arith}
use Rattle.std.specs.List.{list_any}
use Rattle.group_index.specs.Tableaux.{offends_at}
use Rattle.group_index.proofs.TableauFacts.{offended_else, offended_there}
use Rattle.group_index.proofs.tableau.Finder.has_offended_by.Goals as goal

pub returns-then-some_numbered : goal.returns-then-some_numbered
returns-then-some_numbered c =
    offended_there c.args.self.now c.args.rows.now c.args.x.now c.args.a c.args.id c.requires.all (omega arith) c.requires.at c.some_numbered.result
    (c.some_numbered.ensures ∙ ap (list_any (offends_at c.args.rows.now c.args.x.now c.args.a)) c.deref.ensures.value) c.if-some_numbered.true

pub returns-else-some_numbered : goal.returns-else-some_numbered
returns-else-some_numbered c =
    offended_else c.args.self.now c.args.rows.now c.args.x.now c.args.a c.args.id c.requires.all (omega arith) c.requires.at c.some_numbered.result c.some_asking.result
    (c.some_numbered.ensures ∙ ap (list_any (offends_at c.args.rows.now c.args.x.now c.args.a)) c.deref.ensures.value) c.if-some_numbered.false c.some_asking.ensures
