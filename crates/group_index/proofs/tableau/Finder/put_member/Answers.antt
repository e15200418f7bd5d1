use Rattle.std.proofs.Common.{refl}
use Rattle.group_index.proofs.TableauFacts.{inserted_is_in, inserted_keeps}
use Rattle.group_index.proofs.tableau.Finder.put_member.Goals as goal

pub returns-clause-row : goal.returns-clause-row
returns-clause-row c = inserted_is_in c.args.self.now.asked c.insert.new.self (c.args.member, c.args.k) c.in_ok-insert.ensures.updates.0

pub returns-clause-kept : goal.returns-clause-kept
returns-clause-kept c = record {
  place = refl;
  asked = inserted_keeps c.args.self.now.asked c.insert.new.self (c.args.member, c.args.k) c.in_ok-insert.ensures.updates.0;
  others = λ k inside. inside;
}
