use Rattle.std.proofs.Common.{sym, ◌∙◌}
use Rattle.group_index.specs.Pairs.{Pair}
use Rattle.group_index.proofs.PairFacts.{taken_from_remove, alone_from_remove, set_has, taken_when, no_pairs, one_left}
use Rattle.group_index.proofs.group.Group.take.Goals as goal

pub returns-in-Some-lone-2-clause-left : goal.returns-in-Some-lone-2-clause-left
returns-in-Some-lone-2-clause-left c =
    let p : Pair = (c.args.a, c.args.row) in
    rw c.in-Many.is (one_left c.in-Many.pairs.keys c.remove-taken.new.self.keys p (c.in-Some-lone-2.own, c.in-Some-lone-2.only) (taken_from_remove c.in-Many.pairs c.remove-taken.new.self p c.remove-taken.ensures.updates.0) c.in-Some-lone-2.ensures)

pub returns-then-taken-2-clause-last : goal.returns-then-taken-2-clause-last
returns-then-taken-2-clause-last c empty =
    let p : Pair = (c.args.a, c.args.row) in
    rw c.in-Many.is (alone_from_remove c.in-Many.pairs.keys c.remove-taken.new.self.keys p (taken_from_remove c.in-Many.pairs c.remove-taken.new.self p c.remove-taken.ensures.updates.0)
    (sym (set_has c.in-Many.pairs p) ∙ sym c.remove-taken.ensures.test ∙ c.if-taken-2.true) (no_pairs c.remove-taken.new.self.keys (c.is_empty-then-taken-2.ensures.0 empty)))

pub returns-then-taken-2-clause-left : goal.returns-then-taken-2-clause-left
returns-then-taken-2-clause-left c =
    rw c.in-Many.is (taken_when c.is_empty-then-taken-2.result _ (taken_from_remove c.in-Many.pairs c.remove-taken.new.self (c.args.a, c.args.row) c.remove-taken.ensures.updates.0))

pub returns-else-taken-2-clause-left : goal.returns-else-taken-2-clause-left
returns-else-taken-2-clause-left c =
    rw c.in-Many.is (taken_when c.remove-taken.result _ (taken_from_remove c.in-Many.pairs c.remove-taken.new.self (c.args.a, c.args.row) c.remove-taken.ensures.updates.0))
