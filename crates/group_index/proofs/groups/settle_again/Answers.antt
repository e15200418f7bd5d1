use Rattle.std.proofs.Common.{◌∙◌, sym, subst}
use Rattle.std.proofs.lemmas.List.Sorted.{IsPermutation-refl}
use Rattle.group_index.specs.Groups.{IsMarkedBy}
use Rattle.group_index.proofs.GroupFacts.{stands_at}
use Rattle.group_index.proofs.SpreadFacts.{marked_by_spread, marked_while_turning, same_spread, unflip}
use Rattle.group_index.proofs.groups.settle_again.Goals as goal

pub returns-then-is_both-clause-marks : goal.returns-then-is_both-clause-marks
returns-then-is_both-clause-marks c =
    let at = stands_at c.args.groups.now.pairs c.args.place c.requires.within in
    marked_while_turning c.args.rows.now c.args.groups.now c.args.place at.0 at.1 (sym (c.requires.extent at.0 at.1).1 ∙ sym c.is_both.ensures ∙ c.if-is_both.true) c.requires.others

pub returns-then-is_both-clause-moved : goal.returns-then-is_both-clause-moved
returns-then-is_both-clause-moved c = IsPermutation-refl c.args.groups.now.pairs

pub returns-else-ne-clause-marks : goal.returns-else-ne-clause-marks
returns-else-ne-clause-marks c =
    let at = stands_at c.args.groups.now.pairs c.args.place c.requires.within in
    marked_by_spread c.args.rows.now c.args.groups.now c.args.place at.0 c.args.after.spread at.1 (c.requires.extent at.0 at.1).0.spread (sym c.is_both.ensures ∙ c.if-is_both.false)
    (subst (IsMarkedBy c.args.rows.now c.args.groups.now c.args.place) (sym (same_spread c.args.after.spread c.args.before.spread (unflip _ (sym c.ne.ensures ∙ c.if-ne.false)))) c.requires.mark) c.requires.others

pub returns-else-ne-clause-moved : goal.returns-else-ne-clause-moved
returns-else-ne-clause-moved c = IsPermutation-refl c.args.groups.now.pairs
