use Rattle.rule_model.proofs.Joining.{kept_empty}
use Rattle.rule_model.proofs.book.RuleBook.new.Goals as goal

pub invariant_of-result : goal.invariant_of-result
invariant_of-result c = rw (c.new.ensures, c.none.ensures, c.none-2.ensures) (kept_empty c.args.schema c.args.limits c.requires.schema c.requires.limits)
