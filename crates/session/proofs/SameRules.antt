-- What holds under some rules and limits holds under the same ones.
use Rattle.std.proofs.Common.{◌≡◌, subst}
use Rattle.text_lists.specs.declared.limits.Limits.{Limits}
use Rattle.rule_model.specs.Books.{Book}

pub under_same : (A : Book → Limits → Type 0) (rules other_rules : Book) (limits other_limits : Limits) → rules ≡ other_rules → limits ≡ other_limits → A rules limits → A other_rules other_limits
under_same A rules other_rules limits other_limits same_rules same_limits h = subst (λ r. A r other_limits) same_rules (subst (A rules) same_limits h)
