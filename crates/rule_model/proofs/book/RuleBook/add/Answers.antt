use Rattle.std.proofs.Common.{Ok, sym, subst}
use Rattle.rule_model.specs.Faults.{Finds}
use Rattle.rule_model.specs.Books.{Book, book_fault}
use Rattle.rule_model.proofs.Firsts.{none_if_passed}
use Rattle.rule_model.proofs.Joining.{kept_with}
use Rattle.rule_model.proofs.book.RuleBook.add.Goals as goal

pub invariant_of-self-2 : goal.invariant_of-self-2
unfolding book_fault
invariant_of-self-2 c =
    let b = c.self.inside in
    let passed = subst (λ (book : Book). Finds (Ok tt) (book_fault book c.args.decl)) (sym c.self.view_is) c.in_default.ensures in
    rw (c.in_ok-join.ensures.decls, c.in_ok-join.ensures.rules, c.with-counts.ensures)
    (kept_with (record { schema = b.schema; limits = b.limits; decls = b.decls }) b.rules b.counts c.args.decl c.self.invariant c.requires (none_if_passed _ passed))
