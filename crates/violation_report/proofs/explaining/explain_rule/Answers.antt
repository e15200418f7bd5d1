use Rattle.std.proofs.Common.{◌≡◌, ◌++◌, ◌∙◌, true, sym, ap, subst, filter}
use Rattle.std.proofs.lemmas.List.{append-nil}
use Rattle.std.proofs.lemmas.Result.{on_ok_weaker}
use Rattle.bench_core.specs.Answers.{orphans_at, violations_at}
use Rattle.violation_report.specs.Explained.{is_about}
use Rattle.violation_report.specs.Listing.{cind_lines_at, dep_lines_at}
use Rattle.violation_report.specs.RuleNumbers.{IsRuleOf, is_of, lines_at}
use Rattle.violation_report.proofs.RowLines.{other-lines, own-cind-in_range, own-cind-lines, own-dep-in_range, own-dep-lines, row-of_cind, row-of_dep}
use Rattle.violation_report.proofs.Taken.{appended}
use Rattle.violation_report.proofs.explaining.explain_rule.Goals as goal

pub returns-then-not-is_of-clause-lines : goal.returns-then-not-is_of-clause-lines
returns-then-not-is_of-clause-lines g c =
    let bench = c.args.bench.now in
    let none = other-lines bench.rules bench.history.present c.args.table c.args.row c.args.rule (sym c.is_of.ensures ∙ c.if-not-is_of.true) in
    sym (append-nil c.args.lines.now) ∙ ap (λ more. c.args.lines.now ++ more) (sym none)

-- ---- a dependency of the table

pub violations_of_row-requires-clause-there : goal.violations_of_row-requires-clause-there
violations_of_row-requires-clause-there g c =
    let bench = c.args.bench.now in
    let own = subst (λ rule. is_of bench.rules c.args.table rule ≡ true) c.in-Dep.is (sym c.is_of.ensures ∙ c.if-not-is_of.false) in
    row-of_dep bench.rules bench.history.present c.args.table c.args.row c.in-Dep.number c.requires.there own

pub put_violations-requires : goal.put_violations-requires
put_violations-requires g c =
    let bench = c.args.bench.now in
    let own = subst (λ rule. is_of bench.rules c.args.table rule ≡ true) c.in-Dep.is (sym c.is_of.ensures ∙ c.if-not-is_of.false) in
    let within = subst (IsRuleOf bench.rules) c.in-Dep.is c.requires.rule in
    rw (c.rules.ensures.value, c.as_slice.ensures, c.in_ok-found-in-Dep.ensures.violations) (own-dep-in_range bench.rules bench.history.present c.args.table c.args.row c.in-Dep.number within own)

pub returns-in_ok-found-in-Dep-clause-lines : goal.returns-in_ok-found-in-Dep-clause-lines
returns-in_ok-found-in-Dep-clause-lines g c =
    let bench = c.args.bench.now in
    let about = is_about bench.rules c.args.table c.args.row in
    let n = c.in-Dep.number in
    let own = subst (λ rule. is_of bench.rules c.args.table rule ≡ true) c.in-Dep.is (sym c.is_of.ensures ∙ c.if-not-is_of.false) in
    let kept = own-dep-lines bench.rules c.args.table c.args.row n own (violations_at bench.rules bench.history.present n) in
    let is = ap (dep_lines_at n) (c.as_slice.ensures ∙ c.in_ok-found-in-Dep.ensures.violations) ∙ sym kept ∙ ap (λ rule. filter about (lines_at bench.rules bench.history.present rule)) (sym c.in-Dep.is) in
    on_ok_weaker c.put_violations.result (λ takes. appended c.args.lines.now (dep_lines_at n c.as_slice.result.now) c.put_violations.new.taker takes ∙ ap (λ more. c.args.lines.now ++ more) is) c.put_violations.ensures

-- ---- an inclusion with the table on its left

pub orphans_of_row-requires-clause-there : goal.orphans_of_row-requires-clause-there
orphans_of_row-requires-clause-there g c =
    let bench = c.args.bench.now in
    let own = subst (λ rule. is_of bench.rules c.args.table rule ≡ true) c.in-Cind.is (sym c.is_of.ensures ∙ c.if-not-is_of.false) in
    row-of_cind bench.rules bench.history.present c.args.table c.args.row c.in-Cind.number c.requires.there own

pub put_orphans-requires : goal.put_orphans-requires
put_orphans-requires g c =
    let bench = c.args.bench.now in
    let own = subst (λ rule. is_of bench.rules c.args.table rule ≡ true) c.in-Cind.is (sym c.is_of.ensures ∙ c.if-not-is_of.false) in
    let within = subst (IsRuleOf bench.rules) c.in-Cind.is c.requires.rule in
    rw (c.rules-in-Cind.ensures.value, c.as_slice-in-Cind.ensures, c.in_ok-found-in-Cind.ensures.orphans) (own-cind-in_range bench.rules bench.history.present c.args.table c.args.row c.in-Cind.number within own)

pub returns-in_ok-found-in-Cind-clause-lines : goal.returns-in_ok-found-in-Cind-clause-lines
returns-in_ok-found-in-Cind-clause-lines g c =
    let bench = c.args.bench.now in
    let about = is_about bench.rules c.args.table c.args.row in
    let n = c.in-Cind.number in
    let own = subst (λ rule. is_of bench.rules c.args.table rule ≡ true) c.in-Cind.is (sym c.is_of.ensures ∙ c.if-not-is_of.false) in
    let kept = own-cind-lines bench.rules c.args.table c.args.row n own (orphans_at bench.rules bench.history.present n) in
    let is = ap (cind_lines_at n) (c.as_slice-in-Cind.ensures ∙ c.in_ok-found-in-Cind.ensures.orphans) ∙ sym kept ∙ ap (λ rule. filter about (lines_at bench.rules bench.history.present rule)) (sym c.in-Cind.is) in
    on_ok_weaker c.put_orphans.result (λ takes. appended c.args.lines.now (cind_lines_at n c.as_slice-in-Cind.result.now) c.put_orphans.new.taker takes ∙ ap (λ more. c.args.lines.now ++ more) is) c.put_orphans.ensures
