use Rattle.std.proofs.Common.{sym, subst}
use Rattle.rule_model.specs.declared.decl.CfdDecl.{CfdDecl}
use Rattle.rule_parser.specs.ReadRules.{IsDepDecl}
use Rattle.cert_check.specs.Made.{IsDeclaredCert, IsSomeText, names_asked_of}
use Rattle.cert_check.proofs.MadeHolds.{decl_written, judged_decl, right_over, told_named}
use Rattle.cert_check.proofs.made.implication_text.Goals as goal

pub returns-in_err-decl-clause-asked : goal.returns-in_err-decl-clause-asked
returns-in_err-decl-clause-asked c =
    let asked = c.args.asked.now in
    judged_decl asked.schema asked.deps asked.dep (rw c.schema.ensures.schema at c.schema.ensures.valid) (rw c.dep.ensures.dep at c.dep.ensures.valid) c.requires.row

pub dep_text-requires-clause-decl : goal.dep_text-requires-clause-decl
dep_text-requires-clause-decl c =
    let asked = c.args.asked.now in
    let decl-is = rw c.dep.ensures.dep at (rw c.schema.ensures.schema at c.in_ok-decl.ensures) in
    subst IsDepDecl (sym decl-is) (decl_written asked.schema asked.dep (rw c.schema.ensures.schema at c.schema.ensures.valid) (rw c.dep.ensures.dep at c.dep.ensures.valid) c.requires.row)

pub dep_text-requires-clause-answer : goal.dep_text-requires-clause-answer
dep_text-requires-clause-answer c =
    let asked = c.args.asked.now in
    told_named asked.schema asked.deps asked.dep (rw c.schema.ensures.schema at c.schema.ensures.valid) (rw c.dep.ensures.dep at c.dep.ensures.valid) c.args.answer.now c.requires.answer

pub returns-in_err-text-clause-asked : goal.returns-in_err-text-clause-asked
returns-in_err-text-clause-asked c =
    let asked = c.args.asked.now in
    judged_decl asked.schema asked.deps asked.dep (rw c.schema.ensures.schema at c.schema.ensures.valid) (rw c.dep.ensures.dep at c.dep.ensures.valid) c.requires.row

pub returns-clause-right : goal.returns-clause-right
returns-clause-right c rules dep good is =
    let asked = c.args.asked.now in
    let answer = c.args.answer.now in
    let text = c.in_ok-text.text.items in
    let decl-is = rw c.dep.ensures.dep at (rw c.schema.ensures.schema at c.in_ok-decl.ensures) in
    let told = subst (λ (decl : CfdDecl). IsSomeText (IsDeclaredCert (names_asked_of asked) decl answer) text) decl-is c.in_ok-text.ensures in
    right_over asked answer text (rw c.dep.ensures.dep at c.dep.ensures.valid) c.requires.row c.requires.answer told rules dep good is

pub returns-clause-asked : goal.returns-clause-asked
returns-clause-asked c =
    let asked = c.args.asked.now in
    judged_decl asked.schema asked.deps asked.dep (rw c.schema.ensures.schema at c.schema.ensures.valid) (rw c.dep.ensures.dep at c.dep.ensures.valid) c.requires.row
