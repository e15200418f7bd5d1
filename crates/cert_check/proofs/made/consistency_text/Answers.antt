use Rattle.std.proofs.Common.{List, ℕ, subst}
use Rattle.rule_parser.proofs.Numbered.{table_place-name}
use Rattle.cert_check.specs.Made.{IsNamedCert, name_of, names_asked}
use Rattle.cert_check.proofs.MadeHolds.{answer_right, found_named}
use Rattle.cert_check.proofs.made.consistency_text.Goals as goal

pub table_text-requires-clause-answer : goal.table_text-requires-clause-answer
table_text-requires-clause-answer c =
    let asked = c.args.asked.now in
    found_named asked.rules c.name_of.ensures.book asked.table c.name_of.ensures.there c.args.answer.now c.requires

pub returns : goal.returns
returns c =
    let asked = c.args.asked.now in
    let answer = c.args.answer.now in
    let good = c.name_of.ensures.book in
    let told = c.in_ok-text.ensures in
    let made = subst (λ (name : List ℕ). IsNamedCert (names_asked asked) name answer told.cert) c.name_of.ensures.name told.is in
    record {
      cert = told.cert;
      is = (made, answer_right asked.rules good asked.table c.name_of.ensures.there (name_of asked) (table_place-name asked.rules.schema asked.table good.schema c.name_of.ensures.there) answer told.cert c.requires made);
      spelled = told.spelled;
    }
