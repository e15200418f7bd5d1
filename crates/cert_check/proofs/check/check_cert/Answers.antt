use Rattle.std.proofs.Common.{subst}
use Rattle.cert_text.specs.declared.cert.CertParts.{CertParts}
use Rattle.cert_check.specs.Verdict.{IsCertVerdict}
use Rattle.cert_check.specs.declared.verdict.CertVerdict.TheVariants.{Holds}
use Rattle.cert_check.proofs.Laws.{right_if_shown, shown_law}
use Rattle.cert_check.proofs.OneVerdict.{one_verdict}
use Rattle.cert_check.proofs.check.check_cert.Goals as goal

pub returns-clause-only : goal.returns-clause-only
returns-clause-only c other is =
    let own = subst (λ (cert : CertParts). IsCertVerdict c.args.rules.now cert c.in_ok-verdict.verdict) c.parts.ensures.parts c.in_ok-verdict.ensures.verdict in
    one_verdict c.args.rules.now c.args.cert.now other c.in_ok-verdict.verdict is own

pub returns-clause-law : goal.returns-clause-law
returns-clause-law c =
    let rules = c.args.rules.now in
    let cert = c.args.cert.now in
    let own = subst (λ (parts : CertParts). IsCertVerdict rules parts c.in_ok-verdict.verdict) c.parts.ensures.parts c.in_ok-verdict.ensures.verdict in (
      λ holds. (shown_law rules cert).0 (subst (IsCertVerdict rules cert) holds own),
      λ shown. one_verdict rules cert c.in_ok-verdict.verdict Holds own ((shown_law rules cert).1 shown),
    )

pub returns-clause-right : goal.returns-clause-right
returns-clause-right c holds =
    let rules = c.args.rules.now in
    let cert = c.args.cert.now in
    let own = subst (λ (parts : CertParts). IsCertVerdict rules parts c.in_ok-verdict.verdict) c.parts.ensures.parts c.in_ok-verdict.ensures.verdict in
    right_if_shown rules cert c.in_ok-verdict.ensures.valid c.parts.ensures.written ((shown_law rules cert).0 (subst (IsCertVerdict rules cert) holds own))
