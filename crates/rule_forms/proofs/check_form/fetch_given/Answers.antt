use Rattle.std.proofs.Common.{◌≡◌, ℕ, List, Ok, Err, refl}
use Rattle.std.proofs.lemmas.Result.{err_from_is_err_and}
use Rattle.text_lists.specs.declared.limits.Limits.{Limits}
use Rattle.rule_model.specs.Books.{Book}
use Rattle.cert_text.specs.declared.cert.CertParts.{CertParts}
use Rattle.cli_output.specs.Fetching.{Fetching, ◌>>=◌, given}
use Rattle.cli_output.specs.RuleFiles.{fetch_book}
use Rattle.cli_output.proofs.FetchingSteps.{fetches-next, fetches-stopped}
use Rattle.rule_forms.specs.CheckForm.{fetch_cert, fetch_given}
use Rattle.rule_forms.specs.declared.check_form.Given.{Given}
use Rattle.rule_forms.proofs.check_form.fetch_given.Goals as goal

-- what follows each step

with_cert : Book → CertParts → Fetching Given
with_cert rules cert = given (Ok (record { rules = rules; cert = cert }))

with_rules : Limits → List ℕ → Book → Fetching Given
with_rules limits name rules = fetch_cert limits name >>= λ cert. given (Ok (record { rules = rules; cert = cert }))

pub returns-in_err-cert : goal.returns-in_err-cert
unfolding fetch_given with_cert with_rules
returns-in_err-cert g c =
    let limits = c.args.limits.now in
    let p = err_from_is_err_and c.from_residual-in_err-cert.result c.from_residual-in_err-cert.ensures.1 in
    let same : c.from_residual-in_err-cert.result ≡ Err c.in_err-cert.field-0.0 = rw (p.1, p.2) refl in
    fetches-next (fetch_book limits c.args.project.now) (with_rules limits c.args.name.now) (λ x. x) (λ x. x) 2 1 c.in_ok-rules.rules c.from_residual-in_err-cert.result _ _ _ _ _ _ c.in_ok-rules.ensures
    (fetches-stopped (fetch_cert limits c.args.name.now) (with_cert c.in_ok-rules.rules) (λ x. x) (λ x. x) 1 0 c.in_err-cert.field-0.0 c.from_residual-in_err-cert.result _ _ _ _ same c.in_err-cert.ensures)
