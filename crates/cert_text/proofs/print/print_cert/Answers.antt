use Rattle.std.proofs.Common.{ℕ, List, ◌++◌, ap, ◌∙◌}
use Rattle.cert_text.specs.CertFiles.{reads_cert}
use Rattle.cert_text.specs.CertText.{cert_text}
use Rattle.cert_text.proofs.CertsAgain.{reads_cert-cert_text}
use Rattle.cert_text.proofs.print.print_cert.Goals as goal

pub returns-clause-read_again : goal.returns-clause-read_again
returns-clause-read_again c =
    let cert = c.args.cert.now in
    ap reads_cert (c.in_ok-push_cert.ensures.text ∙ ap (λ (t : List ℕ). t ++ cert_text cert) c.new-out.ensures.items) ∙ reads_cert-cert_text cert c.in_ok-push_cert.ensures.written
