-- The form `check PROJECT CERT`: whether a certificate holds over the rules of a project.
use Rattle.std.specs.Prelude.{◌≡◌, ℕ, List, ◌++◌, Ok, codes, decimal}
use Rattle.text_lists.specs.declared.limits.Limits.{Limits}
use Rattle.cert_text.specs.CertFiles.{reads_cert}
use Rattle.cert_text.specs.declared.cert.CertParts.{CertParts}
use Rattle.cert_text.specs.declared.fault.CertCause.{CertCause}
use Rattle.cert_text.specs.declared.fault.CertCause.TheVariants as found
use Rattle.cert_check.specs.Right.{IsRight}
use Rattle.cert_check.specs.Verdict.{IsCertVerdict}
use Rattle.cert_check.specs.declared.verdict.CertVerdict.{CertVerdict}
use Rattle.cert_check.specs.declared.verdict.CertVerdict.TheVariants.{Holds, Fails}
use Rattle.cli_output.specs.declared.refusal.Cause.{Cause}
use Rattle.cli_output.specs.declared.refusal.Cause.TheVariants as cause
use Rattle.cli_output.specs.declared.refusal.LineFlaw.{LineFlaw}
use Rattle.cli_output.specs.declared.refusal.LineFlaw.TheVariants.{NotUtf8, BadLine}
use Rattle.cli_output.specs.declared.status.Status.{Status}
use Rattle.cli_output.specs.declared.status.Status.TheVariants.{Clean, Findings}
use Rattle.cli_output.specs.Fetching.{Fetching, ◌>>=◌, about, file, given}
use Rattle.cli_output.specs.Output.{Outputs, Task}
use Rattle.cli_output.specs.RuleFiles.{fetch_book, spelled}
use Rattle.rule_forms.specs.declared.check_form.Given.{Given}

-- what is told of a line of a certificate
abbrev pub flaw_of : CertCause → LineFlaw
flaw_of found.NotUtf8 = NotUtf8
flaw_of found.BadLine = BadLine

abbrev pub cert_line : ℕ → CertCause → Cause
cert_line line why = cause.Line line (flaw_of why)

-- the certificate of the named file
unfoldable pub fetch_cert : Limits → List ℕ → Fetching CertParts
fetch_cert limits name = file limits name >>= λ bytes. given (about name (spelled cert_line (reads_cert bytes)))

-- the rules of a project, and then the certificate
unfoldable pub fetch_given : Limits → List ℕ → List ℕ → Fetching Given
fetch_given limits project name =
    fetch_book limits project >>= λ rules.
    fetch_cert limits name >>= λ cert.
    given (Ok (record { rules = rules; cert = cert }))

abbrev pub verdict_text : CertVerdict → List ℕ
verdict_text Holds = codes "holds\n"
verdict_text (Fails line) = codes "fails " ++ decimal line ++ codes "\n"

abbrev pub verdict_status : CertVerdict → Status
verdict_status Holds = Clean
verdict_status (Fails line) = Findings

-- The line that tells the verdict. Where the certificate holds, its answer to its question is right.
abbrev pub check_outputs : Given → Outputs
check_outputs read bytes status =
    (verdict : CertVerdict) × IsCertVerdict read.rules read.cert verdict × (verdict ≡ Holds → IsRight read.rules read.cert) × (bytes ≡ verdict_text verdict) × (status ≡ verdict_status verdict)

-- the schema, the rules and the certificate are fetched
abbrev pub check_task : Limits → List ℕ → List ℕ → Task
check_task limits project name = record {
  Found = Given;
  fetching = fetch_given limits project name;
  outputs = check_outputs;
  most_fetches = 3;
}
