use Rattle.std.proofs.Common.{ℕ, List, ◌++◌, ap, ◌∙◌}
use Rattle.cert_text.specs.Canonical.{witness_cert}
use Rattle.cert_text.specs.CertText.{cert_text}
use Rattle.cert_text.proofs.CertTexts.{witness_again}
use Rattle.cert_text.proofs.print.witness_text.Goals as goal

pub returns : goal.returns
returns c =
    let table = c.args.table.now in
    let values = c.args.values.now in
    witness_again table values c.push_witness.new.out.items c.requires.table (record { some = c.requires.values; utf8 = c.see_texts.ensures })
    (c.in_ok-push_witness.ensures ∙ ap (λ (t : List ℕ). t ++ cert_text (witness_cert table values)) c.new-out.ensures.items)
