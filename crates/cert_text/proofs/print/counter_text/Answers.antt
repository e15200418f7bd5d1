use Rattle.std.proofs.Common.{ℕ, List, ◌++◌, ap, ◌∙◌}
use Rattle.cert_text.specs.Canonical.{counter_cert}
use Rattle.cert_text.specs.CertText.{cert_text}
use Rattle.cert_text.proofs.CertTexts.{counter_again}
use Rattle.cert_text.proofs.print.counter_text.Goals as goal

pub returns : goal.returns
returns c =
    let dep = c.args.dep.now in
    let one = c.args.one.now in
    let other = c.args.other.now in
    counter_again dep one other c.push_counter.new.out.items c.requires.dep (record { some = c.requires.one; utf8 = c.see_texts.ensures }) (record { some = c.requires.other; utf8 = c.see_texts-2.ensures })
    (c.in_ok-push_counter.ensures ∙ ap (λ (t : List ℕ). t ++ cert_text (counter_cert dep one other)) c.new-out.ensures.items)
