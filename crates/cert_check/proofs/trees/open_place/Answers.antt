use Rattle.std.proofs.Common.{length, ◌∙◌, sym, ap, arith}
use Rattle.std.proofs.lemmas.List.Sums.{position_or_len_is}
use Rattle.cert_text.specs.declared.cert.NodeLine.{NodeLine}
use Rattle.cert_text.specs.declared.names.NodeName.TheVariants.{Open}
use Rattle.cert_check.specs.Nodes.{is_open}
use Rattle.cert_check.proofs.NodeLines.{line_open}
use Rattle.cert_check.proofs.trees.open_place.Goals as goal

any_line : NodeLine
any_line = record { line = 0; node = Open }

pub returns-in-Open : goal.returns-in-Open
returns-in-Open c =
    sym (position_or_len_is line_open c.args.lines.now c.loop-place.place any_line (omega arith) (λ k less. c.loop-place.invariant k any_line less) (λ within. ap is_open (sym (c.node_at.ensures any_line)) ∙ ap is_open c.in-Open.is))

pub returns : goal.returns
returns c =
    let lines = c.args.lines.now in
    c.len.ensures.count ∙ sym (position_or_len_is line_open lines (length lines) any_line (omega arith) (λ k less. c.loop-place.invariant k any_line (omega arith)) (λ within. absurd (omega arith)))
