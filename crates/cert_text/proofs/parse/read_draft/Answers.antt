use Rattle.std.proofs.Common.{sym, ◌∙◌, arith}
use Rattle.std.proofs.lemmas.Result.{err_from_is_err_and}
use Rattle.line_grammar.specs.Groups.{read_lines}
use Rattle.line_grammar.proofs.FaultLemmas.{told_on}
use Rattle.cert_text.proofs.NodeTexts.{text_fault, text_step}
use Rattle.cert_text.proofs.parse.read_draft.Goals as goal

pub returns-in_err-draft-clause-exact : goal.returns-in_err-draft-clause-exact
unfolding read_lines
returns-in_err-draft-clause-exact c =
    let p = err_from_is_err_and c.from_residual.result c.from_residual.ensures.1 in
    rw (p.1, p.2)
    (told_on _ _ _ (λ fault e. sym c.loop-draft.invariant.2 ∙ text_fault c.loop-draft.draft c.loop-draft.before c.loop-draft.rest.now c.split_line.result.0.now c.split_line.result.1.now fault c.split_line.ensures.line e) c.in_err-draft.ensures.exact)

pub loop-draft-preserved : goal.loop-draft-preserved
loop-draft-preserved c = (
  omega (arith, c.split_line.ensures.shorter, c.loop-draft.invariant.0),
  c.in_ok-draft.ensures.fit,
  text_step c.loop-draft.draft c.loop-draft.before c.loop-draft.rest.now c.split_line.result.0.now c.split_line.result.1.now c.in_ok-draft.draft c.split_line.ensures.line c.in_ok-draft.ensures.exact ∙ c.loop-draft.invariant.2,
)
