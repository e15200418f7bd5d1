use Rattle.std.proofs.Common.{refl, sym, ◌∙◌, arith}
use Rattle.std.proofs.lemmas.Result.{err_from_is_err_and}
use Rattle.line_grammar.proofs.FaultLemmas.{told_on}
use Rattle.line_grammar.proofs.TokenLemmas.{is_nil}
use Rattle.cert_text.specs.declared.answers.Draft.TheVariants.{Nodes}
use Rattle.cert_text.proofs.NodeTexts.{no_text, text_fault, text_step}
use Rattle.cert_text.proofs.parse.with_nodes.Goals as goal

pub returns-in_err-missing-clause-exact : goal.returns-in_err-missing-clause-exact
returns-in_err-missing-clause-exact c =
    let p = err_from_is_err_and c.from_residual-in_err-missing.result c.from_residual-in_err-missing.ensures.1 in
    let read = Nodes c.args.asked c.loop-rest.tree c.loop-rest.missing in
    rw (p.1, p.2)
    (told_on _ _ _ (λ fault e. sym c.loop-rest.invariant.3 ∙ text_fault read c.loop-rest.before c.loop-rest.rest.now c.split_line.result.0.now c.split_line.result.1.now fault c.split_line.ensures.line e) c.in_err-missing.ensures.exact)

pub loop-rest-preserved : goal.loop-rest-preserved
loop-rest-preserved c =
    let read = Nodes c.args.asked c.loop-rest.tree c.loop-rest.missing in
    let next = Nodes c.args.asked c.with_node.new.tree c.in_ok-missing.missing in (
      omega (arith, c.split_line.ensures.shorter, c.loop-rest.invariant.0),
      c.in_ok-missing.ensures.tree,
      c.in_ok-missing.ensures.seen,
      text_step read c.loop-rest.before c.loop-rest.rest.now c.split_line.result.0.now c.split_line.result.1.now next c.split_line.ensures.line c.in_ok-missing.ensures.exact ∙ c.loop-rest.invariant.3,
    )

pub returns-clause-exact : goal.returns-clause-exact
returns-clause-exact c =
    sym c.loop-rest.invariant.3 ∙ no_text (Nodes c.args.asked c.loop-rest.tree c.loop-rest.missing) c.loop-rest.before c.loop-rest.rest.now (is_nil refl c.is_empty.ensures c.loop-rest-test.false)
