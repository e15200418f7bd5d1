use Rattle.std.proofs.Common.{sym}
use Rattle.std.proofs.lemmas.List.Elements.{All-push}
use Rattle.std.proofs.lemmas.Result.{err_from_is_err_and}
use Rattle.line_grammar.specs.TokenLists.{list1_at}
use Rattle.line_grammar.proofs.FaultLemmas.{told_on}
use Rattle.line_grammar.proofs.ListLemmas.{ListLeft-none, ListLeft-last, ListLeft-more}
use Rattle.line_grammar.proofs.cursor.Tokens.list1.Goals as goal

pub returns-in_err-value-clause-list : goal.returns-in_err-value-clause-list
returns-in_err-value-clause-list g c =
    let p = err_from_is_err_and c.from_residual.result c.from_residual.ensures.1 in
    rw (p.1, p.2) (told_on _ _ _ (λ _ none. sym (ListLeft-none g.P.Phrase.reads _ c.loop-values.values c.loop-values.self c.loop-values.invariant.0 none)) c.in_err-value.ensures.exact)

pub returns-in_default-clause-list : goal.returns-in_default-clause-list
returns-in_default-clause-list g c =
    rw (c.in_ok-push.ensures.ok, c.in_default.ensures.mark.1)
    (sym (ListLeft-last g.P.Phrase.reads g.met.P.ListItem.takes _ c.loop-values.values c.loop-values.self c.take.new.tokens c.in_ok-value.value c.loop-values.invariant.0 c.in_ok-value.ensures.exact (c.in_default.ensures.mark.0)))

pub loop-values-preserved : goal.loop-values-preserved
loop-values-preserved g c =
    let total = list1_at g.P.Phrase.reads c.args.self.now in (
      rw c.in_ok-push.ensures.ok
          (ListLeft-more g.P.Phrase.reads g.met.P.ListItem.takes total c.loop-values.values c.loop-values.self c.take.new.tokens c.mark.new.self c.in_ok-value.value c.loop-values.invariant.0 c.in_ok-value.ensures.exact (c.in-Ok.ensures.mark)),
      rw c.in_ok-push.ensures.ok (All-push g.P.Phrase.is_fit c.loop-values.values c.in_ok-value.value c.loop-values.invariant.1 c.in_ok-value.ensures.fit),
    )
