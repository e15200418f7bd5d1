use Rattle.std.proofs.Common.{[], ◌∷◌, ◌++◌, ap, sym, arith, length}
use Rattle.std.proofs.lemmas.List.{length-append}
use Rattle.std.proofs.lemmas.List.Elements.{All-push}
use Rattle.std.proofs.lemmas.Result.{err_from_is_err_and}
use Rattle.line_grammar.specs.TokenLists.{list1_at}
use Rattle.line_grammar.proofs.FaultLemmas.{told_on}
use Rattle.line_grammar.proofs.ListLemmas.{ListLeft-none, ListLeft-last, ListLeft-more, few_at-all, few_at-none, few_at-long}
use Rattle.line_grammar.proofs.cursor.Tokens.few.Goals as goal

pub returns-in_err-value-clause-list : goal.returns-in_err-value-clause-list
returns-in_err-value-clause-list g c =
    let p = err_from_is_err_and c.from_residual.result c.from_residual.ensures.1 in
    let reads = g.P.Phrase.reads in
    rw (p.1, p.2)
    (told_on _ _ _ (λ _ none. sym (few_at-none reads c.args.most c.args.self.now (ListLeft-none reads _ c.loop-values.values c.loop-values.self c.loop-values.invariant.0 none))) c.in_err-value.ensures.exact)

pub returns-in_default-clause-list : goal.returns-in_default-clause-list
returns-in_default-clause-list g c =
    let reads = g.P.Phrase.reads in
    let read = c.loop-values.values in
    let last = c.in_ok-value.value in
    rw (c.in_ok-push.ensures.ok, c.in_default.ensures.mark.1)
    (few_at-all reads c.args.most c.args.self.now c.take.new.tokens _
    (ListLeft-last reads g.met.P.ListItem.takes _ read c.loop-values.self c.take.new.tokens last c.loop-values.invariant.0 c.in_ok-value.ensures.exact c.in_default.ensures.mark.0)
    (omega (arith, length-append read (last ∷ []), c.loop-values.invariant.2)))

pub loop-values-preserved : goal.loop-values-preserved
loop-values-preserved g c =
    let total = list1_at g.P.Phrase.reads c.args.self.now in (
      rw c.in_ok-push.ensures.ok
          (ListLeft-more g.P.Phrase.reads g.met.P.ListItem.takes total c.loop-values.values c.loop-values.self c.take.new.tokens c.mark.new.self c.in_ok-value.value c.loop-values.invariant.0 c.in_ok-value.ensures.exact (c.in-Ok.ensures.mark)),
      rw c.in_ok-push.ensures.ok (All-push g.P.Phrase.is_fit c.loop-values.values c.in_ok-value.value c.loop-values.invariant.1 c.in_ok-value.ensures.fit),
      omega (arith, c.if-most-as_slice.false, ap length c.as_slice.ensures),
    )

pub returns-then-most-as_slice-clause-list : goal.returns-then-most-as_slice-clause-list
returns-then-most-as_slice-clause-list g c =
    let reads = g.P.Phrase.reads in
    let read = c.loop-values.values in
    let next = c.in_ok-value.value in
    let left = ListLeft-more reads g.met.P.ListItem.takes (list1_at reads c.args.self.now) read c.loop-values.self c.take.new.tokens c.mark.new.self next c.loop-values.invariant.0 c.in_ok-value.ensures.exact (c.in-Ok.ensures.mark) in
    sym (few_at-long reads c.args.most c.args.self.now c.mark.new.self (read ++ next ∷ []) left (omega (arith, c.if-most-as_slice.true, ap length c.as_slice.ensures, ap length c.in_ok-push.ensures.ok)))
