use Rattle.std.proofs.Common.{sym, ◌∙◌, ap, arith}
use Rattle.std.specs.Option.{option_map}
use Rattle.line_grammar.specs.Leads.{token_of}
use Rattle.line_grammar.specs.Tokens.{token_at}
use Rattle.line_grammar.proofs.LeadLemmas.{are-end, are-none, are-touching, are-token}
use Rattle.line_grammar.proofs.TokenLemmas.{token_at-Follows, IsUtf8-after_blanks, length-after_blanks, is_nil, is_some}
use Rattle.line_grammar.proofs.reading.is_token_list.Goals as goal

pub returns-then-is_empty : goal.returns-then-is_empty
returns-then-is_empty c =
    are-end _ _ _ c.loop-rest.invariant (is_nil c.after_blanks-front.ensures c.is_empty.ensures c.if-is_empty.true)

pub returns-in_default : goal.returns-in_default
returns-in_default c =
    let found = ap token_at (sym c.after_blanks-front.ensures) ∙ sym c.lead_at.ensures ∙ ap (option_map _) c.in_default.is in
    are-none _ _ _ c.loop-rest.invariant (is_some c.after_blanks-front.ensures c.is_empty.ensures c.if-is_empty.false) found

pub returns-then-lacks_blank : goal.returns-then-lacks_blank
returns-then-lacks_blank c =
    let found = ap token_at (sym c.after_blanks-front.ensures) ∙ sym c.lead_at.ensures ∙ ap (option_map _) c.in-Some.is in
    let some = is_some c.after_blanks-front.ensures c.is_empty.ensures c.if-is_empty.false in
    are-touching _ _ _ (token_of c.in-Some.lead) c.in-Some.after.now c.loop-rest.invariant some found (sym c.lacks_blank.ensures ∙ c.if-lacks_blank.true)

pub loop-rest-smaller : goal.loop-rest-smaller
loop-rest-smaller c =
    let found = ap token_at (sym c.after_blanks-front.ensures) ∙ sym c.lead_at.ensures ∙ ap (option_map _) c.in-Some.is in
    let follows = token_at-Follows _ c.in-Some.after.now (token_of c.in-Some.lead) (IsUtf8-after_blanks _ c.loop-rest.invariant.1.utf8) found in
    omega (arith, follows.shorter, length-after_blanks c.loop-rest.rest.now)

pub loop-rest-preserved : goal.loop-rest-preserved
loop-rest-preserved c =
    let found = ap token_at (sym c.after_blanks-front.ensures) ∙ sym c.lead_at.ensures ∙ ap (option_map _) c.in-Some.is in
    let some = is_some c.after_blanks-front.ensures c.is_empty.ensures c.if-is_empty.false in
    rw c.is_word-after_word.ensures (are-token _ _ _ (token_of c.in-Some.lead) c.in-Some.after.now c.loop-rest.invariant some found (sym c.lacks_blank.ensures ∙ c.if-lacks_blank.false))
