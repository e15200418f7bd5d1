use Rattle.std.proofs.Common.{sym, ◌∙◌, ap}
use Rattle.std.specs.Option.{option_map}
use Rattle.line_grammar.specs.Leads.{token_of}
use Rattle.line_grammar.specs.Tokens.{token_at}
use Rattle.line_grammar.proofs.LeadLemmas.{left-none, left-touching, left-token, front-good, front-utf8}
use Rattle.line_grammar.proofs.cursor.Tokens.front.Goals as goal

pub returns-in_default-clause-none : goal.returns-in_default-clause-none
returns-in_default-clause-none c =
    sym c.self.view_is ∙ left-none _ _ (ap token_at (sym c.after_blanks-front.ensures) ∙ sym c.lead_at.ensures ∙ ap (option_map _) c.in_default.is)

pub returns-then-lacks_blank-clause-none : goal.returns-then-lacks_blank-clause-none
returns-then-lacks_blank-clause-none c =
    let found = ap token_at (sym c.after_blanks-front.ensures) ∙ sym c.lead_at.ensures ∙ ap (option_map _) c.in-Some.is in
    sym c.self.view_is ∙ left-touching _ _ (token_of c.in-Some.lead) c.in-Some.after.now found (sym c.lacks_blank.ensures ∙ c.if-lacks_blank.true)

pub returns-clause-front : goal.returns-clause-front
returns-clause-front c =
    let found = ap token_at (sym c.after_blanks-front.ensures) ∙ sym c.lead_at.ensures ∙ ap (option_map _) c.in-Some.is in
    sym c.self.view_is ∙ left-token _ _ (token_of c.in-Some.lead) c.in-Some.after.now c.self.invariant found (sym c.lacks_blank.ensures ∙ c.if-lacks_blank.false)

pub returns-clause-good : goal.returns-clause-good
returns-clause-good c =
    let found = ap token_at (sym c.after_blanks-front.ensures) ∙ sym c.lead_at.ensures ∙ ap (option_map _) c.in-Some.is in
    front-good _ c.in-Some.after.now (token_of c.in-Some.lead) c.self.invariant found

pub returns-clause-utf8 : goal.returns-clause-utf8
returns-clause-utf8 c =
    let found = ap token_at (sym c.after_blanks-front.ensures) ∙ sym c.lead_at.ensures ∙ ap (option_map _) c.in-Some.is in
    front-utf8 _ c.in-Some.after.now (token_of c.in-Some.lead) c.self.invariant found
