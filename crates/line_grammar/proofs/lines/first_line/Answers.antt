use Rattle.std.proofs.Common.{◌+◌, arith, drop, refl, add-one}
use Rattle.std.proofs.lemmas.List.{length-take}
use Rattle.line_grammar.proofs.Runs.{unwrap_or-position_or_len}
use Rattle.line_grammar.proofs.LineLemmas.{lines-first, drop_past}
use Rattle.line_grammar.proofs.lines.first_line.Goals as goal

pub returns-then-end-rest-clause-line : goal.returns-then-end-rest-clause-line
returns-then-end-rest-clause-line c =
    let place = unwrap_or-position_or_len _ _ c.first_line_feed.result c.unwrap_or-end.result c.first_line_feed.ensures c.unwrap_or-end.ensures in
    lines-first c.args.rest.now (drop (c.unwrap_or-end.result + 1) c.args.rest.now) _ c.unwrap_or-end.result c.len_without_return-len.result c.requires place (omega (arith, length-take c.unwrap_or-end.result c.args.rest.now, c.len_without_return-len.ensures.within)) c.len_without_return-len.ensures.front refl (rw add-one refl)

pub returns-else-end-rest-clause-line : goal.returns-else-end-rest-clause-line
returns-else-end-rest-clause-line c =
    let place = unwrap_or-position_or_len _ _ c.first_line_feed.result c.unwrap_or-end.result c.first_line_feed.ensures c.unwrap_or-end.ensures in
    lines-first c.args.rest.now _ _ c.unwrap_or-end.result c.len_without_return-len.result c.requires place (omega (arith, length-take c.unwrap_or-end.result c.args.rest.now, c.len_without_return-len.ensures.within)) c.len_without_return-len.ensures.front refl (drop_past c.args.rest.now c.unwrap_or-end.result c.if-end-rest.false)
