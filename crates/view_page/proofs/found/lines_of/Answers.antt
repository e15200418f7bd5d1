use Rattle.std.proofs.Common.{[], ◌∷◌, ◌++◌, ap, ◌∙◌}
use Rattle.view_page.proofs.FoundLines.{lines-more}
use Rattle.view_page.proofs.found.lines_of.Goals as goal

pub loop-rest-preserved : goal.loop-rest-preserved
loop-rest-preserved c =
    lines-more c.loop-rest.rest.now c.split_line.result.1.now c.split_line.result.0.now c.loop-rest.found c.push.new.self c.split_line.ensures.line
    (c.in_ok-push.ensures.ok ∙ ap (λ b. c.loop-rest.found ++ b ∷ []) c.in_ok-bytes_of.ensures) ∙ c.loop-rest.invariant
