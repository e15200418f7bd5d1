use Rattle.std.proofs.Common.{refl, sym, ◌∙◌, ◌+◌, arith}
use Rattle.line_grammar.proofs.TokenLemmas.{is_nil}
use Rattle.line_grammar.proofs.WalkLemmas.{next_line, passed_line, no_line_left}
use Rattle.line_grammar.proofs.line_reading.FileLines.next.Goals as goal

pub returns-in-Some-clause-next : goal.returns-in-Some-clause-next
returns-in-Some-clause-next c =
    sym c.self.view_is ∙ sym c.loop-self.invariant.0
    ∙ next_line (c.loop-self.self-inside.before + 1) c.loop-self.self-inside.rest.now c.split_line.result.0.now c.split_line.result.1.now _ c.content_of-content.result c.in-Some.content c.split_line.ensures.line
    refl c.content_of-content.ensures c.in-Some.is

pub loop-self-preserved : goal.loop-self-preserved
loop-self-preserved c = (
  sym (passed_line (c.loop-self.self-inside.before + 1) c.loop-self.self-inside.rest.now c.split_line.result.0.now c.split_line.result.1.now _ c.content_of-content.result c.split_line.ensures.line
      refl c.content_of-content.ensures c.in_default.is)
      ∙ c.loop-self.invariant.0,
  omega (arith, c.split_line.ensures.shorter, c.loop-self.invariant.1),
)

pub returns-clause-last : goal.returns-clause-last
returns-clause-last c = no_line_left (c.loop-self.self-inside.before + 1) c.loop-self.self-inside.rest.now (is_nil refl c.is_empty.ensures c.loop-self-test.false)
