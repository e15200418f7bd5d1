use Rattle.rule_cover.proofs.Turns.{HasTold}
use Rattle.rule_cover.proofs.text.fates_text.Given as goal

abbrev pub invariant-loop-number : goal.invariant-loop-number
invariant-loop-number l = HasTold l.schema l.initial.round.after l.fates l.number-index l.round l.out.items
