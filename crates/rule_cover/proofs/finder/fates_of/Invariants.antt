use Rattle.rule_cover.proofs.Turns.{HasFound}
use Rattle.rule_cover.proofs.finder.fates_of.Given as goal

abbrev pub invariant-loop-number : goal.invariant-loop-number
invariant-loop-number l = HasFound l.schema l.budget l.initial.round.after l.numbers l.number-index l.round l.fates
