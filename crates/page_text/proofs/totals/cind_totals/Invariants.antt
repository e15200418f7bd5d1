use Rattle.std.proofs.Common.{◌≡◌, take}
use Rattle.page_text.specs.Totals.{cind_totals}
use Rattle.page_text.proofs.totals.cind_totals.Given as goal

abbrev pub invariant-loop-missing : goal.invariant-loop-missing
invariant-loop-missing l = l.totals ≡ cind_totals (take l.missing-index l.all)
