use Rattle.std.proofs.Common.{◌≡◌, vec_len}
use Rattle.case_search.proofs.lists.Lists.new.Given as goal

abbrev pub invariant-loop : goal.invariant-loop
invariant-loop l = vec_len l.lists ≡ l.counter
