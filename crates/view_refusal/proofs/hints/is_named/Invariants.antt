use Rattle.std.proofs.Common.{◌≡◌, take, false}
use Rattle.std.specs.List.{list_any}
use Rattle.view_refusal.specs.Hints.{is_its_name}
use Rattle.view_refusal.proofs.hints.is_named.Given as goal

abbrev pub invariant-loop-token : goal.invariant-loop-token
invariant-loop-token l = list_any (is_its_name l.table) (take l.token-index l.tokens) ≡ false
