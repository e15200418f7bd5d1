use Rattle.std.proofs.Common.{◌↔◌, drop}
use Rattle.std.specs.List.{AllZip}
use Rattle.cert_check.specs.Shown.{IsShortText}
use Rattle.cert_check.proofs.tuples.is_short_tuple.Given as goal

-- what is left decides
abbrev pub invariant-loop-place : goal.invariant-loop-place
invariant-loop-place l = AllZip IsShortText (drop l.place l.attrs) (drop l.place l.tuple) ↔ AllZip IsShortText l.attrs l.tuple
