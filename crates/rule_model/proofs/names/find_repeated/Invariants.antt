use Rattle.std.proofs.Common.{◌≡◌, take, drop, ◌++◌}
use Rattle.std.specs.Str.{bytes_eq}
use Rattle.text_lists.specs.Repeats.{repeated_after}
use Rattle.rule_model.proofs.names.find_repeated.Given as goal

-- what is left to look through gives the answer
abbrev pub invariant-loop-i : goal.invariant-loop-i
invariant-loop-i l = repeated_after bytes_eq (l.before ++ take l.i l.texts) (drop l.i l.texts) ≡ repeated_after bytes_eq l.before l.texts
