use Rattle.std.proofs.Common.{◌≡◌, ◌++◌, take}
use Rattle.std.specs.List.{flat_map}
use Rattle.page_text.specs.Groups.{missing_row}
use Rattle.page_text.proofs.missing.push_each_missing.Given as goal

abbrev pub invariant-loop-missing : goal.invariant-loop-missing
invariant-loop-missing l = l.out.items ≡ l.fn.out.items ++ flat_map (missing_row l.attrs l.cind l.shown) (take l.missing-index l.all)
