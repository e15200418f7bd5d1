use Rattle.std.proofs.Common.{◌-◌, ◌≤◌, vec_len}
use Rattle.shelf_io.proofs.folder_shelf.read_front.Given as goal

abbrev pub invariant-loop-chunk : goal.invariant-loop-chunk
invariant-loop-chunk g l = vec_len l.bytes ≤ l.most

abbrev pub decreases-loop-chunk : goal.decreases-loop-chunk
decreases-loop-chunk g l = l.most - vec_len l.bytes
