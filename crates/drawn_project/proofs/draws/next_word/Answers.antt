use Rattle.std.proofs.Common.{◌*◌, ◌^◌}
use native.Mathlib.Nat.{mod-add-mod}
use Rattle.drawn_project.specs.Draws.{next_word}
use Rattle.drawn_project.proofs.draws.next_word.Goals as goal

pub returns : goal.returns
unfolding next_word
returns c = mod-add-mod (c.args.word * 6364136223846793005) (2 ^ 64) 1442695040888963407
