use Rattle.std.specs.Prelude.{ℕ, ◌<◌, Contains, slice_index_or}
use Rattle.group_index.specs.Tableaux.{IsKept}
use Rattle.group_index.proofs.tableau.Finder.put_members.Given as goal

-- the members so far are there, and what was found still is
abbrev pub invariant-loop-place : goal.invariant-loop-place
invariant-loop-place l =
    ((at : ℕ) (d : ℕ) → at < l.place → Contains l.self.asked.keys (slice_index_or l.members at d, l.k)) × IsKept l.initial.self l.self
