use Rattle.std.proofs.Common.{◌≡◌, drop}
use Rattle.std.specs.List.{list_any}
use Rattle.std.specs.Option.{ForSome}
use Rattle.cfd_semantics.specs.Orphan.{left_entry_of, right_entries, answers}
use Rattle.cfd_semantics.proofs.orphan.is_answered.Given as goal

-- the right rows that are left decide
abbrev pub invariant-loop-other : goal.invariant-loop-other
invariant-loop-other g l =
    ForSome (left_entry_of l.inclusion l.row) (λ left. list_any (answers g.V.PartialEq.eq l.tableau_row left) (right_entries l.inclusion (drop l.other-index l.rights))
    ≡ list_any (answers g.V.PartialEq.eq l.tableau_row left) (right_entries l.inclusion l.rights))
