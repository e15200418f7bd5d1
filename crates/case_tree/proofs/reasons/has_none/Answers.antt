use Rattle.std.proofs.Common.{◌≡◌, ℕ, Some, false, true, arith, sym, subst}
use Rattle.std.specs.Prelude.{IsSomeAnd, slice_get}
use Rattle.std.proofs.lemmas.Bool.{false≢true, both_ways}
use Rattle.case_tree.specs.declared.clauses.VarCell.{VarCell}
use Rattle.case_tree.specs.CaseTree.{IsIn, value_on}
use Rattle.case_tree.proofs.Cells.{ends_within}
use Rattle.case_tree.proofs.Lists.{IsSomeAnd-get_or, IsSomeAnd-past}
use Rattle.case_tree.proofs.reasons.has_none.Goals as goal
use Rattle.case_tree.proofs.reasons.has_none.Goals.{else-at-cells-via-then-at-cells+else-cells-at, else-at-cells-via-else-at-cells}

pub is_all_false-requires : goal.is_all_false-requires
is_all_false-requires c =
    let none : VarCell = record { first = 0; count = 0; demanded = false } in
    let cells_are = c.cells-cells.ensures.cells in
    let well = c.cells-cells.ensures.well_formed in
    let in_range = rw cells_are at c.if-at-cells.true in
    rw cells_are (omega (arith, ends_within 0 c.args.clauses.now.cells c.args.at none well.cells_follow in_range, well.vars_fit))

pub returns-then-cells-at : goal.returns-then-cells-at
returns-then-cells-at c =
    let says : VarCell → Type 0 = λ cell. (cell.demanded ≡ true) × ((v : ℕ) → IsIn cell v → value_on c.args.trail.now.path v ≡ Some false) in
    let there = IsSomeAnd-get_or says c.cells-cells.result.now c.args.at _ c.if-at-cells.true in
    let same = c.cells-cells.ensures.cells in
    let told = c.is_all_false.ensures in (
      λ yes. subst (λ cells. IsSomeAnd (slice_get cells c.args.at) says) same (there.1 (c.if-cells-at.true, told.0 yes)),
      λ held. told.1 (there.0 (subst (λ cells. IsSomeAnd (slice_get cells c.args.at) says) (sym same) held)).1,
    )

pub returns-else-at-cells : goal.returns-else-at-cells
returns-else-at-cells c =
    let says : VarCell → Type 0 = λ cell. (cell.demanded ≡ true) × ((v : ℕ) → IsIn cell v → value_on c.args.trail.now.path v ≡ Some false) in
    let same = c.cells-cells.ensures.cells in (
      λ yes. absurd (false≢true yes),
      λ held.
          let held_there = subst (λ cells. IsSomeAnd (slice_get cells c.args.at) says) (sym same) held in
          absurd (elim c.else-at-cells.branch [
            | else-at-cells-via-then-at-cells+else-cells-at w ↦
                both_ways _ w.if-cells-at.false ((IsSomeAnd-get_or says _ _ _ w.if-at-cells.true).0 held_there).0
            | else-at-cells-via-else-at-cells w ↦ IsSomeAnd-past says _ _ w.if-at-cells.false held_there
          ]),
    )
