use Rattle.std.proofs.Common.{◌≡◌, ◌<◌, ◌≤◌, false, length, inl, inr, sym, ap, subst, ◌∙◌, arith}
use Rattle.std.specs.Prelude.{slice_get}
use Rattle.std.proofs.lemmas.Bool.{cases_lt}
use Rattle.std.proofs.lemmas.Bool.Decides.{nat_tests}
use Rattle.std.proofs.lemmas.Option.{slice_get_past}
use Rattle.master_index.specs.ColumnSets.{has_column}
use Rattle.master_index.proofs.column_set.differences.Goals as goal
use Rattle.master_index.proofs.column_set.differences.Goals.{then-differ_at, else-differ_at}

pub loop-column-preserved : goal.loop-column-preserved
loop-column-preserved c column below isnt = elim c.if-differ_at.branch [
  | then-differ_at w ↦
      let set = sym (w.with-apart.ensures column) ∙ ap (λ set. has_column set column) (sym w.apart-is) ∙ isnt in
      let before : has_column c.loop-column.apart column ≡ false = grind (arith, nat_tests, set) in
      let other : column < c.loop-column.column = grind (arith, nat_tests, set, below) in
      c.loop-column.invariant column other before
  | else-differ_at w ↦
      let before = ap (λ set. has_column set column) (sym w.apart-is) ∙ isnt in
      elim (cases_lt column c.loop-column.column) [
        | inl less ↦ c.loop-column.invariant column less before
        | inr not_less ↦
            let here : c.loop-column.column ≡ column = omega arith in
            subst (λ n. slice_get c.args.one.now n ≡ slice_get c.args.other.now n) here (c.differ_at.ensures w.if-differ_at.false)
      ]
]

pub returns : goal.returns
returns c column within isnt = elim (cases_lt column c.loop-column.column) [
  | inl less ↦ c.loop-column.invariant column less isnt
  | inr not_less ↦
      let one : length c.args.one.now ≤ column = grind (arith, not_less, within, c.loop-column-test.false, c.min-column-end.ensures, c.max-width.ensures) in
      let other : length c.args.other.now ≤ column = grind (arith, not_less, within, c.loop-column-test.false, c.min-column-end.ensures, c.max-width.ensures) in
      slice_get_past c.args.one.now column one ∙ sym (slice_get_past c.args.other.now column other)
]
