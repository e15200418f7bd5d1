use Rattle.std.proofs.Common.{◌≡◌, ◌+◌, [], ◌∷◌, ◌++◌, drop, sym, subst, ◌∙◌}
use Rattle.std.specs.HashSet.{contains_by}
use Rattle.std.specs.Str.{bytes_eq}
use Rattle.table_flaws.specs.Flaws.{is_spaced, passing}
use Rattle.table_flaws.proofs.Steps.{passing-no, passing-yes, spaced_test}
use Rattle.table_flaws.proofs.columns.spaced_rows.Goals as goal
use Rattle.table_flaws.proofs.columns.spaced_rows.Goals.{then-is_spaced+in_ok-push, else-is_spaced}

pub loop-place-preserved : goal.loop-place-preserved
loop-place-preserved c =
    let values = c.args.values.now in
    let place = c.loop-place.place in
    let value = c.index-values-place.result in
    let found = c.loop-place.rows in
    let all = passing (is_spaced values) 1 values in
    let told = spaced_test values value c.as_str.result.now c.is_spaced.result (λ q. contains_by (λ key. bytes_eq q key.now) c.in_ok-all.all) c.in_ok-all.ensures c.as_str.ensures.bytes c.is_spaced.ensures in
    elim c.if-is_spaced.branch [
      | then-is_spaced+in_ok-push w ↦
          (let grown : c.if-is_spaced.rows ≡ found ++ (place + 1) ∷ [] = w.rows-is ∙ w.in_ok-push.ensures.ok in
          subst (λ rows. rows ++ passing (is_spaced values) (place + 1 + 1) (drop (place + 1) values) ≡ all) (sym grown)
          (passing-yes (is_spaced values) values place value found all c.loop-place-test.true c.index-values-place.is c.loop-place.invariant (sym told ∙ w.if-is_spaced.true)))
      | else-is_spaced w ↦
          (let kept : c.if-is_spaced.rows ≡ found = w.rows-is in
          subst (λ rows. rows ++ passing (is_spaced values) (place + 1 + 1) (drop (place + 1) values) ≡ all) (sym kept)
          (passing-no (is_spaced values) values place value found all c.loop-place-test.true c.index-values-place.is c.loop-place.invariant (sym told ∙ w.if-is_spaced.false)))
    ]
