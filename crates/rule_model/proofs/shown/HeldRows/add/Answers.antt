use Rattle.std.proofs.Common.{◌≡◌, ◌<◌, ◌++◌, ◌∷◌, [], length, arith, ap, ◌∙◌, rules}
use Rattle.rule_model.proofs.FewRows.{row_left, row_held_as, row_shown_as}
use Rattle.rule_model.proofs.shown.HeldRows.add.Goals as goal
use Rattle.rule_model.proofs.shown.HeldRows.add.Goals.{then-as_slice-most+in_ok-shown+else-eq, else-as_slice-most}

-- the row shows nothing that no row has shown
pub returns-then-eq-clause-stand : goal.returns-then-eq-clause-stand
returns-then-eq-clause-stand g c = λ all stand.
    let tests = g.T.TestsRows.tests c.args.tests.now in
    let long : c.args.most < length c.args.self.now.rows = omega (arith, ap length c.as_slice.ensures) in
    let same : c.in_ok-shown.shown ≡ c.args.self.now.shown = search rules in
    row_left tests c.args.most all c.args.self.now.rows c.args.self.now.shown c.in_ok-shown.shown c.args.row long c.in_ok-shown.ensures same stand

-- the row is held, and what it shows is kept where it was tested
pub returns-clause-stand : goal.returns-clause-stand
returns-clause-stand g c = λ all stand.
    let tests = g.T.TestsRows.tests c.args.tests.now in
    elim c.if-as_slice-most.branch [
      | then-as_slice-most+in_ok-shown+else-eq w ↦
          row_shown_as tests c.args.most all c.args.self.now.rows c.push.new.self c.args.self.now.shown c.if-as_slice-most.self.shown c.args.row
          (c.in_ok-push.ensures.ok ∙ ap (λ rows. rows ++ c.args.row ∷ []) (ap (λ s. s.rows) w.self-is))
          (ap (λ s. s.shown) w.self-is ∙ w.in_ok-shown.ensures)
          stand
      | else-as_slice-most w ↦
          row_held_as tests c.args.most all c.args.self.now.rows c.push.new.self c.args.self.now.shown c.if-as_slice-most.self.shown c.args.row
          (c.in_ok-push.ensures.ok ∙ ap (λ rows. rows ++ c.args.row ∷ []) (ap (λ s. s.rows) w.self-is))
          (ap (λ s. s.shown) w.self-is)
          stand
    ]
