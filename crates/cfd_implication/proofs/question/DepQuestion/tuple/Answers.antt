use Rattle.std.proofs.Common.{◌≡◌, ℕ, ◌≤◌, Bool, false, List, length, sym, ap, ◌∙◌, subst}
use Rattle.std.specs.Prelude.{All, IfOk, slice_index_or}
use Rattle.schema_core.specs.Schemas.{IsValidAttr}
use Rattle.schema_core.specs.declared.schema.Attr.{Attr}
use Rattle.cell_values.specs.declared.values.CellValues.{CellValues}
use Rattle.cell_values.specs.Layout.{count_of, var_total}
use Rattle.cell_values.specs.Readings.{tuple_of}
use Rattle.cell_values.specs.Values.{AreFew}
use Rattle.cell_values.proofs.Tables.{attrs_valid}
use Rattle.cfd_implication.specs.Question.{AskedDep, asked_values, stands_for}
use Rattle.cfd_implication.proofs.Questions.{constants_bound}
use Rattle.cfd_implication.proofs.question.DepQuestion.tuple.Goals as goal

pub tuple_of-requires-clause-valid : goal.tuple_of-requires-clause-valid
tuple_of-requires-clause-valid c =
    subst (All IsValidAttr) (sym c.attrs_at-attrs.ensures) (attrs_valid c.self.inside.schema.now c.self.inside.dep.now.table c.self.invariant.typed)

pub tuple_of-requires-clause-few : goal.tuple_of-requires-clause-few
tuple_of-requires-clause-few c = subst AreFew (sym c.as_slice.ensures) c.self.invariant.few

pub tuple_of-requires-clause-constants : goal.tuple_of-requires-clause-constants
tuple_of-requires-clause-constants c =
    let shown = c.self.inside in
    let made = c.self.invariant in
    subst (All (λ (cell : CellValues). cell.constants ≤ length cell.values)) (sym (c.as_slice.ensures ∙ made.valued))
    (constants_bound shown.schema.now shown.deps.now shown.dep.now made.typed made.deps_valid made.dep_valid)

pub tuple_of-requires-clause-told : goal.tuple_of-requires-clause-told
tuple_of-requires-clause-told c =
    subst (λ (cells : List CellValues). var_total (count_of c.args.which) cells ≤ length c.args.truth.now)
    (sym (c.as_slice.ensures ∙ c.self.invariant.valued ∙ ap (λ (q : AskedDep). asked_values q.schema q.deps q.dep) c.self.view_is)) c.requires

pub returns : goal.returns
returns c =
    let shown = c.self.inside in
    let values = asked_values shown.schema.now shown.deps.now shown.dep.now in
    let which = c.args.which in
    let truth : ℕ → Bool = λ v. slice_index_or c.args.truth.now v false in
    let made = c.tuple_of.result in
    subst (λ (q : AskedDep). IfOk made (λ (t : List (List ℕ)). t ≡ stands_for which q.schema q.deps q.dep truth)) c.self.view_is
    (subst (λ (attrs : List Attr). IfOk made (λ (t : List (List ℕ)). t ≡ tuple_of which attrs values truth)) c.attrs_at-attrs.ensures
    (subst (λ (cells : List CellValues). IfOk made (λ (t : List (List ℕ)). t ≡ tuple_of which c.attrs_at-attrs.result.now cells truth))
    (c.as_slice.ensures ∙ c.self.invariant.valued) c.tuple_of.ensures))
