use Rattle.std.proofs.Common.{[], ◌∷◌, ◌++◌, sym, ap, subst, ◌∙◌}
use Rattle.std.specs.Prelude.{All, map}
use Rattle.std.specs.FinMap as finite
use Rattle.std.proofs.lemmas.List.{map-append}
use Rattle.std.proofs.lemmas.List.Elements.{All-push}
use Rattle.master_index.specs.declared.column_index.ColumnIndex.{ColumnIndex}
use Rattle.master_index.specs.InStep.{IsInStepWith, IsMasterIndex}
use Rattle.master_index.proofs.MasterSteps.{empty_in_step, kept_without_rows}
use Rattle.master_index.proofs.index.MasterIndex.new.Goals as goal

pub loop-list-preserved : goal.loop-list-preserved
loop-list-preserved c =
    let was = c.loop-list.columns.items in
    let one = c.in_ok-new.field-0 in
    record {
      lists = ap (map (λ (index : ColumnIndex). index.list)) c.in_ok-push.ensures.items ∙ map-append (λ (index : ColumnIndex). index.list) was (one ∷ [])
          ∙ ap (λ lists. lists ++ one.list ∷ []) c.loop-list.invariant.lists ∙ ap (λ list. c.loop-list.yielded ++ list ∷ []) c.in_ok-new.ensures.list;
      empty = subst (All (IsInStepWith finite.empty)) (sym c.in_ok-push.ensures.items) (All-push (IsInStepWith finite.empty) was one c.loop-list.invariant.empty (empty_in_step one c.in_ok-new.ensures.empty));
    }

pub invariant_of-result : goal.invariant_of-result
invariant_of-result c = subst (IsMasterIndex c.loop-list.columns.items) (sym c.new-2.ensures) (kept_without_rows c.loop-list.columns.items c.loop-list.invariant.empty)
