-- What right fates show about the pieces that stay.
use Rattle.std.proofs.Common.{◌≡◌, ℕ, Bool, true, false, List, [], ◌∷◌, ◌++◌, sym, subst}
use Rattle.std.specs.Prelude.{All}
use Rattle.std.proofs.lemmas.List.Elements.{All-nil, All-cons, All-head, All-tail}
use Rattle.schema_core.specs.Lookups.{attrs_at}
use Rattle.schema_core.specs.declared.schema.Schema.{Schema}
use Rattle.rule_model.specs.declared.dep.Dep.{Dep}
use Rattle.cell_values.specs.Tuples.{IsTupleOf}
use Rattle.cfd_implication.specs.Implied.{IsImplied, SatisfyTable}
use Rattle.rule_cover.specs.declared.fates.Fate.{Fate}
use Rattle.rule_cover.specs.declared.fates.Fate.TheVariants.{Dropped, Kept, Spent}
use Rattle.rule_cover.specs.declared.fates.Piece.{Piece}
use Rattle.rule_cover.specs.Cover.{AreNeeded, IsCover}
use Rattle.rule_cover.specs.Fates.{AreFates, AreRight, kept_piece, left, stays}
use Rattle.rule_cover.specs.Pieces.{deps_in, table_pieces}
use Rattle.rule_cover.specs.Rounds.{again_if}
use Rattle.rule_cover.proofs.Satisfied.{behind, both, fewer, none, one, pieces_same}

-- those that stay are among all
kept_if : (table : ℕ) (tuples : List (List (List ℕ))) (piece : Dep) (b : Bool) → SatisfyTable table (piece ∷ []) tuples → SatisfyTable table (again_if b piece) tuples
kept_if table tuples piece true all = all
kept_if table tuples piece false all = none table tuples

left_of : (table : ℕ) (tuples : List (List (List ℕ))) (pieces : List Dep) (fates : List (Piece × Fate)) → SatisfyTable table pieces tuples → SatisfyTable table (left pieces fates) tuples
left_of table tuples [] fates all = none table tuples
left_of table tuples (piece ∷ pieces) [] all = none table tuples
left_of table tuples (piece ∷ pieces) (fate ∷ fates) all =
    both table tuples (kept_piece piece fate) (left pieces fates)
    (kept_if table tuples piece (stays fate.1) (fewer table tuples (piece ∷ []) pieces all))
    (left_of table tuples pieces fates (behind table tuples (piece ∷ []) pieces all))

module _ (schema : Schema) (table budget : ℕ) (tuples : List (List (List ℕ))) (are : All (IsTupleOf (attrs_at schema table)) tuples) where
  implied_here : (others : List Dep) (piece : Dep) → piece.table ≡ table → IsImplied schema others piece → SatisfyTable table others tuples → SatisfyTable table (piece ∷ []) tuples
  implied_here others piece own implied all =
      one table tuples piece (λ _. implied tuples
      (subst (λ (t : ℕ). All (IsTupleOf (attrs_at schema t)) tuples) (sym own) are)
      (subst (λ (t : ℕ). SatisfyTable t others tuples) (sym own) all))

  -- what satisfies the pieces that stay satisfies them all
  all_left : (before after : List Dep) (fates : List (Piece × Fate)) → All (λ (piece : Dep). piece.table ≡ table) after → AreRight schema budget before after fates
      → SatisfyTable table before tuples → SatisfyTable table (left after fates) tuples → SatisfyTable table after tuples
  all_left before [] fates own right stayed rest = none table tuples
  all_left before (piece ∷ after) [] own right stayed rest = absurd right
  all_left before (piece ∷ after) ((place, Dropped tree) ∷ fates) own right stayed rest =
      let behind_it = all_left (before ++ []) after fates (All-tail (λ (p : Dep). p.table ≡ table) piece after own) right.1 (both table tuples before [] stayed (none table tuples)) rest in
      both table tuples (piece ∷ []) after
      (implied_here (before ++ after) piece (All-head (λ (p : Dep). p.table ≡ table) piece after own) right.0.2 (both table tuples before after stayed behind_it))
      behind_it
  all_left before (piece ∷ after) ((place, Kept first second) ∷ fates) own right stayed rest =
      let here = fewer table tuples (piece ∷ []) (left after fates) rest in
      both table tuples (piece ∷ []) after here
      (all_left (before ++ piece ∷ []) after fates (All-tail (λ (p : Dep). p.table ≡ table) piece after own) right.1
      (both table tuples before (piece ∷ []) stayed here) (behind table tuples (piece ∷ []) (left after fates) rest))
  all_left before (piece ∷ after) ((place, Spent tree) ∷ fates) own right stayed rest =
      let here = fewer table tuples (piece ∷ []) (left after fates) rest in
      both table tuples (piece ∷ []) after here
      (all_left (before ++ piece ∷ []) after fates (All-tail (λ (p : Dep). p.table ≡ table) piece after own) right.1
      (both table tuples before (piece ∷ []) stayed here) (behind table tuples (piece ∷ []) (left after fates) rest))

-- a kept piece isn't implied by the others that stay
needed : (schema : Schema) (budget : ℕ) (before after : List Dep) (fates : List (Piece × Fate)) → AreRight schema budget before after fates → AreNeeded schema before after fates
needed schema budget before [] fates right = tt
needed schema budget before (piece ∷ after) [] right = tt
needed schema budget before (piece ∷ after) ((place, Dropped tree) ∷ fates) right = (tt, needed schema budget (before ++ []) after fates right.1)
needed schema budget before (piece ∷ after) ((place, Spent tree) ∷ fates) right = (tt, needed schema budget (before ++ piece ∷ []) after fates right.1)
needed schema budget before (piece ∷ after) ((place, Kept first second) ∷ fates) right =
    let counter = right.0 in
    let tuples = first ∷ second ∷ [] in
    let IsOf = IsTupleOf (attrs_at schema piece.table) in
    let others : SatisfyTable piece.table (before ++ left after fates) tuples =
    both piece.table tuples before (left after fates) (fewer piece.table tuples before after counter.satisfy) (left_of piece.table tuples after fates (behind piece.table tuples before after counter.satisfy)) in (
      λ implied. counter.breaks (implied tuples (All-cons IsOf first (second ∷ []) counter.one_tuple (All-cons IsOf second [] counter.other_tuple (All-nil IsOf))) others),
      needed schema budget (before ++ piece ∷ []) after fates right.1,
    )

pub is_cover : (schema : Schema) (deps : List Dep) (table budget : ℕ) (fates : List (Piece × Fate)) → All (λ (piece : Dep). piece.table ≡ table) (deps_in (table_pieces table deps))
    → AreFates schema deps table budget fates → IsCover schema deps table budget fates
is_cover schema deps table budget fates own are = record {
  right = are;
  whole = λ tuples of. pieces_same table tuples deps;
  same = λ tuples of. (
    all_left schema table budget tuples of [] (deps_in (table_pieces table deps)) fates own are.right (none table tuples),
    left_of table tuples (deps_in (table_pieces table deps)) fates,
  );
  needed = needed schema budget [] (deps_in (table_pieces table deps)) fates are.right;
}
