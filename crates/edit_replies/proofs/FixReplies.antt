-- Each fix has a reply over each state: the rows are finitely many, so there is a verdict.
use Rattle.std.proofs.Common.{◌≡◌, ℕ, zero, suc, Bool, true, false, List, [], ◌∷◌, ◌++◌, map, length, Option, Some, None, Ok, Err, inl, inr, refl}
use Rattle.std.specs.Prelude.{find, if◌then◌else◌, ok_or, option_and_then, option_map, slice_get}
use Rattle.std.proofs.lemmas.Bool.Decides.{eqb_tells}
use Rattle.std.proofs.lemmas.Option.{none-some}
use Rattle.schema_core.specs.Lookups.{master_at}
use Rattle.schema_core.specs.declared.schema.Schema.{Schema}
use Rattle.rule_model.specs.Books.{Book}
use Rattle.bench_core.specs.Answers.{master_texts, row_texts}
use Rattle.bench_core.specs.Edited.{Step, TableAt, ◌>>=◌, ◌>>◌, require, table_of_name}
use Rattle.bench_core.specs.History.{History, accepted}
use Rattle.bench_core.specs.State.{Row, State, TableState, has_id, texts_of}
use Rattle.bench_core.specs.declared.edit.EditFault.{EditFault}
use Rattle.bench_core.specs.declared.edit.EditFault.TheVariants.{UnknownAttr, UnknownRow, UnknownTable}
use Rattle.fix_engine.specs.Fixes.{stage_after}
use Rattle.fix_engine.proofs.Judging.{Among}
use Rattle.fix_engine.proofs.Judged.{HasVerdict, among-left, among-right, has-verdict, same_list, same_number}
use Rattle.edit_replies.specs.Fixing.{Asked, are_attrs, asked, asked_of, conflict_text, covered, fixed_text, rewritten}
use Rattle.edit_replies.specs.EditReplies.{IsFixReply, fault_text, refused_text}
use Rattle.edit_replies.proofs.VouchedKept.{changed-moved, vouched-kept}

-- ---- the ids of all rows

abbrev ids_of : State → List ℕ
ids_of [] = []
ids_of (table ∷ state) = map (λ (row : Row). row.0) table.rows ++ ids_of state

among-rows : (rows : List Row) (id : ℕ) (texts : List (List ℕ)) → option_map (λ (row : Row). row.1) (find (has_id id) rows) ≡ Some texts → Among (map (λ (row : Row). row.0) rows) id
among-rows [] id texts is = absurd (none-some texts is)
among-rows (row ∷ rows) id texts is = elim (eqb_tells row.0 id) [
  | inl (same, e) ↦ inl e
  | inr (apart, differ) ↦ inr (among-rows rows id texts (rw apart at is))
]

among-tables : (state : State) (table id : ℕ) (texts : List (List ℕ)) → option_and_then (λ (rows : TableState). texts_of rows id) (slice_get state table) ≡ Some texts → Among (ids_of state) id
among-tables [] table id texts is = absurd (none-some texts is)
among-tables (first ∷ state) zero id texts is = among-left (map (λ (row : Row). row.0) first.rows) (ids_of state) id (among-rows first.rows id texts is)
among-tables (first ∷ state) (suc table) id texts is = among-right (map (λ (row : Row). row.0) first.rows) (ids_of state) id (among-tables state table id texts is)

among-masters : (schema : Schema) (state : State) (table id : ℕ) (texts : List (List ℕ)) → master_texts schema state table id ≡ Some texts → Among (ids_of state) id
among-masters schema state table id texts is = at_master (master_at schema table) is
  where
    at_master : (master : Bool) → (if master then row_texts state table id else None) ≡ Some texts → Among (ids_of state) id
    at_master true is = among-tables state table id texts is
    at_master false is = absurd (none-some texts is)

-- ---- replies

module _ (rules : Book) (before : History) (row : ℕ) (vouched : List (List ℕ)) where
  abbrev Replied : Step Asked → Type 0
  Replied made = (reply : List ℕ) × (next : History) × IsFixReply rules before made reply next

  judged : (a : Asked) → HasVerdict a.question → Replied (Ok a)
  judged a verdict = elim verdict [
    | inl unique ↦
        let end = stage_after a.question unique.0 in (
          fixed_text a.table a.row a.question.stage.tuple end.tuple (covered (length a.table.attrs) end.validated),
          accepted before (rewritten before.present a end.tuple),
          inl (record {
            moves = unique.0;
            full = unique.1;
            all = unique.2;
            told = refl;
            written = refl;
            vouched = vouched-kept a.question.basis a.question.stage unique.0 unique.1.run;
            moved = changed-moved a.question.basis a.question.stage unique.0 unique.1.run;
          }),
        )
    | inr conflict ↦ (
      conflict_text rules a.table a.row conflict.2 (stage_after a.question conflict.0).tuple (stage_after a.question conflict.1).tuple conflict.0 conflict.1,
      before,
      inr (record { first = conflict.0; second = conflict.1; attr = conflict.2; full_first = conflict.3; full_second = conflict.4; differ = conflict.5; told = refl; kept = refl }),
    )
  ]

  refused : (fault : EditFault) → Replied (Err fault)
  refused fault = (refused_text (fault_text fault), before, (refl, refl))

  with_attrs : (at : TableAt) (texts : List (List ℕ)) (known : Bool) → Replied (require known UnknownAttr >> Ok (asked_of rules before.present at row vouched texts))
  with_attrs at texts true =
      let a = asked_of rules before.present at row vouched texts in
      judged a (has-verdict (same_list same_number) a.question (ids_of before.present) (λ table id tuple is. among-masters rules.schema before.present table id tuple is))
  with_attrs at texts false = refused UnknownAttr

  with_row : (at : TableAt) (found : Option (List (List ℕ))) → Replied (ok_or found UnknownRow >>= λ texts. (require (are_attrs at.table vouched) UnknownAttr >> Ok (asked_of rules before.present at row vouched texts)))
  with_row at None = refused UnknownRow
  with_row at (Some texts) = with_attrs at texts (are_attrs at.table vouched)

  with_table : (found : Option TableAt) → Replied (ok_or found UnknownTable >>= λ at. (ok_or (texts_of at.state row) UnknownRow >>= λ texts. (require (are_attrs at.table vouched) UnknownAttr >> Ok (asked_of rules before.present at row vouched texts))))
  with_table None = refused UnknownTable
  with_table (Some at) = with_row at (texts_of at.state row)

pub fix_reply : (rules : Book) (before : History) (table : List ℕ) (row : ℕ) (vouched : List (List ℕ)) → (reply : List ℕ) × (next : History) × IsFixReply rules before (asked rules before.present table row vouched) reply next
fix_reply rules before table row vouched = with_table rules before row vouched (table_of_name rules.schema before.present table)
