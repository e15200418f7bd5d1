-- What a call of `fix` asks of a row of a bench is what a fix of the row asks, and its verdict tells the fix.
use Rattle.std.proofs.Common.{◌≡◌, ℕ, zero, suc, ◌<◌, Bool, true, false, List, [], ◌∷◌, ◌++◌, length, Option, Some, None, Result, Ok, Err, All, refl, sym, ap, subst, ◌∙◌, arith, inl, inr}
use Rattle.std.specs.Prelude.{◌↔◌, Any, codes, if◌then◌else◌, IfOk, IfSome, OnOk, slice_get, take}
use Rattle.std.specs.FinMap as finmap
use Rattle.std.specs.List.{AllZip}
use Rattle.std.specs.Option.{option_map_or}
use Rattle.std.proofs.lemmas.List.{length-map}
use Rattle.std.proofs.lemmas.Bool.{cases_lt}
use Rattle.std.proofs.lemmas.Option.{slice_get_past, slice_get_within}
use Rattle.std.proofs.lemmas.Slice.Zip.{AllZip-long}
use Rattle.schema_core.specs.Lookups.{attrs_at, master_at}
use Rattle.schema_core.specs.Rows.{IsRowOf}
use Rattle.schema_core.specs.Schemas.{table_place}
use Rattle.text_lists.specs.declared.limits.Limits.{Limits}
use Rattle.schema_core.specs.declared.schema.Attr.{Attr}
use Rattle.schema_core.specs.declared.schema.Schema.{Schema}
use Rattle.schema_core.specs.declared.schema.Table.{Table}
use Rattle.row_store.specs.Tuple.{ids_of}
use Rattle.rule_model.specs.declared.edit_rule.EditRule.{EditRule}
use Rattle.rule_model.specs.Books.{Book, book_edits}
use Rattle.master_index.specs.Masters.{Masters}
use Rattle.bench_core.specs.Answers.{AreMastersOf, IsRowAt, IsTupleAt, master_texts, row_texts}
use Rattle.bench_core.specs.Bench.{IsBench}
use Rattle.bench_core.specs.Edited.{Step, TableAt, ◌>>◌, require}
use Rattle.bench_core.specs.History.{History, accepted}
use Rattle.bench_core.specs.State.{IsTableState, State, TableState, texts_of as texts_at}
use Rattle.bench_core.specs.declared.edit.Applied.{Applied}
use Rattle.bench_core.specs.declared.edit.Applied.TheVariants.{Changed}
use Rattle.bench_core.specs.declared.edit.EditFault.TheVariants.{UnknownAttr}
use Rattle.bench_core.proofs.MasterRows.{each_rule_is_looked_up}
use Rattle.bench_core.proofs.RowsById.{texts_of-fit}
use Rattle.rule_runs.specs.declared.marks.Marks.{Marks}
use Rattle.rule_runs.specs.declared.moves.Move.{Move}
use Rattle.rule_runs.specs.declared.runs.Run.{Run}
use Rattle.rule_runs.specs.Marks.{marked}
use Rattle.rule_runs.specs.Moves.{Basis, Stage, Applies, IsRunOf, after}
use Rattle.rule_runs.specs.Starts.{IsTupleIn}
use Rattle.fix_engine.specs.Fixes.{AllEndAt, DifferFirstAt, IsFullRun, Question, stage_after}
use Rattle.fix_engine.specs.MasterRows.{AreMasterRows, LeadsToRows}
use Rattle.fix_engine.specs.Questions.{CanBeAsked, IsNoAttr, question, text_question, texts_of}
use Rattle.fix_engine.specs.Verdicts.{HasTuplesIn, IsShown, IsShownRun, IsVerdictOn, stage_in_texts}
use Rattle.fix_engine.specs.declared.fault.FixFault.{FixFault}
use Rattle.fix_engine.specs.declared.fault.FixFault.TheVariants.{UnknownAttr as FixUnknown}
use Rattle.fix_engine.specs.declared.verdict.Verdict.{Verdict}
use Rattle.fix_engine.specs.declared.verdict.Verdict.TheVariants.{Unique, Conflict}
use Rattle.edit_replies.specs.Fixing.{Asked, IsConflict, IsFixed, are_attrs, asked, asked_of, conflict_text, covered, fixed_text, rewritten}
use Rattle.edit_replies.specs.EditReplies.{IsFixReply, refused_text}
use Rattle.edit_replies.specs.Telling.{CanBeTold, IsToldFix, IsToldFixed, IsToldRun, texts_to_write, verdict_text}
use Rattle.bench_core.specs.declared.bench.RowAt.{RowAt}
use Rattle.edit_replies.proofs.Names.{known-names, unknown-names}
use Rattle.edit_replies.proofs.RowFound.{row-known, row-there, table-known}
use Rattle.edit_replies.proofs.VouchedKept.{changed-moved, vouched-kept}

-- ---- rows of a state

module _ (cell_bytes last_id : ℕ) where
  -- what is looked up in a state is a row of its table
  rows-fit : (tables : List Table) (state : State) (table row : ℕ) → AllZip (IsTableState cell_bytes last_id) tables state → IfSome (row_texts state table row) (IsRowOf (option_map_or (λ (t : Table). t.attrs) (slice_get tables table) []) cell_bytes)
  rows-fit [] [] table row fit = tt
  rows-fit [] (rows ∷ state) table row fit = absurd fit
  rows-fit (t ∷ tables) [] table row fit = absurd fit
  rows-fit (t ∷ tables) (rows ∷ state) zero row fit = by (texts_at rows row) refl
    where
      by : (o : Option (List (List ℕ))) → texts_at rows row ≡ o → IfSome o (IsRowOf t.attrs cell_bytes)
      by None is = tt
      by (Some texts) is = texts_of-fit cell_bytes last_id t rows row texts fit.0 is
  rows-fit (t ∷ tables) (rows ∷ state) (suc table) row fit = rows-fit tables state table row fit.1

  masters-fit : (schema : Schema) (state : State) → AllZip (IsTableState cell_bytes last_id) schema.tables state → AreMasterRows schema cell_bytes (master_texts schema state)
  masters-fit schema state fit table row = by (master_at schema table)
    where
      by : (master : Bool) → IfSome (if master then row_texts state table row else None) (IsRowOf (attrs_at schema table) cell_bytes)
      by true = rows-fit schema.tables state table row fit
      by false = tt

if-some : {X : Type 0} (P : X → Type 0) (o : Option X) (x : X) → o ≡ Some x → IfSome o P → P x
if-some P o x is holds = let at : IfSome (Some x) P = subst (λ p. IfSome p P) is holds in at

-- ---- what is asked

module _ (rules : Book) (limits : Limits) (texts : List (List ℕ)) (state : State) (masters : Masters) (at : RowAt) (bench : IsBench rules limits state) (there : IsRowAt rules texts state at) where
  abbrev ids : List ℕ
  ids = ids_of at.tuple.now

  pub is-row : IsRowOf (attrs_at rules.schema at.table) limits.cell_bytes (texts_of texts ids)
  is-row = if-some (IsRowOf (attrs_at rules.schema at.table) limits.cell_bytes) (row_texts state at.table at.row) (texts_of texts ids) there.row (rows-fit limits.cell_bytes limits.last_id rules.schema.tables state at.table at.row bench.tables)

  pub is-wide : length ids ≡ length (attrs_at rules.schema at.table)
  is-wide = sym (length-map ids _) ∙ AllZip-long _ _ _ is-row.domains

  module _ (are : AreMastersOf rules texts state masters) where
    pub can-be-asked : CanBeAsked rules texts masters at.table ids
    can-be-asked = record {
      there = there.there;
      is_tuple = record { width = is-wide; ids = there.named };
      are_masters = record { rows = tuples; columns = each_rule_is_looked_up rules masters are.lists };
    }
      where
        tuple-in : (table : ℕ) (o : Option (List ℕ)) → IfSome o (IsTupleAt rules texts table) → IfSome o (IsTupleIn rules texts table)
        tuple-in table None is = tt
        tuple-in table (Some tuple) is = record { width = is.width; ids = is.named }

        tuples : (table row : ℕ) → IfSome (finmap.get masters.rows (table, row)) (IsTupleIn rules texts table)
        tuples table row = tuple-in table (finmap.get masters.rows (table, row)) (are.tuples table row)

    pub asked-is : (vouched : List (List ℕ)) → question rules texts masters at.table ids vouched ≡ text_question rules (master_texts rules.schema state) at.table (texts_of texts ids) vouched
    asked-is vouched = λ i. text_question rules (λ table row. are.rows table row i) at.table (texts_of texts ids) vouched

-- ---- runs

-- each rule of a run is one of the rules
runs-rules : {V : Type 0} (basis : Basis V) (stage : Stage V) (moves : List Move) → IsRunOf basis stage moves → All (λ (move : Move). move.rule < length basis.rules) moves
runs-rules basis stage [] run k d lt = absurd (omega arith)
runs-rules basis stage (move ∷ moves) run zero d lt = applies (slice_get basis.rules move.rule) refl run.0
  where
    applies : (o : Option EditRule) → slice_get basis.rules move.rule ≡ o → Applies basis stage move → move.rule < length basis.rules
    applies (Some rule) is fact = slice_get_within basis.rules move.rule rule is
    applies None is fact = absurd (rw is at fact)
runs-rules basis stage (move ∷ moves) run (suc k) d lt = runs-rules basis (after basis stage move) moves run.1 k d (omega (arith, lt))

-- ---- what a verdict names is there

module _ (rules : Book) (texts : List (List ℕ)) (number : ℕ) (table : Table) (attrs : attrs_at rules.schema number ≡ table.attrs) where
  same-width : (ids : List ℕ) → IsTupleIn rules texts number ids → length ids ≡ length table.attrs
  same-width ids in-table = in-table.width ∙ ap (λ (as_attrs : List Attr). length as_attrs) attrs

  -- two tuples of the table differ only at an attribute
  differ-within : (one other : List ℕ) (attr : ℕ) → IsTupleIn rules texts number one → IsTupleIn rules texts number other → DifferFirstAt (texts_of texts one) (texts_of texts other) attr → attr < length table.attrs
  differ-within one other attr first second differ = elim (cases_lt attr (length table.attrs)) [
    | inl within ↦ within
    | inr past ↦
        let one-long : length (texts_of texts one) ≡ length table.attrs = length-map one _ ∙ same-width one first in
        let other-long : length (texts_of texts other) ≡ length table.attrs = length-map other _ ∙ same-width other second in
        let one-none : slice_get (texts_of texts one) attr ≡ None = slice_get_past _ attr (omega (arith, past, one-long)) in
        let other-none : slice_get (texts_of texts other) attr ≡ None = slice_get_past _ attr (omega (arith, past, other-long)) in
        absurd (differ.here (one-none ∙ sym other-none))
  ]

  module _ (q : Question (List ℕ)) (same : q.basis.rules ≡ book_edits rules) where
    told-run : (run : Run) → IsShownRun texts q run → IsTupleIn rules texts number run.tuple → IsToldRun rules texts table run
    told-run run shown in-table = record {
      rules-there = subst (λ (edits : List EditRule). All (λ (move : Move). move.rule < length edits) run.moves) same (runs-rules q.basis q.stage run.moves shown.full.run);
      width = same-width run.tuple in-table;
      named = in-table.ids;
    }

    pub can-be-told : (verdict : Verdict) → IsShown texts q verdict → HasTuplesIn rules texts number verdict → CanBeTold rules texts table verdict
    can-be-told (Unique tuple marks moves) shown in-table = (same-width tuple in-table, in-table.ids)
    can-be-told (Conflict first second attr) shown in-table = (
      differ-within first.tuple second.tuple attr in-table.0 in-table.1 shown.2,
      told-run first shown.0 in-table.0,
      told-run second shown.1 in-table.1,
    )

-- ---- a verdict tells the fix

module _ (rules : Book) (limits : Limits) (before : History) (texts : List (List ℕ)) (a : Asked) (made : Step Asked) (made-is : made ≡ Ok a) (bytes : List ℕ) where
  abbrev ended : List Move → Stage (List ℕ)
  ended moves = stage_after a.question moves

  fix-told : (tuple : List ℕ) (marks : Marks) (moves : List Move) → AllEndAt a.question (stage_in_texts texts tuple marks) → IsFullRun a.question moves → IsRowOf a.table.attrs limits.cell_bytes (ended moves).tuple
      → bytes ≡ fixed_text a.table a.row a.question.stage.tuple (texts_of texts tuple) (covered (length a.table.attrs) (marked marks)) → IsToldFixed limits before made bytes (texts_of texts tuple)
  fix-told tuple marks moves all full fit told =
      let end : ended moves ≡ stage_in_texts texts tuple marks = all moves full in
      record {
        asked = a;
        made-is = made-is;
        fit = subst (λ (s : Stage (List ℕ)). IsRowOf a.table.attrs limits.cell_bytes s.tuple) end fit;
        fixed = record {
          moves = moves;
          full = full;
          all = λ others is. ap (λ (s : Stage (List ℕ)). s.tuple) (all others is ∙ sym end);
          told = told ∙ ap (λ (s : Stage (List ℕ)). fixed_text a.table a.row a.question.stage.tuple s.tuple (covered (length a.table.attrs) s.validated)) (sym end);
          written = ap (λ (s : Stage (List ℕ)). accepted before (rewritten before.present a s.tuple)) (sym end);
          vouched = vouched-kept a.question.basis a.question.stage moves full.run;
          moved = changed-moved a.question.basis a.question.stage moves full.run;
        };
      }

  conflict-told : (first second : Run) (attr : ℕ) → IsShownRun texts a.question first → IsShownRun texts a.question second → DifferFirstAt (texts_of texts first.tuple) (texts_of texts second.tuple) attr
      → bytes ≡ conflict_text rules a.table a.row attr (texts_of texts first.tuple) (texts_of texts second.tuple) first.moves second.moves → IsFixReply rules before made bytes before
  conflict-told first second attr one other differ told =
      let conflict : IsConflict rules before a bytes before = record {
        first = first.moves;
        second = second.moves;
        attr = attr;
        full_first = one.full;
        full_second = other.full;
        differ = record {
          before = ap (λ (s : Stage (List ℕ)). take attr s.tuple) one.end ∙ differ.before ∙ ap (λ (s : Stage (List ℕ)). take attr s.tuple) (sym other.end);
          here = λ same. differ.here (ap (λ (s : Stage (List ℕ)). slice_get s.tuple attr) (sym one.end) ∙ same ∙ ap (λ (s : Stage (List ℕ)). slice_get s.tuple attr) other.end);
        };
        told = told ∙ (λ i. conflict_text rules a.table a.row attr (sym one.end i).tuple (sym other.end i).tuple first.moves second.moves);
        kept = refl;
      } in
      subst (λ (m : Step Asked). IsFixReply rules before m bytes before) (sym made-is) (inr conflict)

  pub told-so : (verdict : Verdict) → IsShown texts a.question verdict → ((moves : List Move) → IsRunOf a.question.basis a.question.stage moves → IsRowOf a.table.attrs limits.cell_bytes (ended moves).tuple)
      → (old : List ℕ) → texts_of texts old ≡ a.question.stage.tuple → bytes ≡ verdict_text rules texts a.table a.row old verdict → IsToldFix rules limits before made bytes (texts_to_write texts verdict)
  told-so (Unique tuple marks moves) shown rows old same told =
      fix-told tuple marks moves shown.0 shown.1 (rows moves shown.1.run)
      (told ∙ ap (λ (was : List (List ℕ)). fixed_text a.table a.row was (texts_of texts tuple) (covered (length a.table.attrs) (marked marks))) same)
  told-so (Conflict first second attr) shown rows old same told = conflict-told first second attr shown.0 shown.1 shown.2 told

-- ---- the answer to a fix of a row that is there

module _ (rules : Book) (limits : Limits) (before : History) (texts : List (List ℕ)) (at : RowAt) (bench : IsBench rules limits before.present) (there : IsRowAt rules texts before.present at) (table : Table) (is : slice_get rules.schema.tables at.table ≡ Some table) (vouched : List (List ℕ)) where
  attrs-are : attrs_at rules.schema at.table ≡ table.attrs
  attrs-are = ap (λ (o : Option Table). option_map_or (λ (t : Table). t.attrs) o []) is

  abbrev old : List (List ℕ)
  old = texts_of texts (ids_of at.tuple.now)

  -- what is asked of it, if the names are those of attributes
  made-by : (name : List ℕ) (known : Bool) → are_attrs table vouched ≡ known → table_place rules.schema name ≡ Some at.table
      → (rows : TableState) × (asked rules before.present name at.row vouched ≡ (require known UnknownAttr >> Ok (asked_of rules before.present (record { number = at.table; table = table; state = rows }) at.row vouched old)))
  made-by name known same place =
      let (rows, at-state, has) = row-there before.present at.table at.row old there.row in
      let here : TableAt = record { number = at.table; table = table; state = rows } in
      let named = table-known rules before.present name at.row vouched at.table place table rows is at-state in
      (rows, row-known rules before.present name at.row vouched here old named has ∙ ap (λ b. require b UnknownAttr >> Ok (asked_of rules before.present here at.row vouched old)) same)

  pub told-unknown : (bytes : List ℕ) → Any (IsNoAttr (attrs_at rules.schema at.table)) vouched → bytes ≡ refused_text (codes "UnknownAttr") → (name : List ℕ) → table_place rules.schema name ≡ Some at.table
      → IsFixReply rules before (asked rules before.present name at.row vouched) bytes before
  told-unknown bytes unknown told name place =
      let none = unknown-names table vouched (subst (λ (as_attrs : List Attr). Any (IsNoAttr as_attrs) vouched) attrs-are unknown) in
      let (rows, made) = made-by name false none place in
      subst (λ (m : Step Asked). IsFixReply rules before m bytes before) (sym made) (told, refl)

  module _ (masters : Masters) (are : AreMastersOf rules texts before.present masters) (verdict : Verdict) (known : ¬ Any (IsNoAttr (attrs_at rules.schema at.table)) vouched) where
    abbrev asked-so : Question (List ℕ)
    asked-so = question rules texts masters at.table (ids_of at.tuple.now) vouched

    told-ok : (bytes : List ℕ) → IsVerdictOn texts asked-so verdict → LeadsToRows rules.schema asked-so → bytes ≡ verdict_text rules texts table at.row (ids_of at.tuple.now) verdict
        → (name : List ℕ) → table_place rules.schema name ≡ Some at.table → IsToldFix rules limits before (asked rules before.present name at.row vouched) bytes (texts_to_write texts verdict)
    told-ok bytes on leads told name place =
        let all = known-names table vouched (subst (λ (as_attrs : List Attr). ¬ Any (IsNoAttr as_attrs) vouched) attrs-are known) in
        let (rows, made) = made-by name true all place in
        let a : Asked = asked_of rules before.present (record { number = at.table; table = table; state = rows }) at.row vouched old in
        let q-is : asked-so ≡ a.question = asked-is rules limits texts before.present masters at bench there are vouched in
        let shown : IsShown texts a.question verdict = subst (λ (q : Question (List ℕ)). IsShown texts q verdict) q-is on.shown in
        let leading : LeadsToRows rules.schema a.question = subst (LeadsToRows rules.schema) q-is leads in
        let ends : (moves : List Move) → IsRunOf a.question.basis a.question.stage moves → IsRowOf (attrs_at rules.schema at.table) limits.cell_bytes (stage_after a.question moves).tuple =
        leading limits.cell_bytes (is-row rules limits texts before.present masters at bench there) (masters-fit limits.cell_bytes limits.last_id rules.schema before.present bench.tables) in
        told-so rules limits before texts a _ made bytes verdict shown (λ moves run. subst (λ (as_attrs : List Attr). IsRowOf as_attrs limits.cell_bytes (stage_after a.question moves).tuple) attrs-are (ends moves run)) (ids_of at.tuple.now) refl told

    pub told-verdict : {E : Type 0} (made : Result (Option (List (List ℕ))) E) (start bytes : List ℕ) → start ≡ [] → IsVerdictOn texts asked-so verdict → LeadsToRows rules.schema asked-so
        → OnOk made (bytes ≡ start ++ verdict_text rules texts table at.row (ids_of at.tuple.now) verdict) → IfOk made (λ values. values ≡ texts_to_write texts verdict)
        → IfOk made (λ values. (name : List ℕ) → table_place rules.schema name ≡ Some at.table → IsToldFix rules limits before (asked rules before.present name at.row vouched) bytes values)
    told-verdict (Err e) start bytes none on leads told values = tt
    told-verdict (Ok found) start bytes none on leads told values = λ name place.
        subst (IsToldFix rules limits before (asked rules before.present name at.row vouched) bytes) (sym values)
        (told-ok bytes on leads (told ∙ ap (λ (s : List ℕ). s ++ verdict_text rules texts table at.row (ids_of at.tuple.now) verdict) none) name place)

-- ---- from one call to the next

-- what is told of a row under each name of its table is told under the one that was asked for
pub told-at : {X E : Type 0} (made : Result X E) (Told : List ℕ → ℕ → X → Type 0) (id row : ℕ) (Named : List ℕ → Type 0) (name : List ℕ) → id ≡ row → Named name → IfOk made (λ x. (n : List ℕ) → Named n → Told n id x) → IfOk made (Told name row)
told-at (Ok x) Told id row Named name same named told = subst (λ k. Told name k x) same (told name named)
told-at (Err e) Told id row Named name same named told = tt

-- a verdict isn't an unknown name
pub ok-known : (verdict : Verdict) (Unknown : Type 0) → (◌≡◌ {A = Result Verdict FixFault} (Ok verdict) (Err FixUnknown)) ↔ Unknown → ¬ Unknown
ok-known verdict Unknown tells unknown = let same = tells.1 unknown in cc

-- the history after an edit, or another where it is refused
abbrev taken : History → Step (History × Applied) → History
taken none (Ok done) = done.0
taken none (Err fault) = none

-- what was told is so once the texts are written
pub written-so : {E : Type 0} (rules : Book) (limits : Limits) (before after : History) (made : Step Asked) (bytes : List ℕ) (texts : List (List ℕ)) (told : IsToldFixed limits before made bytes texts) (edit : Step (History × Applied)) (end : Result (Unit {0}) E)
    → edit ≡ Ok (accepted before (rewritten before.present told.asked texts), Changed) → OnOk end (edit ≡ Ok (after, Changed)) → OnOk end (IsFixReply rules before made bytes after)
written-so rules limits before after made bytes texts told edit (Err e) accepts is = tt
written-so rules limits before after made bytes texts told edit (Ok done) accepts is =
    let same : accepted before (rewritten before.present told.asked texts) ≡ after = same_done _ _ (sym accepts ∙ is) in
    subst (λ (m : Step Asked). IsFixReply rules before m bytes after) (sym told.made-is) (inl (subst (IsFixed before told.asked bytes) same told.fixed))
  where
    same_done : (x y : History) → ◌≡◌ {A = Step (History × Applied)} (Ok (x, Changed)) (Ok (y, Changed)) → x ≡ y
    same_done x y e = ap (taken x) e
