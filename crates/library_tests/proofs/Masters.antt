-- Master rows that tests put into an index for the rules of a book.
use Rattle.std.proofs.Common.{◌≡◌, ℕ, ◌<◌, Bool, true, false, List, length, get_or, map, cond, Option, Some, sym, ap, ◌∙◌, subst, ⊎_elim, arith}
use Rattle.std.specs.Prelude.{◌==◌, ◌&&◌, Contains, IfSome}
use Rattle.std.specs.FinMap as finite
use Rattle.std.specs.List.{All}
use Rattle.std.proofs.lemmas.Bool.Decides.{eqb_tells}
use Rattle.std.proofs.Math.ListN.{get_or-map}
use Rattle.std.proofs.lemmas.List.{length-map}
use Rattle.std.proofs.lemmas.List.Elements.{All-map, Contains-get_or}
use Rattle.schema_core.specs.Lookups.{attrs_at}
use Rattle.rule_model.specs.declared.edit_rule.EditRule.{EditRule}
use Rattle.rule_model.specs.Books.{Book, IsBook, book_edits}
use Rattle.master_index.specs.declared.column_list.ColumnList.{ColumnList}
use Rattle.master_index.specs.Masters.{IsWideFor, MasterRows, Masters}
use Rattle.master_index.proofs.MasterRowFacts.{no_row, row_after_insert}
use Rattle.rule_runs.specs.Starts.{AreMasters, IsTupleIn}

-- the columns that a rule matches
abbrev pub list_of : EditRule → ColumnList
list_of rule = record { master = rule.master; columns = rule.xm }

abbrev pub lists_of : Book → List ColumnList
lists_of rules = map list_of (book_edits rules)

-- a tuple of a table reaches each column that is matched there
pub wide_for : (rules : Book) (table : ℕ) (ids : List ℕ) → IsBook rules → length ids ≡ length (attrs_at rules.schema table) → IsWideFor (lists_of rules) table ids
wide_for rules table ids book width =
    All-map (λ (list : ColumnList). list.master ≡ table → All (λ column. column < length ids) list.columns) list_of (book_edits rules)
    (λ k d within same.
    let rule = get_or (book_edits rules) k d in
    let here : length (attrs_at rules.schema rule.master) ≡ length ids = ap (λ t. length (attrs_at rules.schema t)) same ∙ sym width in
    subst (λ n. All (λ column. column < n) rule.xm) here (book.edits k d within).xm)

-- no rows yet
pub no_masters : (rules : Book) (pool : List (List ℕ)) (masters : Masters) → masters.lists ≡ lists_of rules → masters.rows ≡ finite.empty → AreMasters rules pool masters
no_masters rules pool masters lists empty = record {
  rows = λ table row. subst (λ o. IfSome o (IsTupleIn rules pool table)) (sym (ap (λ (rows : MasterRows). finite.get rows (table, row)) empty ∙ no_row table row)) tt;
  columns = λ k d within.
      let rule = get_or (book_edits rules) k d in
      let there = Contains-get_or (lists_of rules) k (list_of d) (omega (arith, within, length-map (book_edits rules) list_of)) in
      subst (λ (ls : List ColumnList). Contains ls (list_of rule)) (sym lists) (subst (Contains (lists_of rules)) (get_or-map list_of (book_edits rules) k d) there);
}

-- one row or another
chosen : (b : Bool) (o : Option (List ℕ)) (ids : List ℕ) (P : List ℕ → Type 0) → P ids → IfSome o P → IfSome (cond b (Some ids) o) P
chosen true o ids P new old = new
chosen false o ids P new old = old

-- and one row more
pub masters-put : (rules : Book) (pool : List (List ℕ)) (old new : Masters) (table row : ℕ) (ids : List ℕ) → AreMasters rules pool old → new.lists ≡ old.lists → new.rows ≡ finite.insert old.rows (table, row) ids → IsTupleIn rules pool table ids → AreMasters rules pool new
masters-put rules pool old new table row ids are lists rows is_tuple = record {
  rows = λ t r.
      let before = finite.get old.rows (t, r) in
      let Choice = λ (b : Bool). IfSome (cond (b && (r == row)) (Some ids) before) (IsTupleIn rules pool t) in
      let after = ap (λ (rs : MasterRows). finite.get rs (t, r)) rows ∙ row_after_insert old.rows table row t r ids in
      subst (λ o. IfSome o (IsTupleIn rules pool t)) (sym after)
      (⊎_elim
      (λ (same, e). subst Choice (sym same) (chosen (r == row) before ids (IsTupleIn rules pool t) (subst (λ n. IsTupleIn rules pool n ids) (sym e) is_tuple) (are.rows t r)))
      (λ (apart, _). subst Choice (sym apart) (are.rows t r))
      (eqb_tells t table));
  columns = subst (λ (ls : List ColumnList). All (λ (rule : EditRule). Contains ls (list_of rule)) (book_edits rules)) (sym lists) are.columns;
}
