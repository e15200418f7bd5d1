-- The master rows that a bench lends are those of its state.
use Rattle.std.proofs.Common.{◌≡◌, ℕ, zero, suc, Bool, true, false, cond, List, [], ◌∷◌, map, Option, Some, None, All, refl, sym, ap, ◌∙◌, subst}
use Rattle.std.specs.Prelude.{Contains, IfSome, option_map}
use Rattle.std.specs.FinMap as finmap
use Rattle.schema_core.specs.Lookups.{master_at}
use Rattle.text_lists.specs.declared.limits.Limits.{Limits}
use Rattle.rule_model.specs.declared.edit_rule.EditRule.{EditRule}
use Rattle.rule_model.specs.Books.{Book, book_edits}
use Rattle.master_index.specs.Masters.{Masters}
use Rattle.bench_index.specs.declared.all_indexes.AllIndexes.{AllIndexes}
use Rattle.bench_index.proofs.AllSteps.{each_master_row}
use Rattle.bench_index.proofs.ListsOnce.{lists-of_rules}
use Rattle.bench_index.specs.MasterLists.{columns_of, master_lists}
use Rattle.bench_core.specs.Answers.{AreMastersOf, IsTupleAt, row_texts}
use Rattle.bench_core.specs.Bench.{IsBench}
use Rattle.bench_core.specs.Indexed.{IsIndexed, tuples_of}
use Rattle.bench_core.specs.Stored.{HaveTexts, RowsHaveTexts, Stored, state_of, text_of}
use Rattle.std.proofs.lemmas.List.Elements.{All-head, All-tail}
use Rattle.std.proofs.lemmas.Option.{none-some}
use Rattle.bench_core.proofs.Planned.{have-texts, texts-absent, texts-there}
use Rattle.bench_core.proofs.TuplesAt.{row-full}

-- the texts of the tuple of a row are those of the state's row
texts-at : (texts : List (List ℕ)) (tables : List Stored) (n row : ℕ) → option_map (map (text_of texts)) (tuples_of tables n row) ≡ row_texts (state_of texts tables) n row
texts-at texts [] n row = refl
texts-at texts (t ∷ tables) zero row = by (finmap.get t.rows row) refl
  where
    by : (o : Option (List ℕ)) → finmap.get t.rows row ≡ o → option_map (map (text_of texts)) (finmap.get t.rows row) ≡ row_texts (state_of texts (t ∷ tables)) zero row
    by None is = ap (option_map (map (text_of texts))) is ∙ sym (texts-absent texts t row is)
    by (Some ids) is = ap (option_map (map (text_of texts))) is ∙ sym (texts-there texts t row ids is)
texts-at texts (t ∷ tables) (suc n) row = texts-at texts tables n row

named-at : (texts : List (List ℕ)) (tables : List Stored) (n row : ℕ) (ids : List ℕ) → All (λ (t : Stored). RowsHaveTexts texts t.rows) tables → tuples_of tables n row ≡ Some ids → HaveTexts texts ids
named-at texts [] n row ids named is = absurd (none-some ids is)
named-at texts (t ∷ tables) zero row ids named is = have-texts texts t row ids (All-head (λ (t : Stored). RowsHaveTexts texts t.rows) t tables named) is
named-at texts (t ∷ tables) (suc n) row ids named is = named-at texts tables n row ids (All-tail (λ (t : Stored). RowsHaveTexts texts t.rows) t tables named) is

module _ (rules : Book) (limits : Limits) (texts : List (List ℕ)) (tables : List Stored) (index : AllIndexes) (bench : IsBench rules limits (state_of texts tables)) (named : All (λ (t : Stored). RowsHaveTexts texts t.rows) tables) (indexed : IsIndexed rules texts (tuples_of tables) index) where
  good : (table row : ℕ) → IfSome (tuples_of tables table row) (IsTupleAt rules texts table)
  good table row = by (tuples_of tables table row) refl
    where
      by : (o : Option (List ℕ)) → tuples_of tables table row ≡ o → IfSome o (IsTupleAt rules texts table)
      by None is = tt
      by (Some ids) is = record { width = row-full rules limits texts tables bench table row ids is; named = named-at texts tables table row ids named is }

  master-texts : (is_master : Bool) (o p : Option (List ℕ)) (q : Option (List (List ℕ))) → option_map (map (text_of texts)) o ≡ q → p ≡ cond is_master o None → option_map (map (text_of texts)) p ≡ cond is_master q None
  master-texts true o p q same is = ap (option_map (map (text_of texts))) is ∙ same
  master-texts false o p q same is = ap (option_map (map (text_of texts))) is

  pub are-masters : AreMastersOf rules texts (state_of texts tables) index.masters
  are-masters = record {
    rows = λ table row. master-texts (master_at rules.schema table) (tuples_of tables table row) (finmap.get index.masters.rows (table, row)) (row_texts (state_of texts tables) table row) (texts-at texts tables table row) (indexed.in_step.rows table row);
    tuples = λ table row. each_master_row rules texts (tuples_of tables) index indexed.in_step (IsTupleAt rules texts) good table row;
    lists = indexed.in_step.lists;
  }

-- the matched columns of each editing rule are looked up
pub each_rule_is_looked_up : (rules : Book) (masters : Masters) → masters.lists ≡ master_lists rules → All (λ (rule : EditRule). Contains masters.lists (columns_of rule)) (book_edits rules)
each_rule_is_looked_up rules masters lists =
    subst (λ ls. All (λ (rule : EditRule). Contains ls (columns_of rule)) (book_edits rules)) (sym lists) (lists-of_rules (book_edits rules))
