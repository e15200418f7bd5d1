-- Texts that come into a pool: the ids that had a text have it still, so the tuples that are there keep their texts.
use Rattle.std.proofs.Common.{◌≡◌, ℕ, ◌<◌, List, [], ◌∷◌, ◌++◌, map, length, All, Vec, Global, refl, ap, ◌∙◌}
use Rattle.std.proofs.lemmas.List.{map-append}
use Rattle.std.proofs.lemmas.List.Elements.{All-head, All-tail, All-push, All-weaker}
use Rattle.std.proofs.lemmas.Option.{slice_get-get_or, slice_get_within, get_or_from_slice_get}
use Rattle.row_store.specs.Tuple.{Tuple, ids_of}
use Rattle.value_pool.specs.Pool.{HasId, KeepsIds}
use Rattle.row_takers.specs.Taken.{text_of, texts_of, HaveTexts, rows_in, AreNamed, IsPooled}

pub kept-twice : (one two three : List (List ℕ)) → KeepsIds one two → KeepsIds two three → KeepsIds one three
kept-twice one two three first second text id has = second text id (first text id has)

module _ (old new : List (List ℕ)) (kept : KeepsIds old new) where
  still : (value : ℕ) → value < length old → HasId new (text_of old value) value
  still value within = kept (text_of old value) value (slice_get-get_or old value [] within)

  pub text-kept : (value : ℕ) → value < length old → text_of new value ≡ text_of old value
  text-kept value within = get_or_from_slice_get new value (text_of old value) [] (still value within)

  pub have-kept : (values : List ℕ) → HaveTexts old values → HaveTexts new values
  have-kept values have = All-weaker (λ value. value < length old) (λ value. value < length new) (λ value within. slice_get_within new value (text_of old value) (still value within)) values have

  pub texts-kept : (values : List ℕ) → HaveTexts old values → texts_of new values ≡ texts_of old values
  texts-kept [] have = refl
  texts-kept (value ∷ values) have =
      λ i. text-kept value (All-head (λ value. value < length old) value values have) i ∷ texts-kept values (All-tail (λ value. value < length old) value values have) i

  -- ---- tuples of the ids

  pub named-kept : (rows : List Tuple) → AreNamed old rows → AreNamed new rows
  named-kept rows named = All-weaker (λ tuple. HaveTexts old (ids_of tuple)) (λ tuple. HaveTexts new (ids_of tuple)) (λ tuple. have-kept (ids_of tuple)) rows named

  pub rows-kept : (rows : List Tuple) → AreNamed old rows → rows_in new rows ≡ rows_in old rows
  rows-kept [] named = refl
  rows-kept (tuple ∷ rows) named =
      let P : Tuple → Type 0 = λ tuple. HaveTexts old (ids_of tuple) in
      λ i. texts-kept (ids_of tuple) (All-head P tuple rows named) i ∷ rows-kept rows (All-tail P tuple rows named) i

  pub tables-kept : (tables : List (Vec Tuple Global)) → All (λ (table : Vec Tuple Global). AreNamed old table.items) tables
      → map (λ (table : Vec Tuple Global). rows_in new table.items) tables ≡ map (λ (table : Vec Tuple Global). rows_in old table.items) tables
  tables-kept [] named = refl
  tables-kept (table ∷ tables) named =
      let P : Vec Tuple Global → Type 0 = λ table. AreNamed old table.items in
      λ i. rows-kept table.items (All-head P table tables named) i ∷ tables-kept tables (All-tail P table tables named) i

  pub pooled-kept : (tables : List (Vec Tuple Global)) (rows : List Tuple) → IsPooled old tables rows → IsPooled new tables rows
  pooled-kept tables rows are = record {
    tables-named = All-weaker (λ (table : Vec Tuple Global). AreNamed old table.items) (λ (table : Vec Tuple Global). AreNamed new table.items) (λ table. named-kept table.items) tables are.tables-named;
    rows-named = named-kept rows are.rows-named;
  }

  -- one more row
  module _ (tables : List (Vec Tuple Global)) (rows : List Tuple) (tuple : Tuple) (are : IsPooled old tables rows) where
    pub pooled-more : HaveTexts new (ids_of tuple) → IsPooled new tables (rows ++ tuple ∷ [])
    pooled-more named = record {
      tables-named = (pooled-kept tables rows are).tables-named;
      rows-named = All-push (λ tuple. HaveTexts new (ids_of tuple)) rows tuple (named-kept rows are.rows-named) named;
    }

    pub rows-more : (texts : List (List ℕ)) → texts_of new (ids_of tuple) ≡ texts → rows_in new (rows ++ tuple ∷ []) ≡ rows_in old rows ++ texts ∷ []
    rows-more texts same =
        map-append (λ tuple. texts_of new (ids_of tuple)) rows (tuple ∷ [])
        ∙ (λ i. rows-kept rows are.rows-named i ++ same i ∷ [])

-- ---- ids of the texts so far

pub record AreIds (texts : List (List ℕ)) (ids : List ℕ) (so_far : List (List ℕ)) : Type 0 where
  pub same : texts_of texts ids ≡ so_far
  pub named : HaveTexts texts ids

pub ids-more : (old new : List (List ℕ)) (ids : List ℕ) (so_far : List (List ℕ)) (id : ℕ) (text : List ℕ)
    → AreIds old ids so_far → KeepsIds old new → HasId new text id → AreIds new (ids ++ id ∷ []) (so_far ++ text ∷ [])
ids-more old new ids so_far id text are kept has = record {
  same =
      map-append (text_of new) ids (id ∷ [])
      ∙ (λ j. texts-kept old new kept ids are.named j ++ get_or_from_slice_get new id text [] has j ∷ [])
      ∙ ap (λ front. front ++ text ∷ []) are.same;
  named = All-push (λ value. value < length new) ids id (have-kept old new kept ids are.named) (slice_get_within new id text has);
}
