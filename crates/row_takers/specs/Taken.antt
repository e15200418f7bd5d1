-- Rows as they are taken: lists of texts, which may lie in a pool.
use Rattle.std.specs.Prelude.{ℕ, ◌<◌, List, [], length, map, get_or, All}
use Rattle.std.specs.Borrow.{Bor}
use Rattle.std.specs.declared.vec.Vec.{Vec}
use Rattle.std.specs.declared.alloc.Global.{Global}
use Rattle.row_store.specs.Tuple.{Tuple, ids_of}

-- the texts behind references
abbrev pub texts_in : List (Bor (List ℕ)) → List (List ℕ)
texts_in row = map (λ (text : Bor (List ℕ)). text.now) row

-- the text with an id, and the texts of a tuple
abbrev pub text_of : List (List ℕ) → ℕ → List ℕ
text_of texts value = get_or texts value []

abbrev pub texts_of : List (List ℕ) → List ℕ → List (List ℕ)
texts_of texts values = map (text_of texts) values

abbrev pub HaveTexts : List (List ℕ) → List ℕ → Type 0
HaveTexts texts values = All (λ value. value < length texts) values

-- ---- tables

-- the rows of each table that was read, and those so far of the one that is being read
pub record TablesTaken : Type 0 where
  pub tables : List (List (List (List ℕ)))
  pub rows : List (List (List ℕ))

-- rows of a pool, as texts
abbrev pub rows_in : List (List ℕ) → List Tuple → List (List (List ℕ))
rows_in texts rows = map (λ tuple. texts_of texts (ids_of tuple)) rows

abbrev pub AreNamed : List (List ℕ) → List Tuple → Type 0
AreNamed texts rows = All (λ tuple. HaveTexts texts (ids_of tuple)) rows

-- each id of each tuple has a text
pub record IsPooled (texts : List (List ℕ)) (tables : List (Vec Tuple Global)) (rows : List Tuple) : Type 0 where
  pub tables-named : All (λ (table : Vec Tuple Global). AreNamed texts table.items) tables
  pub rows-named : AreNamed texts rows
