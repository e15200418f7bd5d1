-- The generated project: its schema and its rules, and the rows of its two tables.
use Rattle.std.specs.Prelude.{◌≡◌, ℕ, ◌%◌, List, [], ◌∷◌, ◌++◌, map, Ok, codes, decimal}
use Rattle.std.specs.List.{range_with_len}
use Rattle.text_lists.specs.Limits.{standard}
use Rattle.schema_core.specs.SchemaFiles as schema_files
use Rattle.rule_model.specs.Books.{Book}
use Rattle.rule_parser.specs.RuleFiles as rule_files
use Rattle.bench_core.specs.History.{History, HasNoPast, HasNothingUndone}
use Rattle.bench_core.specs.Loading.{Tuples, loaded}
use Rattle.drawn_project.specs.Draws.{Drawn, ◌>>=◌, draw, for_each, given}

-- ---- schema and rules

-- a table g, and master data m to correct it from
unfoldable pub schema_text : List ℕ
schema_text = codes "table g 'g.csv'\nattr k\nattr a\nattr b\nattr f in '0', '1', '2'\nmaster m 'm.csv'\nattr k\nattr a\n"

unfoldable pub rules_text : List ℕ
rules_text = codes "cfd g1 g: [k] -> [a]\nrow _ || _\ncfd g2 g: [f, k] -> [b]\nrow '0', _ || _\nrow '1', _ || 'b0'\ncind g3 g[k; f] in m[k; ]\nrow '2' ||\nedit g4 g using m: k=k gives a=a\n"

-- the rules that these texts spell
pub record AreRules (book : Book) : Type 0 where
  pub schema : schema_files.reads standard schema_text ≡ Ok book.schema
  pub rules : rule_files.reads book.schema standard rules_text ≡ Ok book

-- ---- rows

-- a letter with a number in digits
abbrev pub lettered : List ℕ → ℕ → List ℕ
lettered letter number = letter ++ decimal number

-- a row of g: k, a, b and f
unfoldable pub row : Drawn (List (List ℕ))
row = do
  k ← draw 5000
  a ← draw 7
  b ← draw 3
  f ← draw 3
  given (lettered (codes "k") k ∷ lettered (codes "a") a ∷ lettered (codes "b") b ∷ decimal f ∷ [])

-- the rows of g
unfoldable pub rows : Drawn Tuples
rows = for_each (λ place. row) 0 20000

-- a row of m: k and a
abbrev pub master_row : ℕ → List (List ℕ)
master_row number = lettered (codes "k") number ∷ lettered (codes "a") (number % 7) ∷ []

-- so many rows of m
unfoldable pub master_rows : ℕ → Tuples
master_rows count = map master_row (range_with_len 0 count)

-- ---- before the first edit

-- the tables hold these rows of g and 4,500 rows of m, within the standard limits, and nothing was changed
pub record Begins (book : Book) (drawn : Tuples) (start : History) : Type 0 where
  pub loaded : loaded book standard (drawn ∷ master_rows 4500 ∷ []) ≡ Ok start.present
  pub no_past : HasNoPast start
  pub nothing_undone : HasNothingUndone start
