-- What a call asks: the texts of a tuple, with the names of the attributes that are vouched for.
use Rattle.std.specs.Prelude.{◌≢◌, ℕ, ◌<◌, Bool, false, List, [], length, get_or, map, slice_get, All, Option, option_map}
use Rattle.std.specs.List.{list_any}
use Rattle.std.specs.Option.{option_map_or}
use Rattle.std.specs.FinMap as finite
use Rattle.std.specs.Str.{bytes_eq}
use Rattle.schema_core.specs.Lookups.{attrs_at}
use Rattle.schema_core.specs.declared.schema.Attr.{Attr}
use Rattle.rule_model.specs.Books.{Book, book_edits}
use Rattle.master_index.specs.Masters.{Masters}
use Rattle.rule_runs.specs.declared.moves.Start.{Start}
use Rattle.rule_runs.specs.Starts.{AreMasters, IsTupleIn, basis_of, first_stage, width_of}
use Rattle.fix_engine.specs.Fixes.{Question}

-- no attribute has the name
abbrev pub IsNoAttr : List Attr → List ℕ → Type 0
IsNoAttr attrs name = All (λ (a : Attr). a.name ≢ name) attrs

-- an attribute is vouched for where its name is among the names
abbrev pub is_vouched : List Attr → List (List ℕ) → ℕ → Bool
is_vouched attrs names attr = option_map_or (λ (a : Attr). list_any (bytes_eq a.name) names) (slice_get attrs attr) false

-- ---- texts

-- the text of a value id, and those of a tuple
abbrev pub text_of : List (List ℕ) → ℕ → List ℕ
text_of pool id = get_or pool id []

abbrev pub texts_of : List (List ℕ) → List ℕ → List (List ℕ)
texts_of pool ids = map (text_of pool) ids

-- the texts of master rows, by table and row id
abbrev pub MasterTexts : Type 0
MasterTexts = ℕ → ℕ → Option (List (List ℕ))

abbrev pub master_texts : List (List ℕ) → Masters → MasterTexts
master_texts pool masters table row = option_map (texts_of pool) (finite.get masters.rows (table, row))

-- the fix of a tuple of the table, by the rules and the master rows, where the named attributes are vouched for
abbrev pub text_question : Book → MasterTexts → ℕ → List (List ℕ) → List (List ℕ) → Question (List ℕ)
text_question rules masters table texts vouched = record {
  basis = record { table = table; rules = book_edits rules; masters = masters; is_text = bytes_eq };
  stage = record { tuple = texts; validated = is_vouched (attrs_at rules.schema table) vouched };
  width = length (attrs_at rules.schema table);
}

-- ---- value ids

-- The table is there and the tuple is one of it, and so are the master rows of theirs.
pub record CanBeAsked (rules : Book) (pool : List (List ℕ)) (masters : Masters) (table : ℕ) (ids : List ℕ) : Type 0 where
  pub there : table < length rules.schema.tables
  pub is_tuple : IsTupleIn rules pool table ids
  pub are_masters : AreMasters rules pool masters

-- what a call asks, by the texts of its value ids
abbrev pub question : Book → List (List ℕ) → Masters → ℕ → List ℕ → List (List ℕ) → Question (List ℕ)
question rules pool masters table ids vouched = text_question rules (master_texts pool masters) table (texts_of pool ids) vouched

-- what is asked at a start, over value ids, with marks in place of names
abbrev pub asked_at : Start → Question ℕ
asked_at start = record { basis = basis_of start; stage = first_stage start; width = width_of start start.table }
