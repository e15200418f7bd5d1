-- How rows, values and lists are told to people.
use Rattle.std.specs.Prelude.{ℕ, ◌-◌, ◌==◌, nat_lt, List, [], ◌∷◌, ◌++◌, length, take, Option, None, Some, codes, decimal, if◌then◌else◌}
use Rattle.std.specs.List.{flat_map}
use Rattle.line_grammar.specs.Tokens.{quoted}
use Rattle.line_grammar.specs.Spelling.{line_text}
use Rattle.schema_core.specs.declared.schema.Attr.{Attr}
use Rattle.cfd_semantics.specs.declared.pattern.Pattern.{Pattern}
use Rattle.cfd_semantics.specs.declared.pattern.Pattern.TheVariants.{Any, Is, In, NotIn}
use Rattle.rule_parser.specs.RuleText.{attr_name, cell_parts}

-- ---- lists

-- how many of something: `1 row`, `2 rows`
abbrev pub counted : ℕ → List ℕ → List ℕ
counted count noun = decimal count ++ codes " " ++ noun ++ (if count == 1 then [] else codes "s")

-- a further item of a list, behind a comma and a space
abbrev pub further : {T : Type 0} → (T → List ℕ) → T → List ℕ
further told item = codes ", " ++ told item

-- items one after the other, with a comma and a space between two
abbrev pub commas : {T : Type 0} → (T → List ℕ) → List T → List ℕ
commas told [] = []
commas told (item ∷ items) = told item ++ flat_map (further told) items

-- the first items, so many where there is a bound
abbrev pub first_of : {T : Type 0} → Option ℕ → List T → List T
first_of None items = items
first_of (Some most) items = take most items

-- how many of so many are left out
abbrev pub left_out : Option ℕ → ℕ → ℕ
left_out None count = 0
left_out (Some most) count = count - most

-- `and N more` between these texts, where some are left out
abbrev pub more_text : List ℕ → ℕ → List ℕ → List ℕ
more_text before count after = if count == 0 then [] else before ++ codes "and " ++ decimal count ++ codes " more" ++ after

-- ---- rows

-- what is said of a row that has no record, where so many records were read of its table
abbrev pub origin_text : ℕ → ℕ → List ℕ
origin_text read id = if nat_lt read id then codes " (by the script)" else []

abbrev pub id_text : ℕ → ℕ → List ℕ
id_text read id = decimal id ++ origin_text read id

-- `in N rows: ID, ID, ..`
abbrev pub rows_text : Option ℕ → ℕ → List ℕ → List ℕ
rows_text most read rows =
    codes "in " ++ counted (length rows) (codes "row") ++ codes ": " ++ commas (id_text read) (first_of most rows) ++ more_text (codes " ") (left_out most (length rows)) [] ++ codes "\n"

-- ---- values

-- `ATTR VALUE`: an attribute by its number, with a value
abbrev pub value_text : List Attr → ℕ × List ℕ → List ℕ
value_text attrs pair = attr_name attrs pair.0 ++ codes " " ++ quoted pair.1

-- what rows share
abbrev pub values_text : List Attr → List (ℕ × List ℕ) → List ℕ
values_text attrs [] = codes "any values"
values_text attrs (pair ∷ pairs) = commas (value_text attrs) (pair ∷ pairs)

-- what a right cell asks of the values that stand against each other
abbrev pub demand_text : Pattern (List ℕ) → List ℕ
demand_text Any = codes "the same"
demand_text (Is value) = quoted value
demand_text (In members) = codes "the same, " ++ line_text (cell_parts (In members))
demand_text (NotIn members) = codes "the same, " ++ line_text (cell_parts (NotIn members))
