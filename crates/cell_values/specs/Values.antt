-- The values of an attribute that dependencies tell apart.
use Rattle.std.specs.Prelude.{ℕ, ◌+◌, ◌^◌, ◌<◌, Bool, true, false, ◌||◌, ◌==◌, nat_lt, if◌then◌else◌, List, [], ◌∷◌, ◌++◌, length, map, filter, find}
use Rattle.std.specs.Option.{option_map_or}
use Rattle.std.specs.List.{flat_map, list_any, range_with_len, sum_by, count_by}
use Rattle.std.specs.Str.{bytes_eq}
use Rattle.text_lists.specs.Repeats.{is_among}
use Rattle.schema_core.specs.Lookups.{domain_at}
use Rattle.schema_core.specs.declared.schema.Attr.{Attr}
use Rattle.schema_core.specs.declared.schema.Domain.{Domain}
use Rattle.schema_core.specs.declared.schema.Domain.TheVariants.{AnyText, Finite}
use Rattle.cfd_semantics.specs.declared.pattern.Pattern.{Pattern}
use Rattle.cfd_semantics.specs.Pattern.{is_set}
use Rattle.rule_model.specs.Declarations.{constants_of}
use Rattle.cell_values.specs.declared.values.CellValues.{CellValues}
use Rattle.cell_values.specs.declared.values.Gathered.{Gathered}
use Rattle.cell_values.specs.Fresh.{fresh_past}
use Rattle.cell_values.specs.TableRules.{Rule, occurs, cells_at}

-- texts with one more, which goes last if it is new
abbrev pub with_text : List (List ℕ) → List ℕ → List (List ℕ)
with_text texts text = if is_among bytes_eq texts text then texts else texts ++ text ∷ []

-- texts and those after them, each once, in the order in which they first appear
abbrev pub once_after : List (List ℕ) → List (List ℕ) → List (List ℕ)
once_after before [] = before
once_after before (text ∷ texts) = once_after (with_text before text) texts

-- The constants of an attribute: the values of a finite domain, and else the constants and the members of sets and of
-- complements that stand in its cells.
abbrev pub constants_at : List Rule → ℕ → Domain → List (List ℕ)
constants_at rules attr AnyText = once_after [] (flat_map constants_of (cells_at rules attr))
constants_at rules attr (Finite values) = values

-- An attribute with an open domain and a set or a complement has one value more, which stands for all other texts.
abbrev pub has_other : List Rule → ℕ → Domain → Bool
has_other rules attr AnyText = list_any is_set (cells_at rules attr)
has_other rules attr (Finite values) = false

abbrev pub is_finite : Domain → Bool
is_finite AnyText = false
is_finite (Finite values) = true

-- the constants, and then the other-value where there is one
abbrev pub with_other : Bool → List (List ℕ) → List (List ℕ)
with_other other constants = if other then constants ++ fresh_past 0 constants ∷ [] else constants

-- the values of an attribute; it is demanded that a tuple has one of them where they cover all texts that it may have
abbrev pub cell_values : List Rule → ℕ → Domain → CellValues
cell_values rules attr domain =
    let constants = constants_at rules attr domain in
    let other = has_other rules attr domain in
    record { attr = attr; values = with_other other constants; constants = length constants; demanded = is_finite domain || other }

-- those of the attributes that occur, in the order of the schema
abbrev pub occurring : List Attr → List Rule → List CellValues
occurring attrs rules = map (λ attr. cell_values rules attr (domain_at attrs attr)) (filter (occurs rules) (range_with_len 0 (length attrs)))

-- ---- in such a list

-- the values of an attribute
abbrev pub values_for : List CellValues → ℕ → List (List ℕ)
values_for cells attr = option_map_or (λ (cell : CellValues). cell.values) (find (λ (cell : CellValues). cell.attr == attr) cells) []

-- how many attributes stand before an attribute, and how many values they have
abbrev pub attrs_before : List CellValues → ℕ → ℕ
attrs_before cells attr = count_by (λ (cell : CellValues). nat_lt cell.attr attr) cells

abbrev pub values_before : List CellValues → ℕ → ℕ
values_before cells attr = sum_by (λ (cell : CellValues). length cell.values) (filter (λ (cell : CellValues). nat_lt cell.attr attr) cells)

-- Two variables for each value and one for each attribute can be counted by a machine number.
abbrev pub AreFew : List CellValues → Type 0
AreFew cells = sum_by (λ (cell : CellValues). length cell.values + 1) cells < 2 ^ 63

-- ---- how they are gathered

-- what a cell adds to the constants, and to whether there is an other-value
abbrev pub with_cell : Gathered → Pattern (List ℕ) → Gathered
with_cell found cell = record { values = once_after found.values (constants_of cell); other = found.other || is_set cell }

abbrev pub gather : Gathered → List (Pattern (List ℕ)) → Gathered
gather found [] = found
gather found (cell ∷ cells) = gather (with_cell found cell) cells
