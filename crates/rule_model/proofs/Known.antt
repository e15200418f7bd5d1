-- Names that are known have numbers of their own.
use Rattle.std.proofs.Common.{◌≡◌, ℕ, ◌<◌, true, false, List, [], ◌∷◌, ◌++◌, length, get_or, Option, Some, None, refl, sym, ap, ◌∙◌, arith}
use Rattle.std.specs.Prelude.{unwrap_or, Contains}
use Rattle.std.specs.List.{AllByRecursion, list_any, zip}
use Rattle.std.specs.Option.{is_some}
use Rattle.std.specs.Str.{bytes_eq}
use Rattle.schema_core.specs.Schemas.{table_place}
use Rattle.text_lists.specs.Repeats.{AreDistinct}
use Rattle.schema_core.specs.declared.schema.Attr.{Attr}
use Rattle.schema_core.specs.declared.schema.Table.{Table}
use Rattle.schema_core.specs.declared.schema.Schema.{Schema}
use Rattle.schema_core.specs.declared.schema.Domain.TheVariants.{AnyText}
use Rattle.std.proofs.lemmas.List.{get_or-map, length-map}
use Rattle.std.proofs.lemmas.List.Elements.{All-from_recursion, All-map}
use Rattle.std.proofs.lemmas.List.Quantifiers.{position-Some}
use Rattle.std.proofs.lemmas.Slice.Eq.{bytes_eq-Decides}
use Rattle.schema_core.specs.Lookups.{table_number, place_of, attr_number, attr_numbers}
use Rattle.rule_model.specs.Rules.{AreAttrsOf}
use Rattle.text_lists.specs.Firsts.{first_in}
use Rattle.rule_model.specs.Faults.{unknown_table_name, unknown_name, unknown_in, unknown_in_pair}
use Rattle.rule_model.proofs.Passing.{both_none, none_in, holds_if_none, each_weaker, none_equals}

-- ---- tables

table_there : (schema : Schema) (name : List ℕ) (place : Option ℕ) → table_place schema name ≡ place → is_some place ≡ true → unwrap_or place 0 < length schema.tables
table_there schema name None e some = absurd cc
table_there schema name (Some k) e some =
    let nowhere : Table = record { name = []; file = []; master = false; attrs = [] } in
    (position-Some (λ (t : Table). bytes_eq t.name name) schema.tables k nowhere e).0

pub table_if_none : (schema : Schema) (name : List ℕ) → unknown_table_name schema name ≡ None → table_number schema name < length schema.tables
table_if_none schema name e = table_there schema name (table_place schema name) refl (holds_if_none _ _ e)

-- ---- attributes

-- the attributes have one of the name, and the name's number is its place
pub record IsKnown (attrs : List Attr) (name : List ℕ) : Type 0 where
  pub within : attr_number attrs name < length attrs
  pub named : (d : Attr) → (get_or attrs (attr_number attrs name) d).name ≡ name

known_at : (attrs : List Attr) (name : List ℕ) (place : Option ℕ) → place_of attrs name ≡ place → is_some place ≡ true → (unwrap_or place 0 < length attrs) × ((d : Attr) → (get_or attrs (unwrap_or place 0) d).name ≡ name)
known_at attrs name None e some = absurd cc
known_at attrs name (Some k) e some =
    let found : (d : Attr) → (k < length attrs) × (bytes_eq (get_or attrs k d).name name ≡ true) × ((i : ℕ) → i < k → bytes_eq (get_or attrs i d).name name ≡ false)
    = λ d. position-Some (λ (a : Attr). bytes_eq a.name name) attrs k d e in
    let nowhere : Attr = record { name = []; domain = AnyText } in
    ((found nowhere).0, λ d. (bytes_eq-Decides (get_or attrs k d).name name).0 (found d).1)

pub known_if_none : (attrs : List Attr) (name : List ℕ) → unknown_name attrs name ≡ None → IsKnown attrs name
known_if_none attrs name e =
    let both = known_at attrs name (place_of attrs name) refl (holds_if_none _ _ e) in
    record { within = both.0; named = both.1 }

pub all_known_if_none : (attrs : List Attr) (names : List (List ℕ)) → unknown_in attrs names ≡ None → AllByRecursion (IsKnown attrs) names
all_known_if_none attrs names e = each_weaker (λ name. unknown_name attrs name ≡ None) (IsKnown attrs) (known_if_none attrs) names (none_in (unknown_name attrs) names e)

-- lists of one length, side by side
pub pairs_known : (attrs masters : List Attr) (x xm : List (List ℕ)) → length x ≡ length xm → first_in (unknown_in_pair attrs masters) (zip x xm) ≡ None → AllByRecursion (IsKnown attrs) x × AllByRecursion (IsKnown masters) xm
pairs_known attrs masters [] [] same e = (tt, tt)
pairs_known attrs masters [] (m ∷ xm) same e = absurd (omega arith)
pairs_known attrs masters (n ∷ x) [] same e = absurd (omega arith)
pairs_known attrs masters (n ∷ x) (m ∷ xm) same e =
    let here_and_rest = both_none (unknown_in_pair attrs masters (n, m)) (first_in (unknown_in_pair attrs masters) (zip x xm)) e in
    let here = both_none (unknown_name attrs n) (unknown_name masters m) here_and_rest.0 in
    let rest = pairs_known attrs masters x xm (omega arith) here_and_rest.1 in
    ((known_if_none attrs n here.0, rest.0), (known_if_none masters m here.1, rest.1))

pub both_known : (attrs : List Attr) (xs ys : List (List ℕ)) → AllByRecursion (IsKnown attrs) xs → AllByRecursion (IsKnown attrs) ys → AllByRecursion (IsKnown attrs) (xs ++ ys)
both_known attrs [] ys front rest = rest
both_known attrs (x ∷ xs) ys front rest = (front.0, both_known attrs xs ys front.1 rest)

-- the numbers of known names are in range
pub numbers_within : (attrs : List Attr) (names : List (List ℕ)) → AllByRecursion (IsKnown attrs) names → AreAttrsOf attrs (attr_numbers attrs names)
numbers_within attrs names known =
    All-map (λ n. n < length attrs) (attr_number attrs) names (All-from_recursion (λ name. attr_number attrs name < length attrs) names (each_weaker (IsKnown attrs) (λ name. attr_number attrs name < length attrs) (λ name k. k.within) names known))

-- two known names of one number are one
same_names : (attrs : List Attr) (one other : List ℕ) → IsKnown attrs one → IsKnown attrs other → attr_number attrs one ≡ attr_number attrs other → one ≡ other
same_names attrs one other k l same =
    let nowhere : Attr = record { name = []; domain = AnyText } in
    sym (k.named nowhere) ∙ ap (λ n. (get_or attrs n nowhere).name) same ∙ l.named nowhere

-- the numbers of distinct known names are distinct
pub numbers_distinct : (attrs : List Attr) (names : List (List ℕ)) → AllByRecursion (IsKnown attrs) names → AreDistinct names → AreDistinct (attr_numbers attrs names)
numbers_distinct attrs names known distinct i j d lt within same =
    let number = attr_number attrs in
    let j_in : j < length names = rw (← length-map names number) within in
    let i_in : i < length names = omega arith in
    let numbers_same : number (get_or names i []) ≡ number (get_or names j []) = sym (get_or-map number names i [] d i_in) ∙ same ∙ get_or-map number names j [] d j_in in
    let each = All-from_recursion (IsKnown attrs) names known in
    distinct i j [] lt j_in (same_names attrs (get_or names i []) (get_or names j []) (each i [] i_in) (each j [] j_in) numbers_same)

-- the number of a known name that is none of the names is none of their numbers
pub number_outside : (attrs : List Attr) (names : List (List ℕ)) (name : List ℕ) → AllByRecursion (IsKnown attrs) names → IsKnown attrs name → list_any (λ other. bytes_eq other name) names ≡ false → ¬ Contains (attr_numbers attrs names) (attr_number attrs name)
number_outside attrs names name known k outside there =
    let number = attr_number attrs in
    let i_in : there.0 < length names = rw (← length-map names number) there.1 in
    let each = All-from_recursion (IsKnown attrs) names known in
    let numbers_same : number (get_or names there.0 []) ≡ number name = sym (get_or-map number names there.0 [] (number name) i_in) ∙ there.2 in
    none_equals names name outside there.0 [] i_in (same_names attrs (get_or names there.0 []) name (each there.0 [] i_in) k numbers_same)
