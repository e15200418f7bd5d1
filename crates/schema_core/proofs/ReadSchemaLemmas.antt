-- What is read so far stays valid.
use Rattle.std.proofs.Common.{◌≡◌, ℕ, suc, ◌+◌, ◌≤◌, Bool, true, false, eqb, leb, List, [], ◌∷◌, ◌++◌, length, Option, Some, None, refl, ap, sym, ◌∙◌, subst, arith, length-append}
use Rattle.std.specs.Prelude.{Ok, Err, is_some}
use Rattle.std.specs.Str.{bytes_eq}
use Rattle.std.specs.Result.{result_ok}
use Rattle.std.proofs.lemmas.Bool.{leb-false, ltb-false, eqb-false, false≢true}
use Rattle.std.proofs.lemmas.List.{map_push}
use Rattle.std.proofs.lemmas.List.Elements.{All-push, All-nil}
use Rattle.std.proofs.lemmas.Option.{none-some, same_Some}
use Rattle.line_grammar.specs.Faults.{Reading, ◌>>=◌}
use Rattle.line_grammar.specs.FileLines.{read_line}
use Rattle.text_lists.specs.Firsts.{first_of}
use Rattle.line_grammar.specs.Groups.{in_turn}
use Rattle.text_lists.specs.Limits.{AreLimits}
use Rattle.text_lists.specs.Names.{IsName, IsFileName}
use Rattle.schema_core.specs.ReadSchemas.{IsReadDomain, IsReadAttr, IsTableSoFar, IsSchemaSoFar}
use Rattle.text_lists.specs.Repeats.{first_repeated}
use Rattle.schema_core.specs.Schemas.{IsValidDomain, IsValidAttr, IsValidTable, HasFewValues, HasFewAttrs, names_of_tables, names_of_attrs}
use Rattle.schema_core.specs.SchemaFiles.{schema_causes, has_table, has_attr, has_no_value, has_value_twice, has_too_many_values, cause_if, table_fault, attr_fault, unless, with_attr, with_table, add_attr, empty_schema}
use Rattle.schema_core.specs.SchemaLines.{attr_at}
use Rattle.line_grammar.specs.TokenLists.{none_after}
use Rattle.line_grammar.specs.declared.line.Line.{Line}
use Rattle.text_lists.specs.declared.limits.Limits.{Limits}
use Rattle.schema_core.specs.declared.schema.Domain.{Domain}
use Rattle.schema_core.specs.declared.schema.Domain.TheVariants.{AnyText, Finite}
use Rattle.schema_core.specs.declared.schema.Attr.{Attr}
use Rattle.schema_core.specs.declared.schema.Table.{Table}
use Rattle.schema_core.specs.declared.schema.Schema.{Schema}
use Rattle.schema_core.specs.declared.schema.SchemaCause.{SchemaCause}
use Rattle.schema_core.specs.declared.schema.SchemaCause.TheVariants as cause
use Rattle.text_lists.specs.declared.limits.Limit.TheVariants as limit
use Rattle.schema_core.proofs.DistinctLemmas.{none_equal}
use Rattle.text_lists.proofs.RepeatLemmas.{AreDistinct-nil, AreDistinct-push, AreDistinct-from_none, bytes_eq-tells}

-- ---- tests that found nothing

three_found_none : (a b c : Bool) (A B C : SchemaCause) → first_of (cause_if a A ∷ cause_if b B ∷ cause_if c C ∷ []) ≡ None → (a ≡ false) × (b ≡ false) × (c ≡ false)
three_found_none true b c A B C e = absurd (none-some _ (sym e))
three_found_none false true c A B C e = absurd (none-some _ (sym e))
three_found_none false false true A B C e = absurd (none-some _ (sym e))
three_found_none false false false A B C e = (refl, refl, refl)

five_found_none : (a b c d f : Bool) (A B C D F : SchemaCause) → first_of (cause_if a A ∷ cause_if b B ∷ cause_if c C ∷ cause_if d D ∷ cause_if f F ∷ []) ≡ None
    → (a ≡ false) × (b ≡ false) × (c ≡ false) × (d ≡ false) × (f ≡ false)
five_found_none true b c d f A B C D F e = absurd (none-some _ (sym e))
five_found_none false true c d f A B C D F e = absurd (none-some _ (sym e))
five_found_none false false true d f A B C D F e = absurd (none-some _ (sym e))
five_found_none false false false true f A B C D F e = absurd (none-some _ (sym e))
five_found_none false false false false true A B C D F e = absurd (none-some _ (sym e))
five_found_none false false false false false A B C D F e = (refl, refl, refl, refl, refl)

pub unless-none : (fault : Option SchemaCause) (number : ℕ) → unless fault number (tt {0}) ≡ Ok (tt {0}) → fault ≡ None
unless-none None number e = refl
unless-none (Some why) number e = absurd (none-some _ (ap result_ok e))

-- ---- an attribute

not_empty : {X : Type 0} (xs : List X) → eqb (length xs) 0 ≡ false → 1 ≤ length xs
not_empty [] e = absurd (eqb-false 0 0 e refl)
not_empty (x ∷ xs) e = omega arith

none_twice : (o : Option (List ℕ)) → is_some o ≡ false → o ≡ None
none_twice None e = refl
none_twice (Some x) e = absurd (false≢true (sym e))

domain_valid : (domain : Domain) → IsReadDomain domain → has_no_value domain ≡ false → has_value_twice domain ≡ false → IsValidDomain domain
domain_valid AnyText read some once = tt
domain_valid (Finite values) read some once = record { some = not_empty values some; constants = read; distinct = AreDistinct-from_none bytes_eq bytes_eq-tells values (none_twice (first_repeated bytes_eq values) once) }

few_values : (limits : Limits) (domain : Domain) → AreLimits limits → has_too_many_values limits domain ≡ false → HasFewValues domain
few_values limits AnyText allowed e = tt
few_values limits (Finite values) allowed e = omega (arith, ltb-false limits.values (length values) e, allowed.values)

pub table-with_attr : (limits : Limits) (table : Table) (attr : Attr) → IsTableSoFar limits table → IsReadAttr attr → attr_fault limits table.attrs attr ≡ None → IsTableSoFar limits (with_attr table attr)
table-with_attr limits table attr far read fine =
    let found = five_found_none (has_attr table.attrs attr.name) (has_no_value attr.domain) (has_value_twice attr.domain) (leb limits.attrs (length table.attrs)) (has_too_many_values limits attr.domain)
    cause.DuplicateName cause.EmptyDomain cause.DuplicateValue (cause.TooMany limit.Attrs) (cause.TooMany limit.Values) fine in
    let fits : length (table.attrs ++ attr ∷ []) ≤ 64 = omega (arith, length-append table.attrs (attr ∷ []), leb-false limits.attrs (length table.attrs) found.3, far.allowed.attrs) in
    record {
      allowed = far.allowed;
      name = far.name;
      file = far.file;
      attrs = All-push IsValidAttr table.attrs attr far.attrs (record { name = read.name; domain = domain_valid attr.domain read.domain found.1 found.2 });
      distinct = rw map_push (AreDistinct-push (names_of_attrs table.attrs) attr.name far.distinct (none_equal (λ (a : Attr). a.name) table.attrs attr.name found.0));
      few = (fits, All-push (λ (a : Attr). HasFewValues a.domain) table.attrs attr far.few.1 (few_values limits attr.domain far.allowed found.4));
    }

pub table-empty : (limits : Limits) (name file : List ℕ) (master : Bool) → AreLimits limits → IsName name → IsFileName file → IsTableSoFar limits (record { name = name; file = file; master = master; attrs = [] })
table-empty limits name file master allowed is_name' is_file =
    record { allowed = allowed; name = is_name'; file = is_file; attrs = All-nil IsValidAttr; distinct = AreDistinct-nil; few = (omega arith, All-nil (λ (a : Attr). HasFewValues a.domain)) }

-- ---- the attributes of a table

-- a table that has as many more attributes, and else is the same
pub record Grows (old new : Table) (more : ℕ) : Type 0 where
  pub name : new.name ≡ old.name
  pub longer : length new.attrs ≡ length old.attrs + more

read-grows : (table next : Table) (number : ℕ) (fault : Option SchemaCause) (attr : Attr) → unless fault number (with_attr table attr) ≡ Ok next → Grows table next 1
read-grows table next number None attr e =
    let same = same_Some _ _ (ap result_ok e) in
    subst (λ (t : Table). Grows table t 1) same (record { name = refl; longer = length-append table.attrs (attr ∷ []) })
read-grows table next number (Some why) attr e = absurd (none-some _ (ap result_ok e))

line-grows : (limits : Limits) (table next : Table) (number : ℕ) (read : Reading Attr SchemaCause) → (read >>= λ attr. unless (attr_fault limits table.attrs attr) number (with_attr table attr)) ≡ Ok next → Grows table next 1
line-grows limits table next number (Ok attr) e = read-grows table next number (attr_fault limits table.attrs attr) attr e
line-grows limits table next number (Err fault) e = absurd (none-some _ (ap result_ok e))

add-grows : (limits : Limits) (table next : Table) (line : Line) → add_attr limits table line ≡ Ok next → Grows table next 1
unfolding add_attr
add-grows limits table next line e = line-grows limits table next line.number (read_line schema_causes (λ tokens. none_after (attr_at tokens)) line) e

grows-on : (limits : Limits) (table : Table) (lines : List Line) (whole : Table) (step : Reading Table SchemaCause) → ((next : Table) → step ≡ Ok next → Grows table next 1) → ((next : Table) → in_turn (add_attr limits) next lines ≡ Ok whole → Grows next whole (length lines))
    → (step >>= λ next. in_turn (add_attr limits) next lines) ≡ Ok whole → Grows table whole (suc (length lines))
grows-on limits table lines whole (Ok next) one others e =
    let first = one next refl in
    let rest = others next e in
    record { name = rest.name ∙ first.name; longer = omega (arith, first.longer, rest.longer) }
grows-on limits table lines whole (Err fault) one others e = absurd (none-some _ (ap result_ok e))

pub all-grow : (limits : Limits) (table : Table) (lines : List Line) (whole : Table) → in_turn (add_attr limits) table lines ≡ Ok whole → Grows table whole (length lines)
all-grow limits table [] whole e = subst (λ (t : Table). Grows table t 0) (same_Some _ _ (ap result_ok e)) (record { name = refl; longer = omega arith })
all-grow limits table (line ∷ lines) whole e =
    grows-on limits table lines whole (add_attr limits table line) (λ next step. add-grows limits table next line step) (λ next further. all-grow limits next lines whole further) e

-- ---- a schema

pub schema-empty : (limits : Limits) → AreLimits limits → IsSchemaSoFar limits empty_schema
schema-empty limits allowed = record {
  allowed = allowed;
  valid = record { tables = All-nil IsValidTable; distinct = AreDistinct-nil; rules = tt; script = tt; few_tables = omega arith; few_attrs = All-nil HasFewAttrs };
}

pub schema-with_table : (limits others : Limits) (schema : Schema) (start whole : Table) (members : List Line) → IsSchemaSoFar limits schema → table_fault limits schema.tables start.name members ≡ None
    → in_turn (add_attr limits) start members ≡ Ok whole → IsTableSoFar others whole → IsSchemaSoFar limits (with_table schema whole)
schema-with_table limits others schema start whole members far fine read table =
    let found = three_found_none (eqb (length members) 0) (has_table schema.tables start.name) (leb limits.tables (length schema.tables)) cause.BadLine cause.DuplicateName (cause.TooMany limit.Tables) fine in
    let grown = all-grow limits start members whole read in
    let filled : 1 ≤ length whole.attrs = omega (arith, grown.longer, not_empty members found.0) in
    let fits : length (schema.tables ++ whole ∷ []) ≤ 64 = omega (arith, length-append schema.tables (whole ∷ []), leb-false limits.tables (length schema.tables) found.2, far.allowed.tables) in
    let new : has_table schema.tables whole.name ≡ false = ap (has_table schema.tables) grown.name ∙ found.1 in
    record {
      allowed = far.allowed;
      valid = record {
        tables = All-push IsValidTable schema.tables whole far.valid.tables (record { name = table.name; file = table.file; some = filled; attrs = table.attrs; distinct = table.distinct });
        distinct = rw map_push (AreDistinct-push (names_of_tables schema.tables) whole.name far.valid.distinct (none_equal (λ (t : Table). t.name) schema.tables whole.name new));
        rules = far.valid.rules;
        script = far.valid.script;
        few_tables = fits;
        few_attrs = All-push HasFewAttrs schema.tables whole far.valid.few_attrs table.few;
      };
    }

pub schema-with_rules : (limits : Limits) (schema : Schema) (file : List ℕ) → IsSchemaSoFar limits schema → IsFileName file → IsSchemaSoFar limits (record schema { rules = Some file })
schema-with_rules limits schema file far is_file = record {
  allowed = far.allowed;
  valid = record { tables = far.valid.tables; distinct = far.valid.distinct; rules = is_file; script = far.valid.script; few_tables = far.valid.few_tables; few_attrs = far.valid.few_attrs };
}

pub schema-with_script : (limits : Limits) (schema : Schema) (file : List ℕ) → IsSchemaSoFar limits schema → IsFileName file → IsSchemaSoFar limits (record schema { script = Some file })
schema-with_script limits schema file far is_file = record {
  allowed = far.allowed;
  valid = record { tables = far.valid.tables; distinct = far.valid.distinct; rules = far.valid.rules; script = is_file; few_tables = far.valid.few_tables; few_attrs = far.valid.few_attrs };
}
