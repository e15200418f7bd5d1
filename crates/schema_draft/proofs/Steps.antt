-- The parts of a draft: where the last part of a file's name begins, and what is written of a column.
use Rattle.std.proofs.Common.{◌≡◌, ◌≢◌, ℕ, ◌+◌, ◌-◌, ◌<◌, ◌≤◌, Bool, true, false, eqb, List, ◌++◌, length, get_or, take, drop, Some, refl, ap, sym, ◌∙◌, arith, append_assoc}
use Rattle.std.specs.Prelude.{◌==◌, not, slice_get}
use Rattle.std.specs.List.{after_last, suffix_len}
use Rattle.std.proofs.lemmas.Bool.{ne_eqb}
use Rattle.std.proofs.lemmas.List.Sums.{suffix_len_is}
use Rattle.std.proofs.lemmas.Option.{slice_get-get_or}
use Rattle.schema_core.specs.declared.schema.Attr.{Attr}
use Rattle.schema_draft.specs.Columns.{column_of}
use Rattle.schema_draft.specs.Drafts.{attr_text, column_text, names_column, notes_on}
use Rattle.schema_draft.specs.declared.sheet.Sheet.{Sheet}

is_slash : (b : ℕ) → b ≡ 47 → not (eqb b 47) ≡ false
is_slash b is = rw is refl

no_slash : (b : ℕ) → b ≢ 47 → not (eqb b 47) ≡ true
no_slash b other = rw (ne_eqb b 47 other) refl

-- behind the last slash
pub after_last-from : (file : List ℕ) (start : ℕ) → start ≤ length file → ((k : ℕ) → start ≤ k → k < length file → get_or file k 0 ≢ 47) → (0 < start → get_or file (start - 1) 0 ≡ 47) → drop start file ≡ after_last (λ b. b == 47) file
after_last-from file start within behind slash =
    let len : suffix_len (λ (b : ℕ). not (eqb b 47)) file ≡ length file - start =
    suffix_len_is (λ (b : ℕ). not (eqb b 47)) file start 0 within (λ k low high. no_slash (get_or file k 0) (behind k low high)) (λ some. is_slash (get_or file (start - 1) 0) (slash some)) in
    let same : start ≡ length file - suffix_len (λ (b : ℕ). not (eqb b 47)) file = omega (arith, len) in
    ap (λ n. drop n file) same

-- what is written of the column at a place, whose text is known by these words
pub column_written : (sheet : Sheet) (place : ℕ) (attrs : List Attr) (attr : Attr) (words : List ℕ) (fits : Bool) (values : List (List ℕ)) (before mid : List ℕ) → attrs ≡ sheet.table.attrs → place < length attrs → attr ≡ get_or attrs place attr → words ≡ attr.name
    → fits ≡ names_column (take place attrs) words → values ≡ column_of sheet.rows place → mid ≡ before ++ attr_text attrs (place + 1) fits words → mid ++ notes_on fits words values ≡ before ++ column_text sheet place (slice_get sheet.table.attrs place)
column_written sheet place attrs attr words fits values before mid same inside is words_are fits_is values_are mid_is =
    let there : slice_get sheet.table.attrs place ≡ Some attr = ap (λ all. slice_get all place) (sym same) ∙ slice_get-get_or attrs place attr inside ∙ ap Some (sym is) in
    ap (λ m. m ++ notes_on fits words values) mid_is ∙ append_assoc before (attr_text attrs (place + 1) fits words) (notes_on fits words values)
    ∙ ap (λ f. before ++ (attr_text attrs (place + 1) f words ++ notes_on f words values)) fits_is
    ∙ ap (λ (w : List ℕ). before ++ (attr_text attrs (place + 1) (names_column (take place attrs) w) w ++ notes_on (names_column (take place attrs) w) w values)) words_are
    ∙ ap (λ vs. before ++ (attr_text attrs (place + 1) (names_column (take place attrs) attr.name) attr.name ++ notes_on (names_column (take place attrs) attr.name) attr.name vs)) values_are
    ∙ ap (λ all. before ++ (attr_text all (place + 1) (names_column (take place all) attr.name) attr.name ++ notes_on (names_column (take place all) attr.name) attr.name (column_of sheet.rows place))) same
    ∙ ap (λ o. before ++ column_text sheet place o) (sym there)
