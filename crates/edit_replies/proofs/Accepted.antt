-- What is asked of a row, and that a row of the table may be written there.
use Rattle.std.proofs.Common.{◌≡◌, ℕ, zero, suc, Bool, true, false, List, [], ◌∷◌, length, Option, Some, None, Result, Ok, refl, sym, subst, arith}
use Rattle.std.specs.Prelude.{◌==◌, ◌||◌, Contains, ok_or}
use Rattle.std.specs.List.{AllZip, list_all, list_any, slice_set}
use Rattle.std.specs.Str.{bytes_eq}
use Rattle.std.proofs.lemmas.Bool.{eq-eqb, le-leb}
use Rattle.std.proofs.lemmas.List.Sums.{list_all-from_AllPass}
use Rattle.std.proofs.lemmas.Slice.Eq.{bytes_eq-Decides}
use Rattle.std.proofs.lemmas.Slice.Zip.{AllZip-long}
use Rattle.schema_core.specs.Rows.{IsRowOf}
use Rattle.schema_core.specs.Schemas.{Admits, admits}
use Rattle.text_lists.specs.declared.limits.Limits.{Limits}
use Rattle.schema_core.specs.declared.schema.Attr.{Attr}
use Rattle.schema_core.specs.declared.schema.Domain.{Domain}
use Rattle.schema_core.specs.declared.schema.Domain.TheVariants.{AnyText, Finite}
use Rattle.schema_core.specs.declared.schema.Table.{Table}
use Rattle.rule_model.specs.Books.{Book}
use Rattle.edit_log.specs.declared.edit.Edit.TheVariants.{Fix}
use Rattle.bench_core.specs.Edited.{Step, TableAt, ◌>>=◌, ◌>>◌, after_edit, edited, is_short, outside_domain, require, require_row, table_of_name}
use Rattle.bench_core.specs.History.{History, accepted, history_edited}
use Rattle.bench_core.specs.Sizes.{has_room}
use Rattle.bench_core.specs.State.{State, texts_of}
use Rattle.bench_core.specs.declared.edit.Applied.{Applied}
use Rattle.bench_core.specs.declared.edit.Applied.TheVariants.{Changed}
use Rattle.bench_core.specs.declared.edit.EditFault.TheVariants.{UnknownAttr, UnknownRow, UnknownTable}
use Rattle.edit_replies.specs.Fixing.{Asked, are_attrs, asked, asked_of, rewritten}

-- ---- a row of the table passes the tests

any-later : (b : Bool) (c : Bool) → c ≡ true → (b || c) ≡ true
any-later true c is = refl
any-later false c is = is

member : (values : List (List ℕ)) (text : List ℕ) → Contains values text → list_any (λ v. bytes_eq v text) values ≡ true
member [] text (k, within, is) = absurd (omega arith)
member (v ∷ values) text (zero, within, is) = rw ((bytes_eq-Decides v text).1 is) refl
member (v ∷ values) text (suc k, within, is) = any-later (bytes_eq v text) _ (member values text (k, omega arith, is))

admitted : (domain : Domain) (text : List ℕ) → Admits domain text → admits domain text ≡ true
admitted AnyText text is = refl
admitted (Finite values) text is = member values text is

none-outside : (attrs : List Attr) (texts : List (List ℕ)) → AllZip (λ (attr : Attr) (text : List ℕ). Admits attr.domain text) attrs texts → outside_domain attrs texts ≡ None
none-outside [] [] fit = refl
none-outside [] (text ∷ texts) fit = absurd fit
none-outside (attr ∷ attrs) [] fit = absurd fit
none-outside (attr ∷ attrs) (text ∷ texts) fit = rw (admitted attr.domain text fit.0) (none-outside attrs texts fit.1)

pub required-row : (limits : Limits) (table : Table) (texts : List (List ℕ)) → IsRowOf table.attrs limits.cell_bytes texts → require_row limits table texts ≡ Ok tt
required-row limits table texts fit =
    let wide : (length texts == length table.attrs) ≡ true = eq-eqb (length texts) (length table.attrs) (AllZip-long _ _ _ fit.domains) in
    let short : list_all (is_short limits) texts ≡ true = list_all-from_AllPass (is_short limits) texts (λ k d lt. le-leb _ _ (fit.short k d lt)) in
    rw (wide, short, none-outside table.attrs texts fit.domains) refl

-- ---- what is asked

-- where something is asked, the table and the row are there, and the row may get texts that are a row of the table
module _ (rules : Book) (limits : Limits) (state : State) (name : List ℕ) (row : ℕ) (vouched texts : List (List ℕ)) (a : Asked) where
  -- the edit at a table that is there
  abbrev done : TableAt → Step (State × Applied)
  done at = after_edit limits (has_room rules limits state at.number) at.table at.state (Fix name row texts) >>= λ after. Ok (slice_set state at.number after.0, after.1)

  abbrev Written : Step (State × Applied) → Type 0
  Written made = IsRowOf a.table.attrs limits.cell_bytes texts → made ≡ Ok (rewritten state a texts, Changed)

  with_attrs : (at : TableAt) (old : List (List ℕ)) (known : Bool) → texts_of at.state row ≡ Some old → (require known UnknownAttr >> Ok (asked_of rules state at row vouched old)) ≡ Ok a
      → Written (done at)
  with_attrs at old true there is fit =
      let same : asked_of rules state at row vouched old ≡ a = same_ok _ a is in
      let passes = required-row limits at.table texts (subst (λ (b : Asked). IsRowOf b.table.attrs limits.cell_bytes texts) (sym same) fit) in
      subst (λ (b : Asked). done at ≡ Ok (rewritten state b texts, Changed)) same
      (rw (there, passes) refl)
    where
      same_ok : {X E : Type 0} (x y : X) → (let r : Result X E = Ok x in r) ≡ Ok y → x ≡ y
      same_ok x y e = cc
  with_attrs at old false there is fit = absurd (cc)

  with_row : (at : TableAt) (found : Option (List (List ℕ))) → texts_of at.state row ≡ found → (ok_or found UnknownRow >>= λ old. (require (are_attrs at.table vouched) UnknownAttr >> Ok (asked_of rules state at row vouched old))) ≡ Ok a
      → Written (done at)
  with_row at None there is fit = absurd (cc)
  with_row at (Some old) there is fit = with_attrs at old (are_attrs at.table vouched) there is fit

  with_table : (found : Option TableAt) → (ok_or found UnknownTable >>= λ at. (ok_or (texts_of at.state row) UnknownRow >>= λ old. (require (are_attrs at.table vouched) UnknownAttr >> Ok (asked_of rules state at row vouched old)))) ≡ Ok a
      → Written (ok_or found UnknownTable >>= done)
  with_table None is fit = absurd (cc)
  with_table (Some at) is fit = with_row at (texts_of at.state row) refl is fit

pub fix-edited : (rules : Book) (limits : Limits) (state : State) (name : List ℕ) (row : ℕ) (vouched texts : List (List ℕ)) (a : Asked) → asked rules state name row vouched ≡ Ok a → IsRowOf a.table.attrs limits.cell_bytes texts
    → edited rules limits state (Fix name row texts) ≡ Ok (rewritten state a texts, Changed)
fix-edited rules limits state name row vouched texts a is fit = with_table rules limits state name row vouched texts a (table_of_name rules.schema state name) is fit

-- so the edit is accepted
pub fix-accepted : (rules : Book) (limits : Limits) (before : History) (name : List ℕ) (row : ℕ) (vouched texts : List (List ℕ)) (a : Asked) → asked rules before.present name row vouched ≡ Ok a → IsRowOf a.table.attrs limits.cell_bytes texts
    → history_edited rules limits before (Fix name row texts) ≡ Ok (accepted before (rewritten before.present a texts), Changed)
fix-accepted rules limits before name row vouched texts a is fit = rw (fix-edited rules limits before.present name row vouched texts a is fit) refl
