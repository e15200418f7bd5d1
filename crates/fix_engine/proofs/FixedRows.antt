-- A run leads from rows to rows.
use Rattle.std.proofs.Common.{◌≡◌, ℕ, zero, suc, ◌≤◌, List, [], ◌∷◌, length, set, Option, Some, None, refl, sym, subst, ⊎_elim}
use Rattle.std.specs.Prelude.{IfSome, IsSomeAnd, MatchOption, slice_get, slice_set}
use Rattle.std.specs.List.{AllZip}
use Rattle.std.specs.Option.{option_map_or}
use Rattle.std.proofs.lemmas.List.Elements.{All-set}
use Rattle.std.proofs.lemmas.Slice.Zip.{AllZip-right}
use Rattle.schema_core.specs.Lookups.{attrs_at, domain_at}
use Rattle.schema_core.specs.Rows.{IsRowOf}
use Rattle.schema_core.specs.Schemas.{Admits}
use Rattle.schema_core.specs.declared.schema.Attr.{Attr}
use Rattle.schema_core.specs.declared.schema.Domain.TheVariants.{AnyText}
use Rattle.rule_model.specs.declared.edit_rule.EditRule.{EditRule}
use Rattle.rule_model.specs.Books.{Book, IsBook, book_edits}
use Rattle.rule_model.specs.Rules.{IsValidEditRule}
use Rattle.rule_runs.specs.declared.moves.Move.{Move}
use Rattle.rule_runs.specs.Moves.{Applies, Basis, IsRunOf, Stage, after, end_after}
use Rattle.rule_runs.proofs.Lists.{All-at, slice_get-either}
use Rattle.rule_runs.proofs.Moving.{after-is, parts}
use Rattle.rule_runs.proofs.StartFacts.{option-parts}
use Rattle.fix_engine.specs.MasterRows.{AreMasterRows, LeadsToRows}
use Rattle.fix_engine.specs.Questions.{MasterTexts, text_question}

-- one item changes, if the new one fits
AllZip-set : {A B : Type 0} (R : A → B → Type 0) (xs : List A) (ys : List B) (k : ℕ) (y : B) → IfSome (slice_get xs k) (λ x. R x y) → AllZip R xs ys → AllZip R xs (set ys k y)
AllZip-set R [] [] k y fits all = tt
AllZip-set R [] (z ∷ ys) k y fits all = absurd all
AllZip-set R (x ∷ xs) [] k y fits all = absurd all
AllZip-set R (x ∷ xs) (z ∷ ys) zero y fits (here, rest) = (fits, rest)
AllZip-set R (x ∷ xs) (z ∷ ys) (suc k) y fits (here, rest) = (here, AllZip-set R xs ys k y fits rest)

-- the domain of an attribute that may be missing
abbrev AdmitsBy : Option Attr → List ℕ → Type 0
AdmitsBy o text = Admits (option_map_or (λ (a : Attr). a.domain) o AnyText) text

if_there : (o : Option Attr) (text : List ℕ) → AdmitsBy o text → IfSome o (λ (a : Attr). Admits a.domain text)
if_there None text admits = tt
if_there (Some a) text admits = admits

from_there : (o : Option Attr) (text : List ℕ) → IsSomeAnd o (λ (a : Attr). Admits a.domain text) → AdmitsBy o text
from_there None text admits = absurd admits
from_there (Some a) text admits = admits

-- a row with another text of the domain
put-text : (attrs : List Attr) (cell_bytes : ℕ) (row : List (List ℕ)) (attr : ℕ) (text : List ℕ) → IsRowOf attrs cell_bytes row → Admits (domain_at attrs attr) text → length text ≤ cell_bytes → IsRowOf attrs cell_bytes (set row attr text)
put-text attrs cell_bytes row attr text is_row admits short = record {
  domains = AllZip-set (λ (a : Attr) (t : List ℕ). Admits a.domain t) attrs row attr text (if_there (slice_get attrs attr) text admits) is_row.domains;
  short = All-set (λ (t : List ℕ). length t ≤ cell_bytes) row attr text short is_row.short;
}

-- what a row has at an attribute is of its domain
admitted : (attrs : List Attr) (cell_bytes : ℕ) (row : List (List ℕ)) (attr : ℕ) (text : List ℕ) → IsRowOf attrs cell_bytes row → slice_get row attr ≡ Some text → Admits (domain_at attrs attr) text
admitted attrs cell_bytes row attr text is_row there =
    from_there (slice_get attrs attr) text
    (subst (λ o. MatchOption o (Unit {0}) (λ t. IsSomeAnd (slice_get attrs attr) (λ (a : Attr). Admits a.domain t))) there
    (AllZip-right (λ (a : Attr) (t : List ℕ). Admits a.domain t) attrs row is_row.domains attr))

module _ (rules : Book) (book : IsBook rules) (masters : MasterTexts) (cell_bytes : ℕ) (are : AreMasterRows rules.schema cell_bytes masters) where
  -- a rule puts what its master row has
  put-source : (rule : EditRule) (master row : List (List ℕ)) → IsValidEditRule rules.schema rule → IsRowOf (attrs_at rules.schema rule.master) cell_bytes master → IsRowOf (attrs_at rules.schema rule.table) cell_bytes row
      → IsRowOf (attrs_at rules.schema rule.table) cell_bytes (option_map_or (slice_set row rule.target) (slice_get master rule.source) row)
  put-source rule master row valid is_master is_row =
      let attrs = attrs_at rules.schema rule.table in
      let Fits = λ (o : Option (List ℕ)). IsRowOf attrs cell_bytes (option_map_or (slice_set row rule.target) o row) in
      ⊎_elim
      (λ (text, there).
      subst Fits (sym there)
      (put-text attrs cell_bytes row rule.target text is_row
      (valid.fits text (admitted (attrs_at rules.schema rule.master) cell_bytes master rule.source text is_master there))
      (All-at (λ (t : List ℕ). length t ≤ cell_bytes) master rule.source text is_master.short there)))
      (λ none. subst Fits (sym none) is_row)
      (slice_get-either master rule.source)

  module _ (basis : Basis (List ℕ)) (same_rules : basis.rules ≡ book_edits rules) (same_masters : basis.masters ≡ masters) where
    abbrev IsRowHere : Stage (List ℕ) → Type 0
    IsRowHere stage = IsRowOf (attrs_at rules.schema basis.table) cell_bytes stage.tuple

    step : (stage : Stage (List ℕ)) (move : Move) → IsRowHere stage → Applies basis stage move → IsRowHere (after basis stage move)
    step stage move is_row applies =
        let ((rule, master), is, (ready, same)) = parts basis stage move applies in
        let there = option-parts (λ (r : EditRule). basis.masters r.master move.master) (slice_get basis.rules move.rule) rule master is in
        let valid = All-at (IsValidEditRule rules.schema) (book_edits rules) move.rule rule book.edits (subst (λ (rs : List EditRule). slice_get rs move.rule ≡ Some rule) same_rules there.0) in
        let row = subst (λ (ms : MasterTexts). ms rule.master move.master ≡ Some master) same_masters there.1 in
        let is_master = subst (λ o. IfSome o (IsRowOf (attrs_at rules.schema rule.master) cell_bytes)) row (are rule.master move.master) in
        let here = subst (λ t. IsRowOf (attrs_at rules.schema t) cell_bytes stage.tuple) (sym ready.table) is_row in
        subst IsRowHere (sym (after-is basis stage move (rule, master) is))
        (subst (λ t. IsRowOf (attrs_at rules.schema t) cell_bytes (option_map_or (slice_set stage.tuple rule.target) (slice_get master rule.source) stage.tuple)) ready.table
        (put-source rule master stage.tuple valid is_master here))

    run : (stage : Stage (List ℕ)) (moves : List Move) → IsRowHere stage → IsRunOf basis stage moves → IsRowHere (end_after basis stage moves)
    run stage [] is_row is_run = is_row
    run stage (move ∷ moves) is_row (applies, rest) = run (after basis stage move) moves (step stage move is_row applies) rest

-- the law of a question
pub leads_to_rows : (rules : Book) → IsBook rules → (masters : MasterTexts) (table : ℕ) (texts vouched : List (List ℕ)) → LeadsToRows rules.schema (text_question rules masters table texts vouched)
leads_to_rows rules book masters table texts vouched cell_bytes is_row are moves is_run =
    let q = text_question rules masters table texts vouched in
    run rules book masters cell_bytes are q.basis refl refl q.stage moves is_row is_run
