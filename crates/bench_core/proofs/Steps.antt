-- The steps of an edit, as they are reached one after the other.
use Rattle.std.proofs.Common.{◌≡◌, ℕ, List, Option, Some, Result, Ok, Err, IfSome, slice_set, subst, sym, refl}
use Rattle.std.specs.Result.{IsErrAnd}
use Rattle.line_grammar.specs.Faults.{GivesUnlessMemory}
use Rattle.schema_core.specs.Schemas.{attr_place}
use Rattle.std.specs.List.{slice_get}
use Rattle.text_lists.specs.declared.limits.Limits.{Limits}
use Rattle.schema_core.specs.declared.schema.Attr.{Attr}
use Rattle.schema_core.specs.declared.schema.Table.{Table}
use Rattle.bench_core.specs.State.{TableState, texts_of, with_texts}
use Rattle.bench_core.specs.Edited.{after_set, require_text}
use Rattle.bench_core.specs.declared.edit.Applied.TheVariants.{Changed}

-- another text of one attribute, once all tests are passed
pub after_set-done : (limits : Limits) (table : Table) (state : TableState) (row : ℕ) (name value : List ℕ) (texts : List (List ℕ)) (place : ℕ) (attr : Attr)
    → texts_of state row ≡ Some texts → attr_place table name ≡ Some place → slice_get table.attrs place ≡ Some attr → require_text limits attr value ≡ Ok tt
    → after_set limits table state row name value ≡ Ok (with_texts state row (slice_set texts place value), Changed)
after_set-done limits table state row name value texts place attr there named at passed = rw (there, named, at, passed) refl

-- a fault that is handed on tells what it told
pub handed_on : {X Y E C : Type 0} (cause_of : E → Option C) (said : Result Y C) (f : X → Y) (r : Result X E) (fault : E) → IsErrAnd r (λ e. e ≡ fault) → IfSome (cause_of fault) (λ cause. said ≡ Err cause)
    → GivesUnlessMemory cause_of said f r
handed_on cause_of said f (Ok x) fault is told = absurd is
handed_on {C} cause_of said f (Err e) fault is told = subst (λ e. IfSome (cause_of e) (λ (cause : C). said ≡ Err cause)) (sym is) told
