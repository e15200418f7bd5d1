use Rattle.std.proofs.Common.{◌≡◌, ℕ, List, Ok, Err, refl}
use Rattle.std.proofs.lemmas.Result.{err_from_is_err_and}
use Rattle.std.proofs.lemmas.Slice.Zip.{AllZip-long}
use Rattle.schema_core.specs.Schemas.{Admits}
use Rattle.schema_core.specs.declared.schema.Attr.{Attr}
use Rattle.text_lists.specs.declared.limits.Limits.{Limits}
use Rattle.schema_core.specs.declared.schema.Table.{Table}
use Rattle.cli_output.specs.Fetching.{Fetching, ◌>>=◌, given}
use Rattle.cli_output.specs.TableFiles.{fetch_table}
use Rattle.cli_output.proofs.FetchingSteps.{fetches-next, fetches-stopped}
use Rattle.find_form.specs.FindForm.{fetch_asked, fetch_known}
use Rattle.find_form.specs.declared.Asked.{Asked}
use Rattle.find_form.proofs.fetch_asked.Goals as goal

-- what follows each step

with_rows : ℕ × Table → List (List (List ℕ)) → Fetching Asked
with_rows known rows = given (Ok (record { number = known.0; table = known.1; rows = rows }))

with_table : Limits → ℕ × Table → Fetching Asked
with_table limits known = fetch_table limits known.1 >>= λ rows. given (Ok (record { number = known.0; table = known.1; rows = rows }))

pub returns-in_err-rows-clause-asked : goal.returns-in_err-rows-clause-asked
unfolding fetch_asked with_rows with_table
returns-in_err-rows-clause-asked g c =
    let limits = c.args.limits.now in
    let p = err_from_is_err_and c.from_residual-in_err-rows.result c.from_residual-in_err-rows.ensures.1 in
    let same : c.from_residual-in_err-rows.result ≡ Err c.in_err-rows.field-0.0 = rw (p.1, p.2) refl in
    fetches-next (fetch_known limits c.args.project.now c.args.name.now) (with_table limits) (λ x. x) (λ x. x) 1 1 c.in_ok-known.known c.from_residual-in_err-rows.result _ _ _ _ _ _ c.in_ok-known.ensures
    (fetches-stopped (fetch_table limits c.in_ok-known.known.1) (with_rows c.in_ok-known.known) (λ x. x) (λ x. x) 1 0 c.in_err-rows.field-0.0 c.from_residual-in_err-rows.result _ _ _ _ same c.in_err-rows.ensures.table)

pub returns-clause-rows : goal.returns-clause-rows
returns-clause-rows g c = λ k d kl. AllZip-long (λ (attr : Attr) (text : List ℕ). Admits attr.domain text) c.in_ok-known.known.1.attrs _ (c.in_ok-rows.ensures.valid k d kl).domains
