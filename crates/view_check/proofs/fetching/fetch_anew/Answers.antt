use Rattle.std.proofs.Common.{◌≡◌, ℕ, List, Option, Ok, Err, refl}
use Rattle.std.proofs.lemmas.Result.{err_from_is_err_and}
use Rattle.text_lists.specs.declared.limits.Limits.{Limits}
use Rattle.bench_core.specs.Loading.{Tuples}
use Rattle.schema_core.specs.declared.schema.Schema.{Schema}
use Rattle.cli_output.specs.declared.refusal.Refusal.{Refusal}
use Rattle.cli_output.specs.Fetching.{Fetching, ◌>>=◌, file, given}
use Rattle.cli_output.specs.RuleFiles.{fetch_schema}
use Rattle.cli_output.proofs.FetchingSteps.{fetches-given, fetches-next, fetches-stopped}
use Rattle.view_check.specs.Seen.{again, all_if, anew, is_full}
use Rattle.view_refusal.specs.declared.Anew.{Anew}
use Rattle.view_check.proofs.fetching.fetch_anew.Goals as goal

-- what follows each step

anew_with : Option (List ℕ) → Option Schema → Option (List Tuples) → Fetching Anew
anew_with bytes schema tables = given (Ok (record { bytes = bytes; schema = schema; tables = tables }))

with_schema : Limits → List ℕ → Refusal → Option (List ℕ) → Option Schema → Fetching Anew
with_schema limits project refusal bytes schema = all_if (is_full refusal.cause) limits project >>= λ tables. given (Ok (record { bytes = bytes; schema = schema; tables = tables }))

with_bytes : Limits → List ℕ → Refusal → Option (List ℕ) → Fetching Anew
with_bytes limits project refusal bytes =
    again limits (fetch_schema limits project) >>= λ schema. all_if (is_full refusal.cause) limits project >>= λ tables. given (Ok (record { bytes = bytes; schema = schema; tables = tables }))

pub returns-in_err-tables : goal.returns-in_err-tables
unfolding anew anew_with with_schema with_bytes
returns-in_err-tables g c =
    let limits = c.args.limits.now in
    let name = c.args.project.now in
    let refusal = c.args.refusal.now in
    let p = err_from_is_err_and c.from_residual-in_err-tables.result c.from_residual-in_err-tables.ensures.1 in
    let same : c.from_residual-in_err-tables.result ≡ Err c.in_err-tables.field-0.0 = rw (p.1, p.2) refl in
    fetches-next (again limits (file limits refusal.what)) (with_bytes limits name refusal) (λ x. x) (λ x. x) 1 66 c.in_ok-bytes.bytes c.from_residual-in_err-tables.result _ _ _ 0 0 0 c.in_ok-bytes.ensures
    (fetches-next (again limits (fetch_schema limits name)) (with_schema limits name refusal c.in_ok-bytes.bytes) (λ x. x) (λ x. x) 1 65 c.in_ok-schema.schema c.from_residual-in_err-tables.result _ _ _ 0 0 0 c.in_ok-schema.ensures
    (fetches-stopped (all_if (is_full refusal.cause) limits name) (anew_with c.in_ok-bytes.bytes c.in_ok-schema.schema) (λ x. x) (λ x. x) 65 0 c.in_err-tables.field-0.0 c.from_residual-in_err-tables.result _ _ 0 0 same (rw c.is_full.ensures at c.in_err-tables.ensures)))

pub returns : goal.returns
unfolding anew anew_with with_schema with_bytes
returns g c =
    let limits = c.args.limits.now in
    let name = c.args.project.now in
    let refusal = c.args.refusal.now in
    let bytes = c.in_ok-bytes.bytes in
    let schema = c.in_ok-schema.schema in
    let found : Anew = record { bytes = bytes; schema = schema; tables = c.in_ok-tables.tables } in
    fetches-next (again limits (file limits refusal.what)) (with_bytes limits name refusal) (λ x. x) (λ x. x) 1 66 bytes (Ok found) _ _ _ 0 0 0 c.in_ok-bytes.ensures
    (fetches-next (again limits (fetch_schema limits name)) (with_schema limits name refusal bytes) (λ x. x) (λ x. x) 1 65 schema (Ok found) _ _ _ 0 0 0 c.in_ok-schema.ensures
    (fetches-next (all_if (is_full refusal.cause) limits name) (anew_with bytes schema) (λ x. x) (λ x. x) 65 0 c.in_ok-tables.tables (Ok found) _ _ _ 0 0 0 (rw c.is_full.ensures at c.in_ok-tables.ensures)
    (fetches-given (Ok found) (λ x. x) (Ok found) _ 0 (record { gives = refl; no_fault = λ fault. absurd fault }))))
