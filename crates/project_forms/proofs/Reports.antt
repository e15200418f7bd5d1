-- How telling a list ends.
use Rattle.std.proofs.Common.{◌≡◌, ◌↔◌, Bool, true, false, List, [], ◌∷◌, refl, sym, ap, ◌∙◌}
use Rattle.std.specs.Prelude.{IsTrue}
use Rattle.rule_model.specs.Books.{Book}
use Rattle.bench_core.specs.State.{State}
use Rattle.violation_report.specs.Listing.{IsSatisfied, listing}
use Rattle.violation_report.specs.declared.line.Line.{Line}
use Rattle.violation_report.proofs.Lists.{listing_is_empty}
use Rattle.cli_output.specs.declared.status.Status.{Status}
use Rattle.cli_output.specs.declared.status.Status.TheVariants.{Clean, Findings}
use Rattle.cli_output.specs.Output.{IsWhole}
use Rattle.project_forms.specs.Transcripts.{found_status}

-- the status of a list isn't one of a call that was cut short
pub found_is_whole : {X : Type 0} (listed : List X) → IsWhole (found_status listed)
found_is_whole [] = tt
found_is_whole (x ∷ xs) = tt

-- ---- the status by whether nothing is listed

pub clean_told : {X : Type 0} (listed : List X) (is_clean : Bool) → (IsTrue is_clean ↔ (listed ≡ [])) → is_clean ≡ true → Clean ≡ found_status listed
clean_told listed is_clean told is = ap found_status (sym (told.0 is))

pub found_told : {X : Type 0} (listed : List X) (is_clean : Bool) → (IsTrue is_clean ↔ (listed ≡ [])) → is_clean ≡ false → Findings ≡ found_status listed
found_told [] is_clean told is = absurd (let yes : is_clean ≡ true = told.1 refl in cc)
found_told (x ∷ xs) is_clean told is = refl

-- ---- the status by whether the rules are satisfied

none_found : {X : Type 0} (listed : List X) → found_status listed ≡ Clean → listed ≡ []
none_found [] clean = refl
none_found (x ∷ xs) clean = absurd (cc)

pub clean_where_satisfied : (rules : Book) (state : State) (status : Status) → status ≡ found_status (listing rules state) → (status ≡ Clean ↔ IsSatisfied rules state)
clean_where_satisfied rules state status is =
    let law = listing_is_empty rules state in (
      (λ clean. law.0 (none_found (listing rules state) (sym is ∙ clean))),
      (λ satisfied. is ∙ ap (λ (listed : List Line). found_status listed) (law.1 satisfied)),
    )
