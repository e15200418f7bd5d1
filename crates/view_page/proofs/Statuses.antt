-- The status by whether nothing is listed.
use Rattle.std.proofs.Common.{◌≡◌, ◌↔◌, Bool, true, false, List, [], ◌∷◌, refl, sym, ap}
use Rattle.std.specs.Prelude.{IsTrue}
use Rattle.cli_output.specs.declared.status.Status.TheVariants.{Clean, Findings}
use Rattle.view_page.specs.PageForm.{status_for}

pub clean_told : {X : Type 0} (listed : List X) (is_clean : Bool) → (IsTrue is_clean ↔ (listed ≡ [])) → is_clean ≡ true → Clean ≡ status_for listed
clean_told listed is_clean told is = ap status_for (sym (told.0 is))

pub found_told : {X : Type 0} (listed : List X) (is_clean : Bool) → (IsTrue is_clean ↔ (listed ≡ [])) → is_clean ≡ false → Findings ≡ status_for listed
found_told [] is_clean told is = absurd (let yes : is_clean ≡ true = told.1 refl in cc)
found_told (x ∷ xs) is_clean told is = refl

pub clean_law : (P : Type 0) (is_clean : Bool) → (IsTrue is_clean ↔ P) → is_clean ≡ true → (Clean ≡ Clean ↔ P)
clean_law P is_clean law is = ((λ same. law.0 is), (λ p. refl))

pub found_law : (P : Type 0) (is_clean : Bool) → (IsTrue is_clean ↔ P) → is_clean ≡ false → (Findings ≡ Clean ↔ P)
found_law P is_clean law is = ((λ same. absurd (cc)), (λ p. absurd (let yes : is_clean ≡ true = law.1 p in cc)))
