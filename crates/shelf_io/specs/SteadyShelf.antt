-- A shelf that never fails, as contracts see it.
use Rattle.std.specs.Prelude.{ℕ, refl}
use Rattle.std.specs.Coded.{Coded, coded_ℕ, coded×, code_by}
use Rattle.shelf_io.specs.declared.counts.FetchCounts.{FetchCounts}
use Rattle.shelf_io.specs.Files.{Files, coded_files}

-- the files that it holds, and the counts
pub record SteadyState : Type 0 where
  pub files : Files
  pub counts : FetchCounts

abbrev pub coded_steady : Coded SteadyState
coded_steady =
    code_by (Files × (ℕ × (ℕ × ℕ))) (coded× coded_files (coded× coded_ℕ (coded× coded_ℕ coded_ℕ)))
    (λ s. (s.files, (s.counts.calls, (s.counts.faults, s.counts.absences))))
    (λ p. record { files = p.0; counts = record { calls = p.1.0; faults = p.1.1.0; absences = p.1.1.1 } })
    (λ _. refl)
