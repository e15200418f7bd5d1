-- A shelf in memory, as contracts see it.
use Rattle.std.specs.Prelude.{ℕ, List, Contains, refl}
use Rattle.std.specs.Coded.{Coded, coded_ℕ, coded_list, coded×, code_by}
use Rattle.shelf_io.specs.declared.counts.FetchCounts.{FetchCounts}
use Rattle.shelf_io.specs.Rising.{raised}
use Rattle.shelf_io.specs.Files.{Files, coded_files}

-- the files that it holds, the numbers of the fetches that fail, and the counts
pub record ShelfState : Type 0 where
  pub files : Files
  pub failing : List ℕ
  pub counts : FetchCounts

-- the next fetch is one of those that fail
abbrev pub IsFailing : ShelfState → Type 0
IsFailing shelf = Contains shelf.failing (raised shelf.counts.calls)

abbrev pub coded_shelf : Coded ShelfState
coded_shelf =
    code_by (Files × (List ℕ × (ℕ × (ℕ × ℕ)))) (coded× coded_files (coded× (coded_list coded_ℕ) (coded× coded_ℕ (coded× coded_ℕ coded_ℕ))))
    (λ s. (s.files, (s.failing, (s.counts.calls, (s.counts.faults, s.counts.absences)))))
    (λ p. record { files = p.0; failing = p.1.0; counts = record { calls = p.1.1.0; faults = p.1.1.1.0; absences = p.1.1.1.1 } })
    (λ _. refl)
