-- What is found has all lines of the list.
use Rattle.std.proofs.Common.{◌≡◌, ℕ, zero, suc, ◌<◌, List, [], ◌∷◌, length, Some, refl, ◌∙◌, arith, slice_get}
use Rattle.std.specs.Prelude.{All, sum_by}
use Rattle.std.specs.List.{AllZip}
use Rattle.std.proofs.lemmas.List.Elements.{All-head, All-tail}
use Rattle.std.proofs.lemmas.Slice.Zip.{AllZip-long}
use Rattle.rule_model.specs.Books.{Book, IsBook, book_cinds, book_deps}
use Rattle.rule_model.specs.Rules.{IsValidCind, IsValidDep}
use Rattle.rule_model.specs.declared.cind.Cind.{Cind}
use Rattle.rule_model.specs.declared.dep.Dep.{Dep}
use Rattle.text_lists.specs.declared.limits.Limits.{Limits}
use Rattle.bench_core.specs.Answers.{cind_orphans, dep_violations}
use Rattle.bench_core.specs.Bench.{IsBench}
use Rattle.bench_core.specs.State.{IsTableState, State}
use Rattle.violation_groups.specs.Groups.{AreFindings, AreGroups, AreMissing, HaveAllLines, group_size, missing_size}
use Rattle.violation_groups.specs.Listed.{cind_listed, dep_listed}
use Rattle.violation_groups.specs.declared.groups.Findings.{Findings}
use Rattle.violation_groups.specs.declared.groups.Group.{Group}
use Rattle.violation_groups.specs.declared.groups.Missing.{Missing}
use Rattle.violation_groups.proofs.NoneLost.{cind-none-lost, dep-none-lost}
use Rattle.violation_groups.proofs.Totals.{listed-total, missing-total}

some-place : {X : Type 0} (xs : List X) (i : ℕ) → i < length xs → (x : X) × (slice_get xs i ≡ Some x)
some-place [] i within = absurd (omega arith)
some-place (x ∷ xs) zero within = (x, refl)
some-place (x ∷ xs) (suc i) within = some-place xs i (omega arith)

zip-so : {X Y : Type 0} (P : X → Type 0) (R S : X → Y → Type 0) → ((x : X) (y : Y) → P x → R x y → S x y) → (xs : List X) (ys : List Y) → All P xs → AllZip R xs ys → AllZip S xs ys
zip-so P R S so [] [] all zip = tt
zip-so P R S so [] (y ∷ ys) all zip = absurd zip
zip-so P R S so (x ∷ xs) [] all zip = absurd zip
zip-so P R S so (x ∷ xs) (y ∷ ys) all zip = (so x y (All-head P x xs all) zip.0, zip-so P R S so xs ys (All-tail P x xs all) zip.1)

pub all-lines : (rules : Book) (limits : Limits) (state : State) (findings : Findings) → IsBench rules limits state → IsBook rules → AreFindings rules state findings → HaveAllLines rules state findings
all-lines rules limits state findings valid book are =
    let long = AllZip-long (IsTableState limits.cell_bytes limits.last_id) rules.schema.tables state valid.tables in
    record {
      deps = zip-so (IsValidDep rules.schema) (λ (dep : Dep) groups. AreGroups (dep_listed state dep) groups) (λ (dep : Dep) (groups : List Group). sum_by group_size groups ≡ length (dep_violations state dep))
          (λ dep groups dep-valid is. let there = some-place state dep.table (omega (arith, long, dep-valid.table)) in
          listed-total (dep_listed state dep) groups is ∙ dep-none-lost rules limits state valid dep there.0 dep-valid there.1)
          (book_deps rules) findings.deps book.deps are.deps;
      cinds = zip-so (IsValidCind rules.schema) (λ (cind : Cind) missing. AreMissing (cind_listed state cind) missing) (λ (cind : Cind) (missing : List Missing). sum_by missing_size missing ≡ length (cind_orphans state cind))
          (λ cind missing cind-valid is. let there = some-place state cind.left (omega (arith, long, cind-valid.left)) in
          missing-total (cind_listed state cind) missing is ∙ cind-none-lost rules limits state valid cind there.0 cind-valid there.1)
          (book_cinds rules) findings.cinds book.cinds are.cinds;
    }
