-- Where texts keep their ids, rules by ids stay rules by ids.
use Rattle.std.proofs.Common.{ℕ, List}
use Rattle.std.specs.List.{AllZip}
use Rattle.value_pool.specs.Pool.{HasId, KeepsIds}
use Rattle.cfd_semantics.specs.declared.pattern.Pattern.{Pattern}
use Rattle.cfd_semantics.specs.declared.pattern.Pattern.TheVariants.{Any, Is, In, NotIn}
use Rattle.cfd_semantics.specs.declared.dependency.TableauRow.{TableauRow}
use Rattle.cfd_semantics.specs.declared.dependency.Dependency.{Dependency}
use Rattle.cfd_semantics.specs.declared.inclusion.InclusionRow.{InclusionRow}
use Rattle.cfd_semantics.specs.declared.inclusion.Inclusion.{Inclusion}
use Rattle.bench_index.specs.ByIds.{HaveIds, IsCellByIds, IsRowByIds, IsDependencyByIds, IsInclusionRowByIds, IsInclusionByIds}
use Rattle.bench_index.proofs.Zips.{zip_weaker}

pub kept_after : (old mid new : List (List ℕ)) → KeepsIds old mid → KeepsIds mid new → KeepsIds old new
kept_after old mid new first second text id has = second text id (first text id has)

module _ (old new : List (List ℕ)) (kept : KeepsIds old new) where
  pub ids-kept : (values : List (List ℕ)) (ids : List ℕ) → HaveIds old values ids → HaveIds new values ids
  ids-kept values ids all = zip_weaker (HasId old) (HasId new) (λ text id has. kept text id has) values ids all

  pub cell-kept : (cell : Pattern (List ℕ)) (by_ids : Pattern ℕ) → IsCellByIds old cell by_ids → IsCellByIds new cell by_ids
  cell-kept Any Any is = tt
  cell-kept Any (Is id) is = absurd is
  cell-kept Any (In ids) is = absurd is
  cell-kept Any (NotIn ids) is = absurd is
  cell-kept (Is text) Any is = absurd is
  cell-kept (Is text) (Is id) is = kept text id is
  cell-kept (Is text) (In ids) is = absurd is
  cell-kept (Is text) (NotIn ids) is = absurd is
  cell-kept (In members) Any is = absurd is
  cell-kept (In members) (Is id) is = absurd is
  cell-kept (In members) (In ids) is = ids-kept members ids is
  cell-kept (In members) (NotIn ids) is = absurd is
  cell-kept (NotIn members) Any is = absurd is
  cell-kept (NotIn members) (Is id) is = absurd is
  cell-kept (NotIn members) (In ids) is = absurd is
  cell-kept (NotIn members) (NotIn ids) is = ids-kept members ids is

  pub cells-kept : (cells : List (Pattern (List ℕ))) (by_ids : List (Pattern ℕ)) → AllZip (IsCellByIds old) cells by_ids → AllZip (IsCellByIds new) cells by_ids
  cells-kept cells by_ids all = zip_weaker (IsCellByIds old) (IsCellByIds new) cell-kept cells by_ids all

  pub row-kept : (row : TableauRow (List ℕ)) (by_ids : TableauRow ℕ) → IsRowByIds old row by_ids → IsRowByIds new row by_ids
  row-kept row by_ids is = record { x = cells-kept row.x by_ids.x is.x; a = cell-kept row.a by_ids.a is.a }

  pub inclusion_row-kept : (row : InclusionRow (List ℕ)) (by_ids : InclusionRow ℕ) → IsInclusionRowByIds old row by_ids → IsInclusionRowByIds new row by_ids
  inclusion_row-kept row by_ids is = record { xp = ids-kept row.xp by_ids.xp is.xp; yp = ids-kept row.yp by_ids.yp is.yp }

  pub dependency-kept : (d : Dependency (List ℕ)) (by_ids : Dependency ℕ) → IsDependencyByIds old d by_ids → IsDependencyByIds new d by_ids
  dependency-kept d by_ids is = record { x = is.x; a = is.a; rows = zip_weaker (IsRowByIds old) (IsRowByIds new) row-kept d.rows by_ids.rows is.rows }

  pub inclusion-kept : (i : Inclusion (List ℕ)) (by_ids : Inclusion ℕ) → IsInclusionByIds old i by_ids → IsInclusionByIds new i by_ids
  inclusion-kept i by_ids is = record { x = is.x; xp = is.xp; y = is.y; yp = is.yp; rows = zip_weaker (IsInclusionRowByIds old) (IsInclusionRowByIds new) inclusion_row-kept i.rows by_ids.rows is.rows }
