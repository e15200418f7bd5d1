-- Rules over value ids: an id stands for the text at its place in a list of texts.
use Rattle.std.specs.Prelude.{◌≡◌, ℕ, ◌<◌, List, [], length, get_or}
use Rattle.std.specs.List.{AllZip}
use Rattle.value_pool.specs.Pool.{HasId}
use Rattle.cfd_semantics.specs.declared.pattern.Pattern.{Pattern}
use Rattle.cfd_semantics.specs.declared.pattern.Pattern.TheVariants.{Any, Is, In, NotIn}
use Rattle.cfd_semantics.specs.declared.dependency.TableauRow.{TableauRow}
use Rattle.cfd_semantics.specs.declared.dependency.Dependency.{Dependency}
use Rattle.cfd_semantics.specs.declared.inclusion.InclusionRow.{InclusionRow}
use Rattle.cfd_semantics.specs.declared.inclusion.Inclusion.{Inclusion}

module _ (texts : List (List ℕ)) where
  -- the text of an id
  abbrev pub text_of : ℕ → List ℕ
  text_of id = get_or texts id []

  -- the id has a text
  abbrev pub HasText : ℕ → Type 0
  HasText id = id < length texts

  -- each text has the id at its place
  abbrev pub HaveIds : List (List ℕ) → List ℕ → Type 0
  HaveIds values ids = AllZip (HasId texts) values ids

  -- the cell asks the same of ids
  abbrev pub IsCellByIds : Pattern (List ℕ) → Pattern ℕ → Type 0
  IsCellByIds Any Any = Unit {0}
  IsCellByIds (Is text) (Is id) = HasId texts text id
  IsCellByIds (In members) (In ids) = HaveIds members ids
  IsCellByIds (NotIn members) (NotIn ids) = HaveIds members ids
  IsCellByIds _ _ = ⊥

  pub record IsRowByIds (row : TableauRow (List ℕ)) (by_ids : TableauRow ℕ) : Type 0 where
    pub x : AllZip IsCellByIds row.x by_ids.x
    pub a : IsCellByIds row.a by_ids.a

  -- the dependency with ids in place of its constants
  pub record IsDependencyByIds (d : Dependency (List ℕ)) (by_ids : Dependency ℕ) : Type 0 where
    pub x : by_ids.x ≡ d.x
    pub a : by_ids.a ≡ d.a
    pub rows : AllZip IsRowByIds d.rows by_ids.rows

  pub record IsInclusionRowByIds (row : InclusionRow (List ℕ)) (by_ids : InclusionRow ℕ) : Type 0 where
    pub xp : HaveIds row.xp by_ids.xp
    pub yp : HaveIds row.yp by_ids.yp

  pub record IsInclusionByIds (i : Inclusion (List ℕ)) (by_ids : Inclusion ℕ) : Type 0 where
    pub x : by_ids.x ≡ i.x
    pub xp : by_ids.xp ≡ i.xp
    pub y : by_ids.y ≡ i.y
    pub yp : by_ids.yp ≡ i.yp
    pub rows : AllZip IsInclusionRowByIds i.rows by_ids.rows
