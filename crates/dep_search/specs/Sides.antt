-- What is known of a left side before it is asked what follows from it.
use Rattle.std.specs.Prelude.{◌≡◌, ◌<◌, List, length, All}
use Rattle.dep_search.specs.Found.{proper_parts}
use Rattle.dep_search.specs.Settled.{AreFacts, IsGrouped, IsTable, StandAt, leads_of}
use Rattle.dep_search.specs.declared.table.Table.{Table}
use Rattle.dep_search.specs.declared.facts.Facts.{Facts}
use Rattle.dep_search.specs.declared.finder.Side.{Side}
use Rattle.dep_search.specs.declared.finder.Past.{Past}

-- the facts of left sides are true of a table
abbrev pub AreTrue : Table → List Facts → Type 0
AreTrue table store = All (AreFacts table.rows.now (length table.columns.now) table.support) store

-- the rows are told apart by the left side, and the facts of its parts are at hand
pub record IsSide (table : Table) (store : List Facts) (side : Side) : Type 0 where
  pub numbered : IsTable table
  pub grouped : IsGrouped table.rows.now side.grouped.now
  pub leads : side.leads.now ≡ leads_of table.rows.now table.support side.grouped.now.x
  pub x : All (λ attr. attr < length table.columns.now) side.grouped.now.x
  pub facts : AreTrue table store
  pub places : StandAt store side.places.now (proper_parts side.grouped.now.x)

-- what is known of the sides before
pub record IsPast (table : Table) (past : Past) : Type 0 where
  pub front : IsGrouped table.rows.now past.front
  pub facts : AreTrue table past.store
