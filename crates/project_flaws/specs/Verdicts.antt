-- Whether some row, alone, can satisfy the dependencies of a table.
use Rattle.std.specs.Prelude.{ℕ, List, IfSome}
use Rattle.std.specs.List.{AllZip}
use Rattle.schema_core.specs.Schemas.{table_place}
use Rattle.schema_core.specs.declared.schema.Table.{Table}
use Rattle.rule_model.specs.Books.{Book}
use Rattle.case_tree.specs.declared.tree.Node.{Node}
use Rattle.cfd_consistency.specs.Consistent.{IsConsistent}
use Rattle.cfd_consistency.specs.Answer.{IsConsistencyAnswer}
use Rattle.cfd_consistency.specs.declared.decider.Consistency.TheVariants.{Spent}
use Rattle.project_flaws.specs.Cited.{AreCited}
use Rattle.project_flaws.specs.ValueVerdicts.{AreValueVerdicts}
use Rattle.project_flaws.specs.declared.verdicts.Verdict.{Verdict}
use Rattle.project_flaws.specs.declared.verdicts.Verdict.TheVariants.{Holds, Never, Open}

-- It is left open: a search ended at 100,000 leaves without an answer, and so many needn't suffice.
abbrev pub IsOpen : Book → ℕ → Type 0
IsOpen rules table = (tree : List Node) × IsConsistencyAnswer rules 100000 table (Spent tree)

-- Some row does, and then the values of the domains are looked at, too; or none does, and some tree that shows it cites these
-- tableau rows; or it is left open. The table goes by its name and its number.
abbrev pub IsVerdict : Book → List ℕ → ℕ → Verdict → Type 0
IsVerdict rules name table (Holds values) = IsConsistent rules table × AreValueVerdicts rules table values
IsVerdict rules name table (Never rows) = (¬ IsConsistent rules table) × AreCited rules name table rows
IsVerdict rules name table Open = IsOpen rules table

abbrev pub IsVerdictFor : Book → Table → Verdict → Type 0
IsVerdictFor rules table verdict = IfSome (table_place rules.schema table.name) (λ place. IsVerdict rules table.name place verdict)

-- one for each table
abbrev pub AreVerdicts : Book → List Verdict → Type 0
AreVerdicts rules verdicts = AllZip (IsVerdictFor rules) rules.schema.tables verdicts
