-- A dependency by itself, of a declaration that joins no book.
use Rattle.std.specs.Prelude.{Option, Some, None, Result, Ok, Err}
use Rattle.schema_core.specs.declared.schema.Schema.{Schema}
use Rattle.rule_model.specs.declared.decl.CfdDecl.{CfdDecl}
use Rattle.rule_model.specs.declared.decl.Decl.TheVariants.{Cfd}
use Rattle.rule_model.specs.declared.dep.Dep.{Dep}
use Rattle.rule_model.specs.declared.fault.RuleFault.{RuleFault}
use Rattle.text_lists.specs.Firsts.{first_of}
use Rattle.rule_model.specs.Rules.{dep_at}
use Rattle.rule_model.specs.Faults.{schema_tests}

abbrev pub unless_fault : {X : Type 0} → Option RuleFault → X → Result X RuleFault
unless_fault None x = Ok x
unless_fault (Some fault) x = Err fault

-- the dependency for the first attribute of the right list, or the first fault over the schema
unfoldable pub judged_dep : Schema → CfdDecl → Result Dep RuleFault
judged_dep schema cfd = unless_fault (first_of (schema_tests schema (Cfd cfd))) (dep_at schema cfd 0)
