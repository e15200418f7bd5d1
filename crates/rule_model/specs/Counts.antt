-- How many rules of each kind and how many tableau rows declarations stand for, and the limits on them.
use Rattle.std.specs.Prelude.{◌+◌, ◌≤◌, List, sum_by}
use Rattle.text_lists.specs.declared.limits.Limits.{Limits}
use Rattle.rule_model.specs.declared.decl.Decl.{Decl}
use Rattle.rule_model.specs.declared.counts.Counts.{Counts}
use Rattle.rule_model.specs.Declarations.{dep_count, cind_count, edit_count, row_count}

-- the counts of declarations
abbrev pub counts_of : List Decl → Counts
counts_of decls = record {
  deps = sum_by dep_count decls;
  cinds = sum_by cind_count decls;
  edits = sum_by edit_count decls;
  tableau_rows = sum_by row_count decls;
}

-- the counts with one more declaration
abbrev pub counts_with : Counts → Decl → Counts
counts_with counts decl = record {
  deps = counts.deps + dep_count decl;
  cinds = counts.cinds + cind_count decl;
  edits = counts.edits + edit_count decl;
  tableau_rows = counts.tableau_rows + row_count decl;
}

-- no count is above its limit
pub record AreWithin (limits : Limits) (counts : Counts) : Type 0 where
  pub deps : counts.deps ≤ limits.deps
  pub cinds : counts.cinds ≤ limits.cinds
  pub edits : counts.edits ≤ limits.edits
  pub tableau_rows : counts.tableau_rows ≤ limits.tableau_rows
