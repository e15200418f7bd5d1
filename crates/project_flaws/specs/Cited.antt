-- The tableau rows that a tree of cases rests on: those of which a leaf cites a clause.
use Rattle.std.specs.Prelude.{◌≡◌, ◌≤◌, ℕ, ◌+◌, Bool, false, ◌==◌, ◌&&◌, List, [], ◌∷◌, map, filter, slice_get, if◌then◌else◌, Option, None, Some}
use Rattle.std.specs.List.{enumerate_from, flat_map, list_any}
use Rattle.std.specs.Str.{bytes_eq}
use Rattle.cfd_semantics.specs.declared.dependency.TableauRow.{TableauRow}
use Rattle.rule_model.specs.declared.decl.Decl.{Decl}
use Rattle.rule_model.specs.declared.decl.Decl.TheVariants as decls
use Rattle.rule_model.specs.declared.dep.Dep.{Dep}
use Rattle.rule_model.specs.Books.{Book, book_deps}
use Rattle.case_tree.specs.CaseTree.{Refutes, leaf_count}
use Rattle.case_tree.specs.declared.tree.Reason.TheVariants.{Clause, NoneOf, Two}
use Rattle.case_tree.specs.declared.tree.Node.{Node}
use Rattle.case_tree.specs.declared.tree.Node.TheVariants.{Leaf, Split, Unclosed}
use Rattle.cfd_consistency.specs.Question.{asks, question}
use Rattle.project_flaws.specs.declared.cited.RowName.{RowName}

-- ---- the tableau rows that the clauses of a question stand for

-- a row by its place, counted from 0; in its name it is counted from 1
abbrev pub row_name : {X : Type 0} → List ℕ → ℕ × X → RowName
row_name rule (place, row) = record { rule = rule; row = place + 1 }

-- a row has a clause where it asks something on the right
abbrev pub asking_row : List ℕ → ℕ × TableauRow (List ℕ) → List RowName
asking_row rule (place, row) = if asks row.a then row_name rule (place, row) ∷ [] else []

abbrev pub asking_rows : ℕ → Dep → List RowName
asking_rows table dep = if dep.table == table then flat_map (asking_row dep.name) (enumerate_from 0 dep.rule.rows) else []

-- one for each clause, in their order
abbrev pub clause_rows : ℕ → List Dep → List RowName
clause_rows table deps = flat_map (asking_rows table) deps

-- ---- the tableau rows as they are written, each once

-- those of a dependency of the table of that name
abbrev pub written_in : List ℕ → Decl → List RowName
written_in table (decls.Cfd cfd) = if bytes_eq cfd.table table then map (row_name cfd.name) (enumerate_from 0 cfd.rows) else []
written_in table (decls.Cind cind) = []
written_in table (decls.Edit edit) = []

abbrev pub written_rows : List ℕ → List Decl → List RowName
written_rows table written = flat_map (written_in table) written

-- ---- those that a tree cites

abbrev pub clause_row : List RowName → Node → Option RowName
clause_row clauses (Leaf (Clause at)) = slice_get clauses at
clause_row clauses (Leaf (Two v w)) = None
clause_row clauses (Leaf (NoneOf at)) = None
clause_row clauses (Split v) = None
clause_row clauses Unclosed = None

abbrev pub is_row : RowName → Option RowName → Bool
is_row row None = false
is_row row (Some other) = (other.row == row.row) && bytes_eq other.rule row.rule

-- a leaf cites a clause of the row
abbrev pub is_cited : List RowName → List Node → RowName → Bool
is_cited clauses nodes row = list_any (λ node. is_row row (clause_row clauses node)) nodes

-- those of the rules of a table by its name and its number, in their order
abbrev pub cited_rows : Book → List ℕ → ℕ → List Node → List RowName
cited_rows rules name table nodes = filter (is_cited (clause_rows table (book_deps rules)) nodes) (written_rows name rules.decls)

-- they are those that some tree cites which refutes that a row can satisfy the dependencies of the table, and which has no
-- more than 100,000 leaves
abbrev pub AreCited : Book → List ℕ → ℕ → List RowName → Type 0
AreCited rules name table rows = (nodes : List Node) × Refutes (question rules table) nodes × (leaf_count nodes ≤ 100000) × (rows ≡ cited_rows rules name table nodes)
