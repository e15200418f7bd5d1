-- What a certificate shows about rules.
use Rattle.std.specs.Prelude.{ℕ, Option, Some, None, IsSomeAnd}
use Rattle.schema_core.specs.Schemas.{table_place}
use Rattle.rule_model.specs.Books.{Book, book_deps}
use Rattle.rule_model.specs.Judged.{judged_dep}
use Rattle.cfd_consistency.specs.Consistent.{IsConsistent}
use Rattle.cfd_implication.specs.Implied.{IsImplied}
use Rattle.cert_text.specs.declared.cert.Question.{Question}
use Rattle.cert_text.specs.declared.cert.Question.TheVariants.{Consistent, Implies}
use Rattle.cert_text.specs.declared.cert.Answer.{Answer}
use Rattle.cert_text.specs.declared.cert.Answer.TheVariants.{Witness, Counter, Tree}
use Rattle.cert_text.specs.declared.cert.CertParts.{CertParts}
use Rattle.cert_check.specs.Shown.{accepted}

-- an answer says yes or no; where the budget of a tree was spent it says neither
abbrev pub TreeSays : Option ℕ → Type 0 → Type 0
TreeSays None fact = fact
TreeSays (Some budget) fact = Unit {0}

-- the answer to whether a fact holds: a tuple shows it, and a closed tree that it doesn't hold
abbrev pub SaysConsistent : Answer → Type 0 → Type 0
SaysConsistent (Witness one) fact = fact
SaysConsistent (Tree lines) fact = TreeSays lines.budget (¬ fact)
SaysConsistent (Counter one other) fact = ⊥

-- two tuples show that it doesn't hold, and a closed tree that it does
abbrev pub SaysImplied : Answer → Type 0 → Type 0
SaysImplied (Counter one other) fact = ¬ fact
SaysImplied (Tree lines) fact = TreeSays lines.budget fact
SaysImplied (Witness one) fact = ⊥

-- A tuple of the table satisfies its dependencies, or none does; or each finite list of tuples that satisfies them satisfies
-- the asked one, or some list doesn't.
abbrev pub IsRightAnswer : Book → Question → Answer → Type 0
IsRightAnswer rules (Consistent table) answer = IsSomeAnd (table_place rules.schema table) (λ number. SaysConsistent answer (IsConsistent rules number))
IsRightAnswer rules (Implies decl) answer =
    IsSomeAnd (accepted (judged_dep rules.schema decl)) (λ dep. SaysImplied answer (IsImplied rules.schema (book_deps rules) dep))

abbrev pub IsRight : Book → CertParts → Type 0
IsRight rules cert = IsRightAnswer rules cert.asked.question cert.answer
