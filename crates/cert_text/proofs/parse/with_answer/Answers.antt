use Rattle.std.proofs.Common.{ℕ, Option, List, sym, subst}
use Rattle.std.specs.Prelude.{IfSome, All}
use Rattle.std.proofs.lemmas.List.Elements.{All-nil}
use Rattle.cert_text.specs.declared.cert.NodeLine.{NodeLine}
use Rattle.cert_text.specs.Written.{IsBudget, IsNodeOf, IsAnswerLine, Misses}
use Rattle.cert_text.specs.CertFiles.{kind_of}
use Rattle.cert_text.proofs.Shapes.{misses_start}
use Rattle.cert_text.proofs.parse.with_answer.Goals as goal
use Rattle.cert_text.proofs.parse.with_answer.Goals.{in-Closed, in-Spent}

pub returns-clause-fit : goal.returns-clause-fit
returns-clause-fit c =
    let none = c.new-nodes.ensures in (
      c.requires.question,
      record {
        budget = elim c.match-answer.branch [
          | in-Closed w ↦ subst (λ (b : Option ℕ). IfSome b IsBudget) (sym w.budget-is) tt
          | in-Spent w ↦ subst (λ (b : Option ℕ). IfSome b IsBudget) (sym w.budget-is) (subst IsAnswerLine w.in-Spent.is c.requires.answer)
        ];
        nodes = subst (λ (ns : List NodeLine). All (λ (n : NodeLine). IsNodeOf (kind_of c.args.asked.question) n.node) ns) (sym none) (All-nil (λ (n : NodeLine). IsNodeOf (kind_of c.args.asked.question) n.node));
        trees = subst (Misses 1) (sym none) misses_start;
      },
    )
