use Rattle.std.proofs.Common.{◌≡◌, ℕ, ◌<◌, List, [], length, get_or, refl, sym, ap, ◌∙◌, subst, arith}
use Rattle.std.specs.List.{All}
use Rattle.std.specs.declared.vec.Vec.{Vec}
use Rattle.std.specs.declared.alloc.Global.{Global}
use Rattle.std.proofs.lemmas.Bool.{false≢true, iff_false}
use Rattle.std.proofs.lemmas.List.{get_or-map, length-map, take_all}
use Rattle.std.proofs.lemmas.List.Elements.{All-get_or, All-more}
use Rattle.case_tree.specs.declared.clauses.Literal.{Literal}
use Rattle.case_tree.specs.CaseTree.{literals_of}
use Rattle.case_tree.proofs.clauses.are_below.Goals as goal
use Rattle.case_tree.proofs.clauses.are_below.Goals.{After-is_below}

-- the literals' variables are below n
abbrev Below : ℕ → List Literal → Type 0
Below n = All (λ (literal : Literal). literal.var < n)

-- the clause in hand is the clause at its place
same : (c : After-is_below) → get_or (literals_of c.args.clauses.now) c.loop-clause.clause-index [] ≡ c.deref.result.now
same c =
    get_or-map (λ (clause : Vec Literal Global). clause.items) c.args.clauses.now c.loop-clause.clause-index c.clause-item.result [] c.loop-clause-test.true
    ∙ ap (λ (clause : Vec Literal Global). clause.items) (sym c.clause-item.is) ∙ sym c.deref.ensures.value

-- which is there
in_range : (c : After-is_below) → c.loop-clause.clause-index < length (literals_of c.args.clauses.now)
in_range c =
    omega (arith, c.loop-clause-test.true, length-map c.args.clauses.now (λ (clause : Vec Literal Global). clause.items))

pub returns-then-not-is_below : goal.returns-then-not-is_below
returns-then-not-is_below c =
    let at = (goal.at.returns-then-not-is_below c).After-is_below in (
      λ yes. absurd (false≢true yes),
      λ all.
          let here = All-get_or (Below c.args.vars) (literals_of c.args.clauses.now) c.loop-clause.clause-index [] (in_range at) all in
          absurd (iff_false c.is_below.ensures c.if-not-is_below.true (subst (Below c.args.vars) (same at) here)),
    )

pub loop-clause-preserved : goal.loop-clause-preserved
loop-clause-preserved c =
    let at = (goal.at.loop-clause-preserved c).After-is_below in
    All-more (Below c.args.vars) (literals_of c.args.clauses.now) c.loop-clause.clause-index [] (in_range at) c.loop-clause.invariant
    (subst (Below c.args.vars) (sym (same at)) (c.is_below.ensures.0 c.if-not-is_below.false))

pub returns : goal.returns
returns c =
    let clauses = literals_of c.args.clauses.now in (
      λ _. subst (All (Below c.args.vars)) (take_all c.loop-clause.clause-index clauses (omega (arith, c.loop-clause-test.false, length-map c.args.clauses.now (λ (clause : Vec Literal Global). clause.items)))) c.loop-clause.invariant,
      λ _. refl,
    )
