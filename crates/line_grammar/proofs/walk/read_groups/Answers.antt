use Rattle.std.proofs.Common.{◌≡◌, refl, sym, subst, ◌∙◌, ap, false, ◌++◌, Option}
use Rattle.std.specs.Prelude.{IfSome}
use Rattle.std.specs.Option.{option_to_list}
use Rattle.std.proofs.lemmas.Result.{err_from_is_err_and}
use Rattle.line_grammar.specs.FileLines.{begins_with}
use Rattle.line_grammar.specs.Groups.{cut, in_turn}
use Rattle.line_grammar.specs.declared.line.Line.{Line}
use Rattle.line_grammar.proofs.FaultLemmas.{told_on}
use Rattle.line_grammar.proofs.WalkLemmas.{no_strays, one_group, in_turn-step, in_turn-fault, read_groups-stray, read_groups-begun}
use Rattle.line_grammar.proofs.walk.read_groups.Goals as goal

pub returns-in_err-no_lines-clause-exact : goal.returns-in_err-no_lines-clause-exact
returns-in_err-no_lines-clause-exact g c =
    let p = err_from_is_err_and c.from_residual-in_err-no_lines.result c.from_residual-in_err-no_lines.ensures.1 in
    let none = no_strays (begins_with c.args.member.now) c.in_ok-stray.next c.members.new.lines c.in_ok-stray.ensures.head c.in_ok-stray.ensures.last in
    rw (p.1, p.2)
    (told_on _ _ _ (λ fault e. read_groups-stray g.G.Cause.LineCause.causes c.args.member.now (g.G.Gather.with_item (g.G.Gather.made c.args.gathered.now)) (g.G.Gather.gathered c.args.gathered.now) c.args.bytes.now c.in_ok-stray.stray (option_to_list c.in_ok-stray.next ++ c.members.new.lines)
    fault (sym c.new-lines.ensures ∙ c.in_ok-stray.ensures.lines, c.in_ok-stray.ensures.members, none) (rw c.as_slice.ensures at e)) c.in_err-no_lines.ensures.exact)

pub loop-next-init : goal.loop-next-init
loop-next-init g c =
    let none = no_strays (begins_with c.args.member.now) c.in_ok-stray.next c.members.new.lines c.in_ok-stray.ensures.head c.in_ok-stray.ensures.last in (
      refl,
      c.requires.fit,
      sym (read_groups-begun g.G.Cause.LineCause.causes c.args.member.now (g.G.Gather.with_item (g.G.Gather.made c.args.gathered.now)) (g.G.Gather.gathered c.args.gathered.now) c.args.bytes.now c.in_ok-stray.stray (option_to_list c.in_ok-stray.next ++ c.members.new.lines)
          (sym c.new-lines.ensures ∙ c.in_ok-stray.ensures.lines, c.in_ok-stray.ensures.members, none) (sym c.as_slice.ensures ∙ c.in_ok-no_lines.ensures.none)),
      c.in_ok-stray.ensures.head,
      c.in_ok-stray.ensures.last,
    )

pub returns-in_err-add-clause-exact : goal.returns-in_err-add-clause-exact
returns-in_err-add-clause-exact g c =
    let p = err_from_is_err_and c.from_residual-in_err-add.result c.from_residual-in_err-add.ensures.1 in
    let add = g.G.Gather.with_item (g.G.Gather.made c.loop-next.gathered) in
    let state = g.G.Gather.gathered c.loop-next.gathered in
    let first = subst (λ (n : Option Line). IfSome n (λ line. begins_with c.args.member.now line ≡ false)) c.in-Some.is c.loop-next.invariant.3 in
    let group = one_group c.args.member.now add state c.in-Some.head c.in_ok-members.members c.in_ok-members.behind c.members-in-Some.new.lines c.loop-next.lines c.in_ok-members.ensures.lines first c.in_ok-members.ensures.members
    c.in_ok-members.ensures.head c.in_ok-members.ensures.last in
    let rest = (cut (begins_with c.args.member.now) (option_to_list c.in_ok-members.behind ++ c.members-in-Some.new.lines)).1 in
    let left = ap (λ (n : Option Line). in_turn add state (cut (begins_with c.args.member.now) (option_to_list n ++ c.loop-next.lines)).1) c.in-Some.is in
    rw (p.1, p.2) (told_on _ _ _ (λ fault e. sym c.loop-next.invariant.2 ∙ left ∙ group ∙ in_turn-fault add state _ rest fault e) c.in_err-add.ensures.exact)

pub loop-next-preserved : goal.loop-next-preserved
loop-next-preserved g c =
    let add = g.G.Gather.with_item (g.G.Gather.made c.loop-next.gathered) in
    let state = g.G.Gather.gathered c.loop-next.gathered in
    let first = subst (λ (n : Option Line). IfSome n (λ line. begins_with c.args.member.now line ≡ false)) c.in-Some.is c.loop-next.invariant.3 in
    let group = one_group c.args.member.now add state c.in-Some.head c.in_ok-members.members c.in_ok-members.behind c.members-in-Some.new.lines c.loop-next.lines c.in_ok-members.ensures.lines first c.in_ok-members.ensures.members
    c.in_ok-members.ensures.head c.in_ok-members.ensures.last in
    let rest = (cut (begins_with c.args.member.now) (option_to_list c.in_ok-members.behind ++ c.members-in-Some.new.lines)).1 in
    let left = ap (λ (n : Option Line). in_turn add state (cut (begins_with c.args.member.now) (option_to_list n ++ c.loop-next.lines)).1) c.in-Some.is in (
      c.in_ok-add.ensures.made ∙ c.loop-next.invariant.0,
      c.in_ok-add.ensures.fit,
      ap (λ (made : g.G.Gather.Made). in_turn (g.G.Gather.with_item made) (g.G.Gather.gathered c.add.new.self) rest) c.in_ok-add.ensures.made
          ∙ sym (in_turn-step add state (g.G.Gather.gathered c.add.new.self) _ rest c.in_ok-add.ensures.exact) ∙ sym group ∙ sym left ∙ c.loop-next.invariant.2,
      c.in_ok-members.ensures.head,
      c.in_ok-members.ensures.last,
    )
