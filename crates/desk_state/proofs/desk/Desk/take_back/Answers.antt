use Rattle.std.proofs.Common.{◌≡◌, Some, false, IfOk, ap, arith, sym, subst, ◌∙◌}
use Rattle.rule_model.specs.Books.{Book}
use Rattle.bench_core.specs.Indexed.{edit_probes}
use Rattle.desk_entries.specs.Entries.{entry_at, is_overtaken, last_live}
use Rattle.desk_entries.specs.Kept.{entry_kept}
use Rattle.desk_state.specs.Desk.{Answer, DeskModel, opposite}
use Rattle.desk_state.proofs.TakenBack.{back-probes, taken-back}
use Rattle.desk_state.proofs.desk.Desk.take_back.Goals as goal

pub returns-clause-ok : goal.returns-clause-ok
returns-clause-ok g c =
    let desk = c.args.self.now in
    let editor = c.args.editor.now in
    let number = c.last_live-number.result in
    let entry = entry_kept c.in-Some.kept.now in
    let last : number ≡ last_live desk.entries editor = c.last_live-number.ensures ∙ ap (λ (d : DeskModel). last_live d.entries editor) c.self.view_is in
    let there : entry_at desk.entries number ≡ Some entry = sym (c.in-Some.ensures ∙ ap (λ (d : DeskModel). entry_at d.entries number) c.self.view_is) in
    let free : is_overtaken desk.entries number entry ≡ false = sym (c.is_overtaken.ensures ∙ ap (λ (d : DeskModel). is_overtaken d.entries number entry) c.self.view_is) ∙ c.if-is_overtaken.false in
    let is : c.in_ok-edit.edit ≡ opposite desk.rules.schema entry = c.in_ok-edit.ensures ∙ ap (λ (r : Book). opposite r.schema entry) (c.rules.ensures.value ∙ ap (λ (d : DeskModel). d.rules) c.self.view_is) in
    let answered = taken-back desk editor number entry c.in_ok-edit.edit last there is free in
    subst (λ (made : Answer). IfOk c.edit.result (λ reply. made ≡ (reply, c.edit.new.self))) (sym answered) c.edit.ensures.ok

pub returns-clause-probes : goal.returns-clause-probes
returns-clause-probes g c =
    let desk = c.args.self.now in
    let editor = c.args.editor.now in
    let number = c.last_live-number.result in
    let entry = entry_kept c.in-Some.kept.now in
    let last : number ≡ last_live desk.entries editor = c.last_live-number.ensures ∙ ap (λ (d : DeskModel). last_live d.entries editor) c.self.view_is in
    let there : entry_at desk.entries number ≡ Some entry = sym (c.in-Some.ensures ∙ ap (λ (d : DeskModel). entry_at d.entries number) c.self.view_is) in
    let is : c.in_ok-edit.edit ≡ opposite desk.rules.schema entry = c.in_ok-edit.ensures ∙ ap (λ (r : Book). opposite r.schema entry) (c.rules.ensures.value ∙ ap (λ (d : DeskModel). d.rules) c.self.view_is) in
    omega (arith, c.edit.ensures.probes, back-probes desk editor number entry c.in_ok-edit.edit last there is, ap (λ (d : DeskModel). edit_probes d.rules c.in_ok-edit.edit) c.self.view_is)
