-- Each command has a reply over each history.
use Rattle.std.proofs.Common.{◌≡◌, ℕ, List, [], ◌∷◌, ◌++◌, Result, Ok, Err, inl, inr, refl, ap, codes}
use Rattle.std.specs.Prelude.{◌⊎◌}
use Rattle.text_lists.specs.declared.limits.Limits.{Limits}
use Rattle.rule_model.specs.Books.{Book}
use Rattle.edit_log.specs.declared.edit.Edit.{Edit}
use Rattle.bench_core.specs.History.{History, history_edited}
use Rattle.bench_core.specs.declared.edit.Applied.{Applied}
use Rattle.bench_core.specs.declared.edit.EditFault.{EditFault}
use Rattle.edit_replies.specs.EditReplies.{done_text, fault_text, refused_text, IsEditReply}
use Rattle.session.specs.Replies.{count_text, explain_text, export_text, list_text, IsRedoReply, IsReply, IsUndoReply}
use Rattle.script_lines.specs.declared.command.Command.{Command}
use Rattle.script_lines.specs.declared.command.Command.TheVariants as command
use Rattle.edit_replies.proofs.FixReplies.{fix_reply}

edit_reply : (before : History) (edit : Edit) (made : Result (History × Applied) EditFault) → (reply : List ℕ) × (next : History) × IsEditReply before edit made reply next
edit_reply before edit (Ok done) = (done_text edit done.1, done.0, (refl, refl))
edit_reply before edit (Err fault) = (refused_text (fault_text fault), before, (refl, refl))

-- a list is empty, or has a last item
last_or_none : {X : Type 0} (xs : List X) → (xs ≡ []) ⊎ ((first : List X) × (last : X) × (xs ≡ first ++ last ∷ []))
last_or_none [] = inl refl
last_or_none (x ∷ xs) = elim (last_or_none xs) [
  | inl none ↦ inr ([], x, ap (λ rest. x ∷ rest) none)
  | inr some ↦ inr (x ∷ some.0, some.1, ap (λ rest. x ∷ rest) some.2)
]

-- a list is empty, or has a first item
first_or_none : {X : Type 0} (xs : List X) → (xs ≡ []) ⊎ ((first : X) × (others : List X) × (xs ≡ first ∷ others))
first_or_none [] = inl refl
first_or_none (x ∷ xs) = inr (x, xs, refl)

undo_reply : (before : History) → (reply : List ℕ) × (next : History) × IsUndoReply before reply next
undo_reply before = elim (last_or_none before.past) [
  | inl none ↦ (refused_text (codes "NothingToUndo"), before, inr (none, (refl, refl)))
  | inr some ↦ (codes "undone\n", record { past = some.0; present = some.1; undone = before.present ∷ before.undone }, inl (refl, record { past = some.2; undone = refl }))
]

redo_reply : (before : History) → (reply : List ℕ) × (next : History) × IsRedoReply before reply next
redo_reply before = elim (first_or_none before.undone) [
  | inl none ↦ (refused_text (codes "NothingToRedo"), before, inr (none, (refl, refl)))
  | inr some ↦ (codes "redone\n", record { past = before.past ++ before.present ∷ []; present = some.0; undone = some.1 }, inl (refl, record { past = refl; undone = some.2 }))
]

pub reply_of : (rules : Book) (limits : Limits) (before : History) (c : Command) → (reply : List ℕ) × (next : History) × IsReply rules limits before c reply next
reply_of rules limits before (command.Edit edit) = edit_reply before edit (history_edited rules limits before edit)
reply_of rules limits before (command.Fix table row vouched) = fix_reply rules before table row vouched
reply_of rules limits before command.Undo = undo_reply before
reply_of rules limits before command.Redo = redo_reply before
reply_of rules limits before command.List = (list_text rules before.present, before, (refl, refl))
reply_of rules limits before command.Count = (count_text rules before.present, before, (refl, refl))
reply_of rules limits before (command.Explain table row) = (explain_text rules before.present table row, before, (refl, refl))
reply_of rules limits before (command.Export table) = (export_text rules before.present table, before, (refl, refl))
