-- Where nobody vouches for an attribute, no fix is asked for.
use Rattle.std.proofs.Common.{◌≡◌, true, false, List, [], length, refl, sym, subst, ◌∙◌, inl, inr}
use Rattle.std.specs.Prelude.{◌==◌}
use Rattle.std.proofs.lemmas.Bool.Decides.{eqb_tells}
use Rattle.std.proofs.lemmas.List.{nil_from_length}
use Rattle.text_lists.specs.declared.limits.Limits.{Limits}
use Rattle.rule_model.specs.Books.{Book}
use Rattle.bench_core.specs.History.{History}
use Rattle.shelf_io.specs.Transcript.{IsTranscript}
use Rattle.session.specs.Replies.{IsReply}
use Rattle.view_options.specs.declared.options.RowOptions.{RowOptions}
use Rattle.view_forms.specs.RowForm.{AreReplies, fix_of}

is_nil : {X : Type 0} (xs : List X) → (length xs == 0) ≡ true → xs ≡ []
is_nil xs none = elim (eqb_tells (length xs) 0) [
  | inl (is, same) ↦ nil_from_length xs same
  | inr (isnt, apart) ↦ absurd (let no : false ≡ true = sym isnt ∙ none in cc)
]

pub nothing_asked : (rules : Book) (limits : Limits) (last : History) (options : RowOptions) → (length options.vouch == 0) ≡ true → AreReplies rules limits last options []
nothing_asked rules limits last options none =
    (last, subst (λ names. IsTranscript (IsReply rules limits) last (fix_of options.table options.row names) [] last) (sym (is_nil options.vouch none)) (refl, refl))
