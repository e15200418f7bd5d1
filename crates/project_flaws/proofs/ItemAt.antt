-- An item at a place, as a call that looks it up tells it.
use Rattle.std.proofs.Common.{◌≡◌, ℕ, List, Option, Some, None, Bor, ltb, length, get_or, sym, ap, ◌∙◌}
use Rattle.std.specs.Prelude.{IfSome, is_some, slice_get}
use Rattle.std.specs.Option.{option_copied}
use Rattle.std.proofs.lemmas.Bool.{ltb-false, ltb-true}
use Rattle.std.proofs.lemmas.Option.{slice_get-get_or, slice_get_past}

pub item_at : {X : Type 0} (xs : List X) (place : ℕ) (found : Option (Bor X)) → is_some found ≡ ltb place (length xs) → IfSome found (λ x. x.now ≡ get_or xs place x.now) → option_copied found ≡ slice_get xs place
item_at xs place None inside is = sym (slice_get_past xs place (ltb-false place (length xs) (sym inside)))
item_at xs place (Some x) inside is = sym (slice_get-get_or xs place x.now (ltb-true place (length xs) (sym inside)) ∙ ap Some (sym is))
