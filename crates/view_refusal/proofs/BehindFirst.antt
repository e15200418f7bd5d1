-- What stands behind the first item that passes a test.
use Rattle.std.proofs.Common.{◌≡◌, ℕ, ◌+◌, ◌-◌, Bool, true, false, cond, ltb, List, [], length, take, drop, Option, Some, None, refl, ap, sym, ◌∙◌, arith}
use Rattle.std.specs.Prelude.{position}
use Rattle.std.specs.List.{after_first, position_or_len}
use Rattle.std.proofs.lemmas.Bool.{ltb-false}
use Rattle.std.proofs.lemmas.List.{take_all, drop_all, length-drop}
use Rattle.std.proofs.lemmas.Option.{none-some, same_Some}

placed : (found : Bool) (at place : ℕ) → cond {A = Option ℕ} found (Some at) None ≡ Some place → at ≡ place
placed true at place e = same_Some at place e
placed false at place e = absurd (none-some place e)

missing : (found : Bool) (at : ℕ) → cond {A = Option ℕ} found (Some at) None ≡ None → found ≡ false
missing true at e = absurd (none-some at (sym e))
missing false at e = refl

pub behind_found : {X : Type 0} (p : X → Bool) (xs : List X) (found : Option ℕ) (place : ℕ) → found ≡ position p xs → found ≡ Some place → take (length xs - (place + 1)) (drop (place + 1) xs) ≡ after_first p xs
behind_found p xs found place is some =
    take_all (length xs - (place + 1)) (drop (place + 1) xs) (omega (arith, length-drop (place + 1) xs))
    ∙ ap (λ n. drop (n + 1) xs) (sym (placed (ltb (position_or_len p xs) (length xs)) (position_or_len p xs) place (sym is ∙ some)))

pub behind_none : {X : Type 0} (p : X → Bool) (xs : List X) (found : Option ℕ) → found ≡ position p xs → found ≡ None → ◌≡◌ {A = List X} [] (after_first p xs)
behind_none p xs found is none =
    sym (drop_all (position_or_len p xs + 1) xs (omega (arith, ltb-false (position_or_len p xs) (length xs) (missing (ltb (position_or_len p xs) (length xs)) (position_or_len p xs) (sym is ∙ none)))))
