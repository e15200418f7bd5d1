use Rattle.std.proofs.Common.{◌≡◌, ℕ, List, [], ◌∷◌, ◌++◌, length, Some, sym, ap, ◌∙◌, subst}
use Rattle.std.specs.HashMap.{get_by_text}
use Rattle.std.specs.Map.{update}
use Rattle.std.specs.Str.{bytes_eq}
use Rattle.std.specs.String.{string_bytes}
use Rattle.std.proofs.lemmas.Map.Text.{hash_map_updates_text}
use Rattle.value_pool.specs.Pool.{IsNew}
use Rattle.cell_values.specs.Places.{ArePlaces}
use Rattle.cell_values.proofs.PlaceFacts.{ArePlaces-more}
use Rattle.cell_values.proofs.value_list.ValueList.add.Goals as goal

pub invariant_of-self-in-Ok : goal.invariant_of-self-in-Ok
invariant_of-self-in-Ok c =
    let texts = c.self.inside.texts in
    let text = c.args.text.now in
    let old = get_by_text c.self.inside.places in
    let place = get_by_text c.insert.new.self in
    let new : IsNew texts text = subst (λ (ts : List (List ℕ)). IsNew ts text) (sym c.self.view_is) c.in-None.ensures.absent in
    let grown : c.push.new.self ≡ texts ++ text ∷ [] = c.in_ok-push.ensures.ok ∙ ap (λ (t : List ℕ). texts ++ t ∷ []) c.in_ok-new.ensures in
    let put : (other : List ℕ) → place other ≡ update bytes_eq old text (Some (length texts)) other =
    subst (λ (ts : List (List ℕ)). (other : List ℕ) → place other ≡ update bytes_eq old text (Some (length ts)) other) c.as_slice-place.ensures
    (subst (λ (bs : List ℕ). (other : List ℕ) → place other ≡ update bytes_eq old bs (Some (length c.as_slice-place.result.now)) other) c.in_ok-key.ensures.ok
    (λ other. hash_map_updates_text (string_bytes c.in_ok-key.key) c.self.inside.places c.insert.new.self _ c.in-Ok.ensures.updates other)) in
    subst (λ (ts : List (List ℕ)). ArePlaces ts place) (sym grown) (ArePlaces-more texts text new old place c.self.invariant put)
