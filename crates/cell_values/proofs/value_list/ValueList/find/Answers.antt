use Rattle.std.proofs.Common.{◌∙◌, subst, List, ℕ}
use Rattle.std.specs.HashMap.{get_by_text}
use Rattle.cell_values.specs.Places.{ArePlaces}
use Rattle.cell_values.proofs.PlaceFacts.{told-found, told-within, told-absent}
use Rattle.cell_values.proofs.value_list.ValueList.find.Goals as goal

-- the map tells the places of the values
told : (c : goal.After-copied) → ArePlaces c.args.self.now (get_by_text c.self.inside.places)
told c = subst (λ (texts : List (List ℕ)). ArePlaces texts (get_by_text c.self.inside.places)) c.self.view_is c.self.invariant

pub returns-clause-found : goal.returns-clause-found
returns-clause-found c = told-found _ _ _ (told c) _ (c.copied.ensures ∙ c.get.ensures.value)

pub returns-clause-within : goal.returns-clause-within
returns-clause-within c = told-within _ c.args.text.now _ (told c) _ (c.copied.ensures ∙ c.get.ensures.value)

pub returns-clause-absent : goal.returns-clause-absent
returns-clause-absent c = told-absent _ _ _ (told c) _ (c.copied.ensures ∙ c.get.ensures.value)
