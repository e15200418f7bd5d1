-- Moves and runs don't depend on what the values are: a map that keeps apart the values that tuples and master rows have, and
-- keeps which texts they are, changes no move, no run and no validated attribute. So runs over ids are runs over texts.
use Rattle.std.proofs.Common.{◌≡◌, ℕ, Bool, List, [], ◌∷◌, get_or, map, Option, Some, None, refl, sym, ap, ◌∙◌, subst, ◌↔◌}
use Rattle.std.specs.Prelude.{IsSomeAnd, IfSome, slice_get, slice_set, option_map}
use Rattle.std.specs.Option.{option_and_then, option_map_or}
use Rattle.std.specs.List.{All}
use Rattle.std.proofs.lemmas.List.{map-set}
use Rattle.std.proofs.lemmas.List.Elements.{All-head, All-tail, All-set, All-map}
use Rattle.std.proofs.lemmas.Option.{slice_get-map, same_Some}
use Rattle.rule_model.specs.declared.edit_rule.EditCell.{EditCell}
use Rattle.rule_model.specs.declared.edit_rule.EditCell.TheVariants.{Any, Is, Not}
use Rattle.rule_model.specs.declared.edit_rule.EditRule.{EditRule}
use Rattle.rule_runs.specs.declared.moves.Move.{Move}
use Rattle.rule_runs.specs.Moves.{Stage, Basis, values_in, Fits, MatchesPattern, IsReady, correction, Corrects, Applies, corrected, after, IsRunOf, IsMaximalRun, end_after}
use Rattle.rule_runs.proofs.Lists.{IfSome-at}

module _
    {V W : Type 0} (f : V → W) (P : V → Type 0) (apart : (a b : V) → P a → P b → f a ≡ f b → a ≡ b)
    (basis : Basis V) (is_text : W → List ℕ → Bool) (same_text : (a : V) (text : List ℕ) → P a → is_text (f a) text ≡ basis.is_text a text)
    (masters : (table row : ℕ) → IfSome (basis.masters table row) (All P))
  where
    -- the basis and a stage with other values
    abbrev pub renamed : Basis W
    renamed = record { table = basis.table; rules = basis.rules; masters = λ table row. option_map (map f) (basis.masters table row); is_text = is_text }

    abbrev pub at_stage : Stage V → Stage W
    at_stage stage = record { tuple = map f stage.tuple; validated = stage.validated }

    -- values that may be missing are kept apart too
    pub apart-options : (o p : Option V) → IfSome o P → IfSome p P → option_map f o ≡ option_map f p → o ≡ p
    apart-options None None one other same = refl
    apart-options None (Some b) one other same = absurd (let e = same in cc)
    apart-options (Some a) None one other same = absurd (let e = same in cc)
    apart-options (Some a) (Some b) one other same = ap Some (apart a b one other (same_Some (f a) (f b) same))

    apart-lists : (xs ys : List (Option V)) → All (λ o. IfSome o P) xs → All (λ o. IfSome o P) ys → map (option_map f) xs ≡ map (option_map f) ys → xs ≡ ys
    apart-lists [] [] one other same = refl
    apart-lists [] (y ∷ ys) one other same = absurd (let e = same in cc)
    apart-lists (x ∷ xs) [] one other same = absurd (let e = same in cc)
    apart-lists (x ∷ xs) (y ∷ ys) one other same =
        let head : option_map f x ≡ option_map f y = let e = same in cc in
        let tail : map (option_map f) xs ≡ map (option_map f) ys = let e = same in cc in
        let here = apart-options x y (All-head (λ o. IfSome o P) x xs one) (All-head (λ o. IfSome o P) y ys other) head in
        let rest = apart-lists xs ys (All-tail (λ o. IfSome o P) x xs one) (All-tail (λ o. IfSome o P) y ys other) tail in
        cc

    values-renamed : (tuple : List V) (columns : List ℕ) → values_in (map f tuple) columns ≡ map (option_map f) (values_in tuple columns)
    values-renamed tuple [] = refl
    values-renamed tuple (column ∷ columns) =
        let here = slice_get-map f tuple column in
        let rest = values-renamed tuple columns in
        cc

    values-in : (tuple : List V) (columns : List ℕ) → All P tuple → All (λ o. IfSome o P) (values_in tuple columns)
    values-in tuple columns all = All-map (λ o. IfSome o P) (slice_get tuple) columns (λ k d within. IfSome-at P tuple (get_or columns k d) all)

    -- equal values stay equal, and different ones different
    same-values : (tuple master : List V) (x xm : List ℕ) → All P tuple → All P master → (values_in (map f tuple) x ≡ values_in (map f master) xm) ↔ (values_in tuple x ≡ values_in master xm)
    same-values tuple master x xm in_tuple in_master = (
      λ same. apart-lists (values_in tuple x) (values_in master xm) (values-in tuple x in_tuple) (values-in master xm in_master) (sym (values-renamed tuple x) ∙ same ∙ values-renamed master xm),
      λ same. values-renamed tuple x ∙ ap (map (option_map f)) same ∙ sym (values-renamed master xm),
    )

    -- cells ask the same
    fits-renamed : (cell : EditCell) (o : Option V) → IfSome o P → IsSomeAnd (option_map f o) (Fits is_text cell) ↔ IsSomeAnd o (Fits basis.is_text cell)
    fits-renamed cell None holds = (λ h. h, λ h. h)
    fits-renamed Any (Some a) holds = (λ h. tt, λ h. tt)
    fits-renamed (Is text) (Some a) holds = (λ h. sym (same_text a text holds) ∙ h, λ h. same_text a text holds ∙ h)
    fits-renamed (Not text) (Some a) holds = (λ h. sym (same_text a text holds) ∙ h, λ h. same_text a text holds ∙ h)

    pattern-renamed : (tuple : List V) (pattern : List (ℕ × EditCell)) → All P tuple → MatchesPattern is_text (map f tuple) pattern ↔ MatchesPattern basis.is_text tuple pattern
    pattern-renamed tuple pattern all = (
      λ h k d within.
          let p = get_or pattern k d in
          (fits-renamed p.1 (slice_get tuple p.0) (IfSome-at P tuple p.0 all)).0 (subst (λ o. IsSomeAnd o (Fits is_text p.1)) (slice_get-map f tuple p.0) (h k d within)),
      λ h k d within.
          let p = get_or pattern k d in
          subst (λ o. IsSomeAnd o (Fits is_text p.1)) (sym (slice_get-map f tuple p.0)) ((fits-renamed p.1 (slice_get tuple p.0) (IfSome-at P tuple p.0 all)).1 (h k d within)),
    )

    ready-renamed : (stage : Stage V) (rule : EditRule) → All P stage.tuple → IsReady renamed (at_stage stage) rule ↔ IsReady basis stage rule
    ready-renamed stage rule all = (
      λ h. record { table = h.table; matched = h.matched; asked = h.asked; target = h.target; pattern = (pattern-renamed stage.tuple rule.when all).0 h.pattern },
      λ h. record { table = h.table; matched = h.matched; asked = h.asked; target = h.target; pattern = (pattern-renamed stage.tuple rule.when all).1 h.pattern },
    )

    -- what a move corrects by
    abbrev renamed_correction : EditRule × List V → EditRule × List W
    renamed_correction c = (c.0, map f c.1)

    abbrev with_rule : EditRule → List V → EditRule × List V
    with_rule rule master = (rule, master)

    abbrev HasKnown : EditRule × List V → Type 0
    HasKnown c = All P c.1

    inner-renamed : (rule : EditRule) (o : Option (List V)) → option_map (λ (master : List W). (rule, master)) (option_map (map f) o) ≡ option_map renamed_correction (option_map (λ (master : List V). (rule, master)) o)
    inner-renamed rule None = refl
    inner-renamed rule (Some master) = refl

    outer-renamed : (row : ℕ) (o : Option EditRule) → option_and_then (λ (rule : EditRule). option_map (λ (master : List W). (rule, master)) (option_map (map f) (basis.masters rule.master row))) o ≡ option_map renamed_correction (option_and_then (λ (rule : EditRule). option_map (λ (master : List V). (rule, master)) (basis.masters rule.master row)) o)
    outer-renamed row None = refl
    outer-renamed row (Some rule) = inner-renamed rule (basis.masters rule.master row)

    correction-renamed : (move : Move) → correction renamed move ≡ option_map renamed_correction (correction basis move)
    correction-renamed move = outer-renamed move.master (slice_get basis.rules move.rule)

    -- its master row has values that are kept apart
    inner-in : (rule : EditRule) (o : Option (List V)) → IfSome o (All P) → IfSome (option_map (with_rule rule) o) HasKnown
    inner-in rule None all = tt
    inner-in rule (Some master) all = all

    outer-in : (row : ℕ) (o : Option EditRule) → IfSome (option_and_then (λ (rule : EditRule). option_map (with_rule rule) (basis.masters rule.master row)) o) HasKnown
    outer-in row None = tt
    outer-in row (Some rule) = inner-in rule (basis.masters rule.master row) (masters rule.master row)

    applies-by : (stage : Stage V) (o : Option (EditRule × List V)) → All P stage.tuple → IfSome o HasKnown → IsSomeAnd (option_map renamed_correction o) (Corrects renamed (at_stage stage)) ↔ IsSomeAnd o (Corrects basis stage)
    applies-by stage None all inside = (λ h. h, λ h. h)
    applies-by stage (Some (rule, master)) all inside =
        let ready = ready-renamed stage rule all in
        let same = same-values stage.tuple master rule.x rule.xm all inside in
        (λ (one, other). (ready.0 one, same.0 other), λ (one, other). (ready.1 one, same.1 other))

    -- the same moves apply
    pub applies-renamed : (stage : Stage V) (move : Move) → All P stage.tuple → Applies renamed (at_stage stage) move ↔ Applies basis stage move
    applies-renamed stage move all =
        let same = applies-by stage (correction basis move) all (outer-in move.master (slice_get basis.rules move.rule)) in (
          λ h. same.0 (subst (λ o. IsSomeAnd o (Corrects renamed (at_stage stage))) (correction-renamed move) h),
          λ h. subst (λ o. IsSomeAnd o (Corrects renamed (at_stage stage))) (sym (correction-renamed move)) (same.1 h),
        )

    -- and lead to the same
    put-renamed : (tuple : List V) (target : ℕ) (o : Option V) → option_map_or (slice_set (map f tuple) target) (option_map f o) (map f tuple) ≡ map f (option_map_or (slice_set tuple target) o tuple)
    put-renamed tuple target None = refl
    put-renamed tuple target (Some v) = sym (map-set f tuple target v)

    after-by : (stage : Stage V) (o : Option (EditRule × List V)) → option_map_or (corrected renamed (at_stage stage)) (option_map renamed_correction o) (at_stage stage) ≡ at_stage (option_map_or (corrected basis stage) o stage)
    after-by stage None = refl
    after-by stage (Some (rule, master)) =
        let tuple = ap (λ o. option_map_or (slice_set (map f stage.tuple) rule.target) o (map f stage.tuple)) (slice_get-map f master rule.source) ∙ put-renamed stage.tuple rule.target (slice_get master rule.source) in
        λ i. record { tuple = tuple i; validated = (corrected basis stage (rule, master)).validated }

    pub after-renamed : (stage : Stage V) (move : Move) → after renamed (at_stage stage) move ≡ at_stage (after basis stage move)
    after-renamed stage move = ap (λ o. option_map_or (corrected renamed (at_stage stage)) o (at_stage stage)) (correction-renamed move) ∙ after-by stage (correction basis move)

    -- a move keeps the values among those that are kept apart
    put-in : (tuple : List V) (target : ℕ) (o : Option V) → All P tuple → IfSome o P → All P (option_map_or (slice_set tuple target) o tuple)
    put-in tuple target None all holds = all
    put-in tuple target (Some v) all holds = All-set P tuple target v holds all

    after-in-by : (stage : Stage V) (o : Option (EditRule × List V)) → All P stage.tuple → IfSome o HasKnown → All P (option_map_or (corrected basis stage) o stage).tuple
    after-in-by stage None all inside = all
    after-in-by stage (Some (rule, master)) all inside = put-in stage.tuple rule.target (slice_get master rule.source) all (IfSome-at P master rule.source inside)

    after-in : (stage : Stage V) (move : Move) → All P stage.tuple → All P (after basis stage move).tuple
    after-in stage move all = after-in-by stage (correction basis move) all (outer-in move.master (slice_get basis.rules move.rule))

    -- the same runs from a stage
    pub end-renamed : (stage : Stage V) (moves : List Move) → end_after renamed (at_stage stage) moves ≡ at_stage (end_after basis stage moves)
    end-renamed stage [] = refl
    end-renamed stage (move ∷ moves) = ap (λ s. end_after renamed s moves) (after-renamed stage move) ∙ end-renamed (after basis stage move) moves

    pub end-in : (stage : Stage V) (moves : List Move) → All P stage.tuple → All P (end_after basis stage moves).tuple
    end-in stage [] all = all
    end-in stage (move ∷ moves) all = end-in (after basis stage move) moves (after-in stage move all)

    pub run-renamed : (stage : Stage V) (moves : List Move) → All P stage.tuple → IsRunOf renamed (at_stage stage) moves ↔ IsRunOf basis stage moves
    run-renamed stage [] all = (λ h. tt, λ h. tt)
    run-renamed stage (move ∷ moves) all =
        let first = applies-renamed stage move all in
        let rest = run-renamed (after basis stage move) moves (after-in stage move all) in (
          λ (one, others). (first.0 one, rest.0 (subst (λ s. IsRunOf renamed s moves) (after-renamed stage move) others)),
          λ (one, others). (first.1 one, subst (λ s. IsRunOf renamed s moves) (sym (after-renamed stage move)) (rest.1 others)),
        )

    -- and the same of them are maximal
    pub maximal-renamed : (stage : Stage V) (moves : List Move) → All P stage.tuple → IsMaximalRun renamed (at_stage stage) moves ↔ IsMaximalRun basis stage moves
    maximal-renamed stage moves all =
        let run = run-renamed stage moves all in
        let end = end-renamed stage moves in
        let inside = end-in stage moves all in (
          λ h. record {
            run = run.0 h.run;
            maximal = λ move applies. h.maximal move (subst (λ s. Applies renamed s move) (sym end) ((applies-renamed (end_after basis stage moves) move inside).1 applies));
          },
          λ h. record {
            run = run.1 h.run;
            maximal = λ move applies. h.maximal move ((applies-renamed (end_after basis stage moves) move inside).0 (subst (λ s. Applies renamed s move) end applies));
          },
        )
