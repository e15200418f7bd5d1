-- The ids of a tuple at attributes, one after the other.
use Rattle.std.proofs.Common.{◌≡◌, ℕ, ◌+◌, ◌<◌, ◌≤◌, List, [], ◌∷◌, ◌++◌, length, get_or, drop, Option, Some, None, refl, sym, ap, ◌∙◌}
use Rattle.std.specs.Prelude.{option_map, slice_get}
use Rattle.std.proofs.lemmas.List.{append-nil, append_assoc, drop_more, drop_all}
use Rattle.cfd_semantics.specs.Tuple.{with_both, values_at}

-- the values of a tuple at attributes, after those that are collected
abbrev pub collects : List ℕ → List ℕ → List ℕ → Option (List ℕ)
collects done ids attributes = option_map (λ more. done ++ more) (values_at ids attributes)

pub collects-none : (ids attributes : List ℕ) → collects [] ids attributes ≡ values_at ids attributes
collects-none ids attributes = by (values_at ids attributes)
  where
    by : (o : Option (List ℕ)) → option_map (λ more. [] ++ more) o ≡ o
    by None = refl
    by (Some more) = refl

one-more : (done : List ℕ) (id : ℕ) (more : Option (List ℕ)) → option_map (λ more. (done ++ id ∷ []) ++ more) more ≡ option_map (λ more. done ++ more) (with_both (λ value values. value ∷ values) (Some id) more)
one-more done id None = refl
one-more done id (Some more) = ap Some (append_assoc done (id ∷ []) more)

pub collects-more : (done ids attributes : List ℕ) (i attribute id : ℕ) → i < length attributes → attribute ≡ get_or attributes i 0 → slice_get ids attribute ≡ Some id
    → collects (done ++ id ∷ []) ids (drop (i + 1) attributes) ≡ collects done ids (drop i attributes)
collects-more done ids attributes i attribute id within is at =
    one-more done id (values_at ids (drop (i + 1) attributes))
    ∙ ap (λ o. option_map (λ more. done ++ more) (with_both (λ value values. value ∷ values) o (values_at ids (drop (i + 1) attributes)))) (sym at ∙ ap (slice_get ids) is)
    ∙ sym (ap (collects done ids) (drop_more attributes i 0 within))

pub collects-absent : (done ids attributes : List ℕ) (i attribute : ℕ) → i < length attributes → attribute ≡ get_or attributes i 0 → slice_get ids attribute ≡ None
    → collects done ids (drop i attributes) ≡ None
collects-absent done ids attributes i attribute within is at =
    ap (collects done ids) (drop_more attributes i 0 within)
    ∙ ap (λ o. option_map (λ more. done ++ more) (with_both (λ value values. value ∷ values) o (values_at ids (drop (i + 1) attributes)))) (ap (slice_get ids) (sym is) ∙ at)

pub collects-all : (done ids attributes : List ℕ) (i : ℕ) → length attributes ≤ i → collects done ids (drop i attributes) ≡ Some done
collects-all done ids attributes i past = ap (collects done ids) (drop_all i attributes past) ∙ ap Some (append-nil done)
