-- A piece behind another.
use Rattle.std.proofs.Common.{◌≡◌, ℕ, List, ◌++◌, Result, Ok, Err, ap, ◌∙◌, append_assoc}
use Rattle.std.specs.Prelude.{OnOk}

pub second : {X E : Type 0} (r : Result X E) (out one last a b : List ℕ) → one ≡ out ++ a → OnOk r (last ≡ one ++ b) → OnOk r (last ≡ out ++ (a ++ b))
second (Ok x) out one last a b first is = is ∙ ap (λ t. t ++ b) first ∙ append_assoc out a b
second (Err e) out one last a b first is = tt
