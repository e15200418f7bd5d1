-- The ids of two tuples at attributes.
use Rattle.std.proofs.Common.{◌≡◌, ◌≢◌, ℕ, zero, suc, ◌<◌, false, List, [], ◌∷◌, length, get_or, arith}
use Rattle.std.specs.Str.{bytes_eq}
use Rattle.std.proofs.lemmas.Bool.Decides.{nat_tests}
use Rattle.row_store.specs.Tuple.{ids_at}

-- two tuples that differ at one of the attributes have different ids there
pub differ_at : (one other attributes : List ℕ) (i : ℕ) → i < length attributes → (get_or one (get_or attributes i 0) 0 ≢ get_or other (get_or attributes i 0) 0) → bytes_eq (ids_at one attributes) (ids_at other attributes) ≡ false
differ_at one other [] i within apart = absurd (omega arith)
differ_at one other (c ∷ cs) zero within apart = grind (arith, nat_tests)
differ_at one other (c ∷ cs) (suc i) within apart = let rest = differ_at one other cs i (omega arith) apart in grind (arith, nat_tests, rest)
