-- The ids of two tuples at attributes.
use Rattle.std.proofs.Common.{◌≡◌, ◌≢◌, ℕ, zero, suc, ◌<◌, false, List, [], ◌∷◌, length, get_or, arith}
use Rattle.std.specs.Str.{bytes_eq}
use Rattle.std.proofs.lemmas.Bool.Decides.{nat_tests}
use Rattle.row_store.specs.Tuple.{ids_at}

pub differ_from : (ids tuple columns : List ℕ) (i : ℕ) → i < length columns → i < length ids → (get_or tuple (get_or columns i 0) 0 ≢ get_or ids i 0) → bytes_eq ids (ids_at tuple columns) ≡ false
differ_from ids tuple [] i within there apart = absurd (omega arith)
differ_from [] tuple (c ∷ cs) i within there apart = absurd (omega arith)
differ_from (n ∷ ns) tuple (c ∷ cs) zero within there apart = grind (arith, nat_tests)
differ_from (n ∷ ns) tuple (c ∷ cs) (suc i) within there apart = let rest = differ_from ns tuple cs i (omega arith) (omega arith) apart in grind (arith, nat_tests, rest)
