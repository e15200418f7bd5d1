-- A tuple that may be missing, behind a reference.
use Rattle.std.proofs.Common.{◌≡◌, Option, Some, None, Bor, refl, ap, ◌∙◌}
use Rattle.std.specs.Option.{option_copied}
use Rattle.row_store.specs.Tuple.{Tuple, ids_behind, ids_if}

copied : (o : Option (Bor Tuple)) → ids_behind o ≡ ids_if (option_copied o)
copied None = refl
copied (Some tuple) = refl

pub behind-is : (o : Option (Bor Tuple)) (tuple : Option Tuple) → option_copied o ≡ tuple → ids_behind o ≡ ids_if tuple
behind-is o tuple is = copied o ∙ ap ids_if is
