-- Where the bytes of a text lie, which no clause of another crate speaks of.
use Rattle.std.specs.Prelude.{ℕ, List}
use Rattle.std.specs.String.{string_bytes}
use Rattle.text_lists.specs.declared.text.Place.{Place}
use Rattle.text_lists.specs.declared.text.Place.TheVariants.{Inside, Outside}

abbrev pub bytes_of : Place → List ℕ
bytes_of (Inside short) = short
bytes_of (Outside string) = string_bytes string.value
