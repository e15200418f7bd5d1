-- Something that is fetched for each of several tables.
use Rattle.std.specs.Prelude.{List, [], ◌∷◌, Ok}
use Rattle.schema_core.specs.declared.schema.Table.{Table}
use Rattle.cli_output.specs.Fetching.{Fetching, ◌>>=◌, given}

-- one after the other, in the order of the tables
abbrev pub fetch_each : {X : Type 0} → (Table → Fetching X) → List Table → Fetching (List X)
fetch_each fetch [] = given (Ok [])
fetch_each fetch (table ∷ tables) = fetch table >>= λ x. fetch_each fetch tables >>= λ others. given (Ok (x ∷ others))
