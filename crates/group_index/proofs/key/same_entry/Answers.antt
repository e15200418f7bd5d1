use Rattle.std.proofs.Common.{◌<◌, length, ap}
use Rattle.std.proofs.lemmas.List.Elements.{All-head, All-tail}
use Rattle.row_store.specs.Tuple.{ids_of, ids_behind}
use Rattle.group_index.proofs.key.same_entry.Goals as goal

pub alike-requires-clause-a_one : goal.alike-requires-clause-a_one
alike-requires-clause-a_one c = All-head (λ attribute. attribute < length (ids_of c.in-Some.tuple.now)) c.args.a c.args.x.now (c.requires.wide_one _ (ap ids_behind c.in-Some.is))

pub alike-requires-clause-a_other : goal.alike-requires-clause-a_other
alike-requires-clause-a_other c = All-head (λ attribute. attribute < length (ids_of c.args.other.now)) c.args.a c.args.x.now c.requires.wide_other

pub alike-requires-clause-wide_one : goal.alike-requires-clause-wide_one
alike-requires-clause-wide_one c = All-tail (λ attribute. attribute < length (ids_of c.in-Some.tuple.now)) c.args.a c.args.x.now (c.requires.wide_one _ (ap ids_behind c.in-Some.is))

pub alike-requires-clause-wide_other : goal.alike-requires-clause-wide_other
alike-requires-clause-wide_other c = All-tail (λ attribute. attribute < length (ids_of c.args.other.now)) c.args.a c.args.x.now c.requires.wide_other
