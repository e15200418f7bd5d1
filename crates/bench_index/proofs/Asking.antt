-- What a caller knows of indexes in step with its rows, as the calls ask for it. `settled_in_step` is in Settled.
use Rattle.std.proofs.Common.{ℕ, ◌<◌, List, length, arith}
use Rattle.std.proofs.lemmas.Bool.Decides.{nat_tests}
use Rattle.std.proofs.lemmas.Slice.Zip.{AllZip-long}
use Rattle.rule_model.specs.Books.{Book, book_deps}
use Rattle.bench_index.specs.Indexes.{IsIndexOfDep, AreIndexesOf}
use Rattle.bench_index.specs.declared.index.BenchIndex.{BenchIndex}

module _ (rules : Book) (texts : List (List ℕ)) (index : BenchIndex) (are : AreIndexesOf rules texts index) where
  -- a rule with this number has an index
  pub dep_within : (number : ℕ) → number < length (book_deps rules) → number < length index.groups.items
  dep_within number within = omega (arith, within, AllZip-long (IsIndexOfDep texts) (book_deps rules) index.groups.items are.groups)
