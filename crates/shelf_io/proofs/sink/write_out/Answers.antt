use Rattle.std.proofs.Common.{◌≡◌, ◌≢◌, ℕ, List, ◌++◌, Some, Ok, Err, OnErr, arith}
use Rattle.std.proofs.lemmas.List.{length-drop, length-take}
use Rattle.shelf_io.specs.Sink.{Appends, FrontOf}
use Rattle.shelf_io.proofs.Puts.{appended-take_more, front_so_far, not_all_so_far}
use Rattle.shelf_io.proofs.sink.write_out.Goals as goal

pub loop-done-preserved : goal.loop-done-preserved
loop-done-preserved g c = record {
  within = omega (arith, length-drop {A = ℕ}, length-take {A = ℕ}, c.in_ok-done.ensures.part.within);
  bytes = appended-take_more c.args.bytes.now c.loop-done.done c.in_ok-done.field-0 _ _ _ c.loop-done.invariant.bytes c.in_ok-done.ensures.appended;
  faults = omega (arith, c.in_ok-done.ensures.faults);
}

pub returns-in_err-done-clause-front : goal.returns-in_err-done-clause-front
returns-in_err-done-clause-front g c =
    let was = (g.O.Sink.told c.args.out.now).written in
    let now = (g.O.Sink.told c.put.new.self).written in
    let front = front_so_far c.args.bytes.now c.loop-done.done was _ now c.loop-done.invariant.bytes c.in_err-done.ensures.unchanged in
    elim c.from_residual.result as (λ r. OnErr r (Appends (FrontOf (λ text. text ≡ c.args.bytes.now)) was now)) [ Ok done ↦ tt | Err failed ↦ front ]

pub returns-in_err-done-clause-not_all : goal.returns-in_err-done-clause-not_all
returns-in_err-done-clause-not_all g c =
    let was = (g.O.Sink.told c.args.out.now).written in
    let now = (g.O.Sink.told c.put.new.self).written in
    let short = not_all_so_far c.args.bytes.now c.loop-done.done was _ now c.loop-done-test.true c.loop-done.invariant.bytes c.in_err-done.ensures.unchanged in
    elim c.from_residual.result as (λ r. OnErr r ((all : List ℕ) → was ≡ Some all → now ≢ Some (all ++ c.args.bytes.now))) [ Ok done ↦ tt | Err failed ↦ short ]
