-- What a sink tells that holds bytes back.
use Rattle.std.specs.Prelude.{ℕ, List}
use Rattle.shelf_io.specs.Sink.{SinkTold, appended}

-- the bytes that are held back are told as written behind those of the sink within
abbrev pub told_with : SinkTold → List ℕ → SinkTold
told_with within held = record { written = appended within.written held; faults = within.faults }
