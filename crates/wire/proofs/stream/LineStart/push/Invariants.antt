use Rattle.std.proofs.Common.{◌≡◌, ◌++◌, take, drop}
use Rattle.wire.specs.Stream.{kept}
use Rattle.wire.proofs.stream.LineStart.push.Given as goal

abbrev pub invariant-loop-byte : goal.invariant-loop-byte
invariant-loop-byte l = take 81 (kept l.self ++ drop l.byte-index l.part) ≡ take 81 (kept l.initial.self ++ l.part)
