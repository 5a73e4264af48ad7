use Rattle.std.proofs.Common.{◌≡◌, ◌^◌, ◌<◌, drop}
use Rattle.std.specs.Str.{all_ascii_digits}
use Rattle.wire.specs.Numbers.{value_after}
use Rattle.wire.proofs.numbers.U64Form.read.Given as goal

abbrev pub invariant-loop-byte : goal.invariant-loop-byte
invariant-loop-byte l =
    (value_after l.value (drop l.byte-index l.bytes) ≡ value_after 0 l.bytes)
    × (all_ascii_digits (drop l.byte-index l.bytes) ≡ all_ascii_digits l.bytes)
    × (l.value < 10 ^ l.byte-index)
