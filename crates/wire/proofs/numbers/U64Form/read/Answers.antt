use Rattle.std.proofs.Common.{arith}
use Rattle.wire.proofs.Reading.{ten_below, reads_numbers}
use Rattle.wire.proofs.numbers.U64Form.read.Goals as goal

pub overflow_mul-value : goal.overflow_mul-value
overflow_mul-value c = omega (arith, ten_below c.loop-byte.value c.loop-byte.byte-index c.loop-byte.invariant.2 (omega arith))

pub overflow_add-value : goal.overflow_add-value
overflow_add-value c = omega (arith, ten_below c.loop-byte.value c.loop-byte.byte-index c.loop-byte.invariant.2 (omega arith))

pub returns-then-not-is_ascii_digit-clause-reads_exactly_what_is_written : goal.returns-then-not-is_ascii_digit-clause-reads_exactly_what_is_written
returns-then-not-is_ascii_digit-clause-reads_exactly_what_is_written c = reads_numbers c.args.bytes.now

pub returns-clause-reads_exactly_what_is_written : goal.returns-clause-reads_exactly_what_is_written
returns-clause-reads_exactly_what_is_written c = reads_numbers c.args.bytes.now

pub returns-clause-stays_below : goal.returns-clause-stays_below
returns-clause-stays_below c = ten_below c.loop-byte.value c.loop-byte.byte-index c.loop-byte.invariant.2 (omega arith)
