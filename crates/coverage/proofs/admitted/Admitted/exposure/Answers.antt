use Rattle.std.proofs.Common.{arith}
use borrow.Author.Differences.{ints}
use Rattle.coverage.specs.Capacity.{exposure}
use Rattle.coverage.proofs.admitted.Admitted.exposure.Goals as goal

pub returns : goal.returns
unfolding exposure
returns c = record { minus_debts_above_credit = omega (arith, ints, c.uncredited_from.ensures.sum_over_the_periods) }
