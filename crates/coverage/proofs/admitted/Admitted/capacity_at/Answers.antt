use Rattle.std.proofs.Common.{arith}
use borrow.Author.Differences.{ints}
use Rattle.coverage.proofs.admitted.Admitted.capacity_at.Goals as goal

pub returns : goal.returns
returns c =
    record {
      valid_guarantees_less_debts_above_credit = omega (
        arith,
        ints,
        c.guaranteed_on.ensures.sum_of_the_valid,
        c.uncredited_from.ensures.sum_over_the_periods,
      );
    }
