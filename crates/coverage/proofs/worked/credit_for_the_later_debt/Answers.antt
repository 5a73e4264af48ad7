use Rattle.coverage.specs.Figures.{one_credit_two_debts}
use Rattle.coverage.proofs.Examples.{answered, one_credit_two_debts_fits, credit_for_the_later_is}
use Rattle.coverage.proofs.worked.credit_for_the_later_debt.Goals as goal

pub returns : goal.returns
returns c =
    record {
      nothing_left_and_nothing_lacking = answered one_credit_two_debts _ _ c.capacity.ensures.answered_exactly_within_the_limits c.capacity.ensures.is_the_capacity one_credit_two_debts_fits credit_for_the_later_is.capacity_is_zero;
      credit_for_the_earlier_would_fail = credit_for_the_later_is;
    }
