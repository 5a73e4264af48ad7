use Rattle.coverage.specs.Figures.{ends_too_early}
use Rattle.coverage.proofs.Examples.{answered, ends_too_early_fits, ends_too_early_is}
use Rattle.coverage.proofs.worked.guarantee_that_ends_too_early.Goals as goal

pub returns : goal.returns
returns c =
    record {
      lacks_one = answered ends_too_early _ _ c.capacity.ensures.answered_exactly_within_the_limits c.capacity.ensures.is_the_capacity ends_too_early_fits ends_too_early_is.capacity_is_minus_one;
      one_sum_would_be_wrong = ends_too_early_is;
    }
