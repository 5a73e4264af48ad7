use Rattle.std.proofs.Common.{sum_by, ap, arith}
use borrow.Author.Differences.{ints}
use Rattle.coverage.specs.Admission.{position_of}
use Rattle.coverage.specs.Capacity.{credit_position}
use Rattle.coverage.proofs.Periods.{however_listed}
use Rattle.coverage.proofs.Same.{only_sums_matter}
use Rattle.coverage.proofs.Totals.{total_is}
use Rattle.coverage.proofs.position.Position.figures.Goals as goal

pub returns-in_err-position-clause-rows_matter_only_by_their_sums : goal.returns-in_err-position-clause-rows_matter_only_by_their_sums
returns-in_err-position-clause-rows_matter_only_by_their_sums c = only_sums_matter (position_of c.args.self.now)

pub returns-in_err-position-clause-periods_may_be_listed_in_any_way : goal.returns-in_err-position-clause-periods_may_be_listed_in_any_way
returns-in_err-position-clause-periods_may_be_listed_in_any_way c = however_listed (position_of c.args.self.now)

pub returns-clause-credit_position_is_the_sum_of_all_credits : goal.returns-clause-credit_position_is_the_sum_of_all_credits
unfolding credit_position
returns-clause-credit_position_is_the_sum_of_all_credits c =
    omega (
      arith,
      ints,
      c.credited.ensures.sum_of_all,
      c.credited.ensures.fits,
      ap (λ p. sum_by (λ x. x.grains) p.credits.now) c.in_ok-position.ensures.of_this_position,
      total_is (λ x. x.grains) c.args.self.now.credits.now,
    )

pub returns-clause-rows_matter_only_by_their_sums : goal.returns-clause-rows_matter_only_by_their_sums
returns-clause-rows_matter_only_by_their_sums c = only_sums_matter (position_of c.args.self.now)

pub returns-clause-periods_may_be_listed_in_any_way : goal.returns-clause-periods_may_be_listed_in_any_way
returns-clause-periods_may_be_listed_in_any_way c = however_listed (position_of c.args.self.now)
