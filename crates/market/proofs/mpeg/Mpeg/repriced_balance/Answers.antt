use Rattle.std.proofs.Common.{arith}
use borrow.Author.Differences.{ints}
use Rattle.market.proofs.mpeg.Mpeg.repriced_balance.Goals as goal

pub returns : goal.returns
returns c = record { is_earned_less_paid = omega (arith, ints, c.repriced_value-earned.ensures, c.repriced_value-paid.ensures) }
