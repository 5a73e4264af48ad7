use Rattle.std.proofs.Common.{nat_abs, ap, arith}
use borrow.Author.Differences.{ints}
use Rattle.market.proofs.Range.{exposure_in_range, cell_within_limits}
use Rattle.market.proofs.ranged.exposure_of.Goals as goal

pub returns-clause-is_in_range : goal.returns-clause-is_in_range
returns-clause-is_in_range g c =
    let h = exposure_in_range _ (g.met.R.MarketRule.lawful.sound c.args.rule.now) _ _ _ c.args.vat.ranged (cell_within_limits c.args.cell.now) in
    omega (arith, ints, ap nat_abs c.exposure.ensures.is_the_exposure, h)

pub returns-clause-is_at_most_0 : goal.returns-clause-is_at_most_0
returns-clause-is_at_most_0 g c =
    let h = (g.met.R.MarketRule.lawful.sound c.args.rule.now).at_most_0 _ _ _ c.args.vat.ranged (cell_within_limits c.args.cell.now) in
    omega (arith, ints, c.exposure.ensures.is_the_exposure, h)
