use Rattle.std.proofs.Common.{nat_abs, ap, arith}
use borrow.Author.Differences.{ints}
use Rattle.market.proofs.Range.{figures_within_limits}
use Rattle.market.proofs.ranged.worth_of.Goals as goal

pub returns-clause-is_in_range : goal.returns-clause-is_in_range
returns-clause-is_in_range g c =
    let h = (g.met.R.MarketRule.lawful.sound c.args.rule.now).worth_in_range c.args.vat.percent c.args.figures.amounts c.args.vat.ranged (figures_within_limits c.args.figures) in
    omega (arith, ints, ap nat_abs c.worth.ensures.is_the_worth, h)
