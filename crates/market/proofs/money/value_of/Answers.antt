use Rattle.std.proofs.Common.{le_refl, arith}
use borrow.Author.Differences.{ints}
use Rattle.market.specs.Products.{abs_times}
use Rattle.market.proofs.money.value_of.Goals as goal

pub returns-clause-is_in_range : goal.returns-clause-is_in_range
returns-clause-is_in_range c = grind (arith, ints, abs_times c.args.price.cents c.args.kwh 400000 c.args.kwh c.args.price.ranged (le_refl c.args.kwh))
