use Rattle.std.proofs.Common.{rules, ap, arith}
use borrow.Author.Differences.{ints}
use Rattle.std.proofs.lemmas.Int.{clamps}
use Rattle.market.specs.Limits.{losing}
use Rattle.market.specs.Rules.{xbid_worth}
use Rattle.market.proofs.xbid.XbidMarketRule.exposure.Goals as goal

pub returns : goal.returns
returns g c =
    let e = c.filled_at_limits-filled.ensures.are_filled losing (λ order answer k. search rules) in
    record { is_the_exposure = omega (arith, ints, clamps, c.min.ensures, c.worth.ensures, ap (xbid_worth c.args.vat.percent) e) }
