use Rattle.std.proofs.Common.{◌≡◌, ap, ◌∙◌, arith}
use borrow.Author.Differences.{ints}
use Rattle.std.specs.Int.{int_min}
use Rattle.std.proofs.lemmas.Int.{clamps}
use Rattle.market.specs.Rules.{mpeg_worth}
use Rattle.market.proofs.mpeg.MpegMarketRule.exposure.Goals as goal

pub returns : goal.returns
returns g c =
    let worth = mpeg_worth c.args.self.now.reference.cents c.args.vat.percent in
    let p = c.worth-bought.ensures.is_the_worth ∙ ap worth c.filled_on.ensures.are_filled in
    let q = c.worth-sold.ensures.is_the_worth ∙ ap worth c.filled_on-2.ensures.are_filled in
    let m : c.min.result ≡ int_min c.worth-bought.result c.worth-sold.result = omega (arith, ints, clamps, c.min.ensures) in
    record { is_the_exposure = omega (arith, ints, clamps, c.min-2.ensures, m, p, q) }
