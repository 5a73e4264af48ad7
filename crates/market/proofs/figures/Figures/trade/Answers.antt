use Rattle.std.proofs.Common.{refl, ◌∙◌, arith}
use borrow.Author.Differences.{ints}
use Rattle.market.specs.Worst.{same_whole}
use Rattle.market.proofs.figures.Figures.trade.Goals as goal
use Rattle.market.proofs.figures.Figures.trade.Goals.{in-Buy, in-Sell}

pub returns : goal.returns
returns c =
    elim c.match-side.branch [
      | in-Buy w ↦ record { have_traded_more = rw w.in-Buy.is (w.amounts-is ∙ same_whole _ _ _ _ _ _ _ _ refl refl (omega (arith, ints, c.value_of-value.ensures)) (omega (arith, ints))) }
      | in-Sell w ↦ record { have_traded_more = rw w.in-Sell.is (w.amounts-is ∙ same_whole _ _ _ _ _ _ _ _ refl refl (omega (arith, ints)) (omega (arith, ints, c.value_of-value.ensures))) }
    ]
