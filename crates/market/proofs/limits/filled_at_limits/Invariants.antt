use Rattle.std.proofs.Common.{drop}
use Rattle.std.specs.Fn.{FnReturnsAt}
use Rattle.market.specs.Limits.{Takes}
use Rattle.market.specs.Orders.{open_among}
use Rattle.market.specs.Cells.{its_orders}
use Rattle.market.proofs.Open.{Filling}
use Rattle.market.proofs.limits.filled_at_limits.Given as goal

abbrev pub invariant-loop-order : goal.invariant-loop-order
invariant-loop-order g l =
    Filling (Takes (FnReturnsAt g.F.Fn l.is_chosen)) l.cell.figures.amounts (its_orders l.cell) l.figures.amounts (open_among l.cell.participant l.cell.day (drop l.order-index l.cell.proposals.now))
