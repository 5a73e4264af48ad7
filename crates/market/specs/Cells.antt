-- The open orders of a cell of today.
use Rattle.std.specs.Prelude.{List}
use Rattle.market.specs.declared.orders.Order.{Order}
use Rattle.market.specs.declared.figures.OpenCell.{OpenCell}
use Rattle.market.specs.Orders.{open_among}

abbrev pub its_orders : {D : Type 0} → OpenCell D → List Order
its_orders cell = open_among cell.participant cell.day cell.proposals.now
