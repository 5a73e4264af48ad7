use Rattle.std.proofs.Common.{drop}
use Rattle.market.specs.Orders.{open_among}
use Rattle.market.proofs.Open.{Counting}
use Rattle.market.proofs.figures.Figures.room_beside.Given as goal

abbrev pub invariant-loop-order : goal.invariant-loop-order
invariant-loop-order g l = Counting l.initial.room (open_among l.participant l.day l.proposals) l.room (open_among l.participant l.day (drop l.order-index l.proposals))
