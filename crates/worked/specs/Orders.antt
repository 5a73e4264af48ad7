-- The orders of the worked figures.
use Rattle.std.specs.Prelude.{ℕ, ℤ}
use Rattle.market.specs.declared.orders.Side.TheVariants.{Buy, Sell}
use Rattle.market.specs.declared.orders.Order.{Order}

abbrev pub purchase : ℕ → ℤ → Order
purchase kwh limit = record { participant = 7; day = 1; side = Buy; limit = limit; kwh = kwh }

abbrev pub sale : ℕ → ℤ → Order
sale kwh limit = record { participant = 7; day = 1; side = Sell; limit = limit; kwh = kwh }
