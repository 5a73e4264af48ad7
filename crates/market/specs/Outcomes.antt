-- What may become of the open orders of a cell.
use Rattle.std.specs.Prelude.{ℕ, ◌+◌, ◌≤◌, List, [], ◌∷◌, length, ℤ, pos, ◌+ℤ◌, ◌≤ℤ◌}
use Rattle.std.specs.List.{AllByRecursion}
use Rattle.market.specs.declared.orders.Side.{Side}
use Rattle.market.specs.declared.orders.Side.TheVariants.{Buy, Sell}
use Rattle.market.specs.declared.orders.Order.{Order}
use Rattle.market.specs.declared.figures.Amounts.{Amounts}
use Rattle.market.specs.Units.{PriceRange}

-- the prices at which an order is filled, one for each kWh that is
abbrev pub Fill : Type 0
Fill = List ℤ

-- a kWh has a price in cents a MWh, so the value of a fill is the sum of its prices
abbrev pub value : Fill → ℤ
value [] = pos 0
value (price ∷ prices) = price +ℤ value prices

-- a purchase is filled at its limit or below, a sale at its limit or above
abbrev pub NoWorse : Side → ℤ → ℤ → Type 0
NoWorse Buy limit price = price ≤ℤ limit
NoWorse Sell limit price = limit ≤ℤ price

-- what the market may do with an order: fill none, some or all of its open kWh
pub record Fills (order : Order) (prices : Fill) : Type 0 where
  pub at_most_open : length prices ≤ order.kwh
  pub in_range : AllByRecursion PriceRange prices
  pub no_worse : AllByRecursion (NoWorse order.side order.limit) prices

-- an outcome has a fill for each open order of a cell, in the orders' order
abbrev pub Outcome : Type 0
Outcome = List Fill

-- each order and its fill are so related
abbrev pub Along : (Order → Fill → Type 0) → List Order → Outcome → Type 0
Along R [] [] = Unit {0}
Along R [] (fill ∷ outcome) = ⊥
Along R (o ∷ orders) [] = ⊥
Along R (o ∷ orders) (fill ∷ outcome) = R o fill × Along R orders outcome

abbrev pub Possible : List Order → Outcome → Type 0
Possible = Along Fills

-- the amounts with so many kWh of that value bought or sold besides
abbrev pub traded : Side → ℕ → ℤ → Amounts → Amounts
traded Buy kwh v a = record { bought = a.bought + kwh; paid = a.paid +ℤ v; sold = a.sold; earned = a.earned }
traded Sell kwh v a = record { bought = a.bought; paid = a.paid; sold = a.sold + kwh; earned = a.earned +ℤ v }

-- the amounts after the outcome
abbrev pub after : Amounts → List Order → Outcome → Amounts
after a [] outcome = a
after a (o ∷ orders) [] = a
after a (o ∷ orders) (fill ∷ outcome) = after (traded o.side (length fill) (value fill) a) orders outcome

abbrev pub nothing_traded : Amounts
nothing_traded = record { bought = 0; paid = pos 0; sold = 0; earned = pos 0 }
