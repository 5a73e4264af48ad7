-- The amounts of a cell with some of its open orders filled whole, each at its limit.
use Rattle.std.specs.Prelude.{◌≡◌, Bool, true, false, cond, ◌&&◌, List, [], ◌∷◌, ℤ, pos, ◌+ℤ◌, ◌*ℤ◌, int_lt}
use Rattle.market.specs.declared.orders.Side.{Side}
use Rattle.market.specs.declared.orders.Side.TheVariants.{Buy, Sell}
use Rattle.market.specs.declared.orders.Order.{Order}
use Rattle.market.specs.declared.figures.Amounts.{Amounts}
use Rattle.market.specs.Outcomes.{traded}

-- a purchase loses at a price above 0, a sale at one below 0
abbrev pub loses : Side → ℤ → Bool
loses Buy price = int_lt (pos 0) price
loses Sell price = int_lt price (pos 0)

-- which orders are filled: all, or those that lose at their limit
abbrev pub every : Order → Bool
every o = true

abbrev pub losing : Order → Bool
losing o = loses o.side o.limit

-- whether the second side is the first
abbrev pub is_on : Side → Side → Bool
is_on Buy Buy = true
is_on Buy Sell = false
is_on Sell Buy = false
is_on Sell Sell = true

-- the orders of a side that lose at their limit with the check price added
abbrev pub losing_on : Side → ℤ → Order → Bool
losing_on side check o = is_on side o.side && loses o.side (o.limit +ℤ check)

abbrev pub losing_purchase : ℤ → Order → Bool
losing_purchase = losing_on Buy

abbrev pub losing_sale : ℤ → Order → Bool
losing_sale = losing_on Sell

-- a test that gives such answers takes the orders that are chosen
abbrev pub Takes : (Order → Bool → Type 0) → (Order → Bool) → Type 0
Takes gives chosen = (order : Order) (answer : Bool) → gives order answer → answer ≡ chosen order

-- the amounts with the order filled whole at its limit, if it is chosen
abbrev pub at_limit : (Order → Bool) → Order → Amounts → Amounts
at_limit chosen o a = cond (chosen o) (traded o.side o.kwh (o.limit *ℤ pos o.kwh) a) a

abbrev pub at_limits : (Order → Bool) → Amounts → List Order → Amounts
at_limits chosen a [] = a
at_limits chosen a (o ∷ orders) = at_limits chosen (at_limit chosen o a) orders
