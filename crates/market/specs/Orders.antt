-- The open orders of a cell, and how much a cell can hold.
use Rattle.std.specs.Prelude.{ℕ, ◌+◌, ◌*◌, ◌<◌, ◌≤◌, Bool, ◌&&◌, List, [], ◌∷◌, map, length, pos, filter, ◌==◌, nat_lt, slice_index_or, unsigned_abs}
use Rattle.std.specs.List.{AllByRecursion}
use Rattle.market.specs.declared.orders.Side.TheVariants.{Buy}
use Rattle.market.specs.declared.orders.Order.{Order}
use Rattle.market.specs.declared.orders.Proposal.{Proposal}
use Rattle.market.specs.declared.figures.Amounts.{Amounts}
use Rattle.market.specs.Units.{PriceRange}

abbrev pub orders_of : {D : Type 0} → List (Proposal D) → List Order
orders_of proposals = map (λ p. p.order) proposals

-- an order belongs to the cell of its participant and flow day while it has energy open
abbrev pub belongs : ℕ → ℕ → Order → Bool
belongs participant day o = o.participant == participant && (o.day == day && nat_lt 0 o.kwh)

abbrev pub open_orders : ℕ → ℕ → List Order → List Order
open_orders participant day orders = filter (belongs participant day) orders

-- those of a table of proposals
abbrev pub open_among : {D : Type 0} → ℕ → ℕ → List (Proposal D) → List Order
open_among participant day proposals = open_orders participant day (orders_of proposals)

abbrev pub open_energy : List Order → ℕ
open_energy [] = 0
open_energy (o ∷ orders) = o.kwh + open_energy orders

abbrev pub no_order : Order
no_order = record { participant = 0; day = 0; side = Buy; limit = pos 0; kwh = 0 }

abbrev pub LimitsInRange : List Order → Type 0
LimitsInRange orders = (k : ℕ) → k < length orders → PriceRange (slice_index_or orders k no_order).limit

-- what a cell may hold: bought, sold and open energy are together at most 100,000,000 kWh, and each kWh has a price in range
pub record WithinLimits (amounts : Amounts) (orders : List Order) : Type 0 where
  pub energy : amounts.bought + amounts.sold + open_energy orders ≤ 100000000
  pub paid : unsigned_abs amounts.paid ≤ amounts.bought * 400000
  pub earned : unsigned_abs amounts.earned ≤ amounts.sold * 400000
  pub open_still : AllByRecursion (λ o. 0 < o.kwh) orders
  pub limits : AllByRecursion (λ o. PriceRange o.limit) orders
