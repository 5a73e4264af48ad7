-- An exposure is in range under every rule, since it is 0 or the worth of figures within the limits.
use Rattle.std.proofs.Common.{◌≡◌, ℕ, ◌*◌, ◌<◌, ◌≤◌, true, List, [], ◌∷◌, length, nat_abs, ap, inl, inr, arith}
use borrow.Author.Differences.{ints}
use Rattle.std.specs.List.{AllByRecursion}
use Rattle.std.proofs.ByRecursion.{All-weaker, kept_by_passes}
use Rattle.std.proofs.lemmas.Bool.Decides.{nat_tests}
use Rattle.market.specs.declared.orders.Side.{Side}
use Rattle.market.specs.declared.orders.Side.TheVariants.{Buy, Sell}
use Rattle.market.specs.declared.orders.Order.{Order}
use Rattle.market.specs.declared.figures.Amounts.{Amounts}
use Rattle.market.specs.declared.figures.Figures.{Figures}
use Rattle.market.specs.declared.figures.OpenCell.{OpenCell}
use Rattle.market.specs.Units.{PriceRange, VatRange}
use Rattle.market.specs.Orders.{orders_of, belongs, WithinLimits}
use Rattle.market.specs.Cells.{its_orders}
use Rattle.market.specs.Outcomes.{Fill, value, Fills, Outcome, Possible, traded, after}
use Rattle.market.specs.Rule.{Valuation, Sound}
use Rattle.market.proofs.Open.{limits_hold}

belongs_open : (participant day : ℕ) (o : Order) → belongs participant day o ≡ true → 0 < o.kwh
belongs_open participant day o h = grind (arith, nat_tests)

-- figures and cells are within the limits by their types
pub figures_within_limits : (figures : Figures) → WithinLimits figures.amounts []
figures_within_limits figures = record { energy = omega (arith, figures.few); paid = figures.paid; earned = figures.earned; open_still = tt; limits = tt }

pub cell_within_limits : {D : Type 0} (cell : OpenCell D) → WithinLimits cell.figures.amounts (its_orders cell)
cell_within_limits cell = record {
  energy = cell.few;
  paid = cell.figures.paid;
  earned = cell.figures.earned;
  open_still = All-weaker (λ o. belongs cell.participant cell.day o ≡ true) (λ o. 0 < o.kwh) (belongs_open cell.participant cell.day) (its_orders cell)
      (kept_by_passes (belongs cell.participant cell.day) (orders_of cell.proposals.now));
  limits = limits_hold cell;
}

value_range : (fill : Fill) → AllByRecursion PriceRange fill → nat_abs (value fill) ≤ length fill * 400000
value_range [] h = omega arith
value_range (p ∷ fill) h = omega (arith, ints, value_range fill h.1, h.0)

traded_within : (a : Amounts) (o : Order) (orders : List Order) (fill : Fill) → WithinLimits a (o ∷ orders) → Fills o fill → WithinLimits (traded o.side (length fill) (value fill) a) orders
traded_within a o orders fill h f = go o.side
  where
    go : (side : Side) → WithinLimits (traded side (length fill) (value fill) a) orders
    go Buy = record {
      energy = omega (arith, h.energy, f.at_most_open);
      paid = omega (arith, ints, h.paid, value_range fill f.in_range);
      earned = h.earned;
      open_still = h.open_still.1;
      limits = h.limits.1;
    }
    go Sell = record {
      energy = omega (arith, h.energy, f.at_most_open);
      paid = h.paid;
      earned = omega (arith, ints, h.earned, value_range fill f.in_range);
      open_still = h.open_still.1;
      limits = h.limits.1;
    }

pub after_within : (a : Amounts) (orders : List Order) (outcome : Outcome) → WithinLimits a orders → Possible orders outcome → WithinLimits (after a orders outcome) []
after_within a [] [] h p = h
after_within a [] (fill ∷ outcome) h p = absurd p
after_within a (o ∷ orders) [] h p = absurd p
after_within a (o ∷ orders) (fill ∷ outcome) h p = after_within (traded o.side (length fill) (value fill) a) orders outcome (traded_within a o orders fill h p.0) p.1

pub exposure_in_range : (v : Valuation) → Sound v → (vat : ℕ) (a : Amounts) (orders : List Order) → VatRange vat → WithinLimits a orders → nat_abs (v.exposure vat a orders) ≤ 32000000000000000
exposure_in_range v s vat a orders r h =
    elim (s.reached vat a orders r h) [
      | inl z ↦ omega (arith, ap nat_abs z)
      | inr w ↦ omega (arith, ap nat_abs w.2, s.worth_in_range vat (after a orders w.0) r (after_within a orders w.0 h w.1.0))
    ]
