-- The loops over the open orders of a cell.
use Rattle.std.proofs.Common.{◌≡◌, ℕ, ◌+◌, ◌<◌, ◌≤◌, Bool, true, false, cond, List, ◌∷◌, length, get_or, drop, ℤ, pos, ◌*ℤ◌, sym, ap, ap₂, ◌∙◌, subst, arith}
use Rattle.std.specs.List.{AllByRecursion}
use Rattle.std.proofs.ByRecursion.{All-from_get_or}
use Rattle.std.proofs.lemmas.List.{drop_more}
use Rattle.market.specs.declared.orders.Order.{Order}
use Rattle.market.specs.declared.orders.Side.{Side}
use Rattle.market.specs.declared.orders.Side.TheVariants.{Buy, Sell}
use Rattle.market.specs.declared.orders.Proposal.{Proposal}
use Rattle.market.specs.declared.figures.Amounts.{Amounts}
use Rattle.market.specs.declared.figures.OpenCell.{OpenCell}
use Rattle.market.specs.Units.{PriceRange}
use Rattle.market.specs.Orders.{belongs, open_among, open_energy, no_order}
use Rattle.market.specs.Cells.{its_orders}
use Rattle.market.specs.Outcomes.{traded}
use Rattle.market.specs.Limits.{at_limits}

-- the orders that are left at a row of the table, where that row's order belongs to the cell or not
module _ {D : Type 0} (participant day : ℕ) (rows : List (Proposal D)) (i : ℕ) {row : Proposal D} (e : row ≡ get_or rows i row) (h : i < length rows) where
  abbrev later : List Order
  later = open_among participant day (drop (i + 1) rows)

  at_row : (t : Bool) → t ≡ belongs participant day row.order → open_among participant day (drop i rows) ≡ cond t (row.order ∷ later) later
  at_row t b = ap (open_among participant day) (drop_more rows i row h ∙ ap (λ x. x ∷ drop (i + 1) rows) (sym e)) ∙ ap (λ t. cond t (row.order ∷ later) later) (sym b)

  pub taken : true ≡ belongs participant day row.order → open_among participant day (drop i rows) ≡ row.order ∷ open_among participant day (drop (i + 1) rows)
  taken = at_row true

  pub passed : false ≡ belongs participant day row.order → open_among participant day (drop i rows) ≡ open_among participant day (drop (i + 1) rows)
  passed = at_row false

-- the orders fit the room
pub record Fits (room : ℕ) (orders : List Order) : Type 0 where
  pub energy : open_energy orders ≤ room
  pub limits : AllByRecursion (λ o. PriceRange o.limit) orders

-- the orders that are left fit the room that is left exactly where all fit
pub record Counting (start : ℕ) (all : List Order) (room : ℕ) (left : List Order) : Type 0 where
  pub enough : Fits room left → Fits start all
  pub needed : Fits start all → Fits room left
  pub same : room + open_energy all ≡ start + open_energy left

-- There is room for the orders that are left, and filling those of them that a test of Q chooses leads where filling those of all does.
pub record Filling (Q : (Order → Bool) → Type 0) (start : Amounts) (all : List Order) (a : Amounts) (left : List Order) : Type 0 where
  pub room : a.bought + a.sold + open_energy left ≤ 100000000
  pub limits : AllByRecursion (λ o. PriceRange o.limit) left
  pub leads : (chosen : Order → Bool) → Q chosen → at_limits chosen a left ≡ at_limits chosen start all

-- past an order that is not of the cell
pub kept : {Q : (Order → Bool) → Type 0} {start : Amounts} {all : List Order} {a : Amounts} {whole left : List Order} (b : Amounts) → Filling Q start all a whole → whole ≡ left → b ≡ a → Filling Q start all b left
kept {Q} {start} {all} {left = left} b f h e = subst (λ x. Filling Q start all x left) (sym e) (subst (Filling Q start all _) h f)

-- past an order of the cell, which is filled where t is true
pub filled : {Q : (Order → Bool) → Type 0} {start : Amounts} {all : List Order} {a : Amounts} {whole : List Order} {o : Order} {left : List Order} (t : Bool) (limit : ℤ) (b : Amounts) → Filling Q start all a whole → whole ≡ o ∷ left →
    ((chosen : Order → Bool) → Q chosen → t ≡ chosen o) → limit ≡ o.limit → b ≡ cond t (traded o.side o.kwh (limit *ℤ pos o.kwh) a) a → Filling Q start all b left
filled {Q} {start} {all} {a} {whole} {o} {left} t limit b whole-filling h q l e = record {
  room = omega (arith, f.room, takes t o.side (limit *ℤ pos o.kwh), ap (λ (x : Amounts). x.bought) e, ap (λ (x : Amounts). x.sold) e);
  limits = f.limits.1;
  leads = λ chosen h. ap (λ x. at_limits chosen x left) (e ∙ ap₂ (λ t z. cond t (traded o.side o.kwh (z *ℤ pos o.kwh) a) a) (q chosen h) l) ∙ f.leads chosen h;
}
  where
    f : Filling Q start all a (o ∷ left)
    f = subst (Filling Q start all a) h whole-filling

    takes : (t : Bool) (side : Side) (v : ℤ) → (cond t (traded side o.kwh v a) a).bought + (cond t (traded side o.kwh v a) a).sold ≤ a.bought + a.sold + o.kwh
    takes true Buy v = omega arith
    takes true Sell v = omega arith
    takes false side v = omega arith

-- the limits of a cell's open orders are prices
pub limits_hold : {D : Type 0} (cell : OpenCell D) → AllByRecursion (λ o. PriceRange o.limit) (its_orders cell)
limits_hold cell = All-from_get_or (λ o. PriceRange o.limit) (its_orders cell) no_order cell.limits
