-- The positions that the figures are worked out for: limited numbers of rows and limited amounts, so that every sum fits 64 bits.
use Rattle.std.specs.Prelude.{◌+◌, ◌≤◌, length}
use Rattle.std.specs.List.{AllByRecursion}
use Rattle.coverage.specs.Allocation.{Position, position}
use Rattle.coverage.specs.declared.position.Position.{Position as Lent}

-- What a position that is lent to the functions holds.
abbrev pub position_of : Lent → Position
position_of p = position p.debts.now p.credits.now p.guarantees.now p.first_day p.today

-- At most 256 debts and credits together, each of at most 32,000,000,000,000,000 grains; at most 64 guarantees, each worth at most
-- 10,000,000,000,000,000 grains; and each debt of a day from the first to today.
pub record Admissible (p : Position) : Type 0 where
  pub days_in_order : p.first_day ≤ p.today
  pub few_rows : length p.debts + length p.credits ≤ 256
  pub few_guarantees : length p.guarantees ≤ 64
  pub debts_in_range : AllByRecursion (λ x. (p.first_day ≤ x.day) × (x.day ≤ p.today) × (x.grains ≤ 32000000000000000)) p.debts
  pub credits_in_range : AllByRecursion (λ c. c.grains ≤ 32000000000000000) p.credits
  pub guarantees_in_range : AllByRecursion (λ g. g.worth ≤ 10000000000000000) p.guarantees
