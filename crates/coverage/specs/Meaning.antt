-- What a capacity means, said of allocations.
use Rattle.std.specs.Prelude.{◌≡◌, ℕ, suc, ◌<◌, ◌≤◌, ◌↔◌, List, ◌∷◌, ℤ, pos, negsuc, ◌≤ℤ◌, ◌<ℤ◌, None, ◌≢◌}
use Rattle.std.specs.List.{AllZip, AllByRecursion}
use Rattle.coverage.specs.declared.rows.Debt.{Debt}
use Rattle.coverage.specs.Allocation.{Position, position, Allocation, Covers, Coverable}
use Rattle.coverage.specs.Capacity.{owed, credited, guaranteed, exposure, credit_position, capacity}

-- The trading days of the debts lie between the first day and today.
pub record Dated (p : Position) : Type 0 where
  pub in_order : p.first_day ≤ p.today
  pub each_debt : AllByRecursion (λ x. (p.first_day ≤ x.day) × (x.day ≤ p.today)) p.debts

-- An allocation that covers exists exactly when the capacity is not below 0 ..
abbrev pub CoveredExactlyFromZero : Position → ℤ → Type 0
CoveredExactlyFromZero p c = Coverable p ↔ (pos 0 ≤ℤ c)

-- .. and so below 0 no allocation covers.
abbrev pub BelowZeroNoneCovers : Position → ℤ → Type 0
BelowZeroNoneCovers p c = c <ℤ pos 0 → (a : Allocation) → Covers p a → ⊥

-- n is the largest number that P holds of; n is the smallest.
pub record Largest (P : ℕ → Type 0) (n : ℕ) : Type 0 where
  pub holds : P n
  pub none_larger : (m : ℕ) → n < m → P m → ⊥

pub record Smallest (P : ℕ → Type 0) (n : ℕ) : Type 0 where
  pub holds : P n
  pub none_smaller : (m : ℕ) → m < n → P m → ⊥

-- No debt and no credit is of this period.
pub record UnusedPeriod (p : Position) (q : ℕ) : Type 0 where
  pub no_debts : AllByRecursion (λ x. x.period ≢ q) p.debts
  pub no_credits : AllByRecursion (λ c. c.period ≢ q) p.credits

-- The position with other debts, and with a further debt of today, so large and of this period.
abbrev pub with_debts : Position → List Debt → Position
with_debts p debts = position debts p.credits p.guarantees p.first_day p.today

abbrev pub with_debt : Position → ℕ → ℕ → Position
with_debt p q n = with_debts p (record { day = p.today; period = q; grains = n } ∷ p.debts)

-- The position with a further guarantee without last day, of so much worth.
abbrev pub with_guarantee : Position → ℕ → Position
with_guarantee p n = position p.debts p.credits (record { last = None; worth = n } ∷ p.guarantees) p.first_day p.today

-- A capacity that is not below 0 is the largest further debt of today, in a period of its own, with which an allocation still covers.
pub record LargestFurtherDebt (p : Position) (c : ℤ) : Type 0 where
  pub some_period : (q : ℕ) × UnusedPeriod p q
  pub in_any_such : (n : ℕ) → c ≡ pos n → (q : ℕ) → UnusedPeriod p q → Largest (λ m. Coverable (with_debt p q m)) n

-- The opposite of a capacity below 0 is the smallest worth of a further guarantee without last day with which an allocation covers.
-- (`negsuc n` is minus the number after n.)
abbrev pub SmallestFurtherGuarantee : Position → ℤ → Type 0
SmallestFurtherGuarantee p c = (n : ℕ) → c ≡ negsuc n → Smallest (λ m. Coverable (with_guarantee p m)) (suc n)

-- The debt x is of the same day and period as y and at most as large.
pub record AtMost (x y : Debt) : Type 0 where
  pub same_day : x.day ≡ y.day
  pub same_period : x.period ≡ y.period
  pub no_larger : x.grains ≤ y.grains

-- Where an allocation covers, one still does when every debt is at most as large.
abbrev pub SmallerDebtsStayCovered : Position → Type 0
SmallerDebtsStayCovered p = (debts : List Debt) → AllZip AtMost debts p.debts → Coverable p → Coverable (with_debts p debts)

-- In both positions the days are the same, the same is owed in each period from each day on, the same is credited in each period,
-- and the same is guaranteed on each day.
pub record SameSums (p q : Position) : Type 0 where
  pub same_first_day : p.first_day ≡ q.first_day
  pub same_today : p.today ≡ q.today
  pub same_owed : (day period : ℕ) → owed p.debts day period ≡ owed q.debts day period
  pub same_credited : (period : ℕ) → credited p.credits period ≡ credited q.credits period
  pub same_guaranteed : (day : ℕ) → guaranteed p.guarantees day ≡ guaranteed q.guarantees day

pub record SameFigures (p q : Position) : Type 0 where
  pub same_exposure : exposure p ≡ exposure q
  pub same_credit_position : credit_position p ≡ credit_position q
  pub same_capacity : capacity p ≡ capacity q

-- Rows matter only by their sums: not by their order, nor by how an amount is split, nor by rows of 0 grains.
abbrev pub OnlySumsMatter : Position → Type 0
OnlySumsMatter p = (q : Position) → SameSums p q → SameFigures p q
