-- Two worked figures: why the guarantees are not one sum, and why a credit goes to the latest debt of its period.
use Rattle.std.specs.Prelude.{◌≡◌, ◌<◌, [], ◌∷◌, ℤ, pos, negsuc, ◌-ℤ◌, Some, None}
use Rattle.coverage.specs.Allocation.{Position, position, Allocation, Covers, total, given}
use Rattle.coverage.specs.Capacity.{capacity, uncredited}

-- Guarantees of 5 grains to day 1 and of 5 without last day, and a debt of 6 on day 2.
abbrev pub ends_too_early : Position
ends_too_early =
    position
    (record { day = 2; period = 0; grains = 6 } ∷ [])
    []
    (record { last = Some 1; worth = 5 } ∷ record { last = None; worth = 5 } ∷ [])
    0
    2

-- All guarantees as one sum, less what the debts exceed the credits by: what the capacity is not.
abbrev pub as_one_sum : Position → ℤ
as_one_sum p = pos (total (λ g. g.worth) p.guarantees) -ℤ pos (uncredited p 0)

pub record EndsTooEarly : Type 0 where
  pub capacity_is_minus_one : capacity ends_too_early ≡ negsuc 0
  pub one_sum_would_say_four : as_one_sum ends_too_early ≡ pos 4

-- A credit of 2, debts of 2 on day 1 and of 2 on day 2 in its period, and a guarantee of 2 to day 1.
abbrev pub one_credit_two_debts : Position
one_credit_two_debts =
    position
    (record { day = 1; period = 0; grains = 2 } ∷ record { day = 2; period = 0; grains = 2 } ∷ [])
    (record { period = 0; grains = 2 } ∷ [])
    (record { last = Some 1; worth = 2 } ∷ [])
    0
    2

-- The guarantee for the earlier debt and the credit for the later one.
abbrev pub credit_to_the_later : Allocation
credit_to_the_later =
    record {
      of_guarantees = record { source = 0; debt = 0; grains = 2 } ∷ [];
      of_credits = record { source = 0; debt = 1; grains = 2 } ∷ [];
    }

-- The capacity is 0; the credit covers where it goes to the later debt, and an allocation that gives any of it to the earlier one does not,
-- whatever else it gives.
pub record CreditForTheLater : Type 0 where
  pub capacity_is_zero : capacity one_credit_two_debts ≡ pos 0
  pub to_the_later_covers : Covers one_credit_two_debts credit_to_the_later
  pub to_the_earlier_never : (a : Allocation) → 0 < given a.of_credits 0 → Covers one_credit_two_debts a → ⊥
