-- The three figures of a position: its exposure, its credit position and its capacity.
use Rattle.std.specs.Prelude.{◌≡◌, ℕ, zero, suc, ◌+◌, ◌-◌, ◌≤◌, Bool, false, cond, ◌&&◌, ◌||◌, List, [], ◌∷◌, ℤ, pos, ◌-ℤ◌, neg_ℤ, ◌≤ℤ◌, ◌==◌, nat_le}
use Rattle.std.specs.Int.{int_min}
use Rattle.std.specs.List.{AllByRecursion}
use Rattle.coverage.specs.declared.rows.Debt.{Debt}
use Rattle.coverage.specs.declared.rows.Credit.{Credit}
use Rattle.coverage.specs.declared.rows.Guarantee.{Guarantee}
use Rattle.coverage.specs.Allocation.{Position, valid, total, amount_if}

-- What the debts of one period that are of this trading day or a later one come to.
abbrev pub owed : List Debt → ℕ → ℕ → ℕ
owed debts day period = total (λ x. amount_if (x.period == period && nat_le day x.day) x.grains) debts

-- What the credits of one period come to.
abbrev pub credited : List Credit → ℕ → ℕ
credited credits period = total (λ c. amount_if (c.period == period) c.grains) credits

-- What the guarantees that are valid on this day are worth.
abbrev pub guaranteed : List Guarantee → ℕ → ℕ
guaranteed guarantees day = total (λ g. amount_if (valid g day) g.worth) guarantees

-- What the debts of one period, of this day or later, exceed its credit by; `-` stops at 0.
abbrev pub excess : Position → ℕ → ℕ → ℕ
excess p day period = owed p.debts day period - credited p.credits period

-- The settlement periods in which something is owed, each once.
abbrev pub owes_in : List Debt → ℕ → Bool
owes_in [] period = false
owes_in (x ∷ xs) period = x.period == period || owes_in xs period

abbrev pub periods : List Debt → List ℕ
periods [] = []
periods (x ∷ xs) = cond (owes_in xs x.period) (periods xs) (x.period ∷ periods xs)

-- The sum over the periods of what the debts of this day or later exceed the credit by.
abbrev pub uncredited : Position → ℕ → ℕ
uncredited p day = total (excess p day) (periods p.debts)

-- The periods may be listed in any way, as long as each period of a debt stands in the list once: the sum is the same.
abbrev pub times : ℕ → List ℕ → ℕ
times q qs = total (λ r. amount_if (q == r) 1) qs

abbrev pub ListedOnce : List ℕ → List Debt → Type 0
ListedOnce qs debts = AllByRecursion (λ x. times x.period qs ≡ 1) debts

abbrev pub HoweverListed : Position → ℕ → Type 0
HoweverListed p day = (qs : List ℕ) → ListedOnce qs p.debts → total (excess p day) qs ≡ uncredited p day

-- The exposure is minus the sum over the periods of all debts above credit: every debt is of day 0 or later.
unfoldable pub exposure : Position → ℤ
exposure p = neg_ℤ (pos (uncredited p 0))

-- The credit position is the sum of all credits.
unfoldable pub credit_position : Position → ℤ
credit_position p = pos (total (λ c. c.grains) p.credits)

-- The capacity at a day: the guarantees valid on it, less what the debts of that day or later exceed the credits by, period by period.
abbrev pub capacity_at : Position → ℕ → ℤ
capacity_at p day = pos (guaranteed p.guarantees day) -ℤ pos (uncredited p day)

-- The capacity is the smallest over the days from the first to today.
unfoldable pub smallest_over : (ℕ → ℤ) → ℕ → ℕ → ℤ
smallest_over f first zero = f first
smallest_over f first (suc n) = int_min (smallest_over f first n) (f (first + suc n))

unfoldable pub capacity : Position → ℤ
capacity p = smallest_over (capacity_at p) p.first_day (p.today - p.first_day)

-- c is the smallest: no day has a smaller capacity, and one has this.
pub record SmallestOfTheDays (p : Position) (c : ℤ) : Type 0 where
  pub none_smaller : (day : ℕ) → p.first_day ≤ day → day ≤ p.today → c ≤ℤ capacity_at p day
  pub one_reaches : (day : ℕ) × (p.first_day ≤ day) × (day ≤ p.today) × (capacity_at p day ≡ c)
