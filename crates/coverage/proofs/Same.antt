-- The figures follow from the sums by day and period.
use Rattle.std.proofs.Common.{◌≡◌, ℕ, zero, suc, ◌+◌, ◌-◌, ◌<◌, eqb, List, [], ◌∷◌, ◌++◌, ℤ, pos, ◌-ℤ◌, neg_ℤ, sym, refl, ap, ◌∙◌, ap₂, arith}
use Rattle.std.specs.Int.{int_min}
use Rattle.std.specs.List.{AllByRecursion}
use Rattle.coverage.specs.declared.rows.Debt.{Debt}
use Rattle.coverage.specs.declared.rows.Credit.{Credit}
use Rattle.coverage.specs.Allocation.{Position, total, amount_if}
use Rattle.coverage.specs.Capacity.{credited, excess, periods, uncredited, ListedOnce, times, exposure, credit_position, capacity_at, smallest_over, capacity}
use Rattle.coverage.specs.Meaning.{SameSums, OnlySumsMatter}
use Rattle.coverage.proofs.Totals.{total_same_each}
use Rattle.coverage.proofs.Places.{sum_below, below_same, below_add, below_none, below_at}
use Rattle.coverage.proofs.Periods.{periods_once, however_listed}

-- the periods of two lists of debts serve for each of them
front_part : (P : Debt → Type 0) (xs ys : List Debt) → AllByRecursion P (xs ++ ys) → AllByRecursion P xs
front_part P [] ys h = tt
front_part P (x ∷ xs) ys h = (h.0, front_part P xs ys h.1)

back_part : (P : Debt → Type 0) (xs ys : List Debt) → AllByRecursion P (xs ++ ys) → AllByRecursion P ys
back_part P [] ys h = h
back_part P (x ∷ xs) ys h = back_part P xs ys h.1

same_uncredited : (p q : Position) → SameSums p q → (d : ℕ) → uncredited p d ≡ uncredited q d
same_uncredited p q same d =
    sym (however_listed p d qs (front_part (λ x. times x.period qs ≡ 1) p.debts q.debts once))
    ∙ total_same_each (excess p d) (excess q d) qs (λ r. ap₂ ◌-◌ (same.same_owed d r) (same.same_credited r))
    ∙ however_listed q d qs (back_part (λ x. times x.period qs ≡ 1) p.debts q.debts once)
  where
    qs : List ℕ
    qs = periods (p.debts ++ q.debts)

    once : ListedOnce qs (p.debts ++ q.debts)
    once = periods_once (p.debts ++ q.debts)

-- all credits are the credits of all periods
credits_by_period : (n : ℕ) (cs : List Credit) → AllByRecursion (λ c. c.period < n) cs → total (λ c. c.grains) cs ≡ sum_below n (credited cs)
credits_by_period n [] h = sym (below_none n (λ _. 0) (λ _ _. refl))
credits_by_period n (c ∷ cs) h =
    omega (
      arith,
      credits_by_period n cs h.1,
      below_add n (λ q. amount_if (eqb c.period q) c.grains) (credited cs),
      below_at n (λ _. c.grains) c.period h.0,
    )

below_all : (cs : List Credit) (n : ℕ) → total (λ c. c.period) cs < n → AllByRecursion (λ c. c.period < n) cs
below_all [] n h = tt
below_all (c ∷ cs) n h = (omega arith, below_all cs n (omega arith))

same_credits : (p q : Position) → SameSums p q → total (λ c. c.grains) p.credits ≡ total (λ c. c.grains) q.credits
same_credits p q same =
    let n : ℕ = suc (total (λ c. c.period) p.credits + total (λ c. c.period) q.credits) in
    credits_by_period n p.credits (below_all p.credits n (omega arith))
    ∙ below_same n (credited p.credits) (credited q.credits) (λ r _. same.same_credited r)
    ∙ sym (credits_by_period n q.credits (below_all q.credits n (omega arith)))

same_smallest : (f g : ℕ → ℤ) → ((d : ℕ) → f d ≡ g d) → (first n : ℕ) → smallest_over f first n ≡ smallest_over g first n
unfolding smallest_over
same_smallest f g h first zero = h first
same_smallest f g h first (suc n) = ap₂ int_min (same_smallest f g h first n) (h (first + suc n))

pub only_sums_matter : (p : Position) → OnlySumsMatter p
unfolding exposure credit_position capacity
only_sums_matter p q same =
    record {
      same_exposure = ap (λ n. neg_ℤ (pos n)) (same_uncredited p q same 0);
      same_credit_position = ap pos (same_credits p q same);
      same_capacity = same_smallest (capacity_at p) (capacity_at q) (λ d. ap₂ (λ m n. pos m -ℤ pos n) (same.same_guaranteed d) (same_uncredited p q same d)) p.first_day (p.today - p.first_day)
          ∙ ap₂ (λ f t. smallest_over (capacity_at q) f (t - f)) same.same_first_day same.same_today;
    }
