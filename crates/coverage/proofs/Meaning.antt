-- What the capacity means: the theorems.
use Rattle.std.proofs.Common.{◌≡◌, ℕ, suc, ◌+◌, ◌<◌, ◌≤◌, false, ◌↔◌, List, [], ◌∷◌, ℤ, pos, neg_ℤ, ◌≤ℤ◌, refl, ap, ◌∙◌, ap₂, arith}
use borrow.Author.Differences.{ints}
use lib.Signed.{clash_ℤ}
use Rattle.std.specs.List.{AllZip, AllByRecursion}
use Rattle.std.proofs.lemmas.Bool.{cond-false}
use Rattle.std.proofs.ByRecursion.{All-weaker, All-get_or}
use Rattle.std.proofs.lemmas.Bool.Decides.{nat_tests}
use Rattle.coverage.specs.declared.rows.Debt.{Debt}
use Rattle.coverage.specs.declared.rows.Credit.{Credit}
use Rattle.coverage.specs.Allocation.{Position, Coverable, debt_at, no_debt, total, amount_if}
use Rattle.coverage.specs.Capacity.{owed, credited, excess, owes_in, periods, uncredited, times, ListedOnce, capacity_at, SmallestOfTheDays}
use Rattle.coverage.specs.Meaning.{Dated, CoveredExactlyFromZero, BelowZeroNoneCovers, UnusedPeriod, LargestFurtherDebt, SmallestFurtherGuarantee, AtMost, SmallerDebtsStayCovered, with_debt, with_guarantee, with_debts}
use Rattle.coverage.proofs.Totals.{total_same, total_le_each}
use Rattle.coverage.proofs.Periods.{times_periods, periods_once, owed_nowhere, however_listed}
use Rattle.coverage.proofs.Placed.{needed, enough}

-- An allocation covers exactly when no day's capacity is below 0.

from_every_day : (p : Position) → Dated p → ((d : ℕ) → p.first_day ≤ d → d ≤ p.today → pos 0 ≤ℤ capacity_at p d) → Coverable p
from_every_day p dated h =
    enough p (λ j l.
    let w : (p.first_day ≤ (debt_at p j).day) × ((debt_at p j).day ≤ p.today) = All-get_or (λ x. (p.first_day ≤ x.day) × (x.day ≤ p.today)) p.debts j no_debt l dated.each_debt in
    omega (arith, ints, h (debt_at p j).day w.0 w.1))

pub covered_exactly_from_zero : (p : Position) (c : ℤ) → Dated p → SmallestOfTheDays p c → CoveredExactlyFromZero p c
covered_exactly_from_zero p c dated least = (
  (λ h. omega (arith, ints, least.one_reaches.3, needed p h least.one_reaches.0)),
  (λ h. from_every_day p dated (λ d f t. omega (arith, ints, least.none_smaller d f t))),
)

pub below_zero_none_covers : (p : Position) (c : ℤ) → Dated p → SmallestOfTheDays p c → BelowZeroNoneCovers p c
below_zero_none_covers p c dated least below a covers = clash_ℤ below ((covered_exactly_from_zero p c dated least).0 (a, covers))

-- A further guarantee without last day raises the capacity of every day by its worth.

covered_with_guarantee : (p : Position) (c : ℤ) → Dated p → SmallestOfTheDays p c → (m : ℕ) → Coverable (with_guarantee p m) ↔ (neg_ℤ c ≤ℤ pos m)
covered_with_guarantee p c dated least m = (
  (λ h. omega (arith, ints, least.one_reaches.3, needed (with_guarantee p m) h least.one_reaches.0)),
  (λ h. from_every_day (with_guarantee p m) (record { in_order = dated.in_order; each_debt = dated.each_debt }) (λ d f t. omega (arith, ints, least.none_smaller d f t))),
)

pub smallest_further_guarantee : (p : Position) (c : ℤ) → Dated p → SmallestOfTheDays p c → SmallestFurtherGuarantee p c
smallest_further_guarantee p c dated least n e =
    record {
      holds = (covered_with_guarantee p c dated least (suc n)).1 (omega (arith, ints));
      none_smaller = λ m l h. absurd (omega (arith, ints, (covered_with_guarantee p c dated least m).0 h));
    }

-- A further debt of today in a period of its own lowers the capacity of every day by its amount.

-- where no row is of a period, there is no debt and no credit in it
no_debt_in : (q : ℕ) (xs : List Debt) → AllByRecursion (λ x. x.period ≡ q → ⊥) xs → owes_in xs q ≡ false
no_debt_in q [] h = refl
no_debt_in q (x ∷ xs) h = grind (arith, nat_tests, no_debt_in q xs h.1, h.0)

no_credit_in : (q : ℕ) (cs : List Credit) → AllByRecursion (λ c. c.period ≡ q → ⊥) cs → credited cs q ≡ 0
no_credit_in q [] h = refl
no_credit_in q (c ∷ cs) h = grind (arith, nat_tests, no_credit_in q cs h.1, h.0)

-- a period that stands nowhere in a list of periods differs from each of them
differ : (q : ℕ) (qs : List ℕ) → times q qs ≡ 0 → AllByRecursion (λ r. q ≡ r → ⊥) qs
differ q [] h = tt
differ q (r ∷ qs) h = ((λ e. grind (arith, nat_tests)), differ q qs (omega arith))

module _ (p : Position) (q : ℕ) (unused : UnusedPeriod p q) (n : ℕ) where
  not_owed : owes_in p.debts q ≡ false
  not_owed = no_debt_in q p.debts unused.no_debts

  -- in another period nothing changes
  excess_elsewhere : (d r : ℕ) → (q ≡ r → ⊥) → excess (with_debt p q n) d r ≡ excess p d r
  excess_elsewhere d r ne = grind (arith, nat_tests)

  -- in its own period, the debt exceeds the credit whole
  excess_there : (d : ℕ) → d ≤ p.today → excess (with_debt p q n) d q ≡ n
  excess_there d by = grind (arith, nat_tests, owed_nowhere p.debts d q not_owed, no_credit_in q p.credits unused.no_credits)

  uncredited_more : (d : ℕ) → d ≤ p.today → uncredited (with_debt p q n) d ≡ n + uncredited p d
  uncredited_more d by =
      ap (total (excess (with_debt p q n) d)) (cond-false (owes_in p.debts q) (periods p.debts) (q ∷ periods p.debts) not_owed)
      ∙ ap₂ ◌+◌ (excess_there d by)
      (total_same (excess (with_debt p q n) d) (excess p d) (periods p.debts)
      (All-weaker (λ r. q ≡ r → ⊥) (λ r. excess (with_debt p q n) d r ≡ excess p d r) (excess_elsewhere d) (periods p.debts)
      (differ q (periods p.debts) (times_periods p.debts q ∙ ap (λ t. amount_if t 1) not_owed))))

  covered_with_debt : (c : ℤ) → Dated p → SmallestOfTheDays p c → Coverable (with_debt p q n) ↔ (pos n ≤ℤ c)
  covered_with_debt c dated least = (
    (λ h. omega (
      arith,
      ints,
      least.one_reaches.3,
      needed (with_debt p q n) h least.one_reaches.0,
      uncredited_more least.one_reaches.0 least.one_reaches.2,
    )),
    (λ h. from_every_day (with_debt p q n) still_dated (λ d f t. omega (arith, ints, least.none_smaller d f t, uncredited_more d t))),
  )
    where
      still_dated : Dated (with_debt p q n)
      still_dated = record { in_order = dated.in_order; each_debt = ((dated.in_order, omega arith), dated.each_debt) }

-- there is a period of its own: one past the sum of all
past_all : {X : Type 0} (period : X → ℕ) (xs : List X) (q : ℕ) → total period xs < q → AllByRecursion (λ x. period x ≡ q → ⊥) xs
past_all period [] q h = tt
past_all period (x ∷ xs) q h = ((λ e. absurd (omega arith)), past_all period xs q (omega arith))

some_period : (p : Position) → (q : ℕ) × UnusedPeriod p q
some_period p = (
  suc (total (λ x. x.period) p.debts + total (λ c. c.period) p.credits),
  record {
    no_debts = past_all (λ x. x.period) p.debts _ (omega arith);
    no_credits = past_all (λ c. c.period) p.credits _ (omega arith);
  },
)

pub largest_further_debt : (p : Position) (c : ℤ) → Dated p → SmallestOfTheDays p c → LargestFurtherDebt p c
largest_further_debt p c dated least =
    record {
      some_period = some_period p;
      in_any_such = λ n e q unused.
          record {
            holds = (covered_with_debt p q unused n c dated least).1 (omega (arith, ints));
            none_larger = λ m l h. absurd (omega (arith, ints, (covered_with_debt p q unused m c dated least).0 h));
          };
    }

-- Smaller debts.

smaller_owed : (d q : ℕ) (xs ys : List Debt) → AllZip AtMost xs ys → owed xs d q ≤ owed ys d q
smaller_owed d q [] [] h = omega arith
smaller_owed d q [] (y ∷ ys) h = absurd h
smaller_owed d q (x ∷ xs) [] h = absurd h
smaller_owed d q (x ∷ xs) (y ∷ ys) h = grind (arith, nat_tests, smaller_owed d q xs ys h.1, h.0.same_day, h.0.same_period, h.0.no_larger)

smaller_once : (qs : List ℕ) (xs ys : List Debt) → AllZip AtMost xs ys → ListedOnce qs ys → ListedOnce qs xs
smaller_once qs [] [] h k = tt
smaller_once qs [] (y ∷ ys) h k = absurd h
smaller_once qs (x ∷ xs) [] h k = absurd h
smaller_once qs (x ∷ xs) (y ∷ ys) h k = (ap (λ q. times q qs) h.0.same_period ∙ k.0, smaller_once qs xs ys h.1 k.1)

pub smaller_debts_stay_covered : (p : Position) → SmallerDebtsStayCovered p
smaller_debts_stay_covered p xs smaller covered =
    enough (with_debts p xs) (λ j _. omega (arith, needed p covered (debt_at (with_debts p xs) j).day, less (debt_at (with_debts p xs) j).day))
  where
    less : (d : ℕ) → uncredited (with_debts p xs) d ≤ uncredited p d
    less d =
        omega (
          arith,
          however_listed (with_debts p xs) d (periods p.debts) (smaller_once (periods p.debts) xs p.debts smaller (periods_once p.debts)),
          total_le_each (excess (with_debts p xs) d) (excess p d) (periods p.debts) (λ q. omega (arith, smaller_owed d q xs p.debts smaller)),
        )
