-- In a position within the limits the debts are dated, and the sums of the amounts are limited.
use Rattle.std.proofs.Common.{◌≡◌, ℕ, ◌*◌, ◌≤◌, ◌&&◌, eqb, leb, ap, sum_by, arith}
use Rattle.std.proofs.ByRecursion.{All-weaker, All-get_or}
use Rattle.std.proofs.lemmas.List.Elements.{All-from_recursion}
use Rattle.std.proofs.lemmas.List.Sums.{sum_by-le}
use Rattle.coverage.specs.declared.rows.Debt.{Debt}
use Rattle.coverage.specs.Allocation.{Position, total, amount_if}
use Rattle.coverage.specs.Admission.{Admissible}
use Rattle.coverage.specs.Meaning.{Dated}
use Rattle.coverage.specs.Capacity.{owed, excess, periods, times, uncredited}
use Rattle.coverage.proofs.Totals.{total_le, total_le_each, total_swap, if_and_le}
use Rattle.coverage.proofs.Totals.{total_is}
use Rattle.coverage.proofs.Periods.{periods_once, total_times}

module _ (p : Position) (fit : Admissible p) where
  -- its debts are dated
  pub dated : Dated p
  dated =
      record {
        in_order = fit.days_in_order;
        each_debt = All-weaker (λ x. (p.first_day ≤ x.day) × (x.day ≤ p.today) × (x.grains ≤ 32000000000000000)) (λ x. (p.first_day ≤ x.day) × (x.day ≤ p.today))
            (λ x h. (h.0, h.1)) p.debts fit.debts_in_range;
      }

  pub debts_limit : sum_by (λ x. x.grains) p.debts ≤ 8192000000000000000
  debts_limit = omega (
    arith,
    sum_by-le (λ x. x.grains) 32000000000000000 p.debts
        (λ k d l. (All-get_or (λ x. (p.first_day ≤ x.day) × (x.day ≤ p.today) × (x.grains ≤ 32000000000000000)) p.debts k d l fit.debts_in_range).2),
    fit.few_rows,
  )

  pub credits_limit : sum_by (λ c. c.grains) p.credits ≤ 8192000000000000000
  credits_limit = omega (arith, sum_by-le (λ c. c.grains) 32000000000000000 p.credits (All-from_recursion _ _ fit.credits_in_range), fit.few_rows)

  pub guarantees_limit : sum_by (λ g. g.worth) p.guarantees ≤ 640000000000000000
  guarantees_limit = omega (arith, sum_by-le (λ g. g.worth) 10000000000000000 p.guarantees (All-from_recursion _ _ fit.guarantees_in_range), fit.few_guarantees)

-- what the debts exceed the credits by is at most the debts: each debt counts in its own period alone
pub uncredited_le : (p : Position) (d : ℕ) → uncredited p d ≤ sum_by (λ x. x.grains) p.debts
uncredited_le p d =
    omega (
      arith,
      total_le_each (excess p d) (owed p.debts d) (periods p.debts) (λ q. omega arith),
      total_swap (λ q x. amount_if (eqb x.period q && leb d x.day) x.grains) (periods p.debts) p.debts,
      total_le (λ x. total (λ q. amount_if (eqb x.period q && leb d x.day) x.grains) (periods p.debts)) (λ x. x.grains) p.debts
          (All-weaker (λ x. times x.period (periods p.debts) ≡ 1) (λ x. total (λ q. amount_if (eqb x.period q && leb d x.day) x.grains) (periods p.debts) ≤ x.grains)
          each p.debts (periods_once p.debts)),
      total_is (λ x. x.grains) p.debts,
    )
  where
    each : (x : Debt) → times x.period (periods p.debts) ≡ 1 → total (λ q. amount_if (eqb x.period q && leb d x.day) x.grains) (periods p.debts) ≤ x.grains
    each x once =
        omega (
          arith,
          total_le_each (λ q. amount_if (eqb x.period q && leb d x.day) x.grains) (λ q. amount_if (eqb x.period q) x.grains) (periods p.debts)
              (λ q. if_and_le (eqb x.period q) (leb d x.day) x.grains),
          total_times x.period x.grains (periods p.debts),
          ap (λ n. n * x.grains) once,
        )
