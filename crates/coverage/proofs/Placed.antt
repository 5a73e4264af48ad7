-- From the lists of a position to amounts by place, and back.
use Rattle.std.proofs.Common.{◌≡◌, ℕ, ◌-◌, ◌<◌, ◌≤◌, Bool, true, false, ◌&&◌, T, eqb, leb, length, Option, refl, ap₂, arith}
use Rattle.std.proofs.lemmas.Float.{T_from_true}
use Rattle.std.proofs.ByRecursion.{All-weaker, All-get_or}
use Rattle.std.proofs.lemmas.Bool.Decides.{nat_tests}
use Rattle.coverage.specs.Allocation.{Position, Coverable, ValidOnItsDay, valid, valid_up_to, amount_if, debt_at, credit_at, guarantee_at, no_debt, no_credit, no_guarantee}
use Rattle.coverage.specs.Capacity.{guaranteed, excess, periods, uncredited, times}
use Rattle.coverage.proofs.Totals.{total_same_each}
use Rattle.coverage.proofs.Places.{sum_below, total_places}
use Rattle.coverage.proofs.Periods.{periods_once}
use Rattle.coverage.proofs.Allocated as by_place

-- what is valid on a day is valid on every day before
pub valid_before : (last : Option ℕ) (s t : ℕ) → s ≤ t → valid_up_to last t ≡ true → valid_up_to last s ≡ true
valid_before last s t h e = grind (arith, nat_tests)

T_true : (b : Bool) → T b → b ≡ true
T_true true h = refl
T_true false h = absurd h

module _ (p : Position) where
  abbrev terms : by_place.Terms
  terms =
      record {
        debts = length p.debts;
        day = λ j. (debt_at p j).day;
        period = λ j. (debt_at p j).period;
        guarantees = length p.guarantees;
        valid = λ i t. valid (guarantee_at p i) t;
        credits = length p.credits;
        earned = λ k. (credit_at p k).period;
        periods = periods p.debts;
        valid_before = λ i s t h e. valid_before (guarantee_at p i).last s t h e;
        once = λ j h. All-get_or (λ x. times x.period (periods p.debts) ≡ 1) p.debts j no_debt h (periods_once p.debts);
      }

  abbrev debts : ℕ → ℕ
  debts j = (debt_at p j).grains

  abbrev credits : ℕ → ℕ
  credits k = (credit_at p k).grains

  abbrev guarantees : ℕ → ℕ
  guarantees i = (guarantee_at p i).worth

  guaranteed_is : (d : ℕ) → guaranteed p.guarantees d ≡ by_place.guaranteed terms guarantees d
  guaranteed_is d = total_places (λ g. amount_if (valid g d) g.worth) no_guarantee p.guarantees

  uncredited_is : (d : ℕ) → uncredited p d ≡ by_place.uncredited terms debts credits d
  uncredited_is d =
      total_same_each (excess p d) (λ q. by_place.owed terms debts d q - by_place.credited terms credits q) (periods p.debts)
      (λ q. ap₂ ◌-◌
      (total_places (λ x. amount_if (eqb x.period q && leb d x.day) x.grains) no_debt p.debts)
      (total_places (λ c. amount_if (eqb c.period q) c.grains) no_credit p.credits))

  allocated : Coverable p → by_place.Allocated terms debts guarantees credits
  allocated (a, c) =
      record {
        gs = a.of_guarantees;
        cs = a.of_credits;
        in_time = All-weaker (ValidOnItsDay p) (by_place.InTime terms)
            (λ r h. (h.0, h.1, T_true (valid (guarantee_at p r.source) (debt_at p r.debt).day) h.2)) a.of_guarantees c.permitted.guarantees_in_time;
        in_period = c.permitted.credits_in_period;
        gs_once = c.permitted.guarantees_once;
        cs_once = c.permitted.credits_once;
        in_full = c.debts_in_full;
      }

  coverable : by_place.Allocated terms debts guarantees credits → Coverable p
  coverable A = (
    record { of_guarantees = A.gs; of_credits = A.cs },
    record {
      permitted = record {
        guarantees_in_time = All-weaker (by_place.InTime terms) (ValidOnItsDay p)
            (λ r h. (h.0, h.1, T_from_true (valid (guarantee_at p r.source) (debt_at p r.debt).day) h.2)) A.gs A.in_time;
        credits_in_period = A.in_period;
        guarantees_once = A.gs_once;
        credits_once = A.cs_once;
      };
      debts_in_full = A.in_full;
    },
  )

  -- where an allocation covers, the guarantees suffice on every day whatever
  pub needed : Coverable p → (d : ℕ) → uncredited p d ≤ guaranteed p.guarantees d
  needed h d = omega (arith, by_place.necessary terms debts guarantees credits (allocated h) d, uncredited_is d, guaranteed_is d)

  -- where they suffice on the debts' days, an allocation covers
  pub enough : ((j : ℕ) → j < length p.debts → uncredited p (debt_at p j).day ≤ guaranteed p.guarantees (debt_at p j).day) → Coverable p
  enough h =
      coverable (by_place.sufficient terms (sum_below (length p.debts) debts) debts guarantees credits refl
      (λ j l. omega (arith, h j l, uncredited_is (debt_at p j).day, guaranteed_is (debt_at p j).day)))
