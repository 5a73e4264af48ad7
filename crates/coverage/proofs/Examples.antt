-- The two worked figures.
use Rattle.std.proofs.Common.{◌≡◌, ℕ, zero, suc, ◌+◌, ◌<◌, ◌≤◌, T, eqb, List, [], ◌∷◌, ℤ, is_some, IfSome, Some, None, Decides, Option, refl, ap, ◌∙◌, rules, arith}
use Rattle.std.specs.List.{AllByRecursion}
use Rattle.std.proofs.lemmas.Bool.{false≢true}
use Rattle.std.proofs.lemmas.Bool.Decides.{nat_tests}
use Rattle.coverage.specs.Admission.{Admissible}
use Rattle.coverage.specs.Allocation.{Position, Row, Allocation, Covers, ValidOnItsDay, OfItsPeriod, valid, amount_if, given, taken, debt_at, guarantee_at}
use Rattle.coverage.specs.Capacity.{capacity, smallest_over}
use Rattle.coverage.specs.Figures.{ends_too_early, EndsTooEarly, one_credit_two_debts, credit_to_the_later, CreditForTheLater}

-- where a capacity is answered, it is the one that the definition gives
pub answered : (p : Position) (r : Option ℤ) (z : ℤ) → Decides (is_some r) (Admissible p) → IfSome r (λ c. c ≡ capacity p) → Admissible p → capacity p ≡ z → r ≡ Some z
answered p None z some is fit e = absurd (false≢true (some.1 fit))
answered p (Some c) z some is fit e = ap Some (is ∙ e)

pub ends_too_early_fits : Admissible ends_too_early
ends_too_early_fits = search rules

pub ends_too_early_is : EndsTooEarly
unfolding capacity smallest_over
ends_too_early_is = record { capacity_is_minus_one = refl; one_sum_would_say_four = refl }

pub one_credit_two_debts_fits : Admissible one_credit_two_debts
one_credit_two_debts_fits = search rules

to_the_later : Covers one_credit_two_debts credit_to_the_later
to_the_later = search rules

-- the guarantee is not valid on the later debt's day
no_guarantee_row : (s d n : ℕ) → s < 1 → d < 2 → T (valid (guarantee_at one_credit_two_debts s) (debt_at one_credit_two_debts d).day) → amount_if (eqb d 1) n ≡ 0
no_guarantee_row zero zero n ls ld h = refl
no_guarantee_row zero (suc zero) n ls ld h = absurd h
no_guarantee_row zero (suc (suc d)) n ls ld h = absurd (omega arith)
no_guarantee_row (suc s) d n ls ld h = absurd (omega arith)

no_guarantee_late : (rows : List Row) → AllByRecursion (ValidOnItsDay one_credit_two_debts) rows → given rows 1 ≡ 0
no_guarantee_late [] h = refl
no_guarantee_late (r ∷ rows) h = omega (arith, no_guarantee_row r.source r.debt r.grains h.0.0 h.0.1 h.0.2, no_guarantee_late rows h.1)

-- what the credit gives to both debts is taken from it
credit_row : (s d n : ℕ) → s < 1 → d < 2 → amount_if (eqb d 0) n + amount_if (eqb d 1) n ≤ amount_if (eqb s 0) n
credit_row s d n ls ld = grind (arith, nat_tests)

credit_to_both : (rows : List Row) → AllByRecursion (OfItsPeriod one_credit_two_debts) rows → given rows 0 + given rows 1 ≤ taken rows 0
credit_to_both [] h = omega arith
credit_to_both (r ∷ rows) h = omega (arith, credit_row r.source r.debt r.grains h.0.0 h.0.1, credit_to_both rows h.1)

to_the_earlier_never : (a : Allocation) → 0 < given a.of_credits 0 → Covers one_credit_two_debts a → ⊥
to_the_earlier_never a some covers =
    omega (
      arith,
      no_guarantee_late a.of_guarantees covers.permitted.guarantees_in_time,
      covers.debts_in_full 1 (omega arith),
      credit_to_both a.of_credits covers.permitted.credits_in_period,
      covers.permitted.credits_once 0 (omega arith),
    )

pub credit_for_the_later_is : CreditForTheLater
unfolding capacity smallest_over
credit_for_the_later_is = record { capacity_is_zero = refl; to_the_later_covers = to_the_later; to_the_earlier_never = to_the_earlier_never }
