-- The worth of guarantees falls with the days, so that the last day's is the smallest. Assumes nothing.
use Rattle.std.proofs.Common.{◌≡◌, ℕ, zero, suc, ◌+◌, ◌-◌, ◌≤◌, Bool, cond, ◌&&◌, eqb, List, [], ◌∷◌, Some, None, Option, sym, ap, ◌∙◌, arith}
use Rattle.std.proofs.lemmas.Bool.Decides.{nat_tests}
use Rattle.records.specs.declared.rows.Guarantee.{Guarantee}
use Rattle.records.specs.Rows.{valid, worth}
use Rattle.records.specs.State.{State}
use Rattle.records.specs.Capacity.{guaranteed, guaranteed_on, capacity, least, LeastOver}

valid_falls : (o : Option ℕ) (d e w : ℕ) (b : Bool) → d ≤ e → cond (b && valid e o) w 0 ≤ cond (b && valid d o) w 0
valid_falls None d e w b h = grind (arith, nat_tests)
valid_falls (Some last) d e w b h = grind (arith, nat_tests)

pub guaranteed_falls : (margin share participant : ℕ) (gs : List Guarantee) (d e : ℕ) → d ≤ e →
    guaranteed margin share participant gs e ≤ guaranteed margin share participant gs d
guaranteed_falls margin share participant [] d e h = omega arith
guaranteed_falls margin share participant (g ∷ gs) d e h =
    let one = valid_falls g.last_day d e (worth margin share g.cents) (eqb g.participant participant) h in
    let rest = guaranteed_falls margin share participant gs d e h in omega arith

module _ (figure : ℕ → ℕ) (falls : (d e : ℕ) → d ≤ e → figure e ≤ figure d) where
  least_at_end : (first n : ℕ) → least figure first n ≡ figure (first + n)
  unfolding least
  least_at_end first zero = ap figure (omega arith)
  least_at_end first (suc n) = let rest = least_at_end first n in let f = falls (first + n) (first + suc n) (omega arith) in omega arith

  -- the smallest value of a figure that falls is that of the last day
  pub least_is_last : (first last : ℕ) → first ≤ last → least figure first (last - first) ≡ figure last
  least_is_last first last h = least_at_end first (last - first) ∙ ap figure (omega arith)

  pub least_over_days : (first last : ℕ) → first ≤ last → LeastOver figure first last (least figure first (last - first))
  least_over_days first last h =
      let e = least_is_last first last h in
      record { reached = (last, h, omega arith, sym e); none_below = λ day from to. rw e (falls day last to) }

module _ {R C : Type 0} (s : State R C) (participant : ℕ) (since : s.terms.first_day ≤ s.today) where
  falls_daily : (d e : ℕ) → d ≤ e → guaranteed_on s participant e ≤ guaranteed_on s participant d
  falls_daily d e h = guaranteed_falls _ _ participant s.guarantees d e h

  -- the capacity is what the guarantees are worth today
  pub capacity_today : capacity s participant ≡ guaranteed_on s participant s.today
  capacity_today = least_is_last (guaranteed_on s participant) falls_daily s.terms.first_day s.today since

  pub capacity_is_least : LeastOver (guaranteed_on s participant) s.terms.first_day s.today (capacity s participant)
  capacity_is_least = least_over_days (guaranteed_on s participant) falls_daily s.terms.first_day s.today since
