-- The answer to a call, from the figures that the code works out. Assumes nothing.
use Rattle.std.proofs.Common.{◌≡◌, ℕ, ◌*◌, ◌^◌, ◌<◌, ◌≤◌, true, List, length, get_or, sum_by, None, ℤ, pos, refl, sym, ap, ◌∙◌, arith, w64, to_z}
use Rattle.std.proofs.lemmas.Int.{to_z_pos}
use Rattle.std.proofs.lemmas.List.Sums.{sum_by-le}
use Rattle.std.proofs.lemmas.List.Recursion.{is_sum_by}
use Rattle.std.proofs.lemmas.List.Elements.{All-from_get_or}
use Rattle.records.specs.declared.answer.Answer.{Answer}
use Rattle.records.specs.declared.answer.Status.TheVariants.{New}
use Rattle.records.specs.declared.rows.Guarantee.{Guarantee}
use Rattle.records.specs.declared.rows.Participant.{Participant}
use Rattle.records.specs.Rows.{is_participant, amounts_in_range}
use Rattle.records.specs.Tables.{find}
use Rattle.records.specs.State.{State, with_tables}
use Rattle.records.specs.Capacity.{share_of, worth_on, guaranteed, position}
use Rattle.records.proofs.Capacities.{capacity_today}
use Rattle.records.proofs.Ranges.{worth_bound, amount_at}

module _ (margin share participant day : ℕ) where
  -- the worth of all is the sum of what each is worth, and each is worth at most 10^16
  pub guaranteed_sum : (gs : List Guarantee) → guaranteed margin share participant gs day ≡ sum_by (worth_on margin share participant day) gs
  guaranteed_sum gs = is_sum_by (λ rows. guaranteed margin share participant rows day) (worth_on margin share participant day) refl (λ _ _. refl) gs

  worth_most : (g : Guarantee) → share ≤ 1000 → g.cents ≤ 100000000000 → worth_on margin share participant day g ≤ 10000000000000000
  worth_most g s c = let b = worth_bound margin share g.cents s c in grind arith

  pub guaranteed_most : (gs : List Guarantee) → share ≤ 1000 → amounts_in_range gs ≡ true → guaranteed margin share participant gs day ≤ length gs * 10000000000000000
  guaranteed_most gs s amounts =
      let none : Guarantee = record { participant = 0; number = 0; cents = 0; last_day = None } in
      rw (guaranteed_sum gs) (sum_by-le (worth_on margin share participant day) 10000000000000000 gs
      (All-from_get_or (λ g. worth_on margin share participant day g ≤ 10000000000000000) gs none (λ i within. worth_most (get_or gs i none) s (amount_at gs i none amounts within))))

-- with no exposure and no credit
abbrev pub free : ℤ → Answer
free capacity = record { status = New; exposure = pos 0; credit_position = pos 0; capacity = capacity }

pub position_today : {R C : Type 0} (s : State R C) (participant share worth : ℕ) → s.terms.first_day ≤ s.today → share ≡ share_of (find (is_participant participant) s.participants) →
    worth ≡ guaranteed s.terms.margin share participant s.guarantees s.today → worth ≤ 640000000000000000 → free (to_z w64 worth) ≡ position s participant
position_today s participant share worth since of_share of_worth bound =
    let today : worth ≡ guaranteed s.terms.margin (share_of (find (is_participant participant) s.participants)) participant s.guarantees s.today = cc in
    let small : worth < 2 ^ 63 = omega arith in
    ap free (to_z_pos w64 worth small ∙ ap pos (today ∙ sym (capacity_today s participant since)))

-- a book with equal tables
pub same_tables : {R C : Type 0} (s : State R C) {ps qs : List Participant} {gs hs : List Guarantee} → ps ≡ qs → gs ≡ hs → with_tables s ps gs ≡ with_tables s qs hs
same_tables s p q = cc
