-- A participant's position as a call answers it. Assumes nothing.
use Rattle.std.specs.Prelude.{◌≡◌, ℕ, zero, suc, ◌+◌, ◌-◌, ◌≤◌, min, cond, ◌&&◌, List, [], ◌∷◌, pos, Some, None, Option, ◌==◌}
use Rattle.records.specs.declared.answer.Answer.{Answer}
use Rattle.records.specs.declared.answer.Status.TheVariants.{New}
use Rattle.records.specs.declared.rows.Participant.{Participant}
use Rattle.records.specs.declared.rows.Guarantee.{Guarantee}
use Rattle.records.specs.Tables.{find}
use Rattle.records.specs.Rows.{is_participant, valid, worth}
use Rattle.records.specs.State.{State}

-- the worth of a guarantee to a participant on a day: nothing where it is another's or no longer valid
abbrev pub worth_on : ℕ → ℕ → ℕ → ℕ → Guarantee → ℕ
worth_on margin share participant day g =
    cond (g.participant == participant && valid day g.last_day) (worth margin share g.cents) 0

-- the worth together of those guarantees of a list
abbrev pub guaranteed : ℕ → ℕ → ℕ → List Guarantee → ℕ → ℕ
guaranteed margin share participant [] day = 0
guaranteed margin share participant (g ∷ gs) day =
    worth_on margin share participant day g + guaranteed margin share participant gs day

-- the smallest that a figure is on the days from the first to n days later
unfoldable pub least : (ℕ → ℕ) → ℕ → ℕ → ℕ
least figure first zero = figure first
least figure first (suc n) = min (least figure first n) (figure (first + suc n))

-- A figure's smallest value over the days from the first to the last: it is reached, and no day's is below it.
pub record LeastOver (figure : ℕ → ℕ) (first last : ℕ) (value : ℕ) : Type 0 where
  pub reached : (day : ℕ) × (first ≤ day) × (day ≤ last) × (figure day ≡ value)
  pub none_below : (day : ℕ) → first ≤ day → day ≤ last → value ≤ figure day

-- a participant's share, 0 where there is no such participant
abbrev pub share_of : Option Participant → ℕ
share_of None = 0
share_of (Some row) = row.share

module _ {R C : Type 0} where
  -- the worth of the participant's guarantees that are valid on a day
  abbrev pub guaranteed_on : State R C → ℕ → ℕ → ℕ
  guaranteed_on s participant day =
      guaranteed s.terms.margin (share_of (find (is_participant participant) s.participants)) participant s.guarantees day

  -- The capacity, with no debts: the smallest worth that the participant's guarantees have on a day from the first to today.
  abbrev pub capacity : State R C → ℕ → ℕ
  capacity s participant = least (guaranteed_on s participant) s.terms.first_day (s.today - s.terms.first_day)

  -- the position that a call answers; with no debts yet there is no exposure and no credit
  abbrev pub position : State R C → ℕ → Answer
  position s participant = record {
    status = New;
    exposure = pos 0;
    credit_position = pos 0;
    capacity = pos (capacity s participant);
  }
