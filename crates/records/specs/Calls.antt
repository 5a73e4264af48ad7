-- What each call refuses, what it does to the book, and what it answers. Assumes nothing.
use Rattle.std.specs.Prelude.{◌≡◌, ℕ, Bool, false, not, List, [], ◌∷◌, ◌++◌, length, ℤ, is_some, Some, None, Ok, Err, Option, Result, nat_le, nat_lt, unsigned_abs}
use Rattle.records.specs.declared.answer.Answer.{Answer}
use Rattle.records.specs.declared.call.Call.{Call}
use Rattle.records.specs.declared.call.Call.TheVariants.{Admit, Post, Return, Query}
use Rattle.records.specs.declared.call.Terms.{Terms}
use Rattle.records.specs.declared.fault.Fault.{Fault}
use Rattle.records.specs.declared.fault.Fault.TheVariants.{NumberOutOfRange, PriceOutOfRange, RateOutOfRange, AmountOutOfRange, DayOutOfRange, UnknownParticipant, AlreadyAdmitted, UnknownGuarantee, NumberUsed, DayPast, TableFull}
use Rattle.records.specs.declared.rows.Participant.{Participant}
use Rattle.records.specs.Refusals.{Cause, ◌when◌, rank, due, outside, Smallest}
use Rattle.records.specs.Tables.{find, change, remove}
use Rattle.records.specs.Rows.{is_participant, is_guarantee, valid}
use Rattle.records.specs.State.{State, with_tables}
use Rattle.records.specs.Capacity.{position}

-- a price beyond 400,000 cents per MWh either way
unfoldable pub price_outside : ℤ → Bool
price_outside price = nat_lt 400000 (unsigned_abs price)

-- a last day after the last day that there is; a missing one is none
abbrev pub day_outside : Option ℕ → Bool
day_outside None = false
day_outside (Some day) = outside 0 40000 day

-- What can be wrong with the terms by themselves. The places are those of a line: the letter, the market, the margin, the
-- first day and the reference price.
abbrev pub terms_input : Terms → List (Cause Fault)
terms_input terms =
    (PriceOutOfRange 5 when price_outside terms.reference) ∷
    (RateOutOfRange 3 when outside 0 99 terms.margin) ∷
    (DayOutOfRange (Some 4) when outside 0 40000 terms.first_day) ∷ []

-- What can be wrong with a call's arguments by themselves. A participant's number is from 1 to 65,535, a guarantee's from 1
-- to 4,294,967,295, an amount from 1 to 100,000,000,000 cents.
abbrev pub input : Call → List (Cause Fault)
input (Admit participant vat share) =
    (NumberOutOfRange 2 when outside 1 65535 participant) ∷
    (RateOutOfRange 3 when outside 0 99 vat) ∷
    (RateOutOfRange 4 when outside 0 1000 share) ∷ []
input (Post participant guarantee last_day cents) =
    (NumberOutOfRange 2 when outside 1 65535 participant) ∷
    (NumberOutOfRange 3 when outside 1 4294967295 guarantee) ∷
    (AmountOutOfRange 5 when outside 1 100000000000 cents) ∷
    (DayOutOfRange (Some 4) when day_outside last_day) ∷ []
input (Return participant guarantee) =
    (NumberOutOfRange 2 when outside 1 65535 participant) ∷
    (NumberOutOfRange 3 when outside 1 4294967295 guarantee) ∷ []
input (Query participant) = (NumberOutOfRange 2 when outside 1 65535 participant) ∷ []

-- the last guarantee number that a participant has used
abbrev pub last_guarantee : Option Participant → ℕ
last_guarantee None = 0
last_guarantee (Some row) = row.last_guarantee

-- a participant as it is admitted
abbrev pub admitted : ℕ → ℕ → ℕ → Participant
admitted participant vat share = record {
  number = participant;
  vat = vat;
  share = share;
  last_proposal = 0;
  last_guarantee = 0;
}

-- a participant that has used a guarantee number
abbrev pub having_posted : ℕ → Participant → Participant
having_posted guarantee row = record {
  number = row.number;
  vat = row.vat;
  share = row.share;
  last_proposal = row.last_proposal;
  last_guarantee = guarantee;
}

-- whose position a call answers
abbrev pub participant_of : Call → ℕ
participant_of (Admit participant vat share) = participant
participant_of (Post participant guarantee last_day cents) = participant
participant_of (Return participant guarantee) = participant
participant_of (Query participant) = participant

module _ {R C : Type 0} where
  abbrev pub known : State R C → ℕ → Bool
  known s participant = is_some (find (is_participant participant) s.participants)

  -- what can be wrong with a call in the state of the book
  abbrev pub not_admissible : State R C → ℕ → List (Cause Fault)
  not_admissible s participant =
      (AlreadyAdmitted when known s participant) ∷
      (TableFull when nat_le 32 (length s.participants)) ∷ []

  -- a guarantee is too late when it is no longer valid today
  abbrev pub not_postable : State R C → ℕ → ℕ → Option ℕ → List (Cause Fault)
  not_postable s participant guarantee last_day =
      (UnknownParticipant when not (known s participant)) ∷
      (NumberUsed when nat_le guarantee (last_guarantee (find (is_participant participant) s.participants))) ∷
      (DayPast when not (valid s.today last_day)) ∷
      (TableFull when nat_le 64 (length s.guarantees)) ∷ []

  abbrev pub not_returnable : State R C → ℕ → ℕ → List (Cause Fault)
  not_returnable s participant guarantee =
      (UnknownParticipant when not (known s participant)) ∷
      (UnknownGuarantee when not (is_some (find (is_guarantee participant guarantee) s.guarantees))) ∷ []

  abbrev pub not_known : State R C → ℕ → List (Cause Fault)
  not_known s participant = (UnknownParticipant when not (known s participant)) ∷ []

  abbrev pub against : Call → State R C → List (Cause Fault)
  against (Admit participant vat share) s = not_admissible s participant
  against (Post participant guarantee last_day cents) s = not_postable s participant guarantee last_day
  against (Return participant guarantee) s = not_returnable s participant guarantee
  against (Query participant) s = not_known s participant

  -- all that a call can be refused for
  abbrev pub causes : Call → State R C → List (Cause Fault)
  causes call s = input call ++ against call s

  -- the book after a call that is carried out
  abbrev pub carried : Call → State R C → State R C
  carried (Admit participant vat share) s =
      with_tables s (s.participants ++ (admitted participant vat share ∷ [])) s.guarantees
  carried (Post participant guarantee last_day cents) s =
      with_tables s (change (is_participant participant) (having_posted guarantee) s.participants)
      (s.guarantees ++ (record { participant = participant; number = guarantee; cents = cents; last_day = last_day } ∷ []))
  carried (Return participant guarantee) s =
      with_tables s s.participants (remove (is_guarantee participant guarantee) s.guarantees)
  carried (Query participant) s = s

  -- what a call does and answers, by the fault due
  abbrev pub Outcome : Call → State R C → Option Fault → Result Answer Fault → State R C → Type 0
  Outcome call before (Some fault) r after = (r ≡ Err fault) × (after ≡ before)
  Outcome call before None r after = (r ≡ Ok (position (carried call before) (participant_of call))) × (after ≡ carried call before)

  -- What a call promises, from the book before it to the book after it: with a fault due it answers that fault, the one of
  -- the smallest number, and the book stays; with none due it is carried out and answers the position after it.
  pub record Performs (call : Call) (before : State R C) (r : Result Answer Fault) (after : State R C) : Type 0 where
    pub smallest : Smallest rank (causes call before) (due (causes call before))
    pub outcome : Outcome call before (due (causes call before)) r after
