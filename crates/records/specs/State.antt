-- What a book holds: its terms and its tables. Assumes nothing.
use Rattle.std.specs.Prelude.{ℕ, List, []}
use Rattle.records.specs.declared.call.Terms.{Terms}
use Rattle.records.specs.declared.rows.Participant.{Participant}
use Rattle.records.specs.declared.rows.Guarantee.{Guarantee}

pub record State (R C : Type 0) : Type 0 where
  -- the market rule and the settlement calendar
  pub rule : R
  pub calendar : C
  pub terms : Terms
  pub today : ℕ
  pub participants : List Participant
  pub guarantees : List Guarantee

module _ {R C : Type 0} where
  -- a book that was just opened
  abbrev pub opened : R → C → Terms → State R C
  opened rule calendar terms = record {
    rule = rule;
    calendar = calendar;
    terms = terms;
    today = terms.first_day;
    participants = [];
    guarantees = [];
  }

  -- a book with other tables
  abbrev pub with_tables : State R C → List Participant → List Guarantee → State R C
  with_tables s participants guarantees = record {
    rule = s.rule;
    calendar = s.calendar;
    terms = s.terms;
    today = s.today;
    participants = participants;
    guarantees = guarantees;
  }
