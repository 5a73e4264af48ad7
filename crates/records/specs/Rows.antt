-- What the rows of the tables mean. Assumes nothing.
use Rattle.std.specs.Prelude.{ℕ, ◌-◌, ◌*◌, Bool, true, ◌&&◌, List, Some, None, Option, ◌==◌, nat_le}
use Rattle.std.specs.List.{list_all}
use Rattle.records.specs.declared.rows.Participant.{Participant}
use Rattle.records.specs.declared.rows.Guarantee.{Guarantee}

unfoldable pub is_participant : ℕ → Participant → Bool
is_participant number row = row.number == number

unfoldable pub is_guarantee : ℕ → ℕ → Guarantee → Bool
is_guarantee participant number row = row.participant == participant && row.number == number

-- A guarantee is valid on every trading day up to its last one; one without a last day is valid on every day.
abbrev pub valid : ℕ → Option ℕ → Bool
valid day None = true
valid day (Some last) = nat_le day last

-- The worth of a guarantee in grains, ten-millionths of a euro: its cents at the participant's share in thousandths, less
-- the maintenance margin in percent.
abbrev pub worth : ℕ → ℕ → ℕ → ℕ
worth margin share cents = cents * share * (100 - margin)

-- the ranges that the tables keep: a share of at most 1,000 thousandths, and at most 100,000,000,000 cents
abbrev pub share_in_range : Participant → Bool
share_in_range row = nat_le row.share 1000

abbrev pub amount_in_range : Guarantee → Bool
amount_in_range row = nat_le row.cents 100000000000

unfoldable pub shares_in_range : List Participant → Bool
shares_in_range rows = list_all share_in_range rows

unfoldable pub amounts_in_range : List Guarantee → Bool
amounts_in_range rows = list_all amount_in_range rows
