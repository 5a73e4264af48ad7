-- The settlement periods of flow days. Days are numbered from 0, a Monday, to 40,000.
use Rattle.std.specs.Prelude.{ℕ, suc, ◌/◌, ◌<◌, ◌≤◌, List, length, filter, nat_lt, slice_index}
use Rattle.market.specs.declared.listed.ListFault.{ListFault}
use Rattle.market.specs.declared.listed.ListFault.TheVariants.{TooLong, NotRising, TooLate}

abbrev pub week : ℕ → ℕ
week day = day / 7

-- how many of the last days lie before the day
abbrev pub last_days_before : ℕ → List ℕ → ℕ
last_days_before day days = length (filter (λ last. nat_lt last day) days)

abbrev pub Short : List ℕ → Type 0
Short days = length days ≤ 60

abbrev pub Rising : List ℕ → Type 0
Rising days = (k : ℕ) → suc k < length days → slice_index days k < slice_index days (suc k)

abbrev pub InCalendar : List ℕ → Type 0
InCalendar days = (k : ℕ) → k < length days → slice_index days k ≤ 40000

-- why a list is refused: the first of these that holds
abbrev pub Due : ListFault → List ℕ → Type 0
Due TooLong days = Short days → ⊥
Due NotRising days = Short days × (Rising days → ⊥)
Due TooLate days = Short days × Rising days × (InCalendar days → ⊥)
