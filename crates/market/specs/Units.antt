-- The units of energy, prices and money, and their ranges.
use Rattle.std.specs.Prelude.{ℕ, ◌+◌, ◌≤◌, ℤ, pos, ◌*ℤ◌, unsigned_abs}

-- a price is whole cents a MWh, at most 400,000 either way
abbrev pub PriceRange : ℤ → Type 0
PriceRange cents = unsigned_abs cents ≤ 400000

abbrev pub VatRange : ℕ → Type 0
VatRange percent = percent ≤ 99

-- A value is kWh times price, added up over fills. With VAT it is in grains, of which a euro has ten million.
abbrev pub grains : ℕ → ℤ → ℤ
grains vat value = value *ℤ pos (100 + vat)
