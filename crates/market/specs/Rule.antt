-- What a market rule means, and what it has to show.
use Rattle.std.specs.Prelude.{◌≡◌, ℕ, ◌≤◌, ◌⊎◌, List, [], ℤ, pos, ◌≤ℤ◌, unsigned_abs}
use Rattle.market.specs.declared.orders.Order.{Order}
use Rattle.market.specs.declared.units.Price.{Price}
use Rattle.market.specs.declared.figures.Amounts.{Amounts}
use Rattle.market.specs.Units.{VatRange}
use Rattle.market.specs.Orders.{WithinLimits}
use Rattle.market.specs.Outcomes.{Outcome, Possible, after, nothing_traded}

-- What a rule says of a cell while its reference price stands. Worth and exposure are in grains, by the VAT percent.
pub record Valuation : Type 1 where
  pub worth : ℕ → Amounts → ℤ
  pub exposure : ℕ → Amounts → List Order → ℤ
  -- which of the possible outcomes the rule counts
  pub Counts : Amounts → List Order → Outcome → Type 0

module _ (v : Valuation) where
  abbrev pub Counted : Amounts → List Order → Outcome → Type 0
  Counted a orders outcome = Possible orders outcome × v.Counts a orders outcome

  -- What a rule shows for every VAT rate and every cell within its limits: the worth is 0 where nothing was traded, and in range;
  -- some outcome counts; the exposure is at most 0, no counted outcome leaves less, and one leaves just that unless it is 0.
  pub record Sound : Type 0 where
    pub nothing_is_worth_0 : (vat : ℕ) → VatRange vat → v.worth vat nothing_traded ≡ pos 0
    pub worth_in_range : (vat : ℕ) (a : Amounts) → VatRange vat → WithinLimits a [] → unsigned_abs (v.worth vat a) ≤ 32000000000000000
    pub some_counted : (a : Amounts) (orders : List Order) → WithinLimits a orders → (outcome : Outcome) × Counted a orders outcome
    pub at_most_0 : (vat : ℕ) (a : Amounts) (orders : List Order) → VatRange vat → WithinLimits a orders → v.exposure vat a orders ≤ℤ pos 0
    pub none_below : (vat : ℕ) (a : Amounts) (orders : List Order) → VatRange vat → WithinLimits a orders →
        (outcome : Outcome) → Counted a orders outcome → v.exposure vat a orders ≤ℤ v.worth vat (after a orders outcome)
    pub reached : (vat : ℕ) (a : Amounts) (orders : List Order) → VatRange vat → WithinLimits a orders →
        (v.exposure vat a orders ≡ pos 0) ⊎ ((outcome : Outcome) × Counted a orders outcome × (v.worth vat (after a orders outcome) ≡ v.exposure vat a orders))

-- What a rule means, as it stands
pub record Meaning (S : Type 0) : Type 1 where
  pub valuation : S → Valuation
  pub reference : S → Price
  -- the rule after a reference price is published
  pub published : S → Price → S

-- What a rule shows besides: publishing replaces the reference price and nothing else.
pub record Lawful {S : Type 0} (m : Meaning S) : Type 0 where
  pub sound : (rule : S) → Sound (m.valuation rule)
  pub reads_back : (rule : S) (price : Price) → m.reference (m.published rule price) ≡ price
  pub last_counts : (rule : S) (first last : Price) → m.published (m.published rule first) last ≡ m.published rule last
  pub same_again : (rule : S) → m.published rule (m.reference rule) ≡ rule
