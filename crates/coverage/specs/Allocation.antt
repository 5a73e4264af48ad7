-- What it is to allocate one participant's guarantees and credits to its debts, and when an allocation covers them.
use Rattle.std.specs.Prelude.{◌≡◌, ℕ, ◌+◌, ◌<◌, ◌≤◌, Bool, true, cond, T, List, [], ◌∷◌, length, Some, None, Option, ◌==◌, nat_le, slice_index_or}
use Rattle.std.specs.List.{AllByRecursion}
use Rattle.coverage.specs.declared.rows.Debt.{Debt}
use Rattle.coverage.specs.declared.rows.Credit.{Credit}
use Rattle.coverage.specs.declared.rows.Guarantee.{Guarantee}

-- One participant: its debts, each of a trading day and a settlement period; its credits, each of a period; its guarantees;
-- the first day of the book, and today. All amounts are whole grains.
pub record Position : Type 0 where
  pub debts : List Debt
  pub credits : List Credit
  pub guarantees : List Guarantee
  pub first_day : ℕ
  pub today : ℕ

abbrev pub position : List Debt → List Credit → List Guarantee → ℕ → ℕ → Position
position debts credits guarantees first_day today =
    record { debts = debts; credits = credits; guarantees = guarantees; first_day = first_day; today = today }

-- A guarantee is valid on every trading day up to and with its last day; one without a last day is valid on every day.
abbrev pub valid_up_to : Option ℕ → ℕ → Bool
valid_up_to None day = true
valid_up_to (Some last) day = nat_le day last

abbrev pub valid : Guarantee → ℕ → Bool
valid g day = valid_up_to g.last day

-- The debt, credit or guarantee at a place of its list; past the end, one of nothing.
abbrev pub no_debt : Debt
no_debt = record { day = 0; period = 0; grains = 0 }

abbrev pub no_credit : Credit
no_credit = record { period = 0; grains = 0 }

abbrev pub no_guarantee : Guarantee
no_guarantee = record { last = None; worth = 0 }

abbrev pub debt_at : Position → ℕ → Debt
debt_at p j = slice_index_or p.debts j no_debt

abbrev pub credit_at : Position → ℕ → Credit
credit_at p k = slice_index_or p.credits k no_credit

abbrev pub guarantee_at : Position → ℕ → Guarantee
guarantee_at p i = slice_index_or p.guarantees i no_guarantee

-- A sum over a list, and an amount that counts only where a test passes.
abbrev pub total : {X : Type 0} → (X → ℕ) → List X → ℕ
total f [] = 0
total f (x ∷ xs) = f x + total f xs

abbrev pub amount_if : Bool → ℕ → ℕ
amount_if test n = cond test n 0

-- One row of an allocation: so many grains go from the source at this place of its list to the debt at that place of the debts.
pub record Row : Type 0 where
  pub source : ℕ
  pub debt : ℕ
  pub grains : ℕ

-- The rows whose sources are guarantees, and those whose sources are credits.
pub record Allocation : Type 0 where
  pub of_guarantees : List Row
  pub of_credits : List Row

-- What the rows take from one source, and what they give to one debt.
abbrev pub taken : List Row → ℕ → ℕ
taken rows i = total (λ r. amount_if (r.source == i) r.grains) rows

abbrev pub given : List Row → ℕ → ℕ
given rows j = total (λ r. amount_if (r.debt == j) r.grains) rows

-- A guarantee goes only to a debt whose trading day it is valid on.
abbrev pub ValidOnItsDay : Position → Row → Type 0
ValidOnItsDay p r =
    (r.source < length p.guarantees) × (r.debt < length p.debts) × T (valid (guarantee_at p r.source) (debt_at p r.debt).day)

-- A credit goes only to a debt of its own period.
abbrev pub OfItsPeriod : Position → Row → Type 0
OfItsPeriod p r =
    (r.source < length p.credits) × (r.debt < length p.debts) × ((credit_at p r.source).period ≡ (debt_at p r.debt).period)

-- The rows are an allocation of this position: each row is permitted, and no guarantee and no credit gives more than it has in all.
pub record Permitted (p : Position) (a : Allocation) : Type 0 where
  pub guarantees_in_time : AllByRecursion (ValidOnItsDay p) a.of_guarantees
  pub credits_in_period : AllByRecursion (OfItsPeriod p) a.of_credits
  pub guarantees_once : (i : ℕ) → i < length p.guarantees → taken a.of_guarantees i ≤ (guarantee_at p i).worth
  pub credits_once : (k : ℕ) → k < length p.credits → taken a.of_credits k ≤ (credit_at p k).grains

-- An allocation covers when each debt is met in full.
pub record Covers (p : Position) (a : Allocation) : Type 0 where
  pub permitted : Permitted p a
  pub debts_in_full : (j : ℕ) → j < length p.debts → given a.of_guarantees j + given a.of_credits j ≡ (debt_at p j).grains

-- There is an allocation that covers.
abbrev pub Coverable : Position → Type 0
Coverable p = (a : Allocation) × Covers p a
