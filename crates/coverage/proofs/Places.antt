-- Sums over the places below n, for amounts that are a function of the place.
use Rattle.std.proofs.Common.{◌≡◌, ℕ, zero, suc, ◌+◌, ◌-◌, ◌<◌, ◌≤◌, Bool, eqb, ◌⊎◌, List, [], ◌∷◌, length, get_or, refl, ap, ◌∙◌, inl, inr, arith}
use Rattle.std.specs.List.{AllByRecursion}
use Rattle.std.proofs.lemmas.Bool.{cases_lt}
use Rattle.std.proofs.lemmas.Bool.Decides.{nat_tests}
use Rattle.coverage.specs.Allocation.{total, amount_if, Row}
use Rattle.coverage.proofs.Totals.{if_zero}

abbrev pub sum_below : ℕ → (ℕ → ℕ) → ℕ
sum_below zero f = 0
sum_below (suc n) f = sum_below n f + f n

-- a number up to n is n or below it
either : (n k : ℕ) → k < suc n → (k ≡ n) ⊎ (k < n)
either n k h = grind arith

pub below_le : (n : ℕ) (f g : ℕ → ℕ) → ((k : ℕ) → k < n → f k ≤ g k) → sum_below n f ≤ sum_below n g
below_le zero f g h = omega arith
below_le (suc n) f g h = omega (arith, below_le n f g (λ k l. h k (omega arith)), h n (omega arith))

pub below_same : (n : ℕ) (f g : ℕ → ℕ) → ((k : ℕ) → k < n → f k ≡ g k) → sum_below n f ≡ sum_below n g
below_same zero f g h = refl
below_same (suc n) f g h = omega (arith, below_same n f g (λ k l. h k (omega arith)), h n (omega arith))

pub below_add : (n : ℕ) (f g : ℕ → ℕ) → sum_below n (λ k. f k + g k) ≡ sum_below n f + sum_below n g
below_add zero f g = refl
below_add (suc n) f g = omega (arith, below_add n f g)

pub below_none : (n : ℕ) (f : ℕ → ℕ) → ((k : ℕ) → k < n → f k ≡ 0) → sum_below n f ≡ 0
below_none zero f h = refl
below_none (suc n) f h = omega (arith, below_none n f (λ k l. h k (omega arith)), h n (omega arith))

below_front : (n : ℕ) (f : ℕ → ℕ) → sum_below (suc n) f ≡ f 0 + sum_below n (λ k. f (suc k))
below_front zero f = omega arith
below_front (suc n) f = omega (arith, below_front n f)

-- a list's sum is the sum over its places
pub total_places : {X : Type 0} (f : X → ℕ) (d : X) (xs : List X) → total f xs ≡ sum_below (length xs) (λ k. f (get_or xs k d))
total_places f d [] = refl
total_places f d (x ∷ xs) = omega (arith, total_places f d xs, below_front (length xs) (λ k. f (get_or (x ∷ xs) k d)))

-- one term is at most the sum
pub term_le : (n : ℕ) (f : ℕ → ℕ) (j : ℕ) → j < n → f j ≤ sum_below n f
term_le zero f j h = absurd (omega arith)
term_le (suc n) f j h = grind (arith, term_le n f j)

-- where only one term is left, the sum is that term
pub below_at : (n : ℕ) (f : ℕ → ℕ) (j : ℕ) → j < n → sum_below n (λ k. amount_if (eqb j k) (f k)) ≡ f j
below_at zero f j h = absurd (omega arith)
below_at (suc n) f j h = grind (arith, nat_tests, below_none n (λ k. amount_if (eqb j k) (f k)), below_at n f j)

-- a sum above 0 has a term above 0
pub some_term : (n : ℕ) (f : ℕ → ℕ) → 0 < sum_below n f → (k : ℕ) × (k < n) × (0 < f k)
some_term zero f h = absurd (omega arith)
some_term (suc n) f h =
    elim (cases_lt 0 (f n)) [
      | inl l ↦ (n, omega arith, l)
      | inr z ↦ let r : (k : ℕ) × (k < n) × (0 < f k) = some_term n f (omega arith) in (r.0, omega arith, r.2)
    ]

-- f with one less at j, and what that does to a sum
abbrev pub one_less : (ℕ → ℕ) → ℕ → ℕ → ℕ
one_less f j k = f k - amount_if (eqb j k) 1

pub one_less_is : (f : ℕ → ℕ) (j k : ℕ) → 0 < f j → f k ≡ one_less f j k + amount_if (eqb j k) 1
one_less_is f j k h = grind (arith, nat_tests)

pub one_less_sum : (n : ℕ) (w : ℕ → Bool) (f : ℕ → ℕ) (j : ℕ) → j < n → 0 < f j →
    sum_below n (λ k. amount_if (w k) (f k)) ≡ sum_below n (λ k. amount_if (w k) (one_less f j k)) + amount_if (w j) 1
one_less_sum n w f j l h =
    below_same n (λ k. amount_if (w k) (f k)) (λ k. amount_if (w k) (one_less f j k) + amount_if (eqb j k) (amount_if (w k) 1)) (λ k _. each k)
    ∙ below_add n (λ k. amount_if (w k) (one_less f j k)) (λ k. amount_if (eqb j k) (amount_if (w k) 1))
    ∙ ap (λ x. sum_below n (λ k. amount_if (w k) (one_less f j k)) + x) (below_at n (λ k. amount_if (w k) 1) j l)
  where
    each : (k : ℕ) → amount_if (w k) (f k) ≡ amount_if (w k) (one_less f j k) + amount_if (eqb j k) (amount_if (w k) 1)
    each k = grind (arith, nat_tests)

-- what rows hold at the places that pass a test is what the rows hold whose place passes
pub rows_by_place : (n : ℕ) (w : ℕ → Bool) (place : Row → ℕ) (rows : List Row) → AllByRecursion (λ r. place r < n) rows →
    sum_below n (λ k. amount_if (w k) (total (λ r. amount_if (eqb (place r) k) r.grains) rows)) ≡ total (λ r. amount_if (w (place r)) r.grains) rows
rows_by_place n w place [] h = below_none n (λ k. amount_if (w k) 0) (λ k _. if_zero (w k))
rows_by_place n w place (r ∷ rows) h =
    below_same n
    (λ k. amount_if (w k) (amount_if (eqb (place r) k) r.grains + held k))
    (λ k. amount_if (eqb (place r) k) (amount_if (w k) r.grains) + amount_if (w k) (held k))
    (λ k _. grind (arith, nat_tests))
    ∙ below_add n (λ k. amount_if (eqb (place r) k) (amount_if (w k) r.grains)) (λ k. amount_if (w k) (held k))
    ∙ omega (arith, below_at n (λ k. amount_if (w k) r.grains) (place r) h.0, rows_by_place n w place rows h.1)
  where
    held : ℕ → ℕ
    held k = total (λ r. amount_if (eqb (place r) k) r.grains) rows

-- of the places below n with something left at them, one of the latest day
abbrev pub Latest : ℕ → (ℕ → ℕ) → (ℕ → ℕ) → Type 0
Latest n left day = (j : ℕ) × (j < n) × (0 < left j) × ((k : ℕ) → k < n → 0 < left k → day k ≤ day j)

pub latest : (n : ℕ) (left day : ℕ → ℕ) → (sum_below n left ≡ 0) ⊎ Latest n left day
latest zero left day = inl refl
latest (suc n) left day = go (latest n left day) (cases_lt 0 (left n))
  where
    go : (sum_below n left ≡ 0) ⊎ Latest n left day → (0 < left n) ⊎ (left n ≤ 0) → (sum_below (suc n) left ≡ 0) ⊎ Latest (suc n) left day
    go (inl z) (inl here) = inr (n, omega arith, here, λ k l h. grind (arith, term_le n left k))
    go (inl z) (inr none) = inl (omega arith)
    go (inr b) (inr none) = inr (b.0, omega arith, b.2, λ k l h. grind (arith, b.3 k))
    go (inr b) (inl here) =
        elim (cases_lt (day n) (day b.0)) [
          | inl earlier ↦ inr (b.0, omega arith, b.2, λ k l h. grind (arith, b.3 k))
          | inr later ↦ inr (n, omega arith, here, λ k l h. grind (arith, b.3 k))
        ]
