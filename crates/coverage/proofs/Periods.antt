-- Sums over the settlement periods of a list of debts.
use Rattle.std.proofs.Common.{◌≡◌, ℕ, ◌+◌, ◌*◌, Bool, true, false, cond, ◌||◌, ◌==◌, eqb, List, [], ◌∷◌, refl, ap, ◌∙◌, arith}
use Rattle.std.proofs.lemmas.Bool.{cond-false}
use Rattle.std.specs.List.{list_any}
use Rattle.std.proofs.lemmas.Bool.Decides.{nat_tests}
use Rattle.coverage.specs.declared.rows.Debt.{Debt}
use Rattle.coverage.specs.Allocation.{Position, total, amount_if}
use Rattle.coverage.specs.Capacity.{owed, excess, owes_in, periods, times, ListedOnce, HoweverListed}
use Rattle.coverage.proofs.Totals.{total_none}

-- owes_in asks each debt
pub owes_in_is : (xs : List Debt) (q : ℕ) → list_any (λ x. x.period == q) xs ≡ owes_in xs q
owes_in_is [] q = refl
owes_in_is (x ∷ xs) q = ap (λ t. (x.period == q) || t) (owes_in_is xs q)

-- a period that no later debt is of stands at the debt's place
pub periods_last : (x : Debt) (xs : List Debt) → owes_in xs x.period ≡ false → periods (x ∷ xs) ≡ x.period ∷ periods xs
periods_last x xs last = cond-false (owes_in xs x.period) (periods xs) (x.period ∷ periods xs) last

-- a period that something is owed in stands in the list once, any other not at all
pub times_periods : (xs : List Debt) (q : ℕ) → times q (periods xs) ≡ amount_if (owes_in xs q) 1
times_periods [] q = refl
times_periods (x ∷ xs) q = grind (arith, nat_tests, times_periods xs q)

-- every debt's period is listed once
pub periods_once : (xs : List Debt) → ListedOnce (periods xs) xs
periods_once xs = go xs (λ x h. times_periods xs x.period ∙ ap (λ t. amount_if t 1) h)
  where
    -- each debt of the rest owes in its own period
    go : (ys : List Debt) → ((x : Debt) → owes_in ys x.period ≡ true → times x.period (periods xs) ≡ 1) → ListedOnce (periods xs) ys
    go [] h = tt
    go (y ∷ ys) h = (h y (grind (arith, nat_tests)), go ys (λ x k. h x (grind (arith, nat_tests))))

-- a period that stands so often in a list is met so often
pub total_times : (q n : ℕ) (qs : List ℕ) → total (λ r. amount_if (eqb q r) n) qs ≡ times q qs * n
total_times q n [] = omega arith
total_times q n (r ∷ qs) = grind (arith, nat_tests, total_times q n qs)

-- A sum over a list of periods, with one period taken out.

abbrev without : ℕ → (ℕ → ℕ) → ℕ → ℕ
without q f r = cond (eqb q r) 0 (f r)

total_without : (q : ℕ) (f : ℕ → ℕ) (qs : List ℕ) → total f qs ≡ total (without q f) qs + times q qs * f q
total_without q f [] = omega arith
total_without q f (r ∷ qs) = grind (arith, nat_tests, total_without q f qs)

-- f gives nothing in a period in which nothing is owed
abbrev NothingOutside : List Debt → (ℕ → ℕ) → Type 0
NothingOutside xs f = (q : ℕ) → owes_in xs q ≡ false → f q ≡ 0

abbrev SameListed : List ℕ → List Debt → (ℕ → ℕ) → Type 0
SameListed qs xs f = total f qs ≡ total f (periods xs)

-- one debt more: its period is another debt's too ..
listed_again : (x : Debt) (xs : List Debt) (f : ℕ → ℕ) → owes_in xs x.period ≡ true → NothingOutside (x ∷ xs) f → NothingOutside xs f
listed_again x xs f h z r n = grind (arith, nat_tests, z r)

-- .. or it is new, and f without it gives nothing outside of the others' periods
listed_first : (x : Debt) (xs : List Debt) (f : ℕ → ℕ) → NothingOutside (x ∷ xs) f → NothingOutside xs (without x.period f)
listed_first x xs f z r n = grind (arith, nat_tests, z r)

-- the sum of what is 0 outside of the debts' periods is the same over every list that has each of these once
any_listing : (xs : List Debt) (qs : List ℕ) → ListedOnce qs xs → (f : ℕ → ℕ) → NothingOutside xs f → SameListed qs xs f
any_listing [] qs once f z = total_none f qs (λ q. z q refl)
any_listing (x ∷ xs) qs once f z = go (owes_in xs x.period) refl (any_listing xs qs once.1)
  where
    go : (b : Bool) → owes_in xs x.period ≡ b → ((g : ℕ → ℕ) → NothingOutside xs g → SameListed qs xs g) →
        total f qs ≡ total f (cond b (periods xs) (x.period ∷ periods xs))
    go true h ih = ih f (listed_again x xs f h z)
    go false h ih =
        omega (
          arith,
          total_without x.period f qs,
          ap (λ n. n * f x.period) once.0,
          ih (without x.period f) (listed_first x xs f z),
          total_without x.period f (periods xs),
          ap (λ n. n * f x.period) (times_periods xs x.period ∙ ap (λ t. amount_if t 1) h),
        )

-- in a period in which nothing is owed, no day's debts come to anything
pub owed_nowhere : (xs : List Debt) (day q : ℕ) → owes_in xs q ≡ false → owed xs day q ≡ 0
owed_nowhere [] day q h = refl
owed_nowhere (x ∷ xs) day q h = grind (arith, nat_tests, owed_nowhere xs day q)

pub however_listed : (p : Position) (day : ℕ) → HoweverListed p day
however_listed p day qs once = any_listing p.debts qs once (excess p day) (λ q h. omega (arith, owed_nowhere p.debts day q h))
