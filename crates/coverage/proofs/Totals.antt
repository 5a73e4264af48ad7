-- Sums over a list, of which a test may leave terms out.
use Rattle.std.proofs.Common.{◌≡◌, ℕ, ◌+◌, ◌<◌, ◌≤◌, Bool, true, false, ◌&&◌, List, [], ◌∷◌, get_or, sum_by, sym, refl, ap, ◌∙◌, arith}
use Rattle.std.specs.List.{AllByRecursion}
use Rattle.std.proofs.lemmas.Bool.Decides.{nat_tests}
use Rattle.std.proofs.lemmas.List.Elements.{recursion_from_All}
use Rattle.std.proofs.lemmas.List.Recursion.{is_sum_by}
use Rattle.std.proofs.lemmas.List.Sums.{sum_by-le-sum_by}
use Rattle.coverage.specs.Allocation.{total, amount_if}

-- An amount under a test.

pub if_zero : (b : Bool) → amount_if b 0 ≡ 0
if_zero b = grind (arith, nat_tests)

pub if_add : (b : Bool) (x y : ℕ) → amount_if b (x + y) ≡ amount_if b x + amount_if b y
if_add b x y = grind (arith, nat_tests)

pub if_mono : (b : Bool) (x y : ℕ) → x ≤ y → amount_if b x ≤ amount_if b y
if_mono b x y h = grind (arith, nat_tests)

pub if_positive : (b : Bool) (x : ℕ) → 0 < amount_if b x → (b ≡ true) × (0 < x)
if_positive b x h = grind (arith, nat_tests)

pub if_and_le : (a b : Bool) (x : ℕ) → amount_if (a && b) x ≤ amount_if a x
if_and_le a b x = grind (arith, nat_tests)

pub if_and_true : (a b : Bool) (x : ℕ) → b ≡ true → amount_if (a && b) x ≡ amount_if a x
if_and_true a b x e = grind (arith, nat_tests)

pub if_and_false : (a b : Bool) (x : ℕ) → b ≡ false → amount_if (a && b) x ≡ 0
if_and_false a b x e = grind (arith, nat_tests)

-- Sums over a list.

module _ {X : Type 0} where
  pub total_le : (f g : X → ℕ) (xs : List X) → AllByRecursion (λ x. f x ≤ g x) xs → total f xs ≤ total g xs
  total_le f g [] h = omega arith
  total_le f g (x ∷ xs) h = omega (arith, total_le f g xs h.1)

  pub total_le_each : (f g : X → ℕ) (xs : List X) → ((x : X) → f x ≤ g x) → total f xs ≤ total g xs
  total_le_each f g xs h = total_le f g xs (recursion_from_All _ xs (λ k d _. h (get_or xs k d)))

  pub total_same : (f g : X → ℕ) (xs : List X) → AllByRecursion (λ x. f x ≡ g x) xs → total f xs ≡ total g xs
  total_same f g [] h = refl
  total_same f g (x ∷ xs) h = omega (arith, total_same f g xs h.1)

  pub total_same_each : (f g : X → ℕ) (xs : List X) → ((x : X) → f x ≡ g x) → total f xs ≡ total g xs
  total_same_each f g xs h = total_same f g xs (recursion_from_All _ xs (λ k d _. h (get_or xs k d)))

  pub total_add : (f g : X → ℕ) (xs : List X) → total (λ x. f x + g x) xs ≡ total f xs + total g xs
  total_add f g [] = refl
  total_add f g (x ∷ xs) = omega (arith, total_add f g xs)

  pub total_none : (f : X → ℕ) (xs : List X) → ((x : X) → f x ≡ 0) → total f xs ≡ 0
  total_none f [] h = refl
  total_none f (x ∷ xs) h = omega (arith, total_none f xs h, h x)

-- a sum over two lists, in either order
pub total_swap : {X Y : Type 0} (f : X → Y → ℕ) (xs : List X) (ys : List Y) → total (λ x. total (f x) ys) xs ≡ total (λ y. total (λ x. f x y) xs) ys
total_swap f [] ys = sym (total_none (λ y. 0) ys (λ y. refl))
total_swap f (x ∷ xs) ys = ap (λ n. total (f x) ys + n) (total_swap f xs ys) ∙ sym (total_add (f x) (λ y. total (λ x. f x y) xs) ys)

-- The library's sums.

module _ {X : Type 0} where
  pub total_is : (f : X → ℕ) (xs : List X) → total f xs ≡ sum_by f xs
  total_is f = is_sum_by (total f) f refl (λ _ _. refl)

  -- what passes a test comes to no more than all
  pub passing_le : (test : X → Bool) (f : X → ℕ) (xs : List X) → sum_by (λ x. amount_if (test x) (f x)) xs ≤ sum_by f xs
  passing_le test f xs = sum_by-le-sum_by (λ x. amount_if (test x) (f x)) f xs (λ x. grind (arith, nat_tests))
