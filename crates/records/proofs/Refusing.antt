-- The fault due, over one table of causes and over two. Assumes nothing.
use Rattle.std.proofs.Common.{◌≡◌, ℕ, ◌≤◌, Bool, true, false, cond, ◌&&◌, leb, List, [], ◌∷◌, ◌++◌, Some, None, Ok, Option, refl, ap, inl, inr, arith}
use Rattle.std.specs.List.{AllByRecursion}
use Rattle.std.proofs.lemmas.Bool.Decides.{nat_tests}
use Rattle.records.specs.Refusals.{Cause, ◌when◌, due, Smallest, cleared}

module _ {F : Type 0} where
  -- with a check that passed no fault is due
  pub none_due : (o : Option F) → Ok tt ≡ cleared o → o ≡ None
  none_due None e = refl
  none_due (Some f) e = cc

  -- a fault of the first table is due in both
  pub due_first : (xs ys : List (Cause F)) (f : F) → due xs ≡ Some f → due (xs ++ ys) ≡ Some f
  due_first [] ys f e = cc
  due_first (x ∷ xs) ys f e = let rest = due_first xs ys f in grind arith

  -- with no fault in the first table the second decides
  pub due_second : (xs ys : List (Cause F)) → due xs ≡ None → due (xs ++ ys) ≡ due ys
  due_second [] ys e = refl
  due_second (x ∷ xs) ys e = let rest = due_second xs ys in grind arith

  -- with no fault due no cause is there
  pub all_absent : (xs : List (Cause F)) → due xs ≡ None → AllByRecursion (λ c. c.present ≡ false) xs
  all_absent [] e = tt
  all_absent (x ∷ xs) e = (grind arith, all_absent xs (grind arith))

module _ {F : Type 0} (rank : F → ℕ) where
  -- every cause of a table ranks at least as high as a number
  abbrev from : ℕ → List (Cause F) → Bool
  from n [] = true
  from n (x ∷ xs) = leb n (rank x.fault) && from n xs

  -- The causes of a table rise: a test that the checker computes, since it reads only the numbers and the places.
  abbrev pub rises : List (Cause F) → Bool
  rises [] = true
  rises (x ∷ xs) = from (rank x.fault) xs && rises xs

  all_from : (n : ℕ) (xs : List (Cause F)) → from n xs ≡ true → AllByRecursion (λ x. x.present ≡ true → n ≤ rank x.fault) xs
  all_from n [] e = tt
  all_from n (x ∷ xs) e = (λ p. grind (arith, nat_tests), all_from n xs (grind (arith, nat_tests)))

  later : (x : Cause F) (xs : List (Cause F)) (o : Option F) → x.present ≡ false → Smallest rank xs o → Smallest rank (x ∷ xs) o
  later x xs None e s = (e, s)
  later x xs (Some f) e s = (inr s.0, (λ p. cc, s.1))

  smallest_by : (b : Bool) (x : Cause F) (xs : List (Cause F)) → x.present ≡ b → from (rank x.fault) xs ≡ true → Smallest rank xs (due xs) →
      Smallest rank (x ∷ xs) (cond b (Some x.fault) (due xs))
  smallest_by true x xs e h s = (inl (ap (λ b. x.fault when b) e), (λ p. omega arith, all_from (rank x.fault) xs h))
  smallest_by false x xs e h s = later x xs (due xs) e s

  -- over a table that rises the fault due is the smallest
  pub due_smallest : (xs : List (Cause F)) → rises xs ≡ true → Smallest rank xs (due xs)
  due_smallest [] e = tt
  due_smallest (x ∷ xs) e =
      smallest_by x.present x xs refl (grind (arith, nat_tests)) (due_smallest xs (grind (arith, nat_tests)))
