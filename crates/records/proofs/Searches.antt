-- The first row that fits, by its place: what it is to find it, to change it and to remove it. Assumes nothing.
use Rattle.std.proofs.Common.{◌≡◌, ℕ, suc, ◌+◌, ◌<◌, Bool, true, false, cond, List, [], ◌∷◌, length, get_or, set, Some, None, refl, ap, subst, arith}
use Rattle.std.specs.List.{position_from, remove as removed}
use Rattle.records.specs.Tables.{find, change, remove, place}

module _ {X : Type 0} (fits : X → Bool) where
  -- the first row that fits stands at i
  pub record Stands (xs : List X) (i : ℕ) : Type 0 where
    pub within : i < length xs
    pub found : (d : X) → find fits xs ≡ Some (get_or xs i d)
    pub changed : (f : X → X) (d : X) → change fits f xs ≡ set xs i (f (get_or xs i d))
    pub taken : remove fits xs ≡ removed xs i

  stands_by : (b : Bool) (n : ℕ) (x : X) (xs : List X) (j : ℕ) → fits x ≡ b →
      (position_from fits (n + 1) xs ≡ Some j → (i : ℕ) × (j ≡ n + 1 + i) × Stands xs i) →
      cond b (Some n) (position_from fits (n + 1) xs) ≡ Some j → (i : ℕ) × (j ≡ n + i) × Stands (x ∷ xs) i
  stands_by true n x xs j fit rest e = (
    0,
    let s : n ≡ j = cc in omega arith,
    record {
      within = omega arith;
      found = λ d. rw fit;
      changed = λ f d. rw fit;
      taken = rw fit;
    },
  )
  stands_by false n x xs j unfit rest e =
      let a = rest e in
      let c = a.1 in (
        suc a.0,
        omega arith,
        record {
          within = let w = a.2.within in omega arith;
          found = λ d. rw unfit (a.2.found d);
          changed = λ f d. rw unfit (ap (λ ys. x ∷ ys) (a.2.changed f d));
          taken = rw unfit (ap (λ ys. x ∷ ys) a.2.taken);
        },
      )

  stands_from : (n : ℕ) (xs : List X) (j : ℕ) → position_from fits n xs ≡ Some j → (i : ℕ) × (j ≡ n + i) × Stands xs i
  stands_from n [] j e = cc
  stands_from n (x ∷ xs) j e = stands_by (fits x) n x xs j refl (stands_from (n + 1) xs j) e

  pub stands : (xs : List X) (i : ℕ) → place fits xs ≡ Some i → Stands xs i
  stands xs i e =
      let a = stands_from 0 xs i e in
      let c = a.1 in
      let same : a.0 ≡ i = omega arith in
      subst (Stands xs) same a.2

  nowhere_from : (n : ℕ) (xs : List X) → position_from fits n xs ≡ None → find fits xs ≡ None
  nowhere_from n [] e = refl
  nowhere_from n (x ∷ xs) e = let rest = nowhere_from (n + 1) xs in grind arith

  -- no row fits
  pub nowhere : (xs : List X) → place fits xs ≡ None → find fits xs ≡ None
  nowhere xs e = nowhere_from 0 xs e
