-- The smallest of the days' capacities: the definition and the code are folds.
use Rattle.std.proofs.Common.{◌≡◌, ℕ, zero, suc, ◌+◌, ◌-◌, ◌<◌, ◌≤◌, ◌⊎◌, ℤ, ◌≤ℤ◌, map, sym, refl, ap, ◌∙◌, subst, inl, inr, arith}
use borrow.Author.Differences.{ints}
use Rattle.std.specs.Int.{int_min}
use Rattle.std.specs.List.{fold, range_with_len}
use Rattle.std.proofs.lemmas.Int.{fold-int_min_bounds, fold-int_min_reached}
use Rattle.std.proofs.lemmas.List.FromFn.{get_or-map-range_with_len, length-map-range_with_len, map-range_with_len_more}
use Rattle.std.proofs.lemmas.List.Sums.{fold_push}
use Rattle.coverage.specs.Allocation.{Position}
use Rattle.coverage.specs.Capacity.{capacity_at, smallest_over, capacity, SmallestOfTheDays}

-- a fold from one of the days over all others gives the smallest
pub smallest_by_fold : (p : Position) (day from n : ℕ) (a c : ℤ) → p.first_day ≤ day → day ≤ p.today → p.first_day ≤ from → from + n ≤ p.today + 1 →
    ((d : ℕ) → p.first_day ≤ d → d ≤ p.today → (day ≡ d) ⊎ ((from ≤ d) × (d < from + n))) →
    a ≡ capacity_at p day → c ≡ fold int_min a (map (capacity_at p) (range_with_len from n)) → SmallestOfTheDays p c
smallest_by_fold p day from n a c l u lf uf all is e =
    let fewest = fold-int_min_bounds a (map (capacity_at p) (range_with_len from n)) c e in
    let at = get_or-map-range_with_len (capacity_at p) from n in
    record {
      none_smaller = λ d f t. elim (all d f t) [
        | inl same ↦ omega (arith, ints, fewest.0, is, ap (capacity_at p) same)
        | inr (g, h) ↦ subst (λ (x : ℤ). c ≤ℤ x) (at (d - from) d a (omega arith) (omega arith)) (fewest.1 (d - from) a (omega (arith, length-map-range_with_len (capacity_at p) from n)))
      ];
      one_reaches = elim (fold-int_min_reached a (map (capacity_at p) (range_with_len from n)) c e) [
        | inl same ↦ (day, l, u, sym is ∙ sym same)
        | inr (k, below, reached) ↦
            let in_range : k < n = omega (arith, length-map-range_with_len (capacity_at p) from n) in
            (from + k, omega arith, omega arith, sym (at k (from + k) c in_range refl) ∙ reached)
      ];
    }

smallest_over_is : (f : ℕ → ℤ) (first n : ℕ) → smallest_over f first n ≡ fold int_min (f first) (map f (range_with_len (first + 1) n))
unfolding smallest_over
smallest_over_is f first zero = refl
smallest_over_is f first (suc n) =
    let one_more : n + 1 ≡ suc n = omega arith in
    ap (λ x. int_min x (f (first + suc n))) (smallest_over_is f first n)
    ∙ sym (fold_push int_min (f first) (map f (range_with_len (first + 1) n)) (f (first + suc n)))
    ∙ ap (fold int_min (f first)) (sym (map-range_with_len_more f (first + 1) n (first + suc n) (omega arith)))
    ∙ ap (λ k. fold int_min (f first) (map f (range_with_len (first + 1) k))) one_more

pub capacity_is_smallest : (p : Position) → p.first_day ≤ p.today → SmallestOfTheDays p (capacity p)
unfolding capacity
capacity_is_smallest p h =
    smallest_by_fold p p.first_day (p.first_day + 1) (p.today - p.first_day) _ _ (omega arith) h (omega arith) (omega arith) (λ d f t. grind arith) refl
    (smallest_over_is (capacity_at p) p.first_day (p.today - p.first_day))

-- there is one smallest
pub smallest_unique : (p : Position) (c e : ℤ) → SmallestOfTheDays p c → SmallestOfTheDays p e → c ≡ e
smallest_unique p c e s t =
    omega (
      arith,
      ints,
      s.none_smaller t.one_reaches.0 t.one_reaches.1 t.one_reaches.2,
      t.none_smaller s.one_reaches.0 s.one_reaches.1 s.one_reaches.2,
      s.one_reaches.3,
      t.one_reaches.3,
    )
