-- The theorem for amounts that are functions of the place: an allocation exists exactly when, at each debt's day, the valid guarantees
-- reach what the debts of that day or later exceed the credits by.
use Rattle.std.proofs.Common.{◌≡◌, ℕ, zero, suc, ◌+◌, ◌-◌, ◌*◌, ◌<◌, ◌≤◌, Bool, true, false, ◌&&◌, eqb, leb, List, [], ◌∷◌, sym, ap, ◌∙◌, inl, inr, arith}
use Rattle.std.specs.List.{AllByRecursion}
use Rattle.std.proofs.lemmas.Bool.{eqb-true, cases_Bool, cases_lt, leb-true, le-leb}
use Rattle.std.proofs.ByRecursion.{All-weaker}
use Rattle.std.proofs.lemmas.Bool.Decides.{nat_tests}
use Rattle.coverage.specs.Allocation.{Row, total, amount_if, taken, given}
use Rattle.coverage.specs.Capacity.{times}
use Rattle.coverage.proofs.Totals.{total_le, total_le_each, total_same_each, total_none, total_add, total_swap, if_add, if_mono, if_positive, if_and_le, if_and_true, if_and_false}
use Rattle.coverage.proofs.Periods.{total_times}
use Rattle.coverage.proofs.Places.{sum_below, below_le, below_same, below_add, below_none, some_term, term_le, one_less, one_less_is, one_less_sum, rows_by_place, latest}

-- All that stays as it is while grains are given out: how many debts, guarantees and credits there are, the debts' days and periods,
-- the credits' periods, which guarantee is valid when, and a list of periods in which each debt's period stands once.
pub record Terms : Type 0 where
  pub debts : ℕ
  pub day : ℕ → ℕ
  pub period : ℕ → ℕ
  pub guarantees : ℕ
  pub valid : ℕ → ℕ → Bool
  pub credits : ℕ
  pub earned : ℕ → ℕ
  pub periods : List ℕ
  pub valid_before : (i s t : ℕ) → s ≤ t → valid i t ≡ true → valid i s ≡ true
  pub once : (j : ℕ) → j < debts → times (period j) periods ≡ 1

-- the debt j is of the period q, and of the day d or later
abbrev due : Terms → ℕ → ℕ → ℕ → Bool
due T d q j = eqb (T.period j) q && leb d (T.day j)

abbrev pub owed : Terms → (ℕ → ℕ) → ℕ → ℕ → ℕ
owed T a d q = sum_below T.debts (λ j. amount_if (due T d q j) (a j))

abbrev pub credited : Terms → (ℕ → ℕ) → ℕ → ℕ
credited T c q = sum_below T.credits (λ k. amount_if (eqb (T.earned k) q) (c k))

abbrev pub guaranteed : Terms → (ℕ → ℕ) → ℕ → ℕ
guaranteed T g d = sum_below T.guarantees (λ i. amount_if (T.valid i d) (g i))

abbrev pub uncredited : Terms → (ℕ → ℕ) → (ℕ → ℕ) → ℕ → ℕ
uncredited T a c d = total (λ q. owed T a d q - credited T c q) T.periods

abbrev pub InTime : Terms → Row → Type 0
InTime T r = (r.source < T.guarantees) × (r.debt < T.debts) × (T.valid r.source (T.day r.debt) ≡ true)

abbrev pub InPeriod : Terms → Row → Type 0
InPeriod T r = (r.source < T.credits) × (r.debt < T.debts) × (T.earned r.source ≡ T.period r.debt)

-- rows that meet the debts a from the guarantees g and the credits c
pub record Allocated (T : Terms) (a g c : ℕ → ℕ) : Type 0 where
  pub gs : List Row
  pub cs : List Row
  pub in_time : AllByRecursion (InTime T) gs
  pub in_period : AllByRecursion (InPeriod T) cs
  pub gs_once : (i : ℕ) → i < T.guarantees → taken gs i ≤ g i
  pub cs_once : (k : ℕ) → k < T.credits → taken cs k ≤ c k
  pub in_full : (j : ℕ) → j < T.debts → given gs j + given cs j ≡ a j

-- Necessary: count the grains of the rows twice, by the debts they go to and by the sources they come from.

module _ (T : Terms) (a g c : ℕ → ℕ) (A : Allocated T a g c) (d : ℕ) where
  -- the grains of a row that go to a debt that is due
  abbrev due_grains : ℕ → Row → ℕ
  due_grains q r = amount_if (due T d q r.debt) r.grains

  -- the debts that are due are the grains of their rows
  owed_by_rows : (q : ℕ) → owed T a d q ≡ total (due_grains q) A.gs + total (due_grains q) A.cs
  owed_by_rows q =
      below_same T.debts (λ j. amount_if (due T d q j) (a j)) (λ j. amount_if (due T d q j) (given A.gs j) + amount_if (due T d q j) (given A.cs j))
      (λ j h. ap (amount_if (due T d q j)) (sym (A.in_full j h)) ∙ if_add (due T d q j) (given A.gs j) (given A.cs j))
      ∙ below_add T.debts (λ j. amount_if (due T d q j) (given A.gs j)) (λ j. amount_if (due T d q j) (given A.cs j))
      ∙ omega (
        arith,
        rows_by_place T.debts (due T d q) (λ r. r.debt) A.gs (All-weaker (InTime T) (λ r. r.debt < T.debts) (λ r h. h.1) A.gs A.in_time),
        rows_by_place T.debts (due T d q) (λ r. r.debt) A.cs (All-weaker (InPeriod T) (λ r. r.debt < T.debts) (λ r h. h.1) A.cs A.in_period),
      )

  -- credits give a period no more than its credit
  credits_by_rows : (q : ℕ) → total (due_grains q) A.cs ≤ credited T c q
  credits_by_rows q =
      omega (
        arith,
        total_le (due_grains q) (λ r. amount_if (eqb (T.earned r.source) q) r.grains) A.cs
            (All-weaker (InPeriod T) (λ r. due_grains q r ≤ amount_if (eqb (T.earned r.source) q) r.grains) each A.cs A.in_period),
        rows_by_place T.credits (λ k. eqb (T.earned k) q) (λ r. r.source) A.cs (All-weaker (InPeriod T) (λ r. r.source < T.credits) (λ r h. h.0) A.cs A.in_period),
        below_le T.credits (λ k. amount_if (eqb (T.earned k) q) (taken A.cs k)) (λ k. amount_if (eqb (T.earned k) q) (c k))
            (λ k h. if_mono (eqb (T.earned k) q) (taken A.cs k) (c k) (A.cs_once k h)),
      )
    where
      each : (r : Row) → InPeriod T r → due_grains q r ≤ amount_if (eqb (T.earned r.source) q) r.grains
      each r h = omega (arith, if_and_le (eqb (T.period r.debt) q) (leb d (T.day r.debt)) r.grains, ap (λ s. amount_if (eqb s q) r.grains) h.2)

  -- a row of a guarantee counts in one period at most, and only if the guarantee is valid on the day d
  in_one_period : (r : Row) → InTime T r → total (λ q. due_grains q r) T.periods ≤ amount_if (T.valid r.source d) r.grains
  in_one_period r h = elim (cases_Bool (leb d (T.day r.debt))) [ inl e ↦ late e | inr e ↦ early e ]
    where
      late : leb d (T.day r.debt) ≡ true → total (λ q. due_grains q r) T.periods ≤ amount_if (T.valid r.source d) r.grains
      late e =
          omega (
            arith,
            total_same_each (λ q. due_grains q r) (λ q. amount_if (eqb (T.period r.debt) q) r.grains) T.periods
                (λ q. if_and_true (eqb (T.period r.debt) q) (leb d (T.day r.debt)) r.grains e),
            total_times (T.period r.debt) r.grains T.periods,
            ap (λ t. t * r.grains) (T.once r.debt h.1),
            ap (λ b. amount_if b r.grains) (T.valid_before r.source d (T.day r.debt) (leb-true d (T.day r.debt) e) h.2),
          )

      early : leb d (T.day r.debt) ≡ false → total (λ q. due_grains q r) T.periods ≤ amount_if (T.valid r.source d) r.grains
      early e = omega (arith, total_none (λ q. due_grains q r) T.periods (λ q. if_and_false (eqb (T.period r.debt) q) (leb d (T.day r.debt)) r.grains e))

  pub necessary : uncredited T a c d ≤ guaranteed T g d
  necessary =
      omega (
        arith,
        total_le_each (λ q. owed T a d q - credited T c q) (λ q. total (due_grains q) A.gs) T.periods (λ q. omega (arith, owed_by_rows q, credits_by_rows q)),
        total_swap (λ q r. due_grains q r) T.periods A.gs,
        total_le (λ r. total (λ q. due_grains q r) T.periods) (λ r. amount_if (T.valid r.source d) r.grains) A.gs
            (All-weaker (InTime T) (λ r. total (λ q. due_grains q r) T.periods ≤ amount_if (T.valid r.source d) r.grains) in_one_period A.gs A.in_time),
        rows_by_place T.guarantees (λ i. T.valid i d) (λ r. r.source) A.gs (All-weaker (InTime T) (λ r. r.source < T.guarantees) (λ r h. h.0) A.gs A.in_time),
        below_le T.guarantees (λ i. amount_if (T.valid i d) (taken A.gs i)) (λ i. amount_if (T.valid i d) (g i))
            (λ i h. if_mono (T.valid i d) (taken A.gs i) (g i) (A.gs_once i h)),
      )

-- Sufficient: give out one grain at a time, to a debt of the latest day; from its period's credit while there is some, else from any valid guarantee.

-- at the day of each debt the guarantees suffice
abbrev pub Enough : Terms → (ℕ → ℕ) → (ℕ → ℕ) → (ℕ → ℕ) → Type 0
Enough T a g c = (j : ℕ) → j < T.debts → uncredited T a c (T.day j) ≤ guaranteed T g (T.day j)

module _ (T : Terms) (a g c : ℕ → ℕ) (j : ℕ) (lj : j < T.debts) (pj : 0 < a j) (top : (k : ℕ) → k < T.debts → 0 < a k → T.day k ≤ T.day j) where
  owed_less : (d q : ℕ) → owed T a d q ≡ owed T (one_less a j) d q + amount_if (due T d q j) 1
  owed_less d q = one_less_sum T.debts (due T d q) a j lj pj

  due_by : (d q : ℕ) → d ≤ T.day j → amount_if (due T d q j) 1 ≡ amount_if (eqb (T.period j) q) 1
  due_by d q h = if_and_true (eqb (T.period j) q) (leb d (T.day j)) 1 (le-leb d (T.day j) h)

  -- nothing is owed after the latest day
  uncredited_after : (c' : ℕ → ℕ) (d : ℕ) → T.day j < d → uncredited T (one_less a j) c' d ≡ 0
  uncredited_after c' d late = total_none (λ q. owed T (one_less a j) d q - credited T c' q) T.periods (λ q. omega (arith, nothing q))
    where
      each : (q k : ℕ) → k < T.debts → amount_if (due T d q k) (one_less a j k) ≡ 0
      each q k h = grind (arith, nat_tests, top k h)

      nothing : (q : ℕ) → owed T (one_less a j) d q ≡ 0
      nothing q = below_none T.debts (λ k. amount_if (due T d q k) (one_less a j k)) (each q)

  -- A grain of a credit of the debt's period.

  module _ (k : ℕ) (lk : k < T.credits) (pk : 0 < c k) (same : T.earned k ≡ T.period j) where
    still_enough_by_credit : Enough T a g c → Enough T (one_less a j) g (one_less c k)
    still_enough_by_credit h i li = grind (arith, uncredited_after (one_less c k) (T.day i), h i li, fewer)
      where
        fewer : T.day i ≤ T.day j → uncredited T (one_less a j) (one_less c k) (T.day i) ≤ uncredited T a c (T.day i)
        fewer by =
            total_le_each (λ q. owed T (one_less a j) (T.day i) q - credited T (one_less c k) q) (λ q. owed T a (T.day i) q - credited T c q) T.periods
            (λ q. omega (
              arith,
              owed_less (T.day i) q,
              due_by (T.day i) q by,
              one_less_sum T.credits (λ x. eqb (T.earned x) q) c k lk pk,
              ap (λ s. amount_if (eqb s q) 1) same,
            ))

    add_credit : Allocated T (one_less a j) g (one_less c k) → Allocated T a g c
    add_credit A =
        record {
          gs = A.gs;
          cs = record { source = k; debt = j; grains = 1 } ∷ A.cs;
          in_time = A.in_time;
          in_period = ((lk, lj, same), A.in_period);
          gs_once = A.gs_once;
          cs_once = λ x h. omega (arith, A.cs_once x h, one_less_is c k x pk);
          in_full = λ x h. omega (arith, A.in_full x h, one_less_is a j x pj);
        }

  -- A grain of a valid guarantee, where the debt's period has no credit left.

  module _ (none : credited T c (T.period j) ≡ 0) where
    -- at a day up to the debt's, the debt's period exceeds its credit by one grain more with the debt's grain than without
    excess_less : (d : ℕ) → d ≤ T.day j → (q : ℕ) →
        owed T a d q - credited T c q ≡ (owed T (one_less a j) d q - credited T c q) + amount_if (eqb (T.period j) q) 1
    excess_less d by q = grind (arith, nat_tests, owed_less d q, due_by d q by, none)

    uncredited_less : (d : ℕ) → d ≤ T.day j → uncredited T a c d ≡ uncredited T (one_less a j) c d + 1
    uncredited_less d by =
        total_same_each (λ q. owed T a d q - credited T c q) (λ q. (owed T (one_less a j) d q - credited T c q) + amount_if (eqb (T.period j) q) 1) T.periods (excess_less d by)
        ∙ total_add (λ q. owed T (one_less a j) d q - credited T c q) (λ q. amount_if (eqb (T.period j) q) 1) T.periods
        ∙ ap (λ n. uncredited T (one_less a j) c d + n) (T.once j lj)

    guarantee_left : Enough T a g c → (i : ℕ) × (i < T.guarantees) × (0 < amount_if (T.valid i (T.day j)) (g i))
    guarantee_left h = some_term T.guarantees (λ i. amount_if (T.valid i (T.day j)) (g i)) (omega (arith, h j lj, uncredited_less (T.day j) (omega arith)))

    module _ (i : ℕ) (li : i < T.guarantees) (pi : 0 < g i) (ok : T.valid i (T.day j) ≡ true) where
      still_enough_by_guarantee : Enough T a g c → Enough T (one_less a j) (one_less g i) c
      still_enough_by_guarantee h x lx =
          grind (
            arith,
            nat_tests,
            h x lx,
            uncredited_after c (T.day x),
            uncredited_less (T.day x),
            one_less_sum T.guarantees (λ y. T.valid y (T.day x)) g i li pi,
            T.valid_before i (T.day x) (T.day j),
          )

      add_guarantee : Allocated T (one_less a j) (one_less g i) c → Allocated T a g c
      add_guarantee A =
          record {
            gs = record { source = i; debt = j; grains = 1 } ∷ A.gs;
            cs = A.cs;
            in_time = ((li, lj, ok), A.in_time);
            in_period = A.in_period;
            gs_once = λ x h. omega (arith, A.gs_once x h, one_less_is g i x pi);
            cs_once = A.cs_once;
            in_full = λ x h. omega (arith, A.in_full x h, one_less_is a j x pj);
          }

-- by induction on what is owed in all
pub sufficient : (T : Terms) (left : ℕ) (a g c : ℕ → ℕ) → sum_below T.debts a ≡ left → Enough T a g c → Allocated T a g c
sufficient T zero a g c e h =
    record {
      gs = [];
      cs = [];
      in_time = tt;
      in_period = tt;
      gs_once = λ i l. omega arith;
      cs_once = λ k l. omega arith;
      in_full = λ j l. omega (arith, term_le T.debts a j l);
    }
sufficient T (suc left) a g c e h =
    elim (latest T.debts a T.day) [
      | inl z ↦ absurd (omega arith)
      | inr (j, lj, pj, top) ↦
          let fewer : sum_below T.debts (one_less a j) ≡ left = omega (arith, one_less_sum T.debts (λ _. true) a j lj pj) in
          elim (cases_lt 0 (credited T c (T.period j))) [
            | inl some ↦
                let (k, lk, x) = some_term T.credits (λ k. amount_if (eqb (T.earned k) (T.period j)) (c k)) some in
                let (eq, pk) = if_positive (eqb (T.earned k) (T.period j)) (c k) x in
                let same : T.earned k ≡ T.period j = eqb-true (T.earned k) (T.period j) eq in
                add_credit T a g c j lj pj top k lk pk same (sufficient T left (one_less a j) g (one_less c k) fewer (still_enough_by_credit T a g c j lj pj top k lk pk same h))
            | inr z ↦
                let none : credited T c (T.period j) ≡ 0 = omega arith in
                let (i, li, x) = guarantee_left T a g c j lj pj top none h in
                let (ok, pi) = if_positive (T.valid i (T.day j)) (g i) x in
                add_guarantee T a g c j lj pj top none i li pi ok (sufficient T left (one_less a j) (one_less g i) c fewer (still_enough_by_guarantee T a g c j lj pj top none i li pi ok h))
          ]
    ]
