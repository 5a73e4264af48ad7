-- No outcome leaves less than the losing orders filled whole at their limits, and that one is possible.
use Rattle.std.specs.Prelude.{◌≡◌, ℕ, zero, suc, ◌*◌, ◌≤◌, Bool, true, false, cond, ◌&&◌, List, [], ◌∷◌, map, length, replicate, ℤ, pos, negsuc, ◌+ℤ◌, ◌-ℤ◌, ◌*ℤ◌, neg_ℤ, ◌≤ℤ◌, refl}
use Rattle.std.proofs.Common.{sym, ap, ap₂, ◌∙◌, arith, mul-le-mul, mul_comm, mul-zero, suc-mul, le_refl}
use borrow.Author.Differences.{ints, up, down}
use Rattle.std.specs.Int.Signed.{≤ℤ_refl}
use Rattle.std.proofs.lemmas.List.{length-replicate}
use Rattle.std.specs.List.{AllByRecursion}
use Rattle.std.proofs.ByRecursion.{All-weaker}
use Rattle.market.specs.declared.orders.Side.{Side}
use Rattle.market.specs.declared.orders.Side.TheVariants.{Buy, Sell}
use Rattle.market.specs.declared.orders.Order.{Order}
use Rattle.market.specs.declared.figures.Amounts.{Amounts}
use Rattle.market.specs.Units.{PriceRange}
use Rattle.market.specs.Outcomes.{Fill, value, NoWorse, Fills, Outcome, Along, Possible, traded, after}
use Rattle.market.specs.Limits.{loses, at_limit, at_limits}
use Rattle.market.specs.Rules.{repriced}
use Rattle.market.specs.Products.{times_suc, times_add, times_both}

-- earned less paid, with r added to every price
abbrev pub net : ℤ → Amounts → ℤ
net r a = (repriced r a).earned -ℤ (repriced r a).paid

-- what a fill adds to it
abbrev gain : ℤ → Side → ℕ → ℤ → ℤ
gain r Buy kwh v = neg_ℤ (v +ℤ r *ℤ pos kwh)
gain r Sell kwh v = v +ℤ r *ℤ pos kwh

net_traded : (r : ℤ) (side : Side) (kwh : ℕ) (v : ℤ) (a : Amounts) → net r (traded side kwh v a) ≡ net r a +ℤ gain r side kwh v
net_traded r Buy kwh v a = omega (arith, ints, times_add r a.bought kwh)
net_traded r Sell kwh v a = omega (arith, ints, times_add r a.sold kwh)

no_gain : (r : ℤ) (side : Side) → gain r side 0 (pos 0) ≡ pos 0
no_gain r Buy = omega (arith, ints)
no_gain r Sell = omega (arith, ints)

-- prices that are, with r, at most or at least so much
value_most : (r : ℤ) (m : ℕ) (fill : Fill) → AllByRecursion (λ p. (p +ℤ r) ≤ℤ pos m) fill → (value fill +ℤ r *ℤ pos (length fill)) ≤ℤ pos (length fill * m)
value_most r m [] h = omega (arith, ints)
value_most r m (p ∷ fill) h = omega (arith, ints, times_suc r (length fill), suc-mul (length fill) m, value_most r m fill h.1, h.0)

value_least : (r : ℤ) (m : ℕ) (fill : Fill) → AllByRecursion (λ p. neg_ℤ (pos m) ≤ℤ (p +ℤ r)) fill → neg_ℤ (pos (length fill * m)) ≤ℤ (value fill +ℤ r *ℤ pos (length fill))
value_least r m [] h = omega (arith, ints)
value_least r m (p ∷ fill) h = omega (arith, ints, times_suc r (length fill), suc-mul (length fill) m, value_least r m fill h.1, h.0)

-- what an order can lose, at a limit that is z with r added
cost : Side → ℕ → ℤ → ℕ
cost Buy kwh z = kwh * up z
cost Sell kwh z = kwh * down z

gain_least : (r : ℤ) (side : Side) (kwh : ℕ) (limit : ℤ) (fill : Fill) → length fill ≤ kwh → AllByRecursion (NoWorse side limit) fill →
    neg_ℤ (pos (cost side kwh (limit +ℤ r))) ≤ℤ gain r side (length fill) (value fill)
unfolding cost
gain_least r Buy kwh limit fill n h =
    let m : ℕ = up (limit +ℤ r) in
    let l : AllByRecursion (λ p. (p +ℤ r) ≤ℤ pos m) fill = All-weaker (λ p. p ≤ℤ limit) (λ p. (p +ℤ r) ≤ℤ pos m) (λ p l. omega (arith, ints)) fill h in
    omega (arith, ints, value_most r m fill l, mul-le-mul n (le_refl m))
gain_least r Sell kwh limit fill n h =
    let m : ℕ = down (limit +ℤ r) in
    let l : AllByRecursion (λ p. neg_ℤ (pos m) ≤ℤ (p +ℤ r)) fill = All-weaker (λ p. limit ≤ℤ p) (λ p. neg_ℤ (pos m) ≤ℤ (p +ℤ r)) (λ p l. omega (arith, ints)) fill h in
    omega (arith, ints, value_least r m fill l, mul-le-mul n (le_refl m))

-- a losing order loses that whole at its limit, and any other loses nothing
cost_whole : (side : Side) (kwh : ℕ) (z : ℤ) → loses side z ≡ true → gain (pos 0) side kwh (z *ℤ pos kwh) ≡ neg_ℤ (pos (cost side kwh z))
unfolding cost
cost_whole Buy kwh (pos n) h = omega (arith, ints, mul_comm kwh n)
cost_whole Buy kwh (negsuc n) h = grind (arith, ints)
cost_whole Sell kwh (pos n) h = let c : ⊥ = grind (arith, ints) in absurd c
cost_whole Sell kwh (negsuc n) h = omega (arith, ints, mul_comm kwh (suc n))

cost_none : (side : Side) (kwh : ℕ) (z : ℤ) → loses side z ≡ false → cost side kwh z ≡ 0
unfolding cost
cost_none Buy kwh (pos zero) h = mul-zero kwh
cost_none Buy kwh (pos (suc n)) h = grind (arith, ints)
cost_none Buy kwh (negsuc n) h = mul-zero kwh
cost_none Sell kwh (pos n) h = mul-zero kwh
cost_none Sell kwh (negsuc n) h = grind (arith, ints)

limit_gain : (r : ℤ) (side : Side) (kwh : ℕ) (limit : ℤ) → gain r side kwh (limit *ℤ pos kwh) ≡ gain (pos 0) side kwh ((limit +ℤ r) *ℤ pos kwh)
limit_gain r Buy kwh limit = omega (arith, ints, times_both limit r kwh)
limit_gain r Sell kwh limit = omega (arith, ints, times_both limit r kwh)

pub same_whole : (b b' s s' : ℕ) (p p' e e' : ℤ) → b ≡ b' → s ≡ s' → p ≡ p' → e ≡ e' →
    ◌≡◌ {A = Amounts} (record { bought = b; paid = p; sold = s; earned = e }) (record { bought = b'; paid = p'; sold = s'; earned = e' })
same_whole b b' s s' p p' e e' h k l m = cc

nothing_more : (side : Side) (a : Amounts) → traded side 0 (pos 0) a ≡ a
nothing_more Buy a = same_whole _ _ _ _ _ _ _ _ (omega arith) refl (omega (arith, ints)) refl
nothing_more Sell a = same_whole _ _ _ _ _ _ _ _ refl (omega arith) refl (omega (arith, ints))

-- the orders of the sides that p takes are chosen that lose at their price, which is their limit with r added
module _ (r : ℤ) (p : Side → Bool) (price : Order → ℤ) (is : (o : Order) → price o ≡ o.limit +ℤ r) where
  abbrev chosen : Order → Bool
  chosen o = p o.side && loses o.side (price o)

  abbrev Allowed : Order → Fill → Type 0
  Allowed o fill = p o.side ≡ false → fill ≡ []

  -- no fill gains less than that of a chosen order at its limit, or none of another
  step : (o : Order) (fill : Fill) → Fills o fill → Allowed o fill →
      cond (chosen o) (gain r o.side o.kwh (o.limit *ℤ pos o.kwh)) (pos 0) ≤ℤ gain r o.side (length fill) (value fill)
  step o fill f w = go (p o.side) (loses o.side (price o)) refl refl
    where
      least : neg_ℤ (pos (cost o.side o.kwh (o.limit +ℤ r))) ≤ℤ gain r o.side (length fill) (value fill)
      least = gain_least r o.side o.kwh o.limit fill f.at_most_open f.no_worse

      go : (s t : Bool) → p o.side ≡ s → loses o.side (price o) ≡ t → cond (s && t) (gain r o.side o.kwh (o.limit *ℤ pos o.kwh)) (pos 0) ≤ℤ gain r o.side (length fill) (value fill)
      go true true e h =
          let l : loses o.side (o.limit +ℤ r) ≡ true = ap (loses o.side) (sym (is o)) ∙ h in
          omega (arith, ints, least, limit_gain r o.side o.kwh o.limit, cost_whole o.side o.kwh (o.limit +ℤ r) l)
      go true false e h =
          let l : loses o.side (o.limit +ℤ r) ≡ false = ap (loses o.side) (sym (is o)) ∙ h in
          omega (arith, ints, least, cost_none o.side o.kwh (o.limit +ℤ r) l)
      go false t e h = omega (arith, ints, no_gain r o.side, ap (λ (x : Fill). gain r o.side (length x) (value x)) (w e))

  one : (o : Order) (fill : Fill) (a b : Amounts) → Fills o fill → Allowed o fill → net r a ≤ℤ net r b → net r (at_limit chosen o a) ≤ℤ net r (traded o.side (length fill) (value fill) b)
  one o fill a b f w l = go (chosen o) (step o fill f w)
    where
      go : (t : Bool) → cond t (gain r o.side o.kwh (o.limit *ℤ pos o.kwh)) (pos 0) ≤ℤ gain r o.side (length fill) (value fill) →
          net r (cond t (traded o.side o.kwh (o.limit *ℤ pos o.kwh) a) a) ≤ℤ net r (traded o.side (length fill) (value fill) b)
      go true h = omega (arith, ints, net_traded r o.side o.kwh (o.limit *ℤ pos o.kwh) a, net_traded r o.side (length fill) (value fill) b)
      go false h = omega (arith, ints, net_traded r o.side (length fill) (value fill) b)

  pub none_worse : (a b : Amounts) (orders : List Order) (outcome : Outcome) → Possible orders outcome → Along Allowed orders outcome → net r a ≤ℤ net r b → net r (at_limits chosen a orders) ≤ℤ net r (after b orders outcome)
  none_worse a b [] [] h w l = l
  none_worse a b [] (fill ∷ outcome) h w l = absurd h
  none_worse a b (o ∷ orders) [] h w l = absurd h
  none_worse a b (o ∷ orders) (fill ∷ outcome) h w l =
      none_worse (at_limit chosen o a) (traded o.side (length fill) (value fill) b) orders outcome h.1 w.1 (one o fill a b h.0 w.0 l)

-- the outcome in which the chosen orders are filled whole at their limits, and no other
module _ (chosen : Order → Bool) where
  abbrev at_limit_fill : Order → Fill
  at_limit_fill o = cond (chosen o) (replicate o.kwh o.limit) []

  abbrev pub at_limit_outcome : List Order → Outcome
  at_limit_outcome = map at_limit_fill

  pub possible : (orders : List Order) → AllByRecursion (λ o. PriceRange o.limit) orders → Possible orders (at_limit_outcome orders)
  possible [] h = tt
  possible (o ∷ orders) h = (go (chosen o), possible orders h.1)
    where
      same : (side : Side) → NoWorse side o.limit o.limit
      same Buy = ≤ℤ_refl o.limit
      same Sell = ≤ℤ_refl o.limit

      each : (P : ℤ → Type 0) → P o.limit → (n : ℕ) → AllByRecursion P (replicate n o.limit)
      each P l zero = tt
      each P l (suc n) = (l, each P l n)

      go : (t : Bool) → Fills o (cond t (replicate o.kwh o.limit) [])
      go true = record {
        at_most_open = omega (arith, length-replicate o.kwh o.limit);
        in_range = each PriceRange h.0 o.kwh;
        no_worse = each (NoWorse o.side o.limit) (same o.side) o.kwh;
      }
      go false = record { at_most_open = omega arith; in_range = tt; no_worse = tt }

  value_same : (z : ℤ) (n : ℕ) → value (replicate n z) ≡ z *ℤ pos n
  value_same z zero = omega (arith, ints)
  value_same z (suc n) = omega (arith, ints, times_suc z n, value_same z n)

  pub after_at_limits : (a : Amounts) (orders : List Order) → after a orders (at_limit_outcome orders) ≡ at_limits chosen a orders
  after_at_limits a [] = refl
  after_at_limits a (o ∷ orders) = ap (λ x. after x orders (at_limit_outcome orders)) (go (chosen o)) ∙ after_at_limits (at_limit chosen o a) orders
    where
      go : (t : Bool) → traded o.side (length (cond t (replicate o.kwh o.limit) [])) (value (cond t (replicate o.kwh o.limit) [])) a ≡ cond t (traded o.side o.kwh (o.limit *ℤ pos o.kwh) a) a
      go true = ap₂ (λ n v. traded o.side n v a) (length-replicate o.kwh o.limit) (value_same o.limit o.kwh)
      go false = nothing_more o.side a
