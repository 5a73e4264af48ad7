-- The three market rules keep the laws of a market rule.
use Rattle.std.specs.Prelude.{◌≡◌, ℕ, ◌+◌, ◌*◌, ◌≤◌, Bool, true, false, cond, ◌&&◌, ◌⊎◌, List, [], ◌∷◌, length, replicate, ℤ, pos, negsuc, ◌+ℤ◌, ◌-ℤ◌, ◌*ℤ◌, neg_ℤ, ◌≤ℤ◌, unsigned_abs, refl}
use Rattle.std.proofs.Math.Path.{sym, ap}
use Rattle.std.proofs.Common.{ap₂, subst, ◌∙◌, arith, mul-le-mul, zero-mul, le_refl}
use Rattle.std.proofs.Math.Logic.{inl, inr}
use borrow.Author.Differences.{ints}
use Rattle.std.specs.Int.Signed.{≤ℤ_refl}
use Rattle.std.proofs.lemmas.List.{length-replicate}
use Rattle.std.specs.Int.{int_min}
use Rattle.std.specs.List.{AllByRecursion}
use Rattle.std.proofs.lemmas.Int.{clamps, by_lt_z}
use Rattle.market.specs.declared.orders.Side.{Side}
use Rattle.market.specs.declared.orders.Side.TheVariants.{Buy, Sell}
use Rattle.market.specs.declared.orders.Order.{Order}
use Rattle.market.specs.declared.figures.Amounts.{Amounts}
use Rattle.market.specs.declared.units.Price.{Price}
use Rattle.market.specs.declared.any.Market.{Market}
use Rattle.market.specs.declared.any.Market.TheVariants.{Xbid, Mpeg, Pce}
use Rattle.market.specs.Units.{PriceRange, VatRange, grains}
use Rattle.market.specs.Orders.{WithinLimits}
use Rattle.market.specs.Outcomes.{Fill, Outcome, Along, Possible, traded, value, after, nothing_traded}
use Rattle.market.specs.Limits.{loses, is_on, every, losing, losing_on, losing_purchase, at_limit, at_limits}
use Rattle.market.specs.Rule.{Sound, Lawful}
use Rattle.market.specs.Rules.{xbid_worth, xbid_valuation, mpeg_worth, Unfilled, mpeg_valuation, cct, imbalance, pce_worth, FilledWhole, pce_valuation, xbid, mpeg, pce, any}
use Rattle.market.specs.Products.{times_mono, abs_times}
use Rattle.market.specs.Worst.{net, none_worse, at_limit_outcome, possible, after_at_limits}

abbrev InRange : ℤ → Type 0
InRange z = unsigned_abs z ≤ 32000000000000000

grains_range : (vat : ℕ) (v : ℤ) → VatRange vat → unsigned_abs v ≤ 80000000000000 → InRange (grains vat v)
grains_range vat v h l = let k : 100 + vat ≤ 199 = omega arith in omega (arith, abs_times v (100 + vat) 80000000000000 199 l k)

min_under : (z : ℤ) → (int_min (pos 0) z ≤ℤ pos 0) × (int_min (pos 0) z ≤ℤ z)
min_under z = (omega (arith, ints, clamps), omega (arith, ints, clamps))

min_one : (a b : ℤ) → (int_min a b ≡ a) ⊎ (int_min a b ≡ b)
min_one a b = by_lt_z b a (λ l. inr (omega (arith, ints, clamps))) (λ l. inl (omega (arith, ints, clamps)))

-- what follows of each order and its fill follows along them
Along-weaker : {R S : Order → Fill → Type 0} → ((o : Order) (fill : Fill) → R o fill → S o fill) → (orders : List Order) (outcome : Outcome) → Along R orders outcome → Along S orders outcome
Along-weaker f [] [] h = tt
Along-weaker f [] (fill ∷ outcome) h = absurd h
Along-weaker f (o ∷ orders) [] h = absurd h
Along-weaker f (o ∷ orders) (fill ∷ outcome) h = (f o fill h.0, Along-weaker f orders outcome h.1)

-- MI-XBID

all_allowed : (orders : List Order) (outcome : Outcome) → Possible orders outcome → Along (λ o fill. true ≡ false → fill ≡ []) orders outcome
all_allowed = Along-weaker (λ o fill f e. cc)

xbid_least : (vat : ℕ) (a : Amounts) (orders : List Order) (outcome : Outcome) → Possible orders outcome → xbid_worth vat (at_limits losing a orders) ≤ℤ xbid_worth vat (after a orders outcome)
xbid_least vat a orders outcome h =
    let l : net (pos 0) (at_limits losing a orders) ≤ℤ net (pos 0) (after a orders outcome) =
    none_worse (pos 0) (λ side. true) (λ o. o.limit) (λ o. omega (arith, ints)) a a orders outcome h (all_allowed orders outcome h) (≤ℤ_refl (net (pos 0) a)) in
    times_mono (100 + vat) ((at_limits losing a orders).earned -ℤ (at_limits losing a orders).paid) ((after a orders outcome).earned -ℤ (after a orders outcome).paid)
    (omega (arith, ints, l))

xbid_sound : Sound xbid_valuation
xbid_sound = record {
  nothing_is_worth_0 = λ vat v. omega (arith, ints);
  worth_in_range = λ vat a v h. grains_range vat (a.earned -ℤ a.paid) v (omega (arith, ints, h.energy, h.paid, h.earned));
  some_counted = λ a orders h. (at_limit_outcome losing orders, (possible losing orders h.limits, tt));
  at_most_0 = λ vat a orders v h. (min_under (xbid_worth vat (at_limits losing a orders))).0;
  none_below = λ vat a orders v h outcome w. omega (arith, ints, min_under (xbid_worth vat (at_limits losing a orders)), xbid_least vat a orders outcome w.0);
  reached = λ vat a orders v h.
      elim (min_one (pos 0) (xbid_worth vat (at_limits losing a orders))) [
        | inl z ↦ inl z
        | inr z ↦ inr (at_limit_outcome losing orders, (possible losing orders h.limits, tt), ap (xbid_worth vat) (after_at_limits losing a orders) ∙ sym z)
      ];
}

pub xbid_lawful : Lawful xbid
xbid_lawful = record { sound = λ rule. xbid_sound; reads_back = λ rule price. refl; last_counts = λ rule first last. refl; same_again = λ rule. refl }

-- MPEG

abbrev opposite : Side → Side
opposite Buy = Sell
opposite Sell = Buy

not_on : (side s : Side) → is_on side s ≡ false → s ≡ opposite side
not_on Buy Buy e = cc
not_on Buy Sell e = refl
not_on Sell Buy e = refl
not_on Sell Sell e = cc

on_opposite : (side s : Side) → s ≡ opposite side → is_on side s ≡ false
on_opposite Buy s e = ap (is_on Buy) e
on_opposite Sell s e = ap (is_on Sell) e

-- an outcome that leaves a side unfilled fills only orders whose side passes, where no side fails but that
unfilled_allowed : (side : Side) (p : Side → Bool) → ((s : Side) → p s ≡ false → s ≡ side) → (orders : List Order) (outcome : Outcome) → Unfilled side orders outcome → Along (λ o fill. p o.side ≡ false → fill ≡ []) orders outcome
unfilled_allowed side p f = Along-weaker (λ o fill unfilled e. unfilled (f o.side e))

-- where no order of a side is chosen, the outcome at the limits leaves that side unfilled
at_limits_unfilled : (side : Side) (chosen : Order → Bool) → ((o : Order) → o.side ≡ side → chosen o ≡ false) → (orders : List Order) → Unfilled side orders (at_limit_outcome chosen orders)
at_limits_unfilled side chosen f [] = tt
at_limits_unfilled side chosen f (o ∷ orders) = ((λ e. ap (λ t. cond t (replicate o.kwh o.limit) []) (f o e)), at_limits_unfilled side chosen f orders)

module _ (check : ℤ) where
  -- an order of the other side is no losing one of this
  not_losing : (side : Side) (o : Order) → o.side ≡ opposite side → losing_on side check o ≡ false
  not_losing side o e = ap (λ t. t && loses o.side (o.limit +ℤ check)) (on_opposite side o.side e)

  -- with the losing orders of one side filled at their limits, the other side is unfilled
  other_unfilled : (side : Side) (orders : List Order) → Unfilled (opposite side) orders (at_limit_outcome (losing_on side check) orders)
  other_unfilled side = at_limits_unfilled (opposite side) (losing_on side check) (not_losing side)

  module _ (vat : ℕ) (a : Amounts) (orders : List Order) where
    -- the worth with the losing orders of a side
    filled_on : Side → ℤ
    filled_on side = mpeg_worth check vat (at_limits (losing_on side check) a orders)

    side_least : (side : Side) (outcome : Outcome) → Possible orders outcome → Unfilled (opposite side) orders outcome → filled_on side ≤ℤ mpeg_worth check vat (after a orders outcome)
    unfolding filled_on
    side_least side outcome h w =
        times_mono (100 + vat) (net check (at_limits (losing_on side check) a orders)) (net check (after a orders outcome))
        (none_worse check (is_on side) (λ o. o.limit +ℤ check) (λ o. refl) a a orders outcome h (unfilled_allowed (opposite side) (is_on side) (not_on side) orders outcome w) (≤ℤ_refl (net check a)))

    abbrev least : ℤ
    least = int_min (pos 0) (int_min (filled_on Buy) (filled_on Sell))

    mpeg_least : (outcome : Outcome) → Possible orders outcome → Unfilled Sell orders outcome ⊎ Unfilled Buy orders outcome → least ≤ℤ mpeg_worth check vat (after a orders outcome)
    mpeg_least outcome h (inl w) = omega (arith, ints, clamps, side_least Buy outcome h w)
    mpeg_least outcome h (inr w) = omega (arith, ints, clamps, side_least Sell outcome h w)

    abbrev Reached : Type 0
    Reached = (outcome : Outcome) × (Possible orders outcome × (Unfilled Sell orders outcome ⊎ Unfilled Buy orders outcome)) × (mpeg_worth check vat (after a orders outcome) ≡ least)

    mpeg_reached : AllByRecursion (λ o. PriceRange o.limit) orders → (least ≡ pos 0) ⊎ Reached
    unfolding filled_on
    mpeg_reached h =
        elim (min_one (pos 0) (int_min (filled_on Buy) (filled_on Sell))) [
          | inl z ↦ inl z
          | inr z ↦ elim (min_one (filled_on Buy) (filled_on Sell)) [ inl w ↦ by Buy (z ∙ w) (inl (other_unfilled Buy orders)) | inr w ↦ by Sell (z ∙ w) (inr (other_unfilled Sell orders)) ]
        ]
      where
        by : (side : Side) → least ≡ filled_on side →
            Unfilled Sell orders (at_limit_outcome (losing_on side check) orders) ⊎ Unfilled Buy orders (at_limit_outcome (losing_on side check) orders) → (least ≡ pos 0) ⊎ Reached
        by side e w = inr (at_limit_outcome (losing_on side check) orders, (possible (losing_on side check) orders h, w), ap (mpeg_worth check vat) (after_at_limits (losing_on side check) a orders) ∙ sym e)

  net_range : PriceRange check → (a : Amounts) → WithinLimits a [] → unsigned_abs (net check a) ≤ 80000000000000
  net_range l a h = omega (arith, ints, h.energy, h.paid, h.earned, abs_times check a.sold 400000 a.sold l (le_refl a.sold), abs_times check a.bought 400000 a.bought l (le_refl a.bought))

  mpeg_sound : PriceRange check → Sound (mpeg_valuation check)
  unfolding filled_on
  mpeg_sound l = record {
    nothing_is_worth_0 = λ vat v. let e : net check nothing_traded ≡ pos 0 = omega (arith, ints) in omega (arith, ints, ap (grains vat) e);
    worth_in_range = λ vat a v h. grains_range vat (net check a) v (net_range l a h);
    some_counted = λ a orders h. (at_limit_outcome (losing_purchase check) orders, (possible (losing_purchase check) orders h.limits, inl (other_unfilled Buy orders)));
    at_most_0 = λ vat a orders v h. (min_under (int_min (filled_on vat a orders Buy) (filled_on vat a orders Sell))).0;
    none_below = λ vat a orders v h outcome w. mpeg_least vat a orders outcome w.0 w.1;
    reached = λ vat a orders v h. mpeg_reached vat a orders h.limits;
  }

pub mpeg_lawful : Lawful mpeg
mpeg_lawful = record { sound = λ rule. mpeg_sound rule.reference.cents rule.reference.ranged; reads_back = λ rule price. refl; last_counts = λ rule first last. refl; same_again = λ rule. refl }

-- PCE

-- two ways of filling every order whole trade the same energy
same_energy : (a b : Amounts) (orders : List Order) (outcome : Outcome) → FilledWhole orders outcome → a.bought ≡ b.bought → a.sold ≡ b.sold →
    ((after a orders outcome).bought ≡ (at_limits every b orders).bought) × ((after a orders outcome).sold ≡ (at_limits every b orders).sold)
same_energy a b [] [] h p q = (p, q)
same_energy a b [] (fill ∷ outcome) h p q = absurd h
same_energy a b (o ∷ orders) [] h p q = absurd h
same_energy a b (o ∷ orders) (fill ∷ outcome) h p q =
    let t : ((traded o.side (length fill) (value fill) a).bought ≡ (at_limit every o b).bought) × ((traded o.side (length fill) (value fill) a).sold ≡ (at_limit every o b).sold) = one o.side in
    same_energy (traded o.side (length fill) (value fill) a) (at_limit every o b) orders outcome h.1 t.0 t.1
  where
    one : (side : Side) → ((traded side (length fill) (value fill) a).bought ≡ (traded side o.kwh (o.limit *ℤ pos o.kwh) b).bought)
        × ((traded side (length fill) (value fill) a).sold ≡ (traded side o.kwh (o.limit *ℤ pos o.kwh) b).sold)
    one Buy = (omega (arith, h.0), q)
    one Sell = (p, omega (arith, h.0))

all_whole : (orders : List Order) → FilledWhole orders (at_limit_outcome every orders)
all_whole [] = tt
all_whole (o ∷ orders) = (length-replicate o.kwh o.limit, all_whole orders)

cct_range : (estimate : ℤ) → PriceRange estimate → cct estimate ≤ 400000
cct_range (pos n) h = h
cct_range (negsuc n) h = omega arith

module _ (estimate : ℤ) where
  same_worth : (vat : ℕ) (a : Amounts) (orders : List Order) (outcome : Outcome) → FilledWhole orders outcome → pce_worth estimate vat (after a orders outcome) ≡ pce_worth estimate vat (at_limits every a orders)
  same_worth vat a orders outcome h =
      let t : ((after a orders outcome).bought ≡ (at_limits every a orders).bought) × ((after a orders outcome).sold ≡ (at_limits every a orders).sold) = same_energy a a orders outcome h refl refl in
      ap₂ (λ b s. grains vat (neg_ℤ (pos (unsigned_abs (pos s -ℤ pos b) * cct estimate)))) t.0 t.1

  pce_sound : PriceRange estimate → Sound (pce_valuation estimate)
  pce_sound l = record {
    nothing_is_worth_0 = λ vat v. omega (arith, ints, ap (λ n. grains vat (neg_ℤ (pos n))) (zero-mul (cct estimate)));
    worth_in_range = λ vat a v h.
        let few : imbalance a ≤ 100000000 = omega (arith, ints, h.energy) in
        grains_range vat (neg_ℤ (pos (imbalance a * cct estimate))) v (omega (arith, ints, mul-le-mul few (cct_range estimate l)));
    some_counted = λ a orders h. (at_limit_outcome every orders, (possible every orders h.limits, all_whole orders));
    at_most_0 = λ vat a orders v h. owed (imbalance (at_limits every a orders) * cct estimate) (100 + vat);
    none_below = λ vat a orders v h outcome w. subst (λ (z : ℤ). pce_worth estimate vat (at_limits every a orders) ≤ℤ z) (sym (same_worth vat a orders outcome w.1)) (≤ℤ_refl (pce_worth estimate vat (at_limits every a orders)));
    reached = λ vat a orders v h. inr (at_limit_outcome every orders, (possible every orders h.limits, all_whole orders), same_worth vat a orders (at_limit_outcome every orders) (all_whole orders));
  }
    where
      owed : (m k : ℕ) → (neg_ℤ (pos m) *ℤ pos k) ≤ℤ pos 0
      owed m k = omega (arith, ints, times_mono k (neg_ℤ (pos m)) (pos 0) (omega (arith, ints)))

pub pce_lawful : Lawful pce
pce_lawful = record { sound = λ rule. pce_sound rule.reference.cents rule.reference.ranged; reads_back = λ rule price. refl; last_counts = λ rule first last. refl; same_again = λ rule. refl }

-- one market of the three

any_sound : (market : Market) → Sound (any.valuation market)
any_sound (Xbid rule) = xbid_lawful.sound rule
any_sound (Mpeg rule) = mpeg_lawful.sound rule
any_sound (Pce rule) = pce_lawful.sound rule

any_reads : (market : Market) (price : Price) → any.reference (any.published market price) ≡ price
any_reads (Xbid rule) price = refl
any_reads (Mpeg rule) price = refl
any_reads (Pce rule) price = refl

any_last : (market : Market) (first last : Price) → any.published (any.published market first) last ≡ any.published market last
any_last (Xbid rule) first last = refl
any_last (Mpeg rule) first last = refl
any_last (Pce rule) first last = refl

any_same : (market : Market) → any.published market (any.reference market) ≡ market
any_same (Xbid rule) = refl
any_same (Mpeg rule) = refl
any_same (Pce rule) = refl

pub any_lawful : Lawful any
any_lawful = record { sound = any_sound; reads_back = any_reads; last_counts = any_last; same_again = any_same }
