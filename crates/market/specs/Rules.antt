-- The three markets: what a cell is worth, which outcomes count, and what the cell may come to.
use Rattle.std.specs.Prelude.{◌≡◌, ℕ, ◌*◌, ◌⊎◌, List, [], length, ℤ, pos, negsuc, ◌+ℤ◌, ◌-ℤ◌, ◌*ℤ◌, neg_ℤ, unsigned_abs}
use Rattle.std.specs.Int.{int_min}
use Rattle.market.specs.declared.orders.Side.{Side}
use Rattle.market.specs.declared.orders.Side.TheVariants.{Buy, Sell}
use Rattle.market.specs.declared.orders.Order.{Order}
use Rattle.market.specs.declared.figures.Amounts.{Amounts}
use Rattle.market.specs.declared.units.Price.{Price}
use Rattle.market.specs.declared.xbid.Xbid.{Xbid as XbidRule}
use Rattle.market.specs.declared.mpeg.Mpeg.{Mpeg as MpegRule}
use Rattle.market.specs.declared.pce.Pce.{Pce as PceRule}
use Rattle.market.specs.declared.any.Market.{Market}
use Rattle.market.specs.declared.any.Market.TheVariants.{Xbid, Mpeg, Pce}
use Rattle.market.specs.Units.{grains}
use Rattle.market.specs.Outcomes.{Outcome, Along}
use Rattle.market.specs.Limits.{every, losing, losing_purchase, losing_sale, at_limits}
use Rattle.market.specs.Rule.{Valuation, Meaning}

-- MI-XBID: what was sold less what was bought. Every outcome counts.

abbrev pub xbid_worth : ℕ → Amounts → ℤ
xbid_worth vat a = grains vat (a.earned -ℤ a.paid)

abbrev pub xbid_valuation : Valuation
xbid_valuation = record {
  worth = xbid_worth;
  exposure = λ vat a orders. int_min (pos 0) (xbid_worth vat (at_limits losing a orders));
  Counts = λ a orders outcome. Unit {0};
}

-- MPEG: the check price is added to the price of every kWh. An outcome counts that fills purchases only, or sales only.

abbrev pub repriced : ℤ → Amounts → Amounts
repriced check a = record {
  bought = a.bought;
  paid = a.paid +ℤ check *ℤ pos a.bought;
  sold = a.sold;
  earned = a.earned +ℤ check *ℤ pos a.sold;
}

abbrev pub mpeg_worth : ℤ → ℕ → Amounts → ℤ
mpeg_worth check vat a = xbid_worth vat (repriced check a)

-- no order of that side is filled
abbrev pub Unfilled : Side → List Order → Outcome → Type 0
Unfilled side = Along (λ o fill. o.side ≡ side → fill ≡ [])

abbrev pub mpeg_valuation : ℤ → Valuation
mpeg_valuation check = record {
  worth = mpeg_worth check;
  exposure = λ vat a orders. int_min (pos 0) (int_min (mpeg_worth check vat (at_limits (losing_purchase check) a orders)) (mpeg_worth check vat (at_limits (losing_sale check) a orders)));
  Counts = λ a orders outcome. Unfilled Sell orders outcome ⊎ Unfilled Buy orders outcome;
}

-- PCE: what is out of balance costs the CCT, the zonal price less the national one, which is estimated beforehand.
-- The outcomes count that fill every order whole.

-- an estimate below 0 counts as 0
abbrev pub cct : ℤ → ℕ
cct (pos n) = n
cct (negsuc n) = 0

abbrev pub imbalance : Amounts → ℕ
imbalance a = unsigned_abs (pos a.sold -ℤ pos a.bought)

abbrev pub pce_worth : ℤ → ℕ → Amounts → ℤ
pce_worth estimate vat a = grains vat (neg_ℤ (pos (imbalance a * cct estimate)))

abbrev pub FilledWhole : List Order → Outcome → Type 0
FilledWhole = Along (λ o fill. length fill ≡ o.kwh)

abbrev pub pce_valuation : ℤ → Valuation
pce_valuation estimate = record {
  worth = pce_worth estimate;
  exposure = λ vat a orders. pce_worth estimate vat (at_limits every a orders);
  Counts = λ a orders outcome. FilledWhole orders outcome;
}

abbrev pub xbid : Meaning XbidRule
xbid = record { valuation = λ rule. xbid_valuation; reference = λ rule. rule.reference; published = λ rule price. record { reference = price } }

abbrev pub mpeg : Meaning MpegRule
mpeg = record { valuation = λ rule. mpeg_valuation rule.reference.cents; reference = λ rule. rule.reference; published = λ rule price. record { reference = price } }

abbrev pub pce : Meaning PceRule
pce = record { valuation = λ rule. pce_valuation rule.reference.cents; reference = λ rule. rule.reference; published = λ rule price. record { reference = price } }

-- one market of the three, which stays the same when a price is published
abbrev pub any : Meaning Market
any = record { valuation = says; reference = stands; published = follows }
  where
    says : Market → Valuation
    says (Xbid rule) = xbid.valuation rule
    says (Mpeg rule) = mpeg.valuation rule
    says (Pce rule) = pce.valuation rule

    stands : Market → Price
    stands (Xbid rule) = xbid.reference rule
    stands (Mpeg rule) = mpeg.reference rule
    stands (Pce rule) = pce.reference rule

    follows : Market → Price → Market
    follows (Xbid rule) price = Xbid (xbid.published rule price)
    follows (Mpeg rule) price = Mpeg (mpeg.published rule price)
    follows (Pce rule) price = Pce (pce.published rule price)
