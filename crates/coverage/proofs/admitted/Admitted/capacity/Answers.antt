use Rattle.std.proofs.Common.{arith, ◌-◌, refl, ◌∙◌, to_z-of_z, w64, SFits, rules}
use Rattle.std.specs.Int.{int_min}
use Rattle.std.proofs.lemmas.Iterator.{YieldsList-from_map, YieldsList-from_range}
use Rattle.std.proofs.lemmas.Iterator.Consumers.{fold_from_yields_List, YieldsList-at}
use Rattle.coverage.specs.Admission.{position_of}
use Rattle.coverage.specs.Allocation.{Position}
use Rattle.coverage.specs.Capacity.{capacity_at, capacity, SmallestOfTheDays}
use Rattle.coverage.proofs.Days.{smallest_by_fold, capacity_is_smallest, smallest_unique}
use Rattle.coverage.proofs.admitted.Admitted.capacity.Goals as goal

pub returns : goal.returns
returns c =
    let p : Position = position_of c.args.self.now.position in
    let today-fits : SFits w64 c.capacity_at.result = search rules in
    let fits : SFits w64 c.fold.result = search rules in
    let least : SmallestOfTheDays p c.fold.result =
    smallest_by_fold p p.today p.first_day (p.today - p.first_day) _ c.fold.result c.args.self.now.days_in_order (omega arith) (omega arith) (omega arith) (λ d f t. grind arith)
    (to_z-of_z today-fits ∙ c.capacity_at.ensures.valid_guarantees_less_debts_above_credit)
    (fold_from_yields_List _ int_min _ _ c.fold.ensures.ran
    (YieldsList-from_map _ (capacity_at p)
    (YieldsList-at c.map.ensures.source (YieldsList-from_range p.first_day p.today (p.today - p.first_day) refl refl))
    c.map.ensures.closure (λ x r q k. search rules))
    (λ a x b q k. search rules)) in
    rw (to_z-of_z fits) (record {
      is_the_capacity = smallest_unique p c.fold.result (capacity p) least (capacity_is_smallest p c.args.self.now.days_in_order);
      smallest_of_the_days = least;
    })
