use Rattle.std.proofs.Common.{◌≡◌, is_some, refl, ap, subst, ◌∙◌, to_z-of_z, w64, SFits, rules}
use Rattle.coverage.specs.Admission.{Admissible, position_of}
use Rattle.coverage.specs.Allocation.{Position}
use Rattle.coverage.specs.Capacity.{capacity, SmallestOfTheDays}
use Rattle.coverage.specs.Meaning.{Dated}
use Rattle.coverage.proofs.Limits.{dated}
use Rattle.coverage.proofs.Meaning.{covered_exactly_from_zero, below_zero_none_covers, largest_further_debt, smallest_further_guarantee}
use Rattle.coverage.proofs.position.Position.capacity.Goals as goal

pub returns : goal.returns
returns c =
    let p : Position = position_of c.args.self.now in
    let fit : Admissible p = c.admitted.ensures.exactly_when_within_the_limits.0 (ap is_some c.in_ok-admitted.was) in
    let in_time : Dated p = dated p fit in
    let same : c.in_ok-admitted.field-0.position ≡ c.args.self.now = c.in_ok-admitted.ensures.of_this_position in
    let fits : SFits w64 c.capacity.result = search rules in
    let least : SmallestOfTheDays p c.capacity.result = subst (λ q. SmallestOfTheDays (position_of q) c.capacity.result) same c.capacity.ensures.smallest_of_the_days in
    rw (to_z-of_z fits) (record {
      answered_exactly_within_the_limits = ((λ _. fit), (λ _. refl));
      is_the_capacity = c.capacity.ensures.is_the_capacity ∙ ap (λ q. capacity (position_of q)) same;
      is_the_smallest_of_the_days = least;
      an_allocation_covers_exactly_from_zero = covered_exactly_from_zero p _ in_time least;
      below_zero_no_allocation_covers = below_zero_none_covers p _ in_time least;
      from_zero_it_is_the_largest_further_debt = largest_further_debt p _ in_time least;
      below_zero_its_opposite_is_the_smallest_further_guarantee = smallest_further_guarantee p _ in_time least;
    })
