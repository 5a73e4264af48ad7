use Rattle.std.proofs.Common.{rules, List, ℕ, ltb, sym, ap, ◌∙◌, subst}
use Rattle.std.proofs.lemmas.List.Sorted.{IsPartitionPoint-from_clause}
use Rattle.market.specs.Calendars.{Rising, last_days_before}
use Rattle.market.proofs.Lists.{passes_below, parted}
use Rattle.market.proofs.listed.checked.ListedCalendar.period.Goals as goal

pub returns : goal.returns
returns c =
    let rising = subst (λ (days : List ℕ). Rising days) (sym c.deref.ensures.value) c.args.self.now.rising in
    let point = IsPartitionPoint-from_clause (λ last. ltb last c.args.day) _ _ c.partition_point.ensures.partitioned (parted _ c.args.day rising) (λ a r f' k. search rules) in
    record { is_the_period_of_the_flow_day = sym (passes_below _ _ _ c.partition_point.ensures.bound point) ∙ ap (last_days_before c.args.day) c.deref.ensures.value }
