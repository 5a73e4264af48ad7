use Rattle.std.proofs.Common.{rules, ◌≤◌}
use borrow.Author.Tests.{tests}
use Rattle.std.proofs.lemmas.Bool.Decides.{when_true}
use Rattle.std.proofs.lemmas.Iterator.{cases_from_all, YieldsList-from_slice}
use Rattle.std.proofs.lemmas.Iterator.Search.{true_from_All}
use Rattle.std.proofs.lemmas.List.Elements.{All-from_recursion, recursion_from_All, All-from_all_within}
use Rattle.coverage.specs.declared.rows.Debt.{Debt}
use Rattle.coverage.proofs.position.Position.debts_in_range.Goals as goal

pub returns : goal.returns
returns c =
    let P = λ (x : Debt). (c.args.self.now.first_day ≤ x.day) × (x.day ≤ c.args.self.now.today) × (x.grains ≤ 32000000000000000) in
    let h = cases_from_all _ _ c.all.result P (λ x. P x → ⊥) c.all.ensures.ran (YieldsList-from_slice c.args.self.now.debts.now cc) (λ x q k. search (rules, tests)) (λ x q k. search (rules, tests)) in
    record {
      each_of_a_day_and_amount_in_range = (
        (λ e. recursion_from_All P _ (All-from_all_within P _ (when_true _ _ e h))),
        (λ all. true_from_All P (λ x. P x → ⊥) _ _ (λ x p n. n p) h (All-from_recursion P _ all)),
      );
    }
