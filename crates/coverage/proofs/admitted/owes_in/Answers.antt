use Rattle.std.proofs.Common.{◌==◌, ◌∙◌, rules}
use borrow.Author.Tests.{tests}
use Rattle.std.proofs.lemmas.Iterator.{YieldsList-from_slice}
use Rattle.std.proofs.lemmas.Iterator.Search.{any_from_yields_List}
use Rattle.coverage.proofs.Periods.{owes_in_is}
use Rattle.coverage.proofs.admitted.owes_in.Goals as goal

pub returns : goal.returns
returns c =
    record {
      some_debt_of_the_period = any_from_yields_List (λ x. x.period == c.args.period) _ _ c.any.result c.any.ensures.ran (YieldsList-from_slice c.args.debts.now cc) (λ x b q k. search (rules, tests))
          ∙ owes_in_is c.args.debts.now c.args.period;
    }
