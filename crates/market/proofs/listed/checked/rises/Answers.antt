use Rattle.std.proofs.Common.{rules, ltb}
use Rattle.std.proofs.lemmas.Fn.{always_returns_same}
use Rattle.market.proofs.Lists.{tells_rising}
use Rattle.market.proofs.listed.checked.rises.Goals as goal

pub returns : goal.returns
returns c = record { tells_whether = tells_rising _ _ (c.is_sorted_by.ensures.cases ltb (always_returns_same _ _ _ (λ a r f' k. search rules))) }
