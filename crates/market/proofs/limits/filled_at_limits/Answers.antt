use Rattle.std.proofs.Common.{true, false, refl, sym, ap, ◌∙◌, arith}
use borrow.Author.Differences.{ints}
use Rattle.std.proofs.lemmas.Fn.{says_at}
use Rattle.market.specs.declared.figures.Figures.{Figures}
use Rattle.market.proofs.Open.{taken, passed, filled, kept, limits_hold}
use Rattle.market.proofs.limits.filled_at_limits.Goals as goal
use Rattle.market.proofs.limits.filled_at_limits.Goals.{then-is_open_in+then-is_chosen, else-is_open_in, else-is_open_in-via-then-is_open_in+else-is_chosen, else-is_open_in-via-else-is_open_in}

pub loop-order-init : goal.loop-order-init
loop-order-init g c = record { room = c.args.cell.now.few; limits = limits_hold c.args.cell.now; leads = λ chosen h. refl }

pub loop-order-preserved : goal.loop-order-preserved
loop-order-preserved g c =
    let next = taken _ _ c.args.cell.now.proposals.now _ c.loop-order-item.is c.loop-order-test.true in
    elim c.if-is_open_in.branch [
      | then-is_open_in+then-is_chosen w ↦
          filled true _ _ c.loop-order.invariant (next w.if-is_open_in.ensures.is_the_test) (λ chosen q. sym w.if-is_chosen.true ∙ q _ _ (says_at g.F.Fn w.is_chosen.ensures refl)) (omega (arith, ints))
          (ap (λ (x : Figures). x.amounts) w.figures-is ∙ w.trade-figures.ensures.have_traded_more)
      | else-is_open_in w ↦
          elim w.else-is_open_in.branch [
            | else-is_open_in-via-then-is_open_in+else-is_chosen w' ↦
                filled false _ _ c.loop-order.invariant (next w'.if-is_open_in.ensures.is_the_test) (λ chosen q. sym w'.if-is_chosen.false ∙ q _ _ (says_at g.F.Fn w'.is_chosen.ensures refl)) refl
                (ap (λ (x : Figures). x.amounts) w.figures-is)
            | else-is_open_in-via-else-is_open_in w' ↦
                kept _ c.loop-order.invariant (passed _ _ c.args.cell.now.proposals.now _ c.loop-order-item.is c.loop-order-test.true w'.if-is_open_in.ensures.is_the_test) (ap (λ (x : Figures). x.amounts) w.figures-is)
          ]
    ]
