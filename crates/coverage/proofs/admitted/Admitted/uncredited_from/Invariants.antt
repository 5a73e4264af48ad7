use Rattle.std.proofs.Common.{◌≡◌, ◌+◌, length}
use Rattle.coverage.specs.Admission.{position_of}
use Rattle.coverage.specs.Allocation.{total}
use Rattle.coverage.specs.Capacity.{excess, periods, uncredited}
use Rattle.coverage.proofs.admitted.Admitted.uncredited_from.Given as goal

abbrev pub invariant-loop-debt : goal.invariant-loop-debt
invariant-loop-debt l =
    l.sum + total (excess (position_of l.self.position) l.day) (periods l.rest) ≡ uncredited (position_of l.self.position) l.day

abbrev pub decreases-loop-debt : goal.decreases-loop-debt
decreases-loop-debt l = length l.rest
