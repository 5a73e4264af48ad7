use Rattle.std.proofs.Common.{length}
use Rattle.daybook.proofs.day.Day.feed.Given as goal

abbrev pub decreases-loop-line : goal.decreases-loop-line
decreases-loop-line g l = length l.rest
