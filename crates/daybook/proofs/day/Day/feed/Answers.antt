use Rattle.std.proofs.Common.{◌≡◌, ℕ, ◌<◌, List, ◌∷◌, ◌++◌, length, ap, arith, length-append}
use Rattle.daybook.proofs.day.Day.feed.Goals as goal

-- what follows a line and its line feed is shorter
shorter : (text line rest : List ℕ) (feed : ℕ) → text ≡ line ++ feed ∷ rest → length rest < length text
shorter text line rest feed e = let l = simp length-append at (ap length e) in omega arith

pub loop-line-smaller-in_ok-answer : goal.loop-line-smaller-in_ok-answer
loop-line-smaller-in_ok-answer g c = shorter c.loop-line.rest.now c.in-Some.line.now c.in-Some.after.now _ c.in-Some.ensures.splits_at_the_first_line_feed.0

pub loop-line-smaller : goal.loop-line-smaller
loop-line-smaller g c = shorter c.loop-line.rest.now c.in-Some.line.now c.in-Some.after.now _ c.in-Some.ensures.splits_at_the_first_line_feed.0
