-- `following_at` ends, since fewer bytes may follow each time.
use Rattle.capture.proofs.reading.+following_at.Given as goal

abbrev pub decreases-following_at : goal.decreases-following_at
decreases-following_at l = l.more
