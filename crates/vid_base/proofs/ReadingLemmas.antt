-- A reader's place and what is left of it add up, call by call. Readers above carry it through their loops.
use Rattle.std.proofs.Common.{refl, ◌∙◌}
use Rattle.vid_base.specs.Reading.{Reading, SameEnd}

-- no call
pub same_end-none : (now : Reading) → SameEnd now now
same_end-none now = refl

-- one call behind another
pub same_end-then : (old mid new : Reading) → SameEnd old mid → SameEnd mid new → SameEnd old new
same_end-then old mid new first next = next ∙ first
