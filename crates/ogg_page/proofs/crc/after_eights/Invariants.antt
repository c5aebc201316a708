use Rattle.std.proofs.Common.{take}
use Rattle.std.specs.List.{concat}
use Rattle.ogg_page.specs.Division.{GoesOn}
use Rattle.ogg_page.proofs.crc.after_eights.Given as goal

-- the remainder behind the arrays that were read
abbrev pub invariant-eights : goal.invariant-eights
invariant-eights l = GoesOn l.fn.crc (concat (take l.eight-index l.eights)) l.crc
