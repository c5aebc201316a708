use Rattle.std.proofs.Common.{◌≡◌, map, take}
use Rattle.thr_token.specs.Coefficients.{first_place}
use Rattle.thr_token.proofs.tokenising.first_places.Given as goal

-- the places of the blocks so far
abbrev pub invariant-flags : goal.invariant-flags
invariant-flags l = l.work.items ≡ map first_place (take l.coded-index l.flags)
