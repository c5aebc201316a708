use Rattle.std.proofs.Common.{◌≡◌, ◌≤◌, ◌<◌, map, drop}
use Rattle.cut_slice.specs.Plain.{spaced, well_keyed}
use Rattle.cut_slice.proofs.source.well_keyed.Given as goal

-- the frames that are left decide
abbrev pub invariant-loop-f : goal.invariant-loop-f
invariant-loop-f l = record {
  key : l.key ≤ l.f;
  left : 0 < l.f → spaced l.shift l.f l.key (map (λ p. p.now) (drop l.f l.frames)) ≡ well_keyed l.shift (map (λ p. p.now) l.frames);
}
