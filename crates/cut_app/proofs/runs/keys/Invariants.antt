use Rattle.std.proofs.Common.{◌≡◌, take}
use Rattle.src_index.specs.Index.{keys_of}
use Rattle.cut_app.proofs.runs.keys.Given as goal

-- the marks of the frames before this one
abbrev pub invariant-frames : goal.invariant-frames
invariant-frames l = record { marks : l.keys.items ≡ take l.n (keys_of l.source) }
