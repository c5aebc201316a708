use Rattle.std.proofs.Common.{◌≡◌, ◌≤◌}
use Rattle.src_index.specs.Index.{keys_of}
use Rattle.cut_app.proofs.CheckLemmas.{keys_among}
use Rattle.cut_app.proofs.checking.key_count.Given as goal

-- the key frames before this one were counted
abbrev pub invariant-frames : goal.invariant-frames
invariant-frames l = record {
  counted : l.keys ≡ keys_among l.n (keys_of l.source);
  few : l.keys ≤ l.n;
}
