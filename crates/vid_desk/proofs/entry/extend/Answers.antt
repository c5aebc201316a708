use Rattle.std.proofs.Common.{rules, refl, ap}
use Rattle.std.proofs.Math.Seq.{map-set_same}
use Rattle.vid_desk.specs.Entry.{file_of}
use Rattle.vid_desk.proofs.FileLemmas.{map-set_more}
use Rattle.vid_desk.proofs.entry.extend.Goals as goal

pub returns-in-Err-clause-memory : goal.returns-in-Err-clause-memory
returns-in-Err-clause-memory c = map-set_same file_of _ _ _ c.index_mut-entry.result.now (rw (c.in-Err.ensures.items) (ap file_of c.index_mut-entry.ensures.value))

pub returns-in-Ok-clause-added : goal.returns-in-Ok-clause-added
returns-in-Ok-clause-added c = map-set_more file_of _ _ _ c.index_mut-entry.result.now _ (search rules) (rw (c.in-Ok.ensures.items, ← c.index_mut-entry.ensures.value) refl)
