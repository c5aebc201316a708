use Rattle.std.proofs.Common.{◌≡◌, map, drop}
use Rattle.std.specs.List.{position_from}
use Rattle.std.specs.Str.{bytes_eq}
use Rattle.vid_desk.specs.Meaning.{place_of}
use Rattle.vid_desk.specs.Entry.{file_of}
use Rattle.vid_desk.proofs.entry.place_of.Given as goal

-- the files that are left decide
abbrev pub invariant-loop-id : goal.invariant-loop-id
invariant-loop-id l = place_of (map file_of l.entries) l.name ≡ position_from (λ file. bytes_eq file.name l.name) l.id (map file_of (drop l.id l.entries))
