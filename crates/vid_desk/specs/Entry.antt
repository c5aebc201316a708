-- A file, and a call that is to fail, as a desk in memory holds them (own).
use Rattle.std.specs.String.{string_bytes}
use Rattle.vid_desk.specs.declared.entry.Entry.{Entry}
use Rattle.vid_desk.specs.declared.failing.Failing.{Failing}
use Rattle.vid_desk.specs.Meaning.{File}
use Rattle.vid_desk.specs.Memory.{ToFail}

-- the name and the bytes that it holds
abbrev pub file_of : Entry → File
file_of entry = record { name = string_bytes entry.name; bytes = entry.bytes.items }

-- the call and the bytes that stand
abbrev pub failing_of : Failing → ToFail
failing_of failing = record { call = failing.call; part = failing.part }
