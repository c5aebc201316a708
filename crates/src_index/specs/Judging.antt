-- A judging in progress, and how it stands to the bytes of a file (private).
use Rattle.std.specs.Prelude.{◌≡◌, ⊤, ℕ, ◌<◌, true, false, List, [], drop, None, Result, Ok, Err}
use Rattle.ogg_link.specs.Progress.{Holds}
use Rattle.src_index.specs.declared.judge.Judging.{Judging}
use Rattle.src_index.specs.declared.fault.Refusal.{Refusal}
use Rattle.src_index.specs.declared.fault.Refusal.TheVariants.{Bad, ReadFault, NoMem}
use Rattle.src_index.specs.Judge.{Before, JudgedFrom, Judged, Verdict}
use Rattle.src_index.specs.Seekable.{IsPage, IsStart, IsSeekable}
use Rattle.src_index.specs.Holding.{kept_of, AreTallied}
use Rattle.src_index.specs.Headers.{said_of}
use Rattle.src_index.specs.Keeping.{Keeps}

-- what judging knows behind the pages so far
abbrev pub before_of : Judging → Before
before_of judging = record {
  walk = judging.walk.state;
  said = said_of judging.packets.headers;
  begun = judging.packets.begun.items;
}

-- the walk goes on, knows the packet that has begun, and has counted as many packets as are kept
pub record GoesOn (judging : Judging) : Type 0 where
  pub whole : judging.walk.failed ≡ None
  pub holds : Holds judging.walk.state.progress judging.packets.begun.items
  pub tallied : AreTallied judging.walk.state.progress judging.packets

-- the pages before a byte were judged: what falls from there on falls on the file, what is kept is of these packets, and the
-- mark of false pages tells of the bytes before
pub record Follows (bytes : List ℕ) (judging : Judging) (at : ℕ) : Type 0 where
  pub packets : List (List ℕ)
  pub falls : (verdict : Verdict) → JudgedFrom (before_of judging) packets at (drop at bytes) verdict → Judged bytes verdict
  pub keeps : Keeps bytes packets (kept_of judging.packets) []
  pub starts : IsStart bytes at
  pub none_false : judging.has_false ≡ false → (place : ℕ) → place < at → IsPage bytes place → IsStart bytes place
  pub one_false : judging.has_false ≡ true → ¬ IsSeekable bytes

-- a refusal names the check of the file that fails, or says nothing of the file
abbrev pub Fails : Refusal → List ℕ → Type 0
Fails (Bad fault) bytes = Judged bytes (Err fault)
Fails ReadFault bytes = ⊤
Fails NoMem bytes = ⊤

-- after a turn the pages before the next byte were judged, or a check failed
abbrev pub Turns : Result ⊤ Refusal → List ℕ → Judging → ℕ → Type 0
Turns (Ok _) bytes judging next = Follows bytes judging next
Turns (Err refusal) bytes judging next = Fails refusal bytes
