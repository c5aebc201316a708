-- Judging a file: the first check that fails, with its packet or its place, or else the track (own).
use Rattle.std.specs.Prelude.{◌≡◌, ℕ, ◌+◌, List, [], ◌∷◌, ◌++◌, drop, Option, Some, None, Result, Ok, Err}
use Rattle.vid_base.specs.Reading.{◌>>=◌, and_then}
use Rattle.ogg_page.specs.declared.fault.PageFault.{PageFault}
use Rattle.ogg_page.specs.Page.{Page, page_at_front, bytes_of_page}
use Rattle.ogg_page.specs.Packets.{Piece, segments, packets_from, left_from}
use Rattle.ogg_link.specs.declared.state.State.{State}
use Rattle.ogg_link.specs.declared.fault.LinkFault.{LinkFault}
use Rattle.ogg_link.specs.Parts.{lacing_if}
use Rattle.ogg_link.specs.Walk.{start, step, ended, is_of_track}
use Rattle.ogg_link.specs.Granules.{settled}
use Rattle.src_index.specs.declared.fault.Fault.{Fault}
use Rattle.src_index.specs.declared.fault.Fault.TheVariants.{InPage, InLink}
use Rattle.src_index.specs.Said.{Said, Start, shift_of}
use Rattle.src_index.specs.Checks.{page_over}

-- what judging knows behind the pages before a page: the walk with its book of the track, what the packets say, and the unfinished
-- packet
pub record Before : Type 0 where
  pub walk : State
  pub said : Said
  pub begun : List ℕ

-- before the first page
abbrev pub nothing : Before
nothing = record { walk = start; said = Start; begun = [] }

-- the segments of a page, where it is of the track
abbrev pub track_pieces : State → Page → List Piece
track_pieces walk page = segments (lacing_if (is_of_track walk page) page.lacing) page.body

-- a fault is told of the page that begins at a byte, or of its place among the others
abbrev pub in_page : {A : Type 0} → ℕ → Result A PageFault → Result A Fault
in_page at read = and_then read Ok (InPage at)

abbrev pub in_link : {A : Type 0} → ℕ → Result A LinkFault → Result A Fault
in_link at read = and_then read Ok (InLink at)

-- the packets that end with these pieces, in order, and then the one that stays unfinished
abbrev pub pieces_over : Before → ℕ → List Piece → Result Said Fault
pieces_over before at pieces = page_over at before.walk.progress before.said before.begun pieces

-- what is left behind a page
abbrev pub with_pieces : Before → List Piece → Said → State → Before
with_pieces before pieces said walk = record {
  walk = walk;
  said = said;
  begun = left_from before.begun pieces;
}

-- the checks of one page in order: its place in the link, its packets, its granule position
unfoldable pub page_checks : Before → ℕ → Page → Result Before Fault
page_checks before at page = do
  walk ← in_link at (step before.walk page)
  said ← pieces_over before at (track_pieces before.walk page)
  walk ← in_link at (settled walk (shift_of said))
  Ok (with_pieces before (track_pieces before.walk page) said walk)

-- what judging finds: the track's packets, or the first check that fails
abbrev pub Verdict : Type 0
Verdict = Result (List (List ℕ)) Fault

-- the packets that end on a page
abbrev pub packets_on : Before → Page → List (List ℕ)
packets_on before page = packets_from before.begun (track_pieces before.walk page)

-- the check behind the last page
abbrev pub end_check : Before → ℕ → Result State Fault
end_check before at = in_link at (ended before.walk)

-- the verdict there, of a track with these packets
abbrev pub end_verdict : Before → List (List ℕ) → ℕ → Verdict
end_verdict before packets at = do
  walk ← end_check before at
  Ok packets

-- the checks of the page at the front: its own, and then those above
abbrev pub front_checks : Before → ℕ → List ℕ → Result Before Fault
front_checks before at bytes = in_page at (page_at_front bytes) >>= page_checks before at

-- a check that fails is the verdict
abbrev pub failing : Result Before Fault → Option Verdict
failing (Ok next) = None
failing (Err fault) = Some (Err fault)

-- the verdict that falls here, if one does: at the end, or at a page with a check that fails; so many packets came before
unfoldable pub verdict_here : Before → List (List ℕ) → ℕ → List ℕ → Option Verdict
verdict_here before packets at [] = Some (end_verdict before packets at)
verdict_here before packets at (byte ∷ bytes) = failing (front_checks before at (byte ∷ bytes))

-- behind these pages, of which no check fails, this verdict falls. The packets are gathered beside the judging, which keeps
-- none of them
unfoldable pub Judges : Before → List (List ℕ) → ℕ → List ℕ → List Page → Verdict → Type 0
Judges before packets at bytes [] verdict = verdict_here before packets at bytes ≡ Some verdict
Judges before packets at bytes (page ∷ pages) verdict =
    (page_at_front bytes ≡ Ok page) × (next : Before) × (page_checks before at page ≡ Ok next)
    × Judges next (packets ++ packets_on before page) (at + bytes_of_page page) (drop (bytes_of_page page) bytes) pages verdict

-- behind some pages this verdict falls
pub record JudgedFrom (before : Before) (packets : List (List ℕ)) (at : ℕ) (bytes : List ℕ) (verdict : Verdict) : Type 0 where
  pub pages : List Page
  pub judges : Judges before packets at bytes pages verdict

-- the verdict on a file; it has one alone
unfoldable pub Judged : List ℕ → Verdict → Type 0
Judged bytes verdict = JudgedFrom nothing [] 0 bytes verdict
