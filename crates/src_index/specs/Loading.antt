-- What loading a file answers (own).
use Rattle.std.specs.Prelude.{◌≡◌, ℕ, ◌^◌, ◌≤◌, ◌<◌, ⊤, List, length, Result, Ok, Err}
use Rattle.vid_desk.specs.Meaning.{Meaning, Told}
use Rattle.src_index.specs.declared.fault.Fault.TheVariants.{InPacket, InPage, InLink}
use Rattle.src_index.specs.declared.fault.SourceFault.{SourceFault}
use Rattle.src_index.specs.declared.fault.SourceFault.TheVariants.{Bad, Page, Link, TooLong}
use Rattle.src_index.specs.Index.{Index}
use Rattle.src_index.specs.Gather.{IsIndexOf}
use Rattle.src_index.specs.Judge.{Judged, Verdict}

-- the most bytes of a file
abbrev pub longest : ℕ
longest = 2 ^ 40

-- a file of at most so many bytes has this verdict
abbrev pub IsJudged : ℕ → List ℕ → Verdict → Type 0
IsJudged most bytes verdict = (length bytes ≤ most) × Judged bytes verdict

-- judging finds some packets in a file, and this is their index
pub record IsIndexed (bytes : List ℕ) (index : Index) : Type 0 where
  pub packets : List (List ℕ)
  pub judged : Judged bytes (Ok packets)
  pub index_of : IsIndexOf bytes packets index

-- an answer says what judging finds, or that the file has more than so many bytes; that a read failed and that no memory was
-- found say nothing of its bytes
abbrev pub Answers : ℕ → Result Index SourceFault → List ℕ → Type 0
Answers most (Ok index) bytes = (length bytes ≤ most) × IsIndexed bytes index
Answers most (Err (Bad link packet fault)) bytes = (at : ℕ) × IsJudged most bytes (Err (InPacket link packet at fault))
Answers most (Err (Page at fault)) bytes = IsJudged most bytes (Err (InPage at fault))
Answers most (Err (Link at fault)) bytes = IsJudged most bytes (Err (InLink at fault))
Answers most (Err (TooLong size)) bytes = (size ≡ length bytes) × (most < length bytes)
Answers most (Err _) bytes = ⊤

-- an index is that of an input, where the inputs are told
abbrev pub IsLoadedFrom : Meaning → ℕ → Index → Type 0
IsLoadedFrom m id index = (index.input ≡ id) × Told m id (λ bytes. IsIndexed bytes index)
