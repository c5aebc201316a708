-- When each status comes, over inputs that are told (own).
use Rattle.std.specs.Prelude.{◌≡◌, ⊤, ℕ, ◌-◌, ◌<◌, ◌≤◌, true, false, List, [], ◌∷◌, length, take, drop, Some, None, ◌⊎◌, slice_get}
use Rattle.std.specs.Option.{option_map_or}
use Rattle.vid_desk.specs.Meaning.{File, Meaning}
use Rattle.ogg_link.specs.Track.{is_key}
use Rattle.ogg_mux.specs.OutputPages.{paged}
use Rattle.cut_slice.specs.Words.{Cut, clashes}
use Rattle.cut_desk.specs.Inputs.{contents, longest_list, IsMissing}
use Rattle.cut_desk.specs.Outputs.{LeavesOutputs, Makes}
use Rattle.cut_slice.specs.SliceList.{Slice, slice_of}
use Rattle.cut_slice.specs.Plain.{Packets, IsPlain, NotPlain, stream_of}
use Rattle.cut_report.specs.declared.status.Status.{Status}
use Rattle.cut_report.specs.declared.status.Status.TheVariants.{Done, Usage, NoFile, BadSource, BadList, Range, ReadFault, WriteFault, NoMem, BadY4m, TooLong, SameName, Changed, InPointNotKey, NotYet}

-- the names are apart, and both inputs are there
pub record IsGiven (cut : Cut) (files : List File) (list source : List ℕ) : Type 0 where
  pub apart : clashes cut ≡ false
  pub list_is : contents files cut.list ≡ Some list
  pub source_is : contents files cut.source ≡ Some source

-- a list of the form, a plain source, and a slice within its frames
pub record IsInRange (list source : List ℕ) (slice : Slice) (packets : Packets) : Type 0 where
  pub list_is : slice_of list ≡ Some slice
  pub plain : IsPlain source packets
  pub range : slice.past ≤ length packets.frames

-- the frame at which the slice begins
abbrev pub in_point : Slice → Packets → List ℕ
in_point slice packets = option_map_or (λ packet. packet) (slice_get packets.frames slice.first) []

-- the bytes of the cut: the pages of the source's headers and of the frames of the slice, where each frame's end closes its page
abbrev pub cut_bytes : Slice → Packets → List ℕ
cut_bytes slice packets = paged 0 (stream_of packets) (take (slice.past - slice.first) (drop slice.first packets.frames))

-- both inputs are there, the list is of the form, the source is plain, and the slice lies in it
pub record IsReady (cut : Cut) (files : List File) (slice : Slice) (packets : Packets) : Type 0 where
  pub list : List ℕ
  pub source : List ℕ
  pub given : IsGiven cut files list source
  pub range : IsInRange list source slice packets

-- the list is of another form, the source is not plain, or the slice ends past its frames
abbrev pub NotCovered : List ℕ → List ℕ → Type 0
NotCovered list source = (slice_of list ≡ None) ⊎ (NotPlain source
    ⊎ ((slice : Slice) × (packets : Packets) × (slice_of list ≡ Some slice) × IsPlain source packets × (length packets.frames < slice.past)))

-- both inputs are there, and the list is of the form
pub record GivesBoth (files : List File) (list source : List ℕ) (slice : Slice) (bytes : List ℕ) : Type 0 where
  pub text : List ℕ
  pub list_is : contents files list ≡ Some text
  pub source_is : contents files source ≡ Some bytes
  pub slice_is : slice_of text ≡ Some slice

-- a list of more bytes is not read
abbrev pub SparesLong : Meaning → Meaning → List File → List ℕ → Type 0
SparesLong old new files list = (text : List ℕ) → contents files list ≡ Some text → longest_list < length text → new.asked ≡ old.asked

-- of the statuses that come while inputs are looked for and read, NotYet says that both are there, and the list is of another
-- form or the source is not plain
abbrev pub RefusesBoth : List File → List ℕ → List ℕ → Status → Type 0
RefusesBoth files list source NotYet = (text : List ℕ) × (bytes : List ℕ) × (contents files list ≡ Some text) × (contents files source ≡ Some bytes) × ((slice_of text ≡ None) ⊎ NotPlain bytes)
RefusesBoth files list source (NoFile input) = IsMissing files (list ∷ source ∷ []) input
RefusesBoth files list source ReadFault = ⊤
RefusesBoth files list source NoMem = ⊤
RefusesBoth files list source Done = ⊥
RefusesBoth files list source Usage = ⊥
RefusesBoth files list source Changed = ⊥
RefusesBoth files list source (BadY4m frame why) = ⊥
RefusesBoth files list source SameName = ⊥
RefusesBoth files list source (BadList line why) = ⊥
RefusesBoth files list source (Range line) = ⊥
RefusesBoth files list source (BadSource at what) = ⊥
RefusesBoth files list source WriteFault = ⊥
RefusesBoth files list source (TooLong input bytes) = ⊥
RefusesBoth files list source InPointNotKey = ⊥

-- statuses that come while inputs are looked for and read
abbrev pub IsReading : Status → Type 0
IsReading Done = ⊥
IsReading Usage = ⊥
IsReading Changed = ⊥
IsReading (BadY4m frame why) = ⊥
IsReading SameName = ⊥
IsReading (BadList line why) = ⊥
IsReading (Range line) = ⊥
IsReading (NoFile input) = ⊤
IsReading (BadSource at what) = ⊥
IsReading ReadFault = ⊤
IsReading WriteFault = ⊥
IsReading NoMem = ⊤
IsReading (TooLong input bytes) = ⊥
IsReading InPointNotKey = ⊥
IsReading NotYet = ⊤

-- the source is plain, the slice lies in it and begins at a key frame, and an output of that name holds the cut
pub record Cuts (old new : Meaning) (out : List ℕ) (slice : Slice) (bytes : List ℕ) : Type 0 where
  pub packets : Packets
  pub plain : IsPlain bytes packets
  pub range : slice.past ≤ length packets.frames
  pub key : is_key (in_point slice packets) ≡ true
  pub makes : Makes old new out (cut_bytes slice packets)

-- of the statuses that come while the source is cut, two say why: it is not plain or the slice ends past it; the slice does
-- not begin at a key frame
abbrev pub RefusesSource : Slice → List ℕ → Status → Type 0
RefusesSource slice bytes NotYet = NotPlain bytes ⊎ ((packets : Packets) × IsPlain bytes packets × (length packets.frames < slice.past))
RefusesSource slice bytes InPointNotKey = (packets : Packets) × IsPlain bytes packets × (slice.past ≤ length packets.frames) × (is_key (in_point slice packets) ≡ false)
RefusesSource slice bytes WriteFault = ⊤
RefusesSource slice bytes NoMem = ⊤
RefusesSource slice bytes Done = ⊥
RefusesSource slice bytes Usage = ⊥
RefusesSource slice bytes Changed = ⊥
RefusesSource slice bytes (BadY4m frame why) = ⊥
RefusesSource slice bytes SameName = ⊥
RefusesSource slice bytes (BadList line why) = ⊥
RefusesSource slice bytes (Range line) = ⊥
RefusesSource slice bytes (NoFile input) = ⊥
RefusesSource slice bytes (BadSource at what) = ⊥
RefusesSource slice bytes ReadFault = ⊥
RefusesSource slice bytes (TooLong input size) = ⊥

-- the source is plain, and the slice lies in it and begins at a key frame
abbrev pub CanBeCut : Slice → List ℕ → Type 0
CanBeCut slice bytes = (packets : Packets) × IsPlain bytes packets × (slice.past ≤ length packets.frames) × (is_key (in_point slice packets) ≡ true)

-- statuses that come while the source is cut
abbrev pub IsCutting : Status → Type 0
IsCutting Done = ⊥
IsCutting Usage = ⊥
IsCutting Changed = ⊥
IsCutting (BadY4m frame why) = ⊥
IsCutting SameName = ⊥
IsCutting (BadList line why) = ⊥
IsCutting (Range line) = ⊥
IsCutting (NoFile input) = ⊥
IsCutting (BadSource at what) = ⊥
IsCutting ReadFault = ⊥
IsCutting WriteFault = ⊤
IsCutting NoMem = ⊤
IsCutting (TooLong input bytes) = ⊥
IsCutting InPointNotKey = ⊤
IsCutting NotYet = ⊤

-- all that a cut needs: inputs that are ready, and a key frame at the in-point
abbrev pub IsGivenAll : Cut → List File → Type 0
IsGivenAll cut files = (slice : Slice) × (packets : Packets) × IsReady cut files slice packets × (is_key (in_point slice packets) ≡ true)

-- nothing was asked of the outputs but where all was given
abbrev pub CreatesWhenGiven : Meaning → Meaning → Cut → List File → Type 0
CreatesWhenGiven old new cut files = LeavesOutputs old new ⊎ IsGivenAll cut files

-- the cause of each status of a cut; want of memory has none, and a desk's counts show the faults of reading and writing
abbrev pub Caused : Cut → List File → Status → Type 0
Caused cut files Done = IsGivenAll cut files
Caused cut files InPointNotKey = (slice : Slice) × (packets : Packets) × IsReady cut files slice packets × (is_key (in_point slice packets) ≡ false)
Caused cut files NotYet = (clashes cut ≡ true) ⊎ ((list : List ℕ) × (source : List ℕ) × IsGiven cut files list source × NotCovered list source)
Caused cut files (NoFile input) = (clashes cut ≡ false) × IsMissing files (cut.list ∷ cut.source ∷ []) input
Caused cut files Usage = ⊥
Caused cut files Changed = ⊥
Caused cut files (BadY4m frame why) = ⊥
Caused cut files SameName = ⊥
Caused cut files (BadList line why) = ⊥
Caused cut files (Range line) = ⊥
Caused cut files (BadSource source what) = ⊥
Caused cut files (TooLong input bytes) = ⊥
Caused cut files ReadFault = ⊤
Caused cut files WriteFault = ⊤
Caused cut files NoMem = ⊤

-- an output of the name OUT was created, and it holds the cut of a slice and a source that these inputs give
pub record Written (old new : Meaning) (cut : Cut) (files : List File) : Type 0 where
  pub slice : Slice
  pub packets : Packets
  pub ready : IsReady cut files slice packets
  pub makes : Makes old new cut.out (cut_bytes slice packets)
