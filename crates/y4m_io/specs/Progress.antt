-- How far an input was read (own): its size and the place of the byte that is read next, the frames that were read, the head, and the departure that was found.
use Rattle.std.specs.Prelude.{◌≡◌, ℕ, ◌+◌, ◌^◌, ◌<◌, ◌≤◌, ⊤, List, [], length, take, drop, Option, Some, None, Result, Ok, Err, Bool, true, false, ◌∷◌}
use Rattle.vid_desk.specs.Meaning.{Meaning, Told}
use Rattle.y4m_io.specs.declared.head.Head.{Head}
use Rattle.y4m_io.specs.declared.reading.Y4m.{Y4m}
use Rattle.y4m_io.specs.declared.fault.Y4mWhy.{Y4mWhy}
use Rattle.y4m_io.specs.declared.fault.Y4mFault.{Y4mFault}
use Rattle.y4m_io.specs.declared.fault.Y4mFault.TheVariants.{Bad}
use Rattle.y4m_io.specs.Pictures.{Samples}
use Rattle.y4m_io.specs.Reading.{Departure, GoesOn, HasBadHead, line_in, longest_line, next_in}
use Rattle.y4m_io.specs.HeadLine.{head_in, longest_head}

pub record Progress : Type 0 where
  pub input : ℕ
  pub size : ℕ
  pub at : ℕ
  pub frames : ℕ
  pub head : Head
  pub bad : Option Y4mWhy

-- what a clause sees of a reader
abbrev pub progress_of : Y4m → Progress
progress_of y = record { input = y.input.id; size = y.input.size; at = y.at; frames = y.frames; head = y.head; bad = y.bad }

-- it was made from the input that a desk tells under its id, where the inputs are told
abbrev pub IsOfInput : Meaning → Progress → Type 0
IsOfInput m p = Told m p.input (λ bytes. p.size ≡ length bytes)

-- its head was read, and no frame yet
pub record IsStart (bytes : List ℕ) (p : Progress) : Type 0 where
  pub head : head_in (take longest_head bytes) ≡ Ok (record { head = p.head; size = p.at })
  pub frames : p.frames ≡ 0
  pub bad : p.bad ≡ None

-- an answer says in which way the head departs; that a read failed and that no memory was found say nothing of the bytes
abbrev pub StopsIn : {A : Type 0} → Result A Y4mFault → List ℕ → Type 0
StopsIn (Err (Bad frame why)) bytes = (frame ≡ 0) × HasBadHead bytes why
StopsIn _ bytes = ⊤

-- from there on stand these pictures, and then that departure, or the end; behind a departure that was found stands nothing
abbrev pub FollowBad : Option Y4mWhy → Progress → List ℕ → List Samples → Option Departure → Type 0
FollowBad None p bytes pictures bad = GoesOn p.head p.frames p.at bytes pictures bad
FollowBad (Some why) p bytes pictures bad = (pictures ≡ []) × (bad ≡ Some (record { frame = p.frames; why = why }))

abbrev pub Follow : Progress → List ℕ → List Samples → Option Departure → Type 0
Follow p bytes pictures bad = FollowBad p.bad p bytes pictures bad

-- an answer says what stood at the place: a picture, which it gives, the end, or a departure; after that a read failed it says nothing
abbrev pub Finds : Result (Option ℕ) Y4mFault → Progress → Samples → List ℕ → Type 0
Finds (Ok None) p picture bytes = next_in p.head p.frames (drop p.at bytes) ≡ Ok None
Finds (Ok (Some size)) p picture bytes = next_in p.head p.frames (drop p.at bytes) ≡ Ok (Some (record { picture = picture; size = size }))
Finds (Err (Bad frame why)) p picture bytes = (next_in p.head p.frames (drop p.at bytes) ≡ Err why) × (frame ≡ p.frames)
Finds (Err _) p picture bytes = ⊤

-- a frame that was found lies in the input, and is not one too many; the end stands behind a frame
abbrev pub IfFound : Progress → Option ℕ → Type 0
IfFound p (Some size) = (p.at + size ≤ p.size) × (p.frames < 2 ^ 24)
IfFound p None = 0 < p.frames

-- a departure is said of the frame behind so many
abbrev pub IsNumbered : {A : Type 0} → ℕ → Result A Y4mFault → Type 0
IsNumbered n (Err (Bad frame why)) = frame ≡ n
IsNumbered n _ = ⊤

-- the same of the line of a frame
abbrev pub FindsLine : Result ℕ Y4mFault → Progress → List ℕ → Type 0
FindsLine (Ok line) p bytes = line_in (take longest_line (drop p.at bytes)) ≡ Ok line
FindsLine (Err (Bad frame why)) p bytes = (line_in (take longest_line (drop p.at bytes)) ≡ Err why) × (frame ≡ p.frames)
FindsLine (Err _) p bytes = ⊤

-- what an answer of `next` says of the pictures that follow: its picture stood before all that follow now; nothing followed, and that is the end; or nothing did but that departure
abbrev pub Gives : Result Bool Y4mFault → Progress → Progress → Samples → List ℕ → Type 0
Gives (Ok true) old new picture bytes = (pictures : List Samples) (bad : Option Departure) → Follow new bytes pictures bad → Follow old bytes (picture ∷ pictures) bad
Gives (Ok false) old new picture bytes = Follow old bytes [] None
Gives (Err (Bad frame why)) old new picture bytes = Follow old bytes [] (Some (record { frame = frame; why = why }))
Gives (Err _) old new picture bytes = ⊤

-- what an answer changes: after a picture there is one more, after a departure it is kept, and else all is as before
abbrev pub Turns : Result Bool Y4mFault → Progress → Progress → Type 0
Turns (Ok true) old new = (new ≡ record old { at = new.at; frames = old.frames + 1 }) × (old.frames < 2 ^ 24)
Turns (Ok false) old new = (new ≡ old) × (0 < old.frames)
Turns (Err (Bad frame why)) old new = (new ≡ record old { bad = Some why }) × (frame ≡ old.frames)
Turns (Err _) old new = new ≡ old

-- of the same input, with the same head
pub record StaysIn (old new : Progress) : Type 0 where
  pub input : new.input ≡ old.input
  pub size : new.size ≡ old.size
  pub head : new.head ≡ old.head
