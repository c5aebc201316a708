-- The line of a head (own): a first word, and fields with one space before each; a field is a letter and a text.
use Rattle.std.specs.Prelude.{ℕ, ◌+◌, ◌*◌, ◌/◌, ◌^◌, ◌<◌, ◌≤◌, Bool, true, false, List, [], ◌∷◌, take, drop, Option, Some, None, Result, Ok, Err, ◌==◌, ◌&&◌, ◌||◌, nat_eq, nat_le, codes, if◌then◌else◌}
use Rattle.std.specs.List.{starts_with}
use Rattle.std.specs.Option.{ok_or, option_map_or}
use Rattle.std.specs.Str.{bytes_eq}
use Rattle.y4m_io.specs.declared.head.Head.{Head}
use Rattle.y4m_io.specs.declared.fault.Y4mWhy.{Y4mWhy}
use Rattle.y4m_io.specs.declared.fault.Y4mWhy.TheVariants.{Magic, Field, Size, Rate, Aspect, Colour, Interlace, Line}
use Rattle.y4m_io.specs.Numbers.{number_of, number_within, ratio_of}
use Rattle.y4m_io.specs.Places.{first_place, parts_of}
use Rattle.y4m_io.specs.Pictures.{IsSize}
use Rattle.y4m_io.specs.Steps.{◌>>=◌}

-- what fields say: columns, rows, rate, aspect, whether the order of rows was said, and the pixel format
pub record Said : Type 0 where
  pub w : Option ℕ
  pub h : Option ℕ
  pub rate : Option (ℕ × ℕ)
  pub aspect : Option (ℕ × ℕ)
  pub interlace : Bool
  pub format : Option ℕ

abbrev pub nothing_said : Said
nothing_said = record { w = None; h = None; rate = None; aspect = None; interlace = false; format = None }

-- the pixel format of that name
unfoldable pub format_named : List ℕ → Option ℕ
format_named text =
    if bytes_eq text (codes "420jpeg") || bytes_eq text (codes "420mpeg2") || bytes_eq text (codes "420paldv") || bytes_eq text (codes "420") then Some 0
    else if bytes_eq text (codes "422") then Some 2
    else if bytes_eq text (codes "444") then Some 3
    else None

-- a field may not be repeated, and has its form
abbrev pub once : {A : Type 0} → Option A → Option A → Y4mWhy → Result A Y4mWhy
once (Some _) said why = Err Field
once None said why = ok_or said why

-- progressive, or unknown
abbrev pub is_progressive : List ℕ → Bool
is_progressive text = bytes_eq text (codes "p") || bytes_eq text (codes "?")

-- columns, behind other fields
abbrev pub with_width : Said → List ℕ → Result Said Y4mWhy
with_width s text = once s.w (number_within 1 (2 ^ 32) (number_of text)) Size >>= λ n. Ok (record s { w = Some n })

-- rows
abbrev pub with_height : Said → List ℕ → Result Said Y4mWhy
with_height s text = once s.h (number_within 1 (2 ^ 32) (number_of text)) Size >>= λ n. Ok (record s { h = Some n })

-- frames in some seconds
abbrev pub with_rate : Said → List ℕ → Result Said Y4mWhy
with_rate s text = once s.rate (ratio_of 1 4294967295 text) Rate >>= λ r. Ok (record s { rate = Some r })

-- width and height of a sample
abbrev pub with_aspect : Said → List ℕ → Result Said Y4mWhy
with_aspect s text = once s.aspect (ratio_of 0 16777215 text) Aspect >>= λ r. Ok (record s { aspect = Some r })

-- the order of rows: progressive, or unknown
abbrev pub with_interlace : Said → List ℕ → Result Said Y4mWhy
with_interlace s text = if s.interlace then Err Field else if is_progressive text then Ok (record s { interlace = true }) else Err Interlace

-- the pixel format
abbrev pub with_format : Said → List ℕ → Result Said Y4mWhy
with_format s text = once s.format (format_named text) Colour >>= λ f. Ok (record s { format = Some f })

-- a field of that letter
unfoldable pub with_letter : Said → ℕ → List ℕ → Result Said Y4mWhy
with_letter s letter text =
    if letter == 87 then with_width s text
    else if letter == 72 then with_height s text
    else if letter == 70 then with_rate s text
    else if letter == 65 then with_aspect s text
    else if letter == 73 then with_interlace s text
    else if letter == 67 then with_format s text
    else if letter == 88 then Ok s
    else Err Field

-- a field, behind others
abbrev pub with_field : Said → List ℕ → Result Said Y4mWhy
with_field s [] = Err Field
with_field s (letter ∷ text) = with_letter s letter text

-- fields from the left, behind others
unfoldable pub with_fields : Said → List (List ℕ) → Result Said Y4mWhy
with_fields s [] = Ok s
with_fields s (field ∷ fields) = with_field s field >>= λ t. with_fields t fields

-- what stands behind the first word: nothing, or a space and fields
abbrev pub behind_magic : List ℕ → Result Said Y4mWhy
behind_magic [] = Ok nothing_said
behind_magic (c ∷ text) = if c == 32 then with_fields nothing_said (parts_of 32 text) else Err Magic

-- a line without its line feed
unfoldable pub said_in : List ℕ → Result Said Y4mWhy
said_in line = if starts_with nat_eq line (codes "YUV4MPEG2") then behind_magic (drop 9 line) else Err Magic

-- a coded frame of that size has at most 65,535 macro blocks in each direction and at most 131,072 in all
abbrev pub is_small : ℕ → ℕ → Bool
is_small w h = nat_le ((w + 15) / 16) 65535 && nat_le ((h + 15) / 16) 65535 && nat_le (((w + 15) / 16) * ((h + 15) / 16)) 131072

-- the head of all its fields: width, height and rate must be there
unfoldable pub head_said : Said → Result Head Y4mWhy
head_said s = do
  w ← ok_or s.w Size
  h ← ok_or s.h Size
  rate ← ok_or s.rate Rate
  if is_small w h then Ok (record {
    w = w;
    h = h;
    frn = rate.0;
    frd = rate.1;
    parn = option_map_or (λ r. r.0) s.aspect 0;
    pard = option_map_or (λ r. r.1) s.aspect 0;
    pf = option_map_or (λ f. f) s.format 0;
  }) else Err Size

-- what holds of the head of a stream that is read
pub record IsHead (h : Head) : Type 0 where
  pub size : IsSize h.w h.h h.pf
  pub across : (h.w + 15) / 16 ≤ 65535
  pub up : (h.h + 15) / 16 ≤ 65535
  pub rate : (0 < h.frn) × (0 < h.frd)
  pub aspect : (h.parn < 2 ^ 24) × (h.pard < 2 ^ 24)

-- a head, and how many bytes it takes with its line feed
pub record HeadRead : Type 0 where
  pub head : Head
  pub size : ℕ

-- the most bytes of a head with its line feed
abbrev pub longest_head : ℕ
longest_head = 1024

-- what stands before a line feed at that place, or where there is none
abbrev pub line_before : Option ℕ → List ℕ → List ℕ
line_before (Some end) front = take end front
line_before None front = front

-- the head that stands at the front of a text, of which this is as much as a head may take; where no line feed ends it, the
-- fields are judged as they stand
unfoldable pub head_in : List ℕ → Result HeadRead Y4mWhy
head_in front = do
  said ← said_in (line_before (first_place 10 front) front)
  end ← ok_or (first_place 10 front) Line
  head ← head_said said
  Ok (record { head = head; size = end + 1 })
