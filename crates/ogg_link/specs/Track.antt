-- The words of a Theora track in Ogg: its headers, key frames and granule positions (Theora I, 6.1, 7.1 and A.2).
use Rattle.std.specs.Prelude.{ℕ, ◌+◌, ◌-◌, ◌*◌, ◌^◌, Bool, false, not, ◌&&◌, List, [], ◌∷◌, length, take, nat_lt}
use Rattle.std.specs.Str.{bytes_eq}

-- how many packets precede the frames
abbrev pub headers : ℕ
headers = 3

-- byte 0x80 and `theora`, with which an identification header begins (Theora I, 6.1)
abbrev pub magic : List ℕ
magic = 128 ∷ 116 ∷ 104 ∷ 101 ∷ 111 ∷ 114 ∷ 97 ∷ []

-- these bytes begin so
abbrev pub begins_track : List ℕ → Bool
begins_track body = not (nat_lt (length body) 7) && bytes_eq (take 7 body) magic

-- a frame packet that holds a key frame: it has a byte, and the first two bits of it are 0 (Theora I, 7.1)
abbrev pub is_key : List ℕ → Bool
is_key [] = false
is_key (byte ∷ bytes) = nat_lt byte 64

-- the granule position of a frame whose last key frame is `key`, and where `base` is what the first frame counts: how many
-- frames came before the last key frame, and how many came since (Theora I, A.2.3)
abbrev pub granule_of : ℕ → ℕ → ℕ → ℕ → ℕ
granule_of base shift key frame = (base + key) * 2 ^ shift + (frame - key)
