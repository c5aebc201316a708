-- How far frames stand behind their key frames (Theora I, A.2.3).
use Rattle.std.specs.Prelude.{◌≡◌, ℕ, ◌+◌, ◌<◌, ◌^◌, Bool, true, List, [], ◌∷◌, if◌then◌else◌}

-- how far a frame stands behind its key frame; `distance` is where it would stand behind the one before
abbrev pub behind : ℕ → Bool → ℕ
behind distance key = if key then 0 else distance

-- where the frame that comes next would stand
unfoldable pub gap : ℕ → List Bool → ℕ
gap distance [] = distance
gap distance (key ∷ keys) = gap (behind distance key + 1) keys

-- each of these frames stands less than 2^shift behind its key frame
unfoldable pub Close : ℕ → ℕ → List Bool → Type 0
Close shift distance [] = Unit {0}
Close shift distance (key ∷ keys) = (behind distance key < 2 ^ shift) × Close shift (behind distance key + 1) keys

-- the first of these frames is a key frame
unfoldable pub BeginsWithKey : List Bool → Type 0
BeginsWithKey [] = Unit {0}
BeginsWithKey (key ∷ keys) = key ≡ true

-- the key marks of a track: the first frame is a key frame, and granule positions can count each frame behind its key frame
pub record AreSpaced (shift : ℕ) (keys : List Bool) : Type 0 where
  pub first : BeginsWithKey keys
  pub close : Close shift 0 keys
