-- What a list of tokens says so far, while it is made (own). whole reads the list and all that comes behind it, and rest goes on
-- behind what was said, from the end-of-block run that is then active and the tokens that are left.
use Rattle.std.specs.Prelude.{◌≡◌, ℕ, suc, ◌+◌, ◌-◌, ◌<◌, ◌≤◌, ℤ, pos, Bool, List, [], ◌∷◌, ◌++◌, length, get_or, slice_set, take, drop, Option, Some, None, Result}
use Rattle.vid_base.specs.declared.fault.PacketFault.{PacketFault}
use Rattle.vid_base.specs.Reading.{◌>>=◌}
use Rattle.thr_token.specs.declared.token.Token.{Token}
use Rattle.thr_token.specs.declared.run.Run.{Run}
use Rattle.thr_token.specs.Tokens.{Meaning, EndRun, ZeroRun, Value, meaning_of}
use Rattle.thr_token.specs.Coefficients.{Progress, at_place, places}
use Rattle.thr_token.specs.Standing.{standing}
use Rattle.thr_token.specs.Tokenised.{IsToken, token_from}

-- a reading of tokens: the blocks, the run that is active, and the tokens left
abbrev pub Answer : Type 0
Answer = Result ((List Progress × ℕ) × List Token) PacketFault

-- the token is one for a block at this place, of luma or not, and has this meaning
pub record Says (place : ℕ) (luma : Bool) (meaning : Meaning) (t : Token) : Type 0 where
  pub at : t.place ≡ place
  pub plane : t.luma ≡ luma
  pub means : meaning_of t.token t.extra ≡ meaning

-- a token with this meaning was added
pub record Adds (place : ℕ) (luma : Bool) (meaning : Meaning) (old new : List Token) : Type 0 where
  pub token : Token
  pub says : Says place luma meaning token
  pub fits : IsToken token
  pub added : new ≡ old ++ token ∷ []

-- the tokens say what was to be said so far: where no run is held back, whatever tokens follow; and where one is, whatever
-- tokens follow the token that says it, with any number of blocks more
abbrev pub Told : (List Token → Answer) → (ℕ → List Token → Answer) → List Token → Option Run → Type 0
Told whole rest tokens None = (behind : List Token) → whole (tokens ++ behind) ≡ rest 0 behind
Told whole rest tokens (Some run) =
    (more : ℕ) (t : Token) (behind : List Token) → Says run.place run.luma (EndRun (run.blocks + more)) t → whole (tokens ++ t ∷ behind) ≡ rest more behind

-- how many tokens there are, with that of the run that is held back
abbrev pub said : List Token → Option Run → ℕ
said tokens None = length tokens
said tokens (Some run) = length tokens + 1

-- reading goes on behind a token with this meaning
abbrev pub Takes : ℕ → Bool → Meaning → (ℕ → List Token → Answer) → (ℕ → List Token → Answer) → Type 0
Takes place luma meaning rest next = (t : Token) (behind : List Token) → Says place luma meaning t → rest 0 (t ∷ behind) ≡ next 0 behind

-- reading goes on behind the end of a block: that by a run which begins there, and that by a run which is active
pub record Ends (place : ℕ) (luma : Bool) (rest next : ℕ → List Token → Answer) : Type 0 where
  pub begins : (more : ℕ) (t : Token) (behind : List Token) → Says place luma (EndRun (1 + more)) t → rest 0 (t ∷ behind) ≡ next more behind
  pub active : (more : ℕ) (behind : List Token) → rest (suc more) behind ≡ next more behind

-- the same, by what is said of a block
abbrev pub Steps : ℕ → Bool → Meaning → (ℕ → List Token → Answer) → (ℕ → List Token → Answer) → Type 0
Steps place luma (EndRun blocks) rest next = Ends place luma rest next
Steps place luma (ZeroRun zeros) rest next = Takes place luma (ZeroRun zeros) rest next
Steps place luma (Value zeros value) rest next = Takes place luma (Value zeros value) rest next

-- only zeros, from a place on to before another
abbrev pub AreZeros : List ℤ → ℕ → ℕ → Type 0
AreZeros values from to = (i : ℕ) → from ≤ i → i < to → get_or values i (pos 0) ≡ pos 0

-- what is said of a block at a place is true of its coefficients
abbrev pub IsTrueOf : List ℤ → ℕ → Meaning → Type 0
IsTrueOf values place (EndRun blocks) = AreZeros values place 64
IsTrueOf values place (ZeroRun zeros) = (place + zeros ≤ 64) × AreZeros values place (place + zeros)
IsTrueOf values place (Value zeros value) = (place + zeros < 64) × AreZeros values place (place + zeros) × (get_or values (place + zeros) (pos 0) ≡ value)

-- where the block stands then
abbrev pub place_behind : ℕ → Meaning → ℕ
place_behind place (EndRun blocks) = 64
place_behind place (ZeroRun zeros) = place + zeros
place_behind place (Value zeros value) = place + zeros + 1

-- and its coefficients as they were read so far
abbrev pub values_behind : ℕ → List ℤ → Meaning → List ℤ
values_behind place read (EndRun blocks) = read
values_behind place read (ZeroRun _) = read
values_behind place read (Value zeros value) = slice_set read (place + zeros) value

-- the coefficients before the place at which a block stands were read, and the others are still 0
pub record IsRead (values : List ℤ) (place : ℕ) (read : List ℤ) : Type 0 where
  pub size : length read ≡ 64
  pub whole : 0 < place → length values ≡ 64
  pub high : place ≤ 64
  pub front : (i : ℕ) → i < place → get_or read i (pos 0) ≡ get_or values i (pos 0)
  pub behind : AreZeros read place 64

-- reading goes on with these blocks at a place, behind the first b of them
abbrev pub from_block : ℕ → ℕ → List Progress → ℕ → List Token → Answer
from_block place b blocks run tokens =
    at_place token_from place (take b blocks) (drop b blocks) run tokens >>= (λ after. places token_from (64 - (place + 1)) (place + 1) after.0.0 after.0.1 after.1)

-- or at all places from one on
abbrev pub from_place : ℕ → List Progress → ℕ → List Token → Answer
from_place place blocks run tokens = places token_from (64 - place) place blocks run tokens

-- tokens that say these coefficients of a frame's blocks so far; the blocks stand at these places
pub record Telling (whole : List Token → Answer) (rest : List Progress → ℕ → List Token → Answer) (lumas : List Bool) (values : List (List ℤ)) (at : List ℕ) (tokens : List Token) (run : Option Run) : Type 0 where
  pub read : List (List ℤ)
  pub counts : List ℕ
  pub sizes : (length at ≡ length lumas) × (length read ≡ length lumas) × (length counts ≡ length lumas)
  pub each : (b : ℕ) → b < length lumas → IsRead (get_or values b []) (get_or at b 0) (get_or read b [])
  pub told : Told whole (rest (standing lumas at read counts)) tokens run
