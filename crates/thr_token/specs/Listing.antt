-- The blocks that have not ended, as words (own): 64 times a block's number and the place at which it stands, in coded order. (private)
use Rattle.std.specs.Prelude.{ℕ, zero, suc, ◌≡◌, ◌+◌, ◌*◌, ◌/◌, ◌%◌, ◌==◌, nat_lt, ℤ, Bool, List, [], ◌∷◌, length, if◌then◌else◌}
use Rattle.thr_token.specs.Coefficients.{Progress}
use Rattle.thr_token.specs.Standing.{standing}

-- the words of blocks that stand at these places; the first block has this number
unfoldable pub listed : ℕ → List ℕ → List ℕ
listed b [] = []
listed b (place ∷ places) = if nat_lt place 64 then (64 * b + place) ∷ listed (b + 1) places else listed (b + 1) places

-- the places of so many blocks from one on, by the words of those that have not ended
unfoldable pub places_in : ℕ → ℕ → List ℕ → List ℕ
places_in b zero words = []
places_in b (suc n) [] = 64 ∷ places_in (b + 1) n []
places_in b (suc n) (word ∷ words) =
    if word / 64 == b then (word % 64) ∷ places_in (b + 1) n words else 64 ∷ places_in (b + 1) n (word ∷ words)

-- the words are those of blocks of a frame that has so many
pub record IsListing (blocks : ℕ) (words : List ℕ) : Type 0 where
  pub same : listed 0 (places_in 0 blocks words) ≡ words

-- the blocks of a frame, whose words are these
abbrev pub blocks_by : List Bool → List ℕ → List (List ℤ) → List ℕ → List Progress
blocks_by lumas words values counts = standing lumas (places_in 0 (length lumas) words) values counts
