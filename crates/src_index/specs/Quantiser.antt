-- The quantiser of a frame: the first quantiser index of the latest frame packet with bytes (Theora I, 7.1). `before` is that
-- of the frames before.
use Rattle.std.specs.Prelude.{ℕ, ◌%◌, List, [], ◌∷◌}

-- the six bits behind the first two of a frame's head; a packet without bytes keeps the quantiser before it
abbrev pub quantiser_behind : ℕ → List ℕ → ℕ
quantiser_behind before [] = before
quantiser_behind before (byte ∷ bytes) = byte % 64

-- that of the last of these frames
unfoldable pub last_quantiser : ℕ → List (List ℕ) → ℕ
last_quantiser before [] = before
last_quantiser before (packet ∷ packets) = last_quantiser (quantiser_behind before packet) packets

-- those of all of them
unfoldable pub quantisers : ℕ → List (List ℕ) → List ℕ
quantisers before [] = []
quantisers before (packet ∷ packets) = quantiser_behind before packet ∷ quantisers (quantiser_behind before packet) packets
