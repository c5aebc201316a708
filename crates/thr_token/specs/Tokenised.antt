-- A list of tokens as what blocks take their tokens from (Theora I, 7.7.3).
use Rattle.std.specs.Prelude.{◌≡◌, ℕ, ◌<◌, ◌^◌, ◌==◌, ◌&&◌, not, ℤ, pos, replicate, slice_index_or, true, false, Bool, List, [], ◌∷◌, Result, Ok, Err, if◌then◌else◌}
use Rattle.vid_base.specs.declared.shape.Shape.{Shape}
use Rattle.vid_base.specs.declared.fault.PacketFault.{PacketFault}
use Rattle.vid_base.specs.declared.fault.PacketFault.TheVariants.{Ended}
use Rattle.vid_base.specs.Reading.{◌>>=◌}
use Rattle.vid_geom.specs.CodedOrder.{order_of}
use Rattle.thr_token.specs.declared.token.Token.{Token}
use Rattle.thr_token.specs.Tokens.{further_bits, meaning_of}
use Rattle.thr_token.specs.Coefficients.{Source, places, results_of, untouched_blocks}

-- a token that can be written
pub record IsToken (t : Token) : Type 0 where
  pub at : t.place < 64
  pub number : t.token < 32
  pub further : t.extra < 2 ^ further_bits t.token

-- each block that is not coded has only zeros
abbrev pub AreBlank : List Bool → List (List ℤ) → Type 0
AreBlank flags values = (b : ℕ) → slice_index_or flags b true ≡ false → slice_index_or values b [] ≡ replicate 64 (pos 0)

-- whether a token is one for a block at this place, of luma or not
abbrev pub is_for : ℕ → Bool → Token → Bool
is_for place luma token = token.place == place && (if token.luma then luma else not luma)

-- the first token of a list, where it is one for the block
unfoldable pub token_from : Source (List Token)
token_from place luma [] = Err Ended
token_from place luma (token ∷ tokens) = if is_for place luma token then Ok (meaning_of token.token token.extra, tokens) else Err Ended

-- the coefficients and the counts that these tokens give the blocks of a frame, the end-of-block run that is then active,
-- and the tokens that are left
unfoldable pub told : Shape → List Bool → List Token → Result (((List (List ℤ) × List ℕ) × ℕ) × List Token) PacketFault
told s flags tokens = places token_from 64 0 (untouched_blocks (order_of s) flags) 0 tokens >>= (λ all. Ok ((results_of all.0.0, all.0.1), all.1))

-- the tokens give the blocks just these coefficients and counts, and they end with the last block
abbrev pub Tells : Shape → List Bool → List (List ℤ) × List ℕ → List Token → Type 0
Tells s flags results tokens = told s flags tokens ≡ Ok ((results, 0), [])
