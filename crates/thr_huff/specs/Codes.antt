-- Huffman codes: which bits lead to which token (Theora I, 6.4.4 and 7.7.3). A code is its bits with its token.
use Rattle.std.specs.Prelude.{ℕ, Bool, true, false, List, [], ◌∷◌, ◌++◌, map, length, drop, Option, Result, option_map, slice_index_or, ◌==◌}
use Rattle.std.specs.List.{find}
use Rattle.vid_base.specs.declared.fault.PacketFault.{PacketFault}
use Rattle.vid_base.specs.Bits.{digits}
use Rattle.vid_base.specs.Reading.{or_ended}
use Rattle.thr_huff.specs.declared.code.Code.{Code}
use Rattle.thr_huff.specs.CodeTree.{CodeTree, Token, Fork}

-- the codes of a tree's leaves in reading order
abbrev pub Codes : Type 0
Codes = List (List Bool × ℕ)

-- a code with one more bit in front
abbrev pub longer : Bool → List Bool × ℕ → List Bool × ℕ
longer bit code = (bit ∷ code.0, code.1)

-- the codes of a tree: bit 0 leads to the left and bit 1 to the right, and a lone leaf has no bits
unfoldable pub codes_of : CodeTree → Codes
codes_of (Token token) = ([], token) ∷ []
codes_of (Fork left right) = map (longer false) (codes_of left) ++ map (longer true) (codes_of right)

-- the codes of tree hti of a forest
abbrev pub codes_at : List CodeTree → ℕ → Codes
codes_at forest hti = codes_of (slice_index_or forest hti (Token 0))

-- whether the bits begin with a code
unfoldable pub begins_with : List Bool → List Bool → Bool
begins_with [] bits = true
begins_with (c ∷ code) [] = false
begins_with (false ∷ code) (false ∷ bits) = begins_with code bits
begins_with (false ∷ code) (true ∷ bits) = false
begins_with (true ∷ code) (false ∷ bits) = false
begins_with (true ∷ code) (true ∷ bits) = begins_with code bits

-- the code that is a prefix of the bits
unfoldable pub front_code : Codes → List Bool → Option (List Bool × ℕ)
front_code codes bits = find (λ code. begins_with code.0 bits) codes

-- the token of a code that the bits begin with, and the bits behind it
abbrev pub token_and_rest : List Bool → List Bool × ℕ → ℕ × List Bool
token_and_rest bits code = (code.1, drop (length code.0) bits)

-- the token of the code that is a prefix of the bits, with the bits behind that code
unfoldable pub front_token : Codes → List Bool → Option (ℕ × List Bool)
front_token codes bits = option_map (token_and_rest bits) (front_code codes bits)

-- the same as a reading: Ended, where the bits begin with no code
unfoldable pub token_read : Codes → List Bool → Result (ℕ × List Bool) PacketFault
token_read codes bits = or_ended (front_token codes bits)

-- the bits of the first code in reading order that has this token
unfoldable pub code_of : Codes → ℕ → Option (List Bool)
code_of codes token = option_map (λ code. code.0) (find (λ code. code.1 == token) codes)

-- the bits that a code stands for
abbrev pub code_bits : Code → List Bool
code_bits code = digits code.len code.bits
