-- The coding mode of each macro block (Theora I, 7.4). A mode is a number from 0 to 7.
use Rattle.std.specs.Prelude.{ℕ, ◌≡◌, zero, suc, ◌-◌, ◌==◌, Bool, true, false, List, [], ◌∷◌, map, get_or, Some, slice_get, unwrap_or, Result, Ok, Err, if◌then◌else◌}
use Rattle.std.specs.List.{position, list_any}
use Rattle.vid_base.specs.declared.shape.Shape.{Shape}
use Rattle.vid_base.specs.declared.fault.PacketFault.{PacketFault}
use Rattle.vid_base.specs.declared.fault.PacketFault.TheVariants.{Ended, BadAlphabet}
use Rattle.vid_base.specs.Reading.{field, ◌>>=◌}
use Rattle.vid_base.specs.Items.{items}
use Rattle.thr_modes.specs.Forms.{ModeForm, Ranked, Plain}
use Rattle.thr_modes.specs.InOrder.{each}
use Rattle.thr_modes.specs.LumaFlags.{macro_flags, some_coded}

-- the modes by rank under schemes 1 to 6
abbrev pub alphabets : List (List ℕ)
alphabets =
    (3 ∷ 4 ∷ 2 ∷ 0 ∷ 1 ∷ 5 ∷ 6 ∷ 7 ∷ [])
    ∷ (3 ∷ 4 ∷ 0 ∷ 2 ∷ 1 ∷ 5 ∷ 6 ∷ 7 ∷ [])
    ∷ (3 ∷ 2 ∷ 4 ∷ 0 ∷ 1 ∷ 5 ∷ 6 ∷ 7 ∷ [])
    ∷ (3 ∷ 2 ∷ 0 ∷ 4 ∷ 1 ∷ 5 ∷ 6 ∷ 7 ∷ [])
    ∷ (0 ∷ 3 ∷ 4 ∷ 2 ∷ 1 ∷ 5 ∷ 6 ∷ 7 ∷ [])
    ∷ (0 ∷ 5 ∷ 3 ∷ 4 ∷ 2 ∷ 1 ∷ 6 ∷ 7 ∷ [])
    ∷ []

-- the mode that has a rank, from the ranks of modes 0 to 7; 8 where none has it
abbrev pub mode_with : List ℕ → ℕ → ℕ
mode_with ranks rank = unwrap_or (position (λ other. other == rank) ranks) 8

-- the modes by rank, from their ranks
abbrev pub by_rank : List ℕ → List ℕ
by_rank ranks = map (mode_with ranks) (0 ∷ 1 ∷ 2 ∷ 3 ∷ 4 ∷ 5 ∷ 6 ∷ 7 ∷ [])

-- under scheme 0 the ranks of modes 0 to 7 are read, and each rank is to occur
unfoldable pub own_alphabet : List Bool → Result (List ℕ × List Bool) PacketFault
own_alphabet bits = items (field 3) 8 bits >>= (λ ranks.
    if list_any (λ mode. mode == 8) (by_rank ranks.0) then Err BadAlphabet else Ok (by_rank ranks.0, ranks.1))

-- how modes are coded under a scheme
unfoldable pub coding_of : ℕ → List Bool → Result (ModeForm × List Bool) PacketFault
coding_of scheme bits =
    if scheme == 0 then own_alphabet bits >>= (λ alphabet. Ok (Ranked alphabet.0, alphabet.1))
    else if scheme == 7 then Ok (Plain, bits)
    else Ok (Ranked (get_or alphabets (scheme - 1) []), bits)

-- a rank: so many bits 1 and a bit 0; at most `most` bits 1, with no bit 0 behind them
unfoldable pub rank_in : ℕ → List Bool → Result (ℕ × List Bool) PacketFault
rank_in zero bits = Ok (0, bits)
rank_in (suc most) [] = Err Ended
rank_in (suc most) (false ∷ bits) = Ok (0, bits)
rank_in (suc most) (true ∷ bits) = rank_in most bits >>= (λ further. Ok (suc further.0, further.1))

-- a mode: by its rank, or as 3 bits
unfoldable pub mode_in : ModeForm → List Bool → Result (ℕ × List Bool) PacketFault
mode_in (Ranked alphabet) bits = rank_in 7 bits >>= (λ rank. Ok (get_or alphabet rank.0 0, rank.1))
mode_in Plain bits = field 3 bits

-- the mode of a macro block, from the flags of its luma blocks: 0 where none is coded, and nothing is read
unfoldable pub macro_mode : ModeForm → List Bool → List Bool → Result (ℕ × List Bool) PacketFault
macro_mode coding luma bits = if some_coded luma then mode_in coding bits else Ok (0, bits)

-- the modes of all macro blocks in coded order, from the scheme on
unfoldable pub modes_of : Shape → List Bool → List Bool → Result (List ℕ × List Bool) PacketFault
modes_of s flags bits =
    field 3 bits >>= (λ scheme. coding_of scheme.0 scheme.1 >>= (λ coding. each (macro_mode coding.0) (macro_flags s flags) coding.1))

-- the modes of a frame: an entry for each macro block, and 0 where no luma block is coded
abbrev pub ZeroWhereUncoded : List (List Bool) → List ℕ → Type 0
ZeroWhereUncoded lumas modes = (m : ℕ) (luma : List Bool) → slice_get lumas m ≡ Some luma → some_coded luma ≡ false → slice_get modes m ≡ Some 0
