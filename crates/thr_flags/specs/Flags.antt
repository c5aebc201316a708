-- The coded flags of a frame: which of its blocks are coded (Theora I, 7.3). s is the frame's shape, sizes has the number of
-- blocks of each superblock, and partly says of each superblock whether it is partly coded.
use Rattle.std.specs.Prelude.{ℕ, ◌+◌, Bool, true, false, not, List, [], ◌∷◌, ◌++◌, map, length, take, drop, replicate, Result, Ok, if◌then◌else◌}
use Rattle.std.specs.List.{count_by}
use Rattle.vid_base.specs.declared.fault.PacketFault.{PacketFault}
use Rattle.vid_base.specs.declared.shape.Shape.{Shape}
use Rattle.vid_base.specs.Reading.{◌>>=◌}
use Rattle.vid_geom.specs.CodedOrder.{superblocks}
use Rattle.thr_flags.specs.RunStrings.{long_string, short_string}

-- how many blocks each superblock has
unfoldable pub sizes_of : Shape → List ℕ
sizes_of s = map length (superblocks s)

-- how many superblocks are not partly coded
abbrev pub count_whole : List Bool → ℕ
count_whole partly = count_by not partly

-- how many blocks the partly coded superblocks have
unfoldable pub partial_blocks : List ℕ → List Bool → ℕ
partial_blocks [] partly = 0
partial_blocks (n ∷ sizes) [] = 0
partial_blocks (n ∷ sizes) (v ∷ partly) = (if v then n else 0) + partial_blocks sizes partly

-- the flags superblock by superblock: the next of `single` for each block of a partly coded one, and for all blocks of any
-- other the next of `fully`
unfoldable pub spread : List ℕ → List Bool → List Bool → List Bool → List Bool
spread [] partly fully single = []
spread (n ∷ sizes) [] fully single = []
spread (n ∷ sizes) (true ∷ partly) fully single = take n single ++ spread sizes partly fully (drop n single)
spread (n ∷ sizes) (false ∷ partly) [] single = []
spread (n ∷ sizes) (false ∷ partly) (v ∷ fully) single = replicate n v ++ spread sizes partly fully single

-- a flag for each block in coded order: a long string says which superblocks are partly coded, a second one whether each
-- other is fully coded, and a short string has the flags of the blocks of the partly coded ones
unfoldable pub flags_of : Shape → List Bool → Result (List Bool × List Bool) PacketFault
flags_of s bits =
    long_string (length (superblocks s)) bits >>= (λ partly.
    long_string (count_whole partly.0) partly.1 >>= (λ fully.
    short_string (partial_blocks (sizes_of s) partly.0) fully.1 >>= (λ single.
    Ok (spread (sizes_of s) partly.0 fully.0 single.0, single.1))))
