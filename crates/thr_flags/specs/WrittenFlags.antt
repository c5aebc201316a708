-- What is written of the flags of a frame (own). s is the frame's shape, sizes has the number of blocks of each superblock.
use Rattle.std.specs.Prelude.{ℕ, Bool, false, not, ◌&&◌, List, [], ◌∷◌, map, take, drop, get_or}
use Rattle.std.specs.List.{filter, list_any}
use Rattle.vid_base.specs.declared.shape.Shape.{Shape}
use Rattle.vid_geom.specs.Squares.{joined}
use Rattle.thr_flags.specs.Flags.{sizes_of}

-- the flags in parts of these sizes
unfoldable pub parts : List ℕ → List Bool → List (List Bool)
parts [] flags = []
parts (n ∷ sizes) flags = take n flags ∷ parts sizes (drop n flags)

-- the flags of each superblock of a frame
abbrev pub parts_of : Shape → List Bool → List (List Bool)
parts_of s flags = parts (sizes_of s) flags

-- a superblock is partly coded: a block of it is coded, and another is not
unfoldable pub is_partial : List Bool → Bool
is_partial part = list_any (λ v. v) part && list_any not part

-- which superblocks are partly coded
unfoldable pub partly_in : List (List Bool) → List Bool
partly_in parts = map is_partial parts

-- whether each of the others is fully coded: it has the flags of its first block
unfoldable pub fully_in : List (List Bool) → List Bool
fully_in parts = map (λ part. get_or part 0 false) (filter (λ part. not (is_partial part)) parts)

-- the flags of the partly coded ones
unfoldable pub single_in : List (List Bool) → List Bool
single_in parts = joined (filter is_partial parts)
