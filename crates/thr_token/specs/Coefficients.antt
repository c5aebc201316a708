-- The coefficients of a frame's blocks, read place by place and at each place block by block (Theora I, 7.7.3). A place is a
-- number of the zigzag order, 0 to 63; S is what tokens are read from.
use Rattle.std.specs.Prelude.{ℕ, zero, suc, ◌+◌, ◌*◌, ◌-◌, ◌==◌, nat_lt, ℤ, pos, Bool, List, [], ◌∷◌, ◌++◌, map, replicate, slice_set, Result, Ok, Err, if◌then◌else◌}
use Rattle.std.specs.List.{count_by}
use Rattle.vid_base.specs.declared.shape.Shape.{Shape}
use Rattle.vid_base.specs.declared.fault.PacketFault.{PacketFault}
use Rattle.vid_base.specs.declared.fault.PacketFault.TheVariants.{TokenPastEnd}
use Rattle.vid_base.specs.Reading.{field, or_ended, ◌>>=◌}
use Rattle.vid_geom.specs.declared.block.Block.{Block}
use Rattle.vid_geom.specs.CodedOrder.{order_of}
use Rattle.thr_huff.specs.CodeTree.{CodeTree}
use Rattle.thr_huff.specs.Codes.{codes_at, front_token}
use Rattle.thr_token.specs.Tokens.{Meaning, EndRun, ZeroRun, Value, further_bits, meaning_of}

-- how far a block has come: whether it is one of luma, the place at which it stands (64 where it has ended), its 64
-- coefficients so far, and its count
pub record Progress : Type 0 where
  pub luma : Bool
  pub place : ℕ
  pub values : List ℤ
  pub count : ℕ

-- the next token's meaning for a block of this place, of luma or not, and what is left to read from
abbrev pub Source : Type 0 → Type 0
Source S = ℕ → Bool → S → Result (Meaning × S) PacketFault

-- how many of the blocks that stand at these places have not ended
abbrev pub unended_at : List ℕ → ℕ
unended_at places = count_by (λ place. nat_lt place 64) places

-- how many of these blocks have not ended
unfoldable pub unended : List Progress → ℕ
unended blocks = unended_at (map (λ b. b.place) blocks)

-- a block ends at a place
abbrev pub ended : ℕ → Progress → Progress
ended place b = record { luma = b.luma; place = 64; values = b.values; count = place }

-- zeros bring a block from a place to one that is at most 64
abbrev pub skipped : ℕ → ℕ → Progress → Result Progress PacketFault
skipped place zeros b =
    if nat_lt 64 (place + zeros) then Err TokenPastEnd
    else Ok (record { luma = b.luma; place = place + zeros; values = b.values; count = place })

-- the coefficient behind so many zeros has this value, at a place that is at most 63
abbrev pub valued : ℕ → ℕ → ℤ → Progress → Result Progress PacketFault
valued place zeros value b =
    if nat_lt (place + zeros) 64
    then Ok (record { luma = b.luma; place = place + zeros + 1; values = slice_set b.values (place + zeros) value; count = place })
    else Err TokenPastEnd

-- what a token makes of a block at a place, and how many blocks are then still to be ended; others counts the other blocks
-- that have not ended
unfoldable pub taken : ℕ → ℕ → Progress → Meaning → Result (Progress × ℕ) PacketFault
taken place others b (EndRun blocks) = Ok (ended place b, if blocks == 0 then others else blocks - 1)
taken place others b (ZeroRun zeros) = skipped place zeros b >>= (λ after. Ok (after, 0))
taken place others b (Value zeros value) = valued place zeros value b >>= (λ after. Ok (after, 0))

-- a block that stands at the place is ended by the run that is active, or else takes a token
unfoldable pub turn : {S : Type 0} → Source S → ℕ → ℕ → Progress → ℕ → S → Result ((Progress × ℕ) × S) PacketFault
turn next place others b (suc run) source = Ok ((ended place b, run), source)
turn next place others b zero source = next place b.luma source >>= (λ token. taken place others b token.0 >>= (λ after. Ok (after, token.1)))

-- one block at a place: nothing comes to a block that stands elsewhere
unfoldable pub visit : {S : Type 0} → Source S → ℕ → ℕ → Progress → ℕ → S → Result ((Progress × ℕ) × S) PacketFault
visit next place others b run source = if b.place == place then turn next place others b run source else Ok ((b, run), source)

-- the blocks at a place, in coded order, behind those that were visited; with them the rest of the run
unfoldable pub at_place : {S : Type 0} → Source S → ℕ → List Progress → List Progress → ℕ → S → Result ((List Progress × ℕ) × S) PacketFault
at_place next place visited [] run source = Ok ((visited, run), source)
at_place next place visited (b ∷ blocks) run source =
    visit next place (unended visited + unended blocks) b run source
    >>= (λ after. at_place next place (visited ++ after.0.0 ∷ []) blocks after.0.1 after.1)

-- so many places, from this one on
unfoldable pub places : {S : Type 0} → Source S → ℕ → ℕ → List Progress → ℕ → S → Result ((List Progress × ℕ) × S) PacketFault
places next zero place blocks run source = Ok ((blocks, run), source)
places next (suc n) place blocks run source = at_place next place [] blocks run source >>= (λ after. places next n (place + 1) after.0.0 after.0.1 after.1)

-- the group of a place: a frame reads each by trees of its own
abbrev pub group_of : ℕ → ℕ
group_of place = if place == 0 then 0 else if nat_lt place 6 then 1 else if nat_lt place 15 then 2 else if nat_lt place 28 then 3 else 4

-- which tree of a group the blocks of luma take, and which the others
pub record TableNumbers : Type 0 where
  pub luma : ℕ
  pub chroma : ℕ

-- the tree by which a block's token is read
abbrev pub tree_of : TableNumbers → ℕ → Bool → ℕ
tree_of numbers place luma = 16 * group_of place + (if luma then numbers.luma else numbers.chroma)

-- tokens read from bits: a code of that tree, and the further bits
unfoldable pub token_in : List CodeTree → TableNumbers → Source (List Bool)
token_in forest numbers place luma bits =
    or_ended (front_token (codes_at forest (tree_of numbers place luma)) bits)
    >>= (λ token. field (further_bits token.0) token.1 >>= (λ extra. Ok (meaning_of token.0 extra.0, extra.1)))

-- the numbers of the luma table and the chroma table, 4 bits each
unfoldable pub numbers_in : List Bool → Result (TableNumbers × List Bool) PacketFault
numbers_in bits = field 4 bits >>= (λ luma. field 4 luma.1 >>= (λ chroma. Ok (record { luma = luma.0; chroma = chroma.0 }, chroma.1)))

-- where a block stands before its first token: a coded one at place 0, and any other has ended
abbrev pub first_place : Bool → ℕ
first_place coded = if coded then 0 else 64

-- a block before its first token
abbrev pub untouched : Bool → Bool → Progress
untouched luma coded = record { luma = luma; place = first_place coded; values = replicate 64 (pos 0); count = 0 }

-- whether a block is one of luma
abbrev pub is_luma : Block → Bool
is_luma b = b.pli == 0

-- all blocks before their first tokens, in coded order
unfoldable pub untouched_blocks : List Block → List Bool → List Progress
untouched_blocks [] flags = []
untouched_blocks (b ∷ blocks) [] = []
untouched_blocks (b ∷ blocks) (coded ∷ flags) = untouched (is_luma b) coded ∷ untouched_blocks blocks flags

-- the coefficients of blocks, and their counts
abbrev pub results_of : List Progress → List (List ℤ) × List ℕ
results_of blocks = (map (λ b. b.values) blocks, map (λ b. b.count) blocks)

-- the coefficients and the counts of a frame's blocks in coded order. One pair of tables is for place 0 and another for the
-- places from 1 on
unfoldable pub coefficients : List CodeTree → Shape → List Bool → List Bool → Result ((List (List ℤ) × List ℕ) × List Bool) PacketFault
coefficients forest s flags bits =
    numbers_in bits >>= (λ dc.
    places (token_in forest dc.0) 1 0 (untouched_blocks (order_of s) flags) 0 dc.1 >>= (λ first.
    numbers_in first.1 >>= (λ ac.
    places (token_in forest ac.0) 63 1 first.0.0 first.0.1 ac.1 >>= (λ all.
    Ok (results_of all.0.0, all.1)))))
