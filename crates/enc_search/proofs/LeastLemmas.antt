-- A distance that is no more than that of any candidate. The search cites these.
use Rattle.std.proofs.Common.{◌≡◌, ℕ, zero, suc, ◌<◌, ◌≤◌, ◌/◌, ◌%◌, ℤ, List, get_or, length, refl, ap, ◌∙◌, arith}
use Rattle.std.proofs.lemmas.List.FromFn.{get_or-map-range_with_len, length-map-range_with_len}
use Rattle.vid_geom.specs.declared.block.Block.{Block}
use Rattle.vid_plane.specs.declared.frame.Frame.{Frame}
use Rattle.thr_modes.specs.Vectors.{Offset, still}
use Rattle.thr_frame.specs.Rebuilt.{Pair}
use Rattle.enc_search.specs.Found.{luma_samples}
use Rattle.enc_search.specs.declared.frames.Search.{Search}
use Rattle.enc_search.specs.Views.{distance_by, refs_of}
use Rattle.enc_search.specs.Searched.{Samples, Candidate, Flat, Golden, IsLeast, candidate_samples, candidates, even, even_vector, luma_distance, moves}

moves_at : (k : ℕ) (e : Candidate) → k < 81 → get_or moves k e ≡ even_vector k
unfolding moves
moves_at k e h = get_or-map-range_with_len even_vector 0 81 k k e h (omega arith)

moves_long : length moves ≡ 81
unfolding moves
moves_long = length-map-range_with_len even_vector 0 81

-- the candidates by mode and vector
flat_is : (refs : Pair) (target : Frame) (blocks : List Block) → luma_distance target (luma_samples refs 1 still) blocks ≡ luma_distance target (candidate_samples refs Flat) blocks
unfolding luma_distance luma_samples candidate_samples
flat_is refs target blocks = refl

golden_is : (refs : Pair) (target : Frame) (blocks : List Block) → luma_distance target (luma_samples refs 5 still) blocks ≡ luma_distance target (candidate_samples refs Golden) blocks
unfolding luma_distance luma_samples candidate_samples
golden_is refs target blocks = refl

moved_is : (refs : Pair) (target : Frame) (blocks : List Block) (k : ℕ) → luma_distance target (luma_samples refs 2 (record { x = even (k % 9); y = even (k / 9) })) blocks ≡ luma_distance target (candidate_samples refs (even_vector k)) blocks
unfolding luma_distance luma_samples candidate_samples
moved_is refs target blocks k = refl

-- a distance that was compared with all of them
pub least_is : (refs : Pair) (target : Frame) (P : Block → Samples) (blocks : List Block) (d : ℕ) → d ≡ luma_distance target P blocks
    → d ≤ luma_distance target (luma_samples refs 1 still) blocks → d ≤ luma_distance target (luma_samples refs 5 still) blocks
    → ((k : ℕ) → k < 81 → d ≤ luma_distance target (luma_samples refs 2 (record { x = even (k % 9); y = even (k / 9) })) blocks) → IsLeast refs target P blocks
unfolding IsLeast candidates
least_is refs target P blocks d is one golden moved = go
  where
    go : (i : ℕ) (e : Candidate) → i < suc (suc (length moves)) → luma_distance target P blocks ≤ luma_distance target (candidate_samples refs (get_or candidates i e)) blocks
    go zero e h = omega (arith, is, one, flat_is refs target blocks)
    go (suc zero) e h = omega (arith, is, golden, golden_is refs target blocks)
    go (suc (suc k)) e h =
        let within : k < 81 = omega (arith, moves_long) in
        rw (moves_at k e within) (omega (arith, is, moved k within, moved_is refs target blocks k))

-- of a search
pub least_found : (s : Search) (mode : ℕ) (v : Offset) (d : ℕ) → d ≡ distance_by s mode v → d ≤ distance_by s 1 still → d ≤ distance_by s 5 still
    → ((k : ℕ) → k < 81 → d ≤ distance_by s 2 (record { x = even (k % 9); y = even (k / 9) })) → IsLeast (refs_of s.frames) s.frames.target.now (luma_samples (refs_of s.frames) mode v) s.blocks
least_found s mode v d = least_is (refs_of s.frames) s.frames.target.now (luma_samples (refs_of s.frames) mode v) s.blocks d

-- a vector by its components
pub offset_is : (v : Offset) (x y : ℤ) → v.x ≡ x → v.y ≡ y → v ≡ record { x = x; y = y }
offset_is v x y a b = ap (λ k. record { x = k; y = v.y }) a ∙ ap (λ k. record { x = x; y = k }) b
