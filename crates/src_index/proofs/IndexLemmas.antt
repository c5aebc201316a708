-- What the index of a file says of its packets. Commands over a source, and writers of its packets, cite these.
use Rattle.std.proofs.Common.{◌≡◌, ℕ, ◌+◌, ◌≤◌, List, [], ◌∷◌, length, length-drop, map, All, refl, ap, ◌∙◌, arith}
use Rattle.std.proofs.lemmas.List.Elements.{All-nil, All-cons}
use Rattle.ogg_link.specs.Track.{is_key}
use Rattle.src_index.specs.Index.{PageMark, Frame, Index, frame_count, keys_of, quantisers_of}
use Rattle.src_index.specs.Track.{frames_of}
use Rattle.src_index.specs.Checks.{most_bytes}
use Rattle.src_index.specs.Quantiser.{quantiser_behind, quantisers}
use Rattle.src_index.specs.Gather.{AreFramesOf, IsIndexOf}

frames_count : (bytes : List ℕ) (marks : List PageMark) (before : ℕ) (frames : List Frame) (packets : List (List ℕ)) → AreFramesOf bytes marks before frames packets → length packets ≡ length frames
unfolding AreFramesOf
frames_count bytes marks before [] [] h = refl
frames_count bytes marks before [] (p ∷ ps) h = absurd h
frames_count bytes marks before (f ∷ fs) [] h = absurd h
frames_count bytes marks before (f ∷ fs) (p ∷ ps) h = omega (arith, frames_count bytes marks (quantiser_behind before p) fs ps h.1)

frames_keys : (bytes : List ℕ) (marks : List PageMark) (before : ℕ) (frames : List Frame) (packets : List (List ℕ)) → AreFramesOf bytes marks before frames packets → map (λ (f : Frame). f.key) frames ≡ map is_key packets
unfolding AreFramesOf
frames_keys bytes marks before [] [] h = refl
frames_keys bytes marks before [] (p ∷ ps) h = absurd h
frames_keys bytes marks before (f ∷ fs) [] h = absurd h
frames_keys bytes marks before (f ∷ fs) (p ∷ ps) h =
    ap (λ k. k ∷ map (λ (g : Frame). g.key) fs) h.0.key ∙ ap (λ ks. is_key p ∷ ks) (frames_keys bytes marks (quantiser_behind before p) fs ps h.1)

frames_quantisers : (bytes : List ℕ) (marks : List PageMark) (before : ℕ) (frames : List Frame) (packets : List (List ℕ)) → AreFramesOf bytes marks before frames packets → map (λ (f : Frame). f.quantiser) frames ≡ quantisers before packets
unfolding AreFramesOf quantisers
frames_quantisers bytes marks before [] [] h = refl
frames_quantisers bytes marks before [] (p ∷ ps) h = absurd h
frames_quantisers bytes marks before (f ∷ fs) [] h = absurd h
frames_quantisers bytes marks before (f ∷ fs) (p ∷ ps) h =
    ap (λ q. q ∷ map (λ (g : Frame). g.quantiser) fs) h.0.quantiser ∙ ap (λ qs. quantiser_behind before p ∷ qs) (frames_quantisers bytes marks (quantiser_behind before p) fs ps h.1)

frames_short : (bytes : List ℕ) (marks : List PageMark) (before : ℕ) (frames : List Frame) (packets : List (List ℕ)) → AreFramesOf bytes marks before frames packets → All (λ packet. length packet ≤ most_bytes) packets
unfolding AreFramesOf
frames_short bytes marks before frames [] h = All-nil (λ (p : List ℕ). length p ≤ most_bytes)
frames_short bytes marks before [] (p ∷ ps) h = absurd h
frames_short bytes marks before (f ∷ fs) (p ∷ ps) h = All-cons (λ (p : List ℕ). length p ≤ most_bytes) p ps h.0.few (frames_short bytes marks (quantiser_behind before p) fs ps h.1)

-- how many frames there are
pub index_count : (bytes : List ℕ) (packets : List (List ℕ)) (index : Index) → IsIndexOf bytes packets index → length packets ≡ frame_count index + 3
index_count bytes packets index h = omega (arith, h.whole, frames_count bytes index.pages 0 index.frames (frames_of packets) h.frames, length-drop 3 packets)

-- which of them are key frames
pub index_keys : (bytes : List ℕ) (packets : List (List ℕ)) (index : Index) → IsIndexOf bytes packets index → keys_of index ≡ map is_key (frames_of packets)
index_keys bytes packets index h = frames_keys bytes index.pages 0 index.frames (frames_of packets) h.frames

-- their quantisers
pub index_quantisers : (bytes : List ℕ) (packets : List (List ℕ)) (index : Index) → IsIndexOf bytes packets index → quantisers_of index ≡ quantisers 0 (frames_of packets)
index_quantisers bytes packets index h = frames_quantisers bytes index.pages 0 index.frames (frames_of packets) h.frames

-- each packet is short
pub index_short : (bytes : List ℕ) (packets : List (List ℕ)) (index : Index) → IsIndexOf bytes packets index → All (λ packet. length packet ≤ most_bytes) (frames_of packets)
index_short bytes packets index h = frames_short bytes index.pages 0 index.frames (frames_of packets) h.frames
