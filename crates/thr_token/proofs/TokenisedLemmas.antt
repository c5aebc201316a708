-- The tokens of a frame before the first and behind the last. `tokenise` cites these.
use Rattle.std.proofs.Common.{◌≡◌, ◌∙◌, ℕ, ◌<◌, ◌≤◌, ℤ, pos, Bool, true, false, List, [], length, map, get_or, replicate, None, Ok, All, refl, ap, sym, arith}
use Rattle.std.proofs.lemmas.List.{append-nil, ext_get_or, get_or-map, get_or-replicate, length-map, length-replicate}
use Rattle.vid_base.specs.declared.shape.Shape.{Shape}
use Rattle.vid_geom.specs.CodedOrder.{order_of}
use Rattle.thr_token.specs.declared.token.Token.{Token}
use Rattle.thr_token.specs.Coefficients.{Progress, first_place, is_luma, places, results_of, untouched_blocks}
use Rattle.thr_token.specs.Standing.{lumas_of, standing}
use Rattle.thr_token.specs.Tokenised.{AreBlank, Tells, token_from, told}
use Rattle.thr_token.specs.Telling.{Answer, IsRead, Telling, from_place}
use Rattle.thr_token.proofs.PlaceLemmas.{places_done}
use Rattle.thr_token.proofs.ReadingLemmas.{results_is, untouched_is}

-- how all tokens of a frame are read
abbrev pub whole : Shape → List Bool → List Token → Answer
whole s flags tokens = places token_from 64 0 (untouched_blocks (order_of s) flags) 0 tokens

-- a block before its first token
read_none : (values : List ℤ) (coded : Bool) → (coded ≡ false → values ≡ replicate 64 (pos 0)) → IsRead values (first_place coded) (replicate 64 (pos 0))
read_none values true blank = record {
  size = length-replicate 64 (pos 0);
  whole = λ h. absurd (omega arith);
  high = omega arith;
  front = λ i h. absurd (omega arith);
  behind = λ i from below. get_or-replicate 64 i (pos 0) (pos 0) below;
}
read_none values false blank = record {
  size = length-replicate 64 (pos 0);
  whole = λ h. ap length (blank refl) ∙ length-replicate 64 (pos 0);
  high = omega arith;
  front = λ i h. ap (λ (v : List ℤ). get_or v i (pos 0)) (sym (blank refl));
  behind = λ i from below. absurd (omega arith);
}

-- no tokens say nothing
pub telling_none : (s : Shape) (flags : List Bool) (values : List (List ℤ)) → length flags ≡ length (order_of s) → AreBlank flags values
    → Telling (whole s flags) (from_place 0) (lumas_of s) values (map first_place flags) [] None
telling_none s flags values size blank = record {
  read = replicate (length flags) (replicate 64 (pos 0));
  counts = replicate (length flags) 0;
  sizes = (
    length-map flags first_place ∙ size ∙ sym (length-map (order_of s) is_luma),
    length-replicate (length flags) (replicate 64 (pos 0)) ∙ size ∙ sym (length-map (order_of s) is_luma),
    length-replicate (length flags) 0 ∙ size ∙ sym (length-map (order_of s) is_luma),
  );
  each = λ b h.
      let there : b < length flags = omega (arith, size, length-map (order_of s) is_luma) in
      let stands : get_or (map first_place flags) b 0 ≡ first_place (get_or flags b true) = get_or-map first_place flags b true 0 there in
      let none : get_or (replicate (length flags) (replicate 64 (pos 0))) b [] ≡ replicate 64 (pos 0) = get_or-replicate (length flags) b (replicate 64 (pos 0)) [] there in
      rw (stands, none) (read_none (get_or values b []) (get_or flags b true) (blank b));
  told = λ behind. ap (λ blocks. places token_from 64 0 blocks 0 behind) (sym (untouched_is (order_of s) flags size));
}

-- the coefficients of a block that has ended
read_all : (values : List ℤ) (place : ℕ) (read : List ℤ) → 64 ≤ place → IsRead values place read → read ≡ values
read_all values place read h r =
    ext_get_or (pos 0) read values (r.size ∙ sym (r.whole (omega arith))) (λ i below. r.front i (omega (arith, r.size)))

-- tokens behind which all blocks have ended say all coefficients
pub telling_all : (s : Shape) (flags : List Bool) (values : List (List ℤ)) (at : List ℕ) (tokens : List Token) → length values ≡ length (order_of s) → All (λ p. 64 ≤ p) at
    → Telling (whole s flags) (from_place 64) (lumas_of s) values at tokens None → (counts : List ℕ) × Tells s flags (values, counts) tokens
unfolding told
telling_all s flags values at tokens size ends t =
    let blocks : List Progress = standing (lumas_of s) at t.read t.counts in
    let lumas = length-map (order_of s) is_luma in
    let all : t.read ≡ values =
    ext_get_or [] t.read values (t.sizes.1 ∙ lumas ∙ sym size)
    (λ b h. read_all (get_or values b []) (get_or at b 0) (get_or t.read b []) (ends b 0 (omega (arith, t.sizes.0, t.sizes.1))) (t.each b (omega (arith, t.sizes.1)))) in
    let done : places token_from 64 0 (untouched_blocks (order_of s) flags) 0 tokens ≡ Ok ((blocks, 0), []) =
    ap (places token_from 64 0 (untouched_blocks (order_of s) flags) 0) (sym (append-nil tokens)) ∙ t.told [] ∙ places_done token_from 64 blocks 0 [] (omega arith) in
    let results : results_of blocks ≡ (values, t.counts) =
    results_is s at t.read t.counts (t.sizes.0 ∙ lumas) (t.sizes.1 ∙ lumas) (t.sizes.2 ∙ lumas) ∙ ap (λ (v : List (List ℤ)). (v, t.counts)) all in
    (t.counts, rw done (ap (λ (r : List (List ℤ) × List ℕ). Ok ((r, 0), [])) results))
