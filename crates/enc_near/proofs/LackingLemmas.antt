-- Differences of two blocks of samples. `lacking` cites these.
use Rattle.std.proofs.Common.{◌≡◌, ◌∙◌, ℕ, ◌+◌, ◌<◌, ◌≤◌, ◌/◌, ◌%◌, ℤ, pos, ◌-ℤ◌, List, [], length, get_or, set, map, replicate, ap, refl, arith, length-set}
use Rattle.std.specs.List.{All, range_with_len}
use Rattle.std.proofs.lemmas.Int.{ints}
use Rattle.std.proofs.lemmas.List.Edits.{fill_by_more}
use Rattle.std.proofs.lemmas.List.Elements.{All-replicate, All-set}
use Rattle.std.proofs.lemmas.List.FromFn.{fill_by_all, get_or-map-range_with_len}
use Rattle.thr_dct.specs.Line.{Within, entry}
use Rattle.thr_recon.specs.Rebuilt.{block_of}
use Rattle.enc_search.specs.Searched.{Samples}
use Rattle.enc_near.specs.Near.{lacking}

-- the sample of a block at a place of the natural order
sample : List (List ℕ) → ℕ → ℕ
sample rows k = get_or (get_or rows (k / 8) []) (k % 8) 0

sample_is : (f : Samples) (k : ℕ) → k < 64 → sample (block_of f) k ≡ f (k % 8) (k / 8)
unfolding sample block_of
sample_is f k below =
    let row = get_or-map-range_with_len (λ v. map (λ u. f u v) (range_with_len 0 8)) 0 8 (k / 8) (k / 8) [] (omega arith) (omega arith) in
    ap (λ (l : List ℕ). get_or l (k % 8) 0) row ∙ get_or-map-range_with_len (λ u. f u (k / 8)) 0 8 (k % 8) (k % 8) 0 (omega arith) (omega arith)

-- all differences
lacking_is : (f g : Samples) (a b : List (List ℕ)) (out : List ℤ) → a ≡ block_of f → b ≡ block_of g → length out ≡ 64
    → ((k : ℕ) → k < 64 → entry out k ≡ pos (get_or (get_or a (k / 8) []) (k % 8) 0) -ℤ pos (get_or (get_or b (k / 8) []) (k % 8) 0)) → out ≡ lacking f g
unfolding lacking sample
lacking_is f g a b out e h long done =
    fill_by_all (λ k. pos (f (k % 8) (k / 8)) -ℤ pos (g (k % 8) (k / 8))) out 64 (pos 0) long
    (λ k below. done k below ∙ ap (λ (l : List (List ℕ)). pos (sample l k) -ℤ pos (sample b k)) e ∙ ap (λ (l : List (List ℕ)). pos (sample (block_of f) k) -ℤ pos (sample l k)) h
    ∙ ap (λ n. pos n -ℤ pos (sample (block_of g) k)) (sample_is f k below) ∙ ap (λ n. pos (f (k % 8) (k / 8)) -ℤ pos n) (sample_is g k below))

-- the samples less the predicted ones
abbrev difference_at : List (List ℕ) → List (List ℕ) → ℕ → ℤ
difference_at a b k = pos (get_or (get_or a (k / 8) []) (k % 8) 0) -ℤ pos (get_or (get_or b (k / 8) []) (k % 8) 0)

-- those before k
pub record AreFirstDifferences (a b : List (List ℕ)) (k : ℕ) (out : List ℤ) : Type 0 where
  pub long : length out ≡ 64
  pub done : (i : ℕ) → i < k → entry out i ≡ difference_at a b i
  pub bounds : All (Within 255) out

pub no_difference : (a b : List (List ℕ)) → AreFirstDifferences a b 0 (replicate 64 (pos 0))
no_difference a b = record {
  long = refl;
  done = λ i below. absurd (omega arith);
  bounds = All-replicate (Within 255) 64 (pos 0) (record { low = omega (arith, ints); high = omega (arith, ints) });
}

pub more_differences : (a b : List (List ℕ)) (k : ℕ) (out : List ℤ) (v : ℤ) → k < 64 → v ≡ difference_at a b k → Within 255 v → AreFirstDifferences a b k out → AreFirstDifferences a b (k + 1) (set out k v)
more_differences a b k out v below is bound first = record {
  long = length-set out k v ∙ first.long;
  done = rw is (fill_by_more (difference_at a b) out k (pos 0) (omega (arith, first.long)) first.done);
  bounds = All-set (Within 255) out k v bound first.bounds;
}

-- all
pub all_differences : (f g : Samples) (a b : List (List ℕ)) (k : ℕ) (out : List ℤ) → 64 ≤ k → AreFirstDifferences a b k out → a ≡ block_of f → b ≡ block_of g → out ≡ lacking f g
all_differences f g a b k out past first e h = lacking_is f g a b out e h first.long (λ i below. first.done i (omega arith))
