-- Two blocks of the same numbers are the same. The lemmas of both transforms cite these.
use Rattle.std.proofs.Common.{arith, refl, sym, ◌∙◌, ◌≡◌, ◌<◌, ℕ, ℤ, pos, List, length, map}
use Rattle.std.proofs.lemmas.List.{get_or-map, length-map}
use Rattle.std.proofs.lemmas.List.FromFn.{fill_by_all}
use Rattle.thr_dct.specs.Line.{entry}

pub same_numbers : (xs ys : List ℤ) → length xs ≡ 64 → length ys ≡ 64 → ((k : ℕ) → k < 64 → entry xs k ≡ entry ys k) → xs ≡ ys
same_numbers xs ys long also_long same =
    fill_by_all (entry ys) xs 64 (pos 0) long same ∙ sym (fill_by_all (entry ys) ys 64 (pos 0) also_long (λ k below. refl))

pub mapped : (f : ℤ → ℤ) (xs ys : List ℤ) → length xs ≡ 64 → length ys ≡ 64 → ((k : ℕ) → k < 64 → entry xs k ≡ f (entry ys k)) → xs ≡ map f ys
mapped f xs ys long also_long same =
    fill_by_all (λ k. f (entry ys k)) xs 64 (pos 0) long same
    ∙ sym (fill_by_all (λ k. f (entry ys k)) (map f ys) 64 (pos 0) (length-map ys f ∙ also_long) (λ k below. get_or-map f ys k (pos 0) (pos 0) (omega arith)))
