-- One text of a comment header after the other. The loop over the texts cites these.
use Rattle.std.proofs.Common.{◌≡◌, ℕ, suc, ◌+◌, ◌-◌, ◌<◌, List, Some, None, arith, refl}
use Rattle.thr_ident.specs.Comment.{after_text, after_texts}

-- one text more
pub texts_step : (n i : ℕ) (bytes rest : List ℕ) → i < n → after_text bytes ≡ Some rest → after_texts (n - (i + 1)) rest ≡ after_texts (n - i) bytes
unfolding after_texts
texts_step n i bytes rest h e = let more : n - i ≡ suc (n - (i + 1)) = omega arith in rw (more, e) refl

-- no whole text is left where one is wanted
pub texts_fault : (n i : ℕ) (bytes : List ℕ) → i < n → after_text bytes ≡ None → after_texts (n - i) bytes ≡ None
unfolding after_texts
texts_fault n i bytes h e = let more : n - i ≡ suc (n - (i + 1)) = omega arith in rw (more, e) refl

-- all texts were read
pub texts_end : (n i : ℕ) (bytes : List ℕ) → n - i ≡ 0 → after_texts (n - i) bytes ≡ Some bytes
unfolding after_texts
texts_end n i bytes h = rw h refl
