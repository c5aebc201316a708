-- What was appended. `Encoder::key` and `Encoder::inter` cite these.
use Rattle.std.proofs.Common.{◌≡◌, ◌∙◌, ℕ, List, [], ◌++◌, length, drop, sym, ap, append-nil}
use Rattle.std.proofs.Math.Seq.{drop-append_seam}
use Rattle.enc_frame.specs.Encoding.{added}

pub added_is : (old new more : List ℕ) → new ≡ old ++ more → added old new ≡ more
added_is old new more e = ap (drop (length old)) e ∙ drop-append_seam old more

pub with_added : (old new more : List ℕ) → new ≡ old ++ more → new ≡ old ++ added old new
with_added old new more e = e ∙ ap (λ l. old ++ l) (sym (added_is old new more e))

pub with_none : (old new : List ℕ) → new ≡ old → new ≡ old ++ added old new
with_none old new e = with_added old new [] (e ∙ sym (append-nil old))
