-- A source stays loaded over reads. Those who read its packets cite this.
use Rattle.std.proofs.Common.{ℕ, ap, sym, subst, refl, ◌∙◌}
use Rattle.vid_desk.specs.Meaning.{Meaning, bytes_at, with_reads}
use Rattle.src_index.specs.Index.{Index}
use Rattle.src_index.specs.Loading.{IsIndexed, IsLoadedFrom}

pub still_loaded : (old new : Meaning) (id : ℕ) (index : Index) → with_reads old new → IsLoadedFrom old id index → IsLoadedFrom new index.input index
still_loaded old new id index kept loaded = (
  refl,
  λ files told. subst (λ k. IsIndexed (bytes_at files k) index) (sym loaded.0) (loaded.1 files (sym (ap {A = Meaning} (λ m. m.inputs) kept) ∙ told)),
)
