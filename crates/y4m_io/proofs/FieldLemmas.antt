-- The fields of a head, one by one. The readers of heads cite these.
use Rattle.std.proofs.Common.{◌≡◌, ℕ, List, [], ◌∷◌, Ok, Err, ap, refl}
use Rattle.y4m_io.specs.declared.fault.Y4mWhy.{Y4mWhy}
use Rattle.y4m_io.specs.HeadLine.{Said, with_field, with_fields}
use Rattle.y4m_io.specs.Steps.{◌>>=◌}

pub field_read : (s t : Said) (field : List ℕ) (fields : List (List ℕ)) → with_field s field ≡ Ok t → with_fields s (field ∷ fields) ≡ with_fields t fields
unfolding with_fields
field_read s t field fields read = ap (λ r. r >>= λ t. with_fields t fields) read

pub field_bad : (s : Said) (field : List ℕ) (fields : List (List ℕ)) (why : Y4mWhy) → with_field s field ≡ Err why → with_fields s (field ∷ fields) ≡ Err why
unfolding with_fields
field_bad s field fields why bad = ap (λ r. r >>= λ t. with_fields t fields) bad

pub no_field : (s : Said) → with_fields s [] ≡ Ok s
unfolding with_fields
no_field s = refl
