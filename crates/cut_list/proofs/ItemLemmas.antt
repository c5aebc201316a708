-- Items that have not four fields. The reader of items cites these.
use Rattle.std.proofs.Common.{◌≡◌, ◌≢◌, ℕ, zero, suc, List, [], ◌∷◌, length, Err, refl, arith}
use Rattle.cut_list.specs.Items.{item_of}
use Rattle.cut_list.specs.declared.fault.Why.TheVariants.{Word}

-- where there are not four fields, the line is bad by its words
pub item_of-fields : (n : ℕ) (fields : List (List ℕ)) → length fields ≢ 4 → item_of n fields ≡ Err Word
unfolding item_of
item_of-fields n [] other = refl
item_of-fields n (a ∷ []) other = refl
item_of-fields n (a ∷ b ∷ []) other = refl
item_of-fields n (a ∷ b ∷ c ∷ []) other = refl
item_of-fields n (a ∷ b ∷ c ∷ d ∷ []) other = absurd (other refl)
item_of-fields n (a ∷ b ∷ c ∷ d ∷ e ∷ fields) other = refl
