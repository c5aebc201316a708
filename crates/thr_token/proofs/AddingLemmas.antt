-- Tokens that are added to a list. `add` cites these.
use Rattle.std.proofs.Common.{◌≡◌, ◌∙◌, ℕ, Bool, List, [], ◌∷◌, ◌++◌, None, All, ap, refl, sym, subst, append_assoc}
use Rattle.std.proofs.lemmas.List.Elements.{All-nil, All-cons, All-append}
use Rattle.thr_token.specs.declared.meaning.Meaning.{Meaning as CodeMeaning}
use Rattle.thr_token.specs.declared.meaning.Meaning.TheVariants.{EndRun as CodeEndRun, ZeroRun as CodeZeroRun, Value as CodeValue}
use Rattle.thr_token.specs.Tokens.{Meaning}
use Rattle.thr_token.specs.declared.token.Token.{Token}
use Rattle.thr_token.specs.Tokenised.{IsToken}
use Rattle.thr_token.specs.Views.{as_meaning}
use Rattle.thr_token.specs.Telling.{Adds, Answer, Steps, Takes, Told}

-- what is no end of a block is said by a token of its own
pub takes : (place : ℕ) (luma : Bool) (meaning : CodeMeaning) (rest next : ℕ → List Token → Answer) → ((blocks : ℕ) → meaning ≡ CodeEndRun blocks → ⊥) → Steps place luma (as_meaning meaning) rest next → Takes place luma (as_meaning meaning) rest next
takes place luma (CodeEndRun blocks) rest next not_end steps = absurd (not_end blocks refl)
takes place luma (CodeZeroRun zeros) rest next not_end steps = steps
takes place luma (CodeValue zeros value) rest next not_end steps = steps

-- such a token was added
pub told_more : (place : ℕ) (luma : Bool) (meaning : Meaning) (old new : List Token) (whole : List Token → Answer) (rest next : ℕ → List Token → Answer)
    → Adds place luma meaning old new → Takes place luma meaning rest next → Told whole rest old None → Told whole next new None
told_more place luma meaning old new whole rest next adds steps told behind =
    ap (λ z. whole (z ++ behind)) adds.added ∙ ap whole (append_assoc old (adds.token ∷ []) behind) ∙ told (adds.token ∷ behind) ∙ steps adds.token behind adds.says

-- and each token can be written
pub each_more : (place : ℕ) (luma : Bool) (meaning : Meaning) (old new : List Token) → Adds place luma meaning old new → All IsToken old → All IsToken new
each_more place luma meaning old new adds each =
    subst (All IsToken) (sym adds.added) (All-append IsToken old (adds.token ∷ []) each (All-cons IsToken adds.token [] adds.fits (All-nil IsToken)))
