use Rattle.std.proofs.Common.{[], ◌∷◌, List, ℕ, refl}
use Rattle.std.specs.List.{All}
use Rattle.std.proofs.lemmas.List.Elements.{All-cons, All-nil}
use Rattle.enc_near.specs.Made.{AreEntries, matrices_of}
use Rattle.enc_near.proofs.NearLemmas.{entries_are}
use Rattle.enc_near.proofs.frame.matrices.Goals as goal

pub returns-clause-value : goal.returns-clause-value
unfolding matrices_of
returns-clause-value c = rw (c.matrix.ensures.value, c.matrix-2.ensures.value, c.matrix-3.ensures.value, c.matrix-4.ensures.value, c.matrix-5.ensures.value, c.matrix-6.ensures.value) refl

pub returns-clause-entries : goal.returns-clause-entries
returns-clause-entries c =
    six c.matrix.result c.matrix-2.result c.matrix-3.result c.matrix-4.result c.matrix-5.result c.matrix-6.result (entries_are c.matrix.result c.matrix.ensures.entries c.matrix.ensures.first)
    (entries_are c.matrix-2.result c.matrix-2.ensures.entries c.matrix-2.ensures.first) (entries_are c.matrix-3.result c.matrix-3.ensures.entries c.matrix-3.ensures.first)
    (entries_are c.matrix-4.result c.matrix-4.ensures.entries c.matrix-4.ensures.first) (entries_are c.matrix-5.result c.matrix-5.ensures.entries c.matrix-5.ensures.first)
    (entries_are c.matrix-6.result c.matrix-6.ensures.entries c.matrix-6.ensures.first)
  where
    six : (a b c d e f : List ℕ) → AreEntries a → AreEntries b → AreEntries c → AreEntries d → AreEntries e → AreEntries f → All AreEntries (a ∷ b ∷ c ∷ d ∷ e ∷ f ∷ [])
    six a b c d e f h i j k l m =
        All-cons AreEntries a (b ∷ c ∷ d ∷ e ∷ f ∷ []) h
        (All-cons AreEntries b (c ∷ d ∷ e ∷ f ∷ []) i
        (All-cons AreEntries c (d ∷ e ∷ f ∷ []) j (All-cons AreEntries d (e ∷ f ∷ []) k (All-cons AreEntries e (f ∷ []) l (All-cons AreEntries f [] m (All-nil AreEntries))))))
