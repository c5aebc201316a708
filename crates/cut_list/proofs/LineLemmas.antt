-- The lines of a text and the fields of a line, one by one. The readers of lines and items cite these.
use Rattle.std.proofs.Common.{◌≡◌, ℕ, zero, suc, ◌+◌, ◌-◌, ◌<◌, Bool, true, false, cond, List, [], ◌∷◌, length, take, drop, get_or, refl, ap, sym, ◌∙◌, arith, eqb}
use Rattle.std.specs.List.{slice_split, onto_first}
use Rattle.std.proofs.lemmas.Bool.{eq-eqb, ne_eqb}
use Rattle.std.specs.Prelude.{EachIndex, slice_index, ◌≢◌}
use Rattle.cut_list.specs.EditList.{lines_of}
use Rattle.cut_list.specs.Items.{fields_of}
use Rattle.cut_list.specs.Places.{IsFirstPlace}

-- the first place behind the first byte
behind-first : (wanted c : ℕ) (bytes : List ℕ) (i : ℕ) → IsFirstPlace wanted (c ∷ bytes) (suc i) → IsFirstPlace wanted bytes i
behind-first wanted c bytes i at = record {
  inside = omega (arith, at.inside);
  here = at.here;
  before = λ k h. at.before (suc k) (omega (arith, h));
}

-- a first line, and the text behind its line feed
pub lines_of-line : (text : List ℕ) (i : ℕ) → IsFirstPlace 10 text i
    → lines_of text ≡ take i text ∷ lines_of (drop (i + 1) text)
unfolding lines_of
lines_of-line [] i feed = absurd (omega (arith, feed.inside))
lines_of-line (c ∷ text) zero feed = let here = eq-eqb c 10 feed.here in rw here refl
lines_of-line (c ∷ text) (suc i) feed =
    let step : suc i + 1 ≡ suc (i + 1) = omega arith in
    let other = ne_eqb c 10 (feed.before 0 (omega arith)) in
    rw (other, step) (ap (onto_first c) (lines_of-line text i (behind-first 10 c text i feed)))

-- a last line without its line feed
pub lines_of-last : (text : List ℕ) → 0 < length text → EachIndex text (λ k. slice_index text k ≢ 10) → lines_of text ≡ text ∷ []
unfolding lines_of
lines_of-last [] some none = absurd (omega (arith, some))
lines_of-last (c ∷ []) some none = let other = ne_eqb c 10 (none 0 (omega arith)) in rw other refl
lines_of-last (c ∷ d ∷ text) some none =
    let other = ne_eqb c 10 (none 0 (omega arith)) in
    let rest : lines_of (d ∷ text) ≡ (d ∷ text) ∷ [] = lines_of-last (d ∷ text) (omega arith) (λ k h. none (suc k) (omega (arith, h))) in
    rw other (ap (onto_first c) rest)

-- a first field, and the line behind its space
pub fields_of-field : (line : List ℕ) (i : ℕ) → IsFirstPlace 32 line i → fields_of line ≡ take i line ∷ fields_of (drop (i + 1) line)
fields_of-field [] i space = absurd (omega (arith, space.inside))
fields_of-field (c ∷ line) zero space = let here = eq-eqb c 32 space.here in rw here refl
fields_of-field (c ∷ line) (suc i) space =
    let step : suc i + 1 ≡ suc (i + 1) = omega arith in
    let other = ne_eqb c 32 (space.before 0 (omega arith)) in
    rw (other, step) (ap (onto_first c) (fields_of-field line i (behind-first 32 c line i space)))

-- a last field
pub fields_of-last : (line : List ℕ) → EachIndex line (λ k. slice_index line k ≢ 32) → fields_of line ≡ line ∷ []
fields_of-last [] none = refl
fields_of-last (c ∷ line) none =
    let other = ne_eqb c 32 (none 0 (omega arith)) in
    rw other (ap (onto_first c) (fields_of-last line (λ k h. none (suc k) (omega (arith, h)))))

-- there is always a field
pub some_field : (line : List ℕ) → 0 < length (fields_of line)
some_field [] = omega arith
some_field (c ∷ line) = some (eqb c 32) (fields_of line)
  where
    some : (b : Bool) (fields : List (List ℕ)) → 0 < length (cond b ([] ∷ fields) (onto_first c fields))
    some true fields = omega arith
    some false [] = omega arith
    some false (field ∷ fields) = omega arith
