-- What a text says, by its head and the lines behind it, and where all of them are read. The reader of lists cites these.
use Rattle.std.proofs.Common.{◌≡◌, ℕ, zero, suc, ◌+◌, ◌<◌, true, false, List, [], ◌∷◌, ◌++◌, length, None, Ok, Err, refl, ap, sym, ◌∙◌, arith}
use Rattle.std.proofs.lemmas.List.{append-nil}
use Rattle.cut_list.specs.Answers.{said_behind_head}
use Rattle.cut_list.specs.EditList.{BadLine, bad_from, first_bad, is_head, lines_of, list_of, list_or_bad, slices_from, slices_in}
use Rattle.cut_list.specs.Slices.{Slice}
use Rattle.cut_list.specs.declared.fault.Why.TheVariants.{Head}

-- a text without a byte has no line
pub lines_of-none : (text : List ℕ) → length text ≡ 0 → lines_of text ≡ []
unfolding lines_of
lines_of-none [] none = refl
lines_of-none (c ∷ text) none = absurd (omega (arith, none))

-- a text without a line lacks its head
pub list_of-none : (text : List ℕ) → length text ≡ 0 → list_of text ≡ Err (record { line = 1; why = Head })
unfolding list_of first_bad slices_in
list_of-none text none = rw (lines_of-none text none) refl

-- a text with another first line
pub list_of-no_head : (text line : List ℕ) (lines : List (List ℕ)) → lines_of text ≡ line ∷ lines → is_head line ≡ false → list_of text ≡ Err (record { line = 1; why = Head })
unfolding list_of first_bad slices_in
list_of-no_head text line lines first no_head = rw (first, no_head) refl

-- a text that begins with the head
pub list_of-head : (text line : List ℕ) (lines : List (List ℕ)) → lines_of text ≡ line ∷ lines → is_head line ≡ true → list_of text ≡ said_behind_head lines
unfolding list_of first_bad slices_in
list_of-head text line lines first head =
    let counted : suc (length lines) + 1 ≡ length lines + 2 = omega arith in
    rw (first, head, counted) refl

pub slices_in-head : (text line : List ℕ) (lines : List (List ℕ)) → lines_of text ≡ line ∷ lines → is_head line ≡ true → slices_in (lines_of text) ≡ slices_from 2 lines
unfolding slices_in
slices_in-head text line lines first head = rw (first, head) refl

-- where no line is left
pub all_read : (n : ℕ) (lines rest : List (List ℕ)) (read : List Slice) → rest ≡ [] → n + length rest ≡ 1 + length lines → bad_from (n + 1) rest ≡ bad_from 2 lines
    → read ++ slices_from (n + 1) rest ≡ slices_from 2 lines → said_behind_head lines ≡ list_or_bad (n + 1) None read
all_read n lines rest read none counted good slices =
    let last : length lines + 2 ≡ n + 1 = omega (arith, counted, ap length none) in
    let all : slices_from 2 lines ≡ read = sym slices ∙ ap (λ r. read ++ slices_from (n + 1) r) none ∙ append-nil read in
    let well : bad_from 2 lines ≡ None = sym good ∙ ap (λ r. bad_from (n + 1) r) none in
    rw (last, well, all) refl

-- some slices are a list
pub list_or_bad-some : (n : ℕ) (slices : List Slice) → 0 < length slices → list_or_bad n None slices ≡ Ok slices
list_or_bad-some n [] some = absurd (omega (arith, some))
list_or_bad-some n (slice ∷ slices) some = refl

-- a list without an element
pub no_slice : {A : Type 0} (slices : List A) → length slices ≡ 0 → slices ≡ []
no_slice [] none = refl
no_slice (slice ∷ slices) none = absurd (omega (arith, none))
