-- A page begins with its first letter, so a place without it begins none. The search for false pages cites these.
use Rattle.std.proofs.Common.{◌≡◌, ℕ, ◌-◌, ◌<◌, ◌≤◌, List, length, length-drop, length-take, take, drop, get_or, Result, Ok, Err, IsOk, inl, inr, refl, ap, sym, ◌∙◌, arith, lit<}
use Rattle.std.proofs.lemmas.List.{get_or-take, get_or-drop, get_or_append_left, drop-append-le}
use Rattle.ogg_page.specs.Page.{page_at_front, Opens, capture}
use Rattle.ogg_page.proofs.PageLemmas.{page_begins}
use Rattle.src_index.specs.Windows.{OpensTwo}

-- what was read where reading went well
pub ok_value : {A F : Type 0} (read : Result A F) → IsOk read → (value : A) × (read ≡ Ok value)
ok_value (Ok value) h = (value, refl)
ok_value (Err fault) h = absurd (cc)

-- the letter of a page
pub letter : (window bytes : List ℕ) (place : ℕ) → OpensTwo window bytes → place < length window → IsOk (page_at_front (drop place bytes)) → get_or window place 0 ≡ 79
letter window bytes place opens low page =
    let read = ok_value (page_at_front (drop place bytes)) page in
    let begins : take 4 (drop place bytes) ≡ capture = (page_begins (drop place bytes) read.0 read.1).0 in
    sym (get_or_append_left window opens.rest 0 place low)
    ∙ ap (λ xs. get_or xs place 0) (sym opens.whole)
    ∙ ap (λ n. get_or bytes n 0) (omega arith)
    ∙ sym (get_or-drop place bytes 0 0)
    ∙ sym (get_or-take 4 (drop place bytes) 0 0 (lit< tt))
    ∙ ap (λ xs. get_or xs 0 0) begins

-- the same in a part of the window
pub letter_in : (window bytes : List ℕ) (from past place : ℕ) → OpensTwo window bytes → from ≤ place → place < past → past ≤ length window → IsOk (page_at_front (drop place bytes))
    → get_or (take (past - from) (drop from window)) (place - from) 0 ≡ 79
letter_in window bytes from past place opens low high fits page =
    get_or-take (past - from) (drop from window) (place - from) 0 (omega (arith, low, high))
    ∙ get_or-drop from window (place - from) 0
    ∙ ap (λ n. get_or window n 0) (omega (arith, low))
    ∙ letter window bytes place opens (omega (arith, high, fits)) page

-- how many bytes the part has
pub part_length : (window : List ℕ) (from past : ℕ) → from ≤ past → past ≤ length window → length (take (past - from) (drop from window)) ≡ past - from
part_length window from past low fits = omega (arith, low, fits, length-take (past - from) (drop from window), length-drop from window)

-- from a byte of the first page on, a window shows all that the largest page takes
pub opens_at : (window bytes : List ℕ) (at : ℕ) → OpensTwo window bytes → at ≤ length window → at ≤ 65307 → Opens (drop at window) (drop at bytes)
opens_at window bytes at opens low few = record {
  rest = opens.rest;
  whole = ap (drop at) opens.whole ∙ drop-append-le at window opens.rest low;
  enough = elim opens.enough [
    | inl none ↦ inl none
    | inr many ↦ inr (omega (arith, many, few, length-drop at window))
  ];
}

-- it shows the first page
pub opens_one : (window bytes : List ℕ) → OpensTwo window bytes → Opens window bytes
opens_one window bytes opens = record {
  rest = opens.rest;
  whole = opens.whole;
  enough = elim opens.enough [
    | inl none ↦ inl none
    | inr many ↦ inr (omega (arith, many))
  ];
}
