-- Where pages of a file begin, and that none begins inside another. The mark of false pages cites these.
use Rattle.std.proofs.Common.{◌≡◌, ℕ, ◌+◌, ◌-◌, ◌<◌, ◌≤◌, List, [], ◌∷◌, ◌++◌, drop, length, Ok, IsOk, inl, inr, refl, ap, sym, subst, ◌∙◌, arith}
use Rattle.std.proofs.lemmas.Bool.{cases_lt}
use Rattle.std.proofs.lemmas.List.{drop-drop, drop_all}
use Rattle.ogg_page.specs.Page.{Page, page_at_front, bytes_of_page}
use Rattle.ogg_page.proofs.PageLemmas.{one_page}
use Rattle.src_index.specs.Seekable.{Reaches, IsPage, IsStart, IsSeekable}

-- a page more
reaches_more : (bytes : List ℕ) (at next : ℕ) (pages : List Page) (page : Page) → Reaches bytes at pages next → page_at_front (drop next bytes) ≡ Ok page → Reaches bytes at (pages ++ page ∷ []) (next + bytes_of_page page)
unfolding Reaches
reaches_more bytes at next [] page h e = (ap (λ n. page_at_front (drop n bytes)) (sym h) ∙ e, ap (λ n. n + bytes_of_page page) h)
reaches_more bytes at next (p ∷ ps) page h e = (h.0, reaches_more bytes (at + bytes_of_page p) next ps page h.1 e)

pub starts_more : (bytes : List ℕ) (at : ℕ) (page : Page) → IsStart bytes at → page_at_front (drop at bytes) ≡ Ok page → IsStart bytes (at + bytes_of_page page)
starts_more bytes at page h e = record { pages = h.pages ++ page ∷ []; before = reaches_more bytes 0 at h.pages page h.before e }

-- the first page begins with the first byte
pub starts_first : (bytes : List ℕ) → IsStart bytes 0
unfolding Reaches
starts_first bytes = record { pages = []; before = refl }

-- pages go forward
reaches_up : (bytes : List ℕ) (at next : ℕ) (pages : List Page) → Reaches bytes at pages next → at ≤ next
unfolding Reaches
reaches_up bytes at next [] h = omega (arith, h)
reaches_up bytes at next (p ∷ ps) h = omega (arith, reaches_up bytes (at + bytes_of_page p) next ps h.1)

-- no page begins inside the page that begins at a byte
inside_none : (bytes : List ℕ) (from at inside : ℕ) (page : Page) (ps qs : List Page) → page_at_front (drop at bytes) ≡ Ok page → at < inside → inside < at + bytes_of_page page
    → Reaches bytes from ps at → Reaches bytes from qs inside → ⊥
unfolding Reaches
inside_none bytes from at inside page [] [] e low high h k = absurd (omega (arith, h, k, low))
inside_none bytes from at inside page [] (q ∷ qs) e low high h k =
    let same : q ≡ page = one_page (drop from bytes) q page k.0 (ap (λ n. page_at_front (drop n bytes)) (sym h) ∙ e) in
    absurd (omega (arith, h, high, reaches_up bytes (from + bytes_of_page q) inside qs k.1, ap bytes_of_page same))
inside_none bytes from at inside page (p ∷ ps) [] e low high h k = absurd (omega (arith, k, low, reaches_up bytes (from + bytes_of_page p) at ps h.1))
inside_none bytes from at inside page (p ∷ ps) (q ∷ qs) e low high h k =
    let same : q ≡ p = one_page (drop from bytes) q p k.0 h.0 in
    inside_none bytes (from + bytes_of_page p) at inside page ps qs e low high h.1 (subst (λ r. Reaches bytes (from + bytes_of_page r) qs inside) same k.1)

-- a page inside another is a false one
pub false_inside : (bytes : List ℕ) (at place : ℕ) (page : Page) → IsStart bytes at → page_at_front (drop at bytes) ≡ Ok page → 0 < place → place < bytes_of_page page
    → IsOk (page_at_front (drop place (drop at bytes))) → ¬ IsSeekable bytes
unfolding IsSeekable
false_inside bytes at place page start e low high here seekable =
    let there : IsPage bytes (at + place) = subst (λ xs. IsOk (page_at_front xs)) (drop-drop place at bytes) here in
    let other : IsStart bytes (at + place) = seekable (at + place) there in
    inside_none bytes 0 at (at + place) page start.pages other.pages e (omega (arith, low)) (omega (arith, high)) start.before other.before

-- without one, the places before the next page are as they should be
pub none_inside : (bytes : List ℕ) (at size : ℕ) → IsStart bytes at → ((place : ℕ) → place < at → IsPage bytes place → IsStart bytes place)
    → ((place : ℕ) → 0 < place → place < size → ¬ IsOk (page_at_front (drop place (drop at bytes))))
    → (place : ℕ) → place < at + size → IsPage bytes place → IsStart bytes place
none_inside bytes at size start before inside place low page = elim (cases_lt place at) [
  | inl earlier ↦ before place earlier page
  | inr later ↦ elim (cases_lt at place) [
    | inl past ↦ absurd (inside (place - at) (omega (arith, past)) (omega (arith, low, later, past))
        (subst (λ xs. IsOk (page_at_front xs)) (there past) page))
    | inr same ↦ let here : at ≡ place = omega (arith, later, same) in subst (IsStart bytes) here start
  ]
]
  where
    there : at < place → drop place bytes ≡ drop (place - at) (drop at bytes)
    there past = let split : place ≡ at + (place - at) = omega (arith, past) in ap (λ n. drop n bytes) split ∙ sym (drop-drop (place - at) at bytes)

-- no page stands behind the last byte
nothing_there : (bytes : List ℕ) → bytes ≡ [] → IsOk (page_at_front bytes) → ⊥
unfolding page_at_front
nothing_there bytes none page = let no : IsOk (page_at_front []) = subst (λ xs. IsOk (page_at_front xs)) none page in cc

-- at the end of the file all places were looked at
pub all_looked : (bytes : List ℕ) (size : ℕ) → size ≡ length bytes → ((place : ℕ) → place < size → IsPage bytes place → IsStart bytes place) → IsSeekable bytes
unfolding IsSeekable
all_looked bytes size whole before place page = elim (cases_lt place size) [
  | inl low ↦ before place low page
  | inr past ↦ absurd (nothing_there (drop place bytes) (drop_all place bytes (omega (arith, past, whole))) page)
]
