-- Lists of pages: what is behind them, one page more, one list of pages behind another, and that bytes have one list of pages or one first fault. write_page and walks over a file cite these.
use Rattle.std.proofs.Common.{◌≡◌, ℕ, ◌+◌, List, [], ◌∷◌, ◌++◌, length, length-drop, drop, sum_by, Ok, refl, ap, sym, subst, ◌∙◌, arith, append_assoc, drop-drop}
use Rattle.std.proofs.lemmas.List.{drop-append-le}
use Rattle.std.proofs.lemmas.List.Sums.{sum_by-cons}
use Rattle.std.proofs.Math.Seq.{drop-length}
use Rattle.ogg_page.specs.declared.fault.PageFault.{PageFault}
use Rattle.ogg_page.specs.Page.{Page, page_at_front, bytes_of_page, ArePages, FirstFault}
use Rattle.ogg_page.proofs.PageLemmas.{page_same, bytes_of_page-is, one_page, one_fault, page_or_fault}

-- pages behind pages are pages
pub ArePages-append : (xs ys : List ℕ) (ps qs : List Page) → ArePages xs ps → ArePages ys qs → ArePages (xs ++ ys) (ps ++ qs)
unfolding ArePages
ArePages-append xs ys [] qs h k = rw h k
ArePages-append xs ys (p ∷ ps) qs h k = (
  page_same xs ys p h.0,
  subst (λ bytes. ArePages bytes (ps ++ qs)) (sym (drop-append-le (bytes_of_page p) xs ys (bytes_of_page-is xs p h.0).1)) (ArePages-append (drop (bytes_of_page p) xs) ys ps qs h.1 k),
)

-- one page alone
pub ArePages-one : (bytes : List ℕ) (p : Page) → page_at_front bytes ≡ Ok p → length bytes ≡ bytes_of_page p → ArePages bytes (p ∷ [])
unfolding ArePages
ArePages-one bytes p h k = (h, ap (λ n. drop n bytes) (sym k) ∙ drop-length bytes)

-- a walk goes one page further: whatever pages follow it follow those before it
pub ArePages-step : (bytes : List ℕ) (at : ℕ) (ps : List Page) (p : Page) → page_at_front (drop at bytes) ≡ Ok p
    → ((more : List Page) → ArePages (drop at bytes) more → ArePages bytes (ps ++ more))
    → (more : List Page) → ArePages (drop (at + bytes_of_page p) bytes) more → ArePages bytes ((ps ++ p ∷ []) ++ more)
unfolding ArePages
ArePages-step bytes at ps p h walk more k = rw (append_assoc) (walk (p ∷ more) (h, rw drop-drop k))

-- and whatever fault follows it
pub FirstFault-step : (bytes : List ℕ) (at : ℕ) (ps : List Page) (p : Page) → page_at_front (drop at bytes) ≡ Ok p
    → ((more : List Page) (fault : PageFault) → FirstFault (drop at bytes) more fault → FirstFault bytes (ps ++ more) fault)
    → (more : List Page) (fault : PageFault) → FirstFault (drop (at + bytes_of_page p) bytes) more fault → FirstFault bytes ((ps ++ p ∷ []) ++ more) fault
unfolding FirstFault
FirstFault-step bytes at ps p h walk more fault k = rw (append_assoc) (walk (p ∷ more) fault (h, rw drop-drop k))

-- what is behind the first of the pages
pub ArePages-drop : (bytes : List ℕ) (ps more : List Page) → ArePages bytes (ps ++ more) → ArePages (drop (sum_by bytes_of_page ps) bytes) more
unfolding ArePages
ArePages-drop bytes [] more h = h
ArePages-drop bytes (p ∷ ps) more h = rw (sum_by-cons bytes_of_page p ps, ← drop-drop) (ArePages-drop (drop (bytes_of_page p) bytes) ps more h.1)

-- the pages are as long as their bytes
pub length-ArePages : (bytes : List ℕ) (ps : List Page) → ArePages bytes ps → length bytes ≡ sum_by bytes_of_page ps
unfolding ArePages
length-ArePages bytes [] h = ap length h
length-ArePages bytes (p ∷ ps) h =
    omega (arith, sum_by-cons bytes_of_page p ps, length-ArePages (drop (bytes_of_page p) bytes) ps h.1, length-drop (bytes_of_page p) bytes, (bytes_of_page-is bytes p h.0).1)

-- bytes have one list of pages
pub ArePages-unique : (bytes : List ℕ) (ps qs : List Page) → ArePages bytes ps → ArePages bytes qs → ps ≡ qs
unfolding ArePages
ArePages-unique bytes [] [] h k = refl
ArePages-unique bytes [] (q ∷ qs) h k = absurd (omega (arith, ap length h, (bytes_of_page-is bytes q k.0).1))
ArePages-unique bytes (p ∷ ps) [] h k = absurd (omega (arith, ap length k, (bytes_of_page-is bytes p h.0).1))
ArePages-unique bytes (p ∷ ps) (q ∷ qs) h k =
    let same : p ≡ q = one_page bytes p q h.0 k.0 in
    let rest : ArePages (drop (bytes_of_page p) bytes) qs = subst (λ page. ArePages (drop (bytes_of_page page) bytes) qs) (sym same) k.1 in
    λ i. same i ∷ ArePages-unique (drop (bytes_of_page p) bytes) ps qs h.1 rest i

-- and no fault where they have one
pub ArePages-FirstFault : (bytes : List ℕ) (ps qs : List Page) (fault : PageFault) → ArePages bytes ps → FirstFault bytes qs fault → ⊥
unfolding ArePages FirstFault
ArePages-FirstFault bytes [] [] fault h k = omega (arith, ap length h, k.0)
ArePages-FirstFault bytes [] (q ∷ qs) fault h k = omega (arith, ap length h, (bytes_of_page-is bytes q k.0).1)
ArePages-FirstFault bytes (p ∷ ps) [] fault h k = page_or_fault bytes p fault h.0 k.1
ArePages-FirstFault bytes (p ∷ ps) (q ∷ qs) fault h k =
    let same : p ≡ q = one_page bytes p q h.0 k.0 in
    ArePages-FirstFault (drop (bytes_of_page p) bytes) ps qs fault h.1 (subst (λ page. FirstFault (drop (bytes_of_page page) bytes) qs fault) (sym same) k.1)

-- bytes have one first fault, behind one list of pages
pub FirstFault-unique : (bytes : List ℕ) (ps qs : List Page) (fault other : PageFault) → FirstFault bytes ps fault → FirstFault bytes qs other → (ps ≡ qs) × (fault ≡ other)
unfolding FirstFault
FirstFault-unique bytes [] [] fault other h k = (refl, one_fault bytes fault other h.1 k.1)
FirstFault-unique bytes [] (q ∷ qs) fault other h k = absurd (page_or_fault bytes q fault k.0 h.1)
FirstFault-unique bytes (p ∷ ps) [] fault other h k = absurd (page_or_fault bytes p other h.0 k.1)
FirstFault-unique bytes (p ∷ ps) (q ∷ qs) fault other h k =
    let same : p ≡ q = one_page bytes p q h.0 k.0 in
    let rest : FirstFault (drop (bytes_of_page p) bytes) qs other = subst (λ page. FirstFault (drop (bytes_of_page page) bytes) qs other) (sym same) k.1 in
    let both = FirstFault-unique (drop (bytes_of_page p) bytes) ps qs fault other h.1 rest in
    (λ i. same i ∷ both.0 i, both.1)
