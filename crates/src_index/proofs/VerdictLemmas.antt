-- A file has one verdict: the pages before it and the check that fails are told by the bytes. Layers that speak of a file's
-- verdict cite `one_verdict`.
use Rattle.std.proofs.Common.{◌≡◌, ℕ, ◌+◌, List, [], ◌∷◌, ◌++◌, drop, Some, None, Ok, ap, ◌∙◌}
use Rattle.vid_base.specs.Reading.{◌>>=◌}
use Rattle.ogg_page.specs.Page.{Page, page_at_front, bytes_of_page}
use Rattle.src_index.specs.Judge.{Before, Judges, Judged, Verdict, page_checks, front_checks, in_page, verdict_here, failing, nothing, packets_on}

-- where no check of a page fails, no verdict falls
none_here : (before next : Before) (packets : List (List ℕ)) (at : ℕ) (bytes : List ℕ) (page : Page) → page_at_front bytes ≡ Ok page → page_checks before at page ≡ Ok next
    → (verdict : Verdict) → ¬ (verdict_here before packets at bytes ≡ Some verdict)
unfolding verdict_here page_at_front
none_here before next packets at [] page e f verdict h = cc
none_here before next packets at (byte ∷ bytes) page e f verdict h =
    let passed : failing (front_checks before at (byte ∷ bytes)) ≡ None = ap (λ read. failing (in_page at read >>= page_checks before at)) e ∙ ap failing f in cc

judges_same : (before : Before) (packets : List (List ℕ)) (at : ℕ) (bytes : List ℕ) (ps qs : List Page) (v w : Verdict) → Judges before packets at bytes ps v → Judges before packets at bytes qs w → v ≡ w
unfolding Judges
judges_same before packets at bytes [] [] v w h k = cc
judges_same before packets at bytes [] (q ∷ qs) v w h k = absurd (none_here before k.1 packets at bytes q k.0 k.2 v h)
judges_same before packets at bytes (p ∷ ps) [] v w h k = absurd (none_here before h.1 packets at bytes p h.0 h.2 w k)
judges_same before packets at bytes (p ∷ ps) (q ∷ qs) v w h k =
    let page : q ≡ p = cc (k.0, h.0) in
    let checks : page_checks before at p ≡ Ok k.1 = rw page at k.2 in
    let next : k.1 ≡ h.1 = cc (checks, h.2) in
    let rest = rw (page, next) at k.3 in
    judges_same h.1 (packets ++ packets_on before p) (at + bytes_of_page p) (drop (bytes_of_page p) bytes) ps qs v w h.3 rest

-- a file has one verdict
pub one_verdict : (bytes : List ℕ) (v w : Verdict) → Judged bytes v → Judged bytes w → v ≡ w
unfolding Judged
one_verdict bytes v w h k = judges_same nothing [] 0 bytes h.pages k.pages v w h.judges k.judges
