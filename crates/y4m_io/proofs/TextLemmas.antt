-- Texts as their pictures come. Crates above cite these.
use Rattle.std.proofs.Common.{◌≡◌, ◌∙◌, List, [], ◌∷◌, ◌++◌, ap, sym, append_assoc}
use Rattle.std.specs.List.{flat_map}
use Rattle.std.proofs.lemmas.List.{append-nil}
use Rattle.std.proofs.lemmas.Grind.{flat_map-append}
use Rattle.y4m_io.specs.declared.head.Head.{Head}
use Rattle.y4m_io.specs.Pictures.{Samples}
use Rattle.y4m_io.specs.Y4m.{frame_text, head_text, y4m_of}

pub y4m_of-none : (head : Head) → y4m_of head [] ≡ head_text head
unfolding y4m_of
y4m_of-none head = append-nil (head_text head)

pub y4m_of-more : (head : Head) (pictures : List Samples) (p : Samples) → y4m_of head (pictures ++ p ∷ []) ≡ y4m_of head pictures ++ frame_text p
unfolding y4m_of
y4m_of-more head pictures p =
    ap (λ xs. head_text head ++ xs) (flat_map-append frame_text pictures (p ∷ []) ∙ ap (λ xs. flat_map frame_text pictures ++ xs) (append-nil (frame_text p)))
    ∙ sym (append_assoc (head_text head) (flat_map frame_text pictures) (frame_text p))
