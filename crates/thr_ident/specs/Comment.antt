-- The comment header: a vendor's text, a count, and so many texts, each behind its length (Theora I, 6.3).
-- Lengths and the count have 4 bytes, the lowest first.
use Rattle.std.specs.Prelude.{ℕ, zero, suc, List, [], ◌∷◌, ◌++◌, Option, Some, None, Result, nat_eq, nat_lt, length, drop, is_some, option_and_then, codes, if◌then◌else◌}
use Rattle.std.specs.Int.{w32, from_le_bytes, to_le_bytes}
use Rattle.std.specs.List.{flat_map, starts_with}
use Rattle.vid_base.specs.declared.fault.PacketFault.{PacketFault}
use Rattle.vid_base.specs.declared.fault.PacketFault.TheVariants.{NotComment, CommentLength}
use Rattle.vid_base.specs.Rules.{Rule, first_fault, unless}

-- the first bytes of a comment header: its type, and the codec's name
abbrev pub comment_name : List ℕ
comment_name = 129 ∷ codes "theora"

-- a text behind its length
abbrev pub text_bytes : List ℕ → List ℕ
text_bytes text = to_le_bytes w32 (length text) ++ text

-- the bytes of a comment header: the vendor's text, the count, and the comments
unfoldable pub comment_bytes : List ℕ → List (List ℕ) → List ℕ
comment_bytes vendor comments = comment_name ++ text_bytes vendor ++ to_le_bytes w32 (length comments) ++ flat_map text_bytes comments

-- the comment header of streams that are made here (own): the vendor is oggcut, and there are no comments
unfoldable pub own_comment : List ℕ
own_comment = comment_bytes (codes "oggcut") []

-- the number at the front, and the bytes behind it; None where it is not whole
unfoldable pub length_in : List ℕ → Option (ℕ × List ℕ)
length_in bytes = if nat_lt (length bytes) 4 then None else Some (from_le_bytes w32 bytes, drop 4 bytes)

-- the bytes behind a text of n bytes; None where it passes the end
abbrev pub behind : ℕ → List ℕ → Option (List ℕ)
behind n bytes = if nat_lt (length bytes) n then None else Some (drop n bytes)

-- the bytes behind a length and its text
unfoldable pub after_text : List ℕ → Option (List ℕ)
after_text bytes = option_and_then (λ found. behind found.0 found.1) (length_in bytes)

-- the bytes behind n texts
unfoldable pub after_texts : ℕ → List ℕ → Option (List ℕ)
after_texts zero bytes = Some bytes
after_texts (suc n) bytes = option_and_then (after_texts n) (after_text bytes)

-- the bytes behind the vendor's text and all comments
unfoldable pub after_comments : List ℕ → Option (List ℕ)
after_comments bytes = option_and_then (λ count. after_texts count.0 count.1) (option_and_then length_in (after_text bytes))

-- the rules of a packet
unfoldable pub comment_rules : List ℕ → List (Rule PacketFault)
comment_rules bytes =
    (starts_with nat_eq bytes comment_name, NotComment)
    ∷ (is_some (after_comments (drop 7 bytes)), CommentLength)
    ∷ []

-- whether a packet is a comment header, or its first fault
unfoldable pub comment_of : List ℕ → Result (Unit {0}) PacketFault
comment_of bytes = unless (first_fault (comment_rules bytes)) tt
