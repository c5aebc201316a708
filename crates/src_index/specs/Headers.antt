-- The headers that have ended, as packets and by what they say (private).
use Rattle.std.specs.Prelude.{ℕ, List, [], ◌∷◌}
use Rattle.thr_ident.specs.Ident.{header_of}
use Rattle.thr_setup.specs.Setup.{contents}
use Rattle.src_index.specs.declared.headers.Heads.{Heads}
use Rattle.src_index.specs.declared.headers.Heads.TheVariants.{Nothing, First, Second}
use Rattle.src_index.specs.declared.headers.Headers.{Headers}
use Rattle.src_index.specs.declared.headers.Headers.TheVariants.{Begun, All}
use Rattle.src_index.specs.Said.{Said, Start, WithIdent, WithComment, WithSetup}

abbrev pub packets_before : Heads → List (List ℕ)
packets_before Nothing = []
packets_before (First ident) = ident.packet.items ∷ []
packets_before (Second ident comment) = ident.packet.items ∷ comment.items ∷ []

abbrev pub packets_in : Headers → List (List ℕ)
packets_in (Begun heads) = packets_before heads
packets_in (All whole) = whole.headers.ident.packet.items ∷ whole.headers.comment.items ∷ whole.headers.setup.packet.items ∷ []

abbrev pub said_before : Heads → Said
said_before Nothing = Start
said_before (First ident) = WithIdent (header_of ident.header)
said_before (Second ident comment) = WithComment (header_of ident.header)

abbrev pub said_of : Headers → Said
said_of (Begun heads) = said_before heads
said_of (All whole) = WithSetup (header_of whole.headers.ident.header) (contents whole.headers.setup.header)
