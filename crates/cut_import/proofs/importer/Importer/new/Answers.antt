use Rattle.std.proofs.Common.{◌∙◌, [], ap, sym}
use Rattle.std.proofs.lemmas.List.{append-nil}
use Rattle.thr_ident.specs.Header.{header_bytes}
use Rattle.thr_ident.specs.Ident.{header_of, ident_of}
use Rattle.thr_ident.proofs.IdentLemmas.{ident_of-header_bytes}
use Rattle.cut_import.proofs.importer.Importer.new.Goals as goal

pub returns-in-Ok-clause-stream : goal.returns-in-Ok-clause-stream
returns-in-Ok-clause-stream c = λ packets. rw (← c.ident_of-ident.ensures, ← c.in_ok-setup.ensures.value) (c.in_ok-mux.ensures.all packets)

pub returns-in-Ok-clause-reads : goal.returns-in-Ok-clause-reads
returns-in-Ok-clause-reads c =
    let ident = c.ident_of-ident.result in
    rw (← c.ident_of-ident.ensures) (ap ident_of (sym (append-nil (header_bytes (header_of ident)))) ∙ ident_of-header_bytes ident [])
