use Rattle.std.proofs.Common.{◌<◌, ◌++◌, ℕ, length, refl, arith}
use Rattle.std.specs.List.{All}
use Rattle.std.proofs.lemmas.List.Elements.{All-append}
use Rattle.vid_geom.specs.CodedOrder.{order_of}
use Rattle.vid_geom.specs.Views.{cell_of}
use Rattle.vid_geom.proofs.MacroBlockLemmas.{macro_block_is, luma_in_plane, filled_in_plane, filled_below}
use Rattle.vid_geom.proofs.geom.Geom.macro_block.Goals as goal

pub returns-clause-value : goal.returns-clause-value
returns-clause-value c =
    macro_block_is c.args.self.now c.args.m (cell_of c.macro_cell-at.result) c.places_in.result c.places_in-2.result c.places_in-3.result _ c.macro_cell-at.ensures.value c.places_in.ensures c.places_in-2.ensures c.places_in-3.ensures
    (rw (c.columns_in.ensures, c.rows_in.ensures, c.self.view_is) refl)

pub returns-clause-luma : goal.returns-clause-luma
returns-clause-luma c = rw c.places_in.ensures (luma_in_plane c.args.self.now (cell_of c.macro_cell-at.result) c.macro_cell-at.ensures.column c.macro_cell-at.ensures.row)

pub returns-clause-cb : goal.returns-clause-cb
returns-clause-cb c = rw (c.columns_in.ensures, c.rows_in.ensures, c.self.view_is, c.places_in-2.ensures) (filled_in_plane c.args.self.now 1 (cell_of c.macro_cell-at.result) (omega arith) c.macro_cell-at.ensures.column c.macro_cell-at.ensures.row)

pub returns-clause-cr : goal.returns-clause-cr
returns-clause-cr c = rw (c.columns_in.ensures, c.rows_in.ensures, c.self.view_is, c.places_in-3.ensures) (filled_in_plane c.args.self.now 2 (cell_of c.macro_cell-at.result) (omega arith) c.macro_cell-at.ensures.column c.macro_cell-at.ensures.row)

pub returns-clause-below : goal.returns-clause-below
returns-clause-below c =
    let s = c.args.self.now in
    let at = (cell_of c.macro_cell-at.result) in
    let P : ℕ → Type 0 = λ place. place < length (order_of s) in
    let luma : All P c.places_in.result = rw c.places_in.ensures (filled_below s 0 at (omega arith) c.macro_cell-at.ensures.column c.macro_cell-at.ensures.row) in
    let cb : All P c.places_in-2.result = rw c.places_in-2.ensures (filled_below s 1 at (omega arith) c.macro_cell-at.ensures.column c.macro_cell-at.ensures.row) in
    let cr : All P c.places_in-3.result = rw c.places_in-3.ensures (filled_below s 2 at (omega arith) c.macro_cell-at.ensures.column c.macro_cell-at.ensures.row) in
    All-append P (c.places_in.result ++ c.places_in-2.result) c.places_in-3.result (All-append P c.places_in.result c.places_in-2.result luma cb) cr
