use Rattle.std.proofs.Common.{◌≡◌, refl, arith}
use Rattle.vid_geom.specs.MacroBlocks.{columns_in, rows_in}
use Rattle.vid_geom.specs.Views.{cell_of}
use Rattle.vid_geom.proofs.MacroBlockLemmas.{one_block, two_blocks, four_blocks, one_row}
use Rattle.vid_geom.proofs.SizeLemmas.{columns_positive, columns_most, rows_positive, rows_most}
use Rattle.vid_geom.proofs.geom.Geom.places_in.Goals as goal

pub returns-then-rows_in-eq1 : goal.returns-then-rows_in-eq1
returns-then-rows_in-eq1 c =
    let pf = c.args.self.now.pf in
    let rows_are : c.rows_in.result ≡ rows_in pf c.args.pli = rw c.self.view_is at c.rows_in.ensures in
    let rows : rows_in pf c.args.pli ≡ 1 = omega (arith, rows_are) in
    rw (one_block pf c.args.pli (cell_of c.args.at) (one_row pf c.args.pli rows) rows, c.place_in-first.ensures) refl

pub returns-then-columns_in-eq1 : goal.returns-then-columns_in-eq1
returns-then-columns_in-eq1 c =
    let pf = c.args.self.now.pf in
    let rows_are : c.rows_in.result ≡ rows_in pf c.args.pli = rw c.self.view_is at c.rows_in.ensures in
    let rows : rows_in pf c.args.pli ≡ 2 = omega (arith, rows_are, rows_positive pf c.args.pli, rows_most pf c.args.pli) in
    let columns_are : c.columns_in.result ≡ columns_in pf c.args.pli = rw c.self.view_is at c.columns_in.ensures in
    let columns : columns_in pf c.args.pli ≡ 1 = omega (arith, columns_are) in
    rw (two_blocks pf c.args.pli (cell_of c.args.at) columns rows, c.place_in-first.ensures, c.place_in.ensures) refl

pub returns : goal.returns
returns c =
    let pf = c.args.self.now.pf in
    let rows_are : c.rows_in.result ≡ rows_in pf c.args.pli = rw c.self.view_is at c.rows_in.ensures in
    let rows : rows_in pf c.args.pli ≡ 2 = omega (arith, rows_are, rows_positive pf c.args.pli, rows_most pf c.args.pli) in
    let columns_are : c.columns_in.result ≡ columns_in pf c.args.pli = rw c.self.view_is at c.columns_in.ensures in
    let columns : columns_in pf c.args.pli ≡ 2 = omega (arith, columns_are, columns_positive pf c.args.pli, columns_most pf c.args.pli) in
    rw (four_blocks pf c.args.pli (cell_of c.args.at) columns rows, c.place_in-first.ensures, c.place_in-2.ensures, c.place_in-3.ensures, c.place_in-4.ensures) refl
