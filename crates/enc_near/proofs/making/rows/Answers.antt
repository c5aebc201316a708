use Rattle.enc_search.proofs.LumaLemmas.{rows_are}
use Rattle.enc_near.proofs.making.rows.Goals as goal

pub returns : goal.returns
returns c =
    rw (c.row8.ensures.value, c.row8-2.ensures.value, c.row8-3.ensures.value, c.row8-4.ensures.value, c.row8-5.ensures.value, c.row8-6.ensures.value, c.row8-7.ensures.value, c.row8-8.ensures.value) (rows_are c.args.plane.now c.args.x c.args.y)
