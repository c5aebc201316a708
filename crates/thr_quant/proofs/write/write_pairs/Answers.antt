use Rattle.std.proofs.lemmas.Result.{on_ok_weaker, on_err_weaker}
use Rattle.thr_quant.proofs.PairsLemmas.{three-is, pairs-memory, pairs-written}
use Rattle.thr_quant.proofs.write.write_pairs.Goals as goal

pub returns-clause-written : goal.returns-clause-written
returns-clause-written c =
    on_ok_weaker c.write_inter-3.result
    (pairs-written c.args.count c.args.intra.now c.args.inter.now _ _ _ _ _ _
    c.args.w.now c.write_ranges.new.w c.write_intra.new.w c.write_intra-2.new.w c.write_inter.new.w c.write_inter-2.new.w c.write_inter-3.new.w
    (three-is c.args.intra.now c.index-intra-0.result c.index-intra-1.result c.index-intra-2.result c.type_inv.intra)
    (three-is c.args.inter.now c.index-inter-0.result c.index-inter-1.result c.index-inter-2.result c.type_inv.inter)
    (c.in_ok-write_ranges.ensures {u = tt}).written (c.in_ok-write_intra.ensures {u = tt}).written (c.in_ok-write_intra-2.ensures {u = tt}).written
    (c.in_ok-write_inter.ensures {u = tt}).written (c.in_ok-write_inter-2.ensures {u = tt}).written)
    c.write_inter-3.ensures.written

pub returns-clause-memory : goal.returns-clause-memory
returns-clause-memory c =
    on_err_weaker c.write_inter-3.result
    (pairs-memory c.args.w.now c.write_ranges.new.w c.write_intra.new.w c.write_intra-2.new.w c.write_inter.new.w c.write_inter-2.new.w c.write_inter-3.new.w _ _ _ _ _
    (c.in_ok-write_ranges.ensures {u = tt}).written (c.in_ok-write_intra.ensures {u = tt}).written (c.in_ok-write_intra-2.ensures {u = tt}).written
    (c.in_ok-write_inter.ensures {u = tt}).written (c.in_ok-write_inter-2.ensures {u = tt}).written)
    c.write_inter-3.ensures.memory
