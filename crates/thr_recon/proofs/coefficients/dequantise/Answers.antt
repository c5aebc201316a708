use Rattle.std.proofs.Common.{arith, replicate}
use Rattle.thr_recon.proofs.ResidualLemmas.{zeros_are, dequantised_is}
use Rattle.thr_recon.proofs.coefficients.dequantise.Goals as goal

pub returns-then-are_zeros : goal.returns-then-are_zeros
returns-then-are_zeros c =
    dequantised_is c.args.c.now c.args.dc c.args.ac.now c.bits-low.result (replicate 32 0) c.in_natural_order.result c.products.result (omega arith) c.bits-low.ensures
    (zeros_are c.args.c.now c.bits-high.result c.bits-high.ensures (c.are_zeros.ensures c.if-are_zeros.true)) c.in_natural_order.ensures (omega arith) c.products.ensures

pub returns : goal.returns
returns c =
    dequantised_is c.args.c.now c.args.dc c.args.ac.now c.bits-low.result c.bits-high.result c.in_natural_order-2.result c.products-2.result (omega arith) c.bits-low.ensures
    c.bits-high.ensures c.in_natural_order-2.ensures (omega arith) c.products-2.ensures
