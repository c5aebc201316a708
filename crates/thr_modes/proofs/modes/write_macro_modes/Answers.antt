use Rattle.std.proofs.Common.{arith}
use Rattle.thr_modes.specs.LumaFlags.{macro_flags}
use Rattle.thr_modes.specs.Written.{modes_code}
use Rattle.thr_modes.proofs.WrittenModes.{written_more, memory_more}
use Rattle.thr_modes.proofs.modes.write_macro_modes.Goals as goal

pub macro_blocks-preserved : goal.macro_blocks-preserved
macro_blocks-preserved c =
    let lumas = macro_flags c.args.geom.now c.args.flags.now in record {
      written = written_more lumas c.args.modes.now c.macro_blocks.m c.luma_flags.result c.args.w.now c.macro_blocks.w c.write_macro_mode.new.w (modes_code lumas c.args.modes.now) c.luma_flags.ensures (omega (arith, c.requires.modes)) c.in_ok-write_macro_mode.ensures.written c.macro_blocks.invariant.written;
      more = memory_more c.args.w.now c.macro_blocks.w c.write_macro_mode.new.w c.macro_blocks.invariant.more (_, c.in_ok-write_macro_mode.ensures.written);
    }
