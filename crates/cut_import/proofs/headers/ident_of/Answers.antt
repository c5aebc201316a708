use Rattle.std.proofs.Common.{◌≡◌, ◌+◌, ◌/◌}
use Rattle.cut_import.proofs.headers.ident_of.Goals as goal

pub invariant_of-result-clause-small : goal.invariant_of-result-clause-small
invariant_of-result-clause-small c =
    let across : c.macro_blocks.result ≡ (c.args.head.w + 15) / 16 = c.macro_blocks.ensures in
    let up : c.macro_blocks-2.result ≡ (c.args.head.h + 15) / 16 = c.macro_blocks-2.ensures in
    rw (across, up) c.requires.head.size.small
