use Rattle.std.proofs.Common.{rules}
use Rattle.y4m_io.proofs.head_line.head_of.Goals as goal

pub returns-clause-sound : goal.returns-clause-sound
returns-clause-sound c =
    let small = c.is_small.ensures.sound c.if-not-is_small.false in
    record {
      size = record { wide = search rules; high = search rules; small = small.2; format = c.format_of.ensures.known };
      across = small.0;
      up = small.1;
      rate = search rules;
      aspect = c.aspect_of-parn.ensures.small;
    }
