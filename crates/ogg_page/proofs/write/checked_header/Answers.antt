use Rattle.std.proofs.Common.{refl}
use Rattle.ogg_page.specs.Written.{page_of}
use Rattle.ogg_page.proofs.write.checked_header.Goals as goal

pub returns : goal.returns
unfolding page_of
returns c = rw (c.write_u32.ensures, c.checksum_of_parts-sum.ensures, c.header-header.ensures) refl
