-- The lists that a frame is parsed with (own). s is the frame's shape.
use Rattle.std.specs.Prelude.{◌≡◌, ◌+◌, ◌*◌, length}
use Rattle.vid_base.specs.declared.shape.Shape.{Shape}
use Rattle.vid_geom.specs.CodedOrder.{order_of, superblocks}
use Rattle.thr_frame.specs.declared.work.Work.{Work}

-- the lists are as long as a frame of that shape wants them
pub record IsWorkFor (s : Shape) (work : Work) : Type 0 where
  pub marks : length work.marks.items ≡ 2 * length (superblocks s) + length (order_of s)
  pub bytes : length work.bytes.items ≡ length (order_of s)
  pub waiting : length work.waiting.items ≡ length (order_of s)
