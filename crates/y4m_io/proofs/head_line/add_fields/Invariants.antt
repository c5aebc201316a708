use Rattle.std.proofs.Common.{◌≡◌, ◌+◌, [], length}
use Rattle.std.specs.Option.{option_map_or}
use Rattle.y4m_io.specs.Fields.{said_by}
use Rattle.y4m_io.specs.HeadLine.{with_fields}
use Rattle.y4m_io.specs.Places.{parts_of}
use Rattle.y4m_io.proofs.head_line.add_fields.Given as goal

-- the fields that are left go on from those that were read
abbrev pub invariant-fields : goal.invariant-fields
invariant-fields l = with_fields (said_by l.fields) (option_map_or (λ behind. parts_of 32 behind.now) l.rest []) ≡ with_fields (said_by l.fn.fields) (parts_of 32 l.text)

abbrev pub decreases-fields : goal.decreases-fields
decreases-fields l = option_map_or (λ behind. length behind.now + 1) l.rest 0
