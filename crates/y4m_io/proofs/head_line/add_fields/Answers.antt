use Rattle.std.proofs.Common.{◌∙◌, [], sym, ap}
use Rattle.std.specs.Option.{option_map_or}
use Rattle.y4m_io.specs.Fields.{said_by}
use Rattle.y4m_io.specs.HeadLine.{with_fields}
use Rattle.y4m_io.specs.Places.{parts_of}
use Rattle.y4m_io.proofs.FieldLemmas.{field_read, field_bad, no_field}
use Rattle.y4m_io.proofs.head_line.add_fields.Goals as goal

pub fields-preserved : goal.fields-preserved
fields-preserved c =
    let so_far = rw c.in-Some.is at c.fields.invariant in
    sym (field_read (said_by c.fields.fields) (said_by c.add.new.self) c.first_part-part.result.bytes.now (option_map_or (λ behind. parts_of 32 behind.now) c.first_part-part.result.rest []) c.in-Ok.ensures)
    ∙ ap (with_fields (said_by c.fields.fields)) (sym c.first_part-part.ensures.parts) ∙ so_far

pub returns-in-Err : goal.returns-in-Err
returns-in-Err c =
    let so_far = rw c.in-Some.is at c.fields.invariant in
    sym so_far ∙ ap (with_fields (said_by c.fields.fields)) c.first_part-part.ensures.parts
    ∙ field_bad (said_by c.fields.fields) c.first_part-part.result.bytes.now (option_map_or (λ behind. parts_of 32 behind.now) c.first_part-part.result.rest []) c.in-Err.why c.in-Err.ensures

pub returns : goal.returns
returns c =
    let so_far = rw c.in_default.is at c.fields.invariant in
    sym so_far ∙ no_field (said_by c.fields.fields)
