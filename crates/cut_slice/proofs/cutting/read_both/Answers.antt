use Rattle.std.proofs.Common.{◌≡◌, Some, None, ap, sym, ◌∙◌, refl, inl, inr, arith}
use Rattle.std.specs.Option.{option_map}
use Rattle.vid_desk.specs.Meaning.{Meaning, bytes_at}
use Rattle.cut_slice.specs.SliceList.{slice_of}
use Rattle.cut_slice.specs.Slices.{slice_view}
use Rattle.cut_desk.proofs.InputLemmas.{contents_is}
use Rattle.cut_slice.proofs.ListLemmas.{long_no_slice}
use Rattle.cut_slice.proofs.cutting.read_both.Goals as goal

pub returns-in-Ok-None-clause-refused : goal.returns-in-Ok-None-clause-refused
returns-in-Ok-None-clause-refused g c = λ files told.
    let places = c.in-Ok.ensures.places files told in
    let after : (g.D.Desk.sees c.find_inputs.new.desk).inputs ≡ Some files = ap {A = Meaning} (λ m. m.inputs) c.in-Ok.ensures.kept ∙ told in
    let none : slice_of (bytes_at files c.in-Ok.inputs.list.id) ≡ None = sym (c.in-Ok-None.ensures.slice files after) ∙ ap (option_map slice_view) c.in-Ok-None.field-0-is in (
      bytes_at files c.in-Ok.inputs.list.id,
      bytes_at files c.in-Ok.inputs.source.id,
      contents_is files c.args.list.now c.in-Ok.inputs.list.id _ places.0 refl,
      contents_is files c.args.source.now c.in-Ok.inputs.source.id _ places.1 refl,
      inl none,
    )

pub returns-in-Ok-Some-read_bytes-clause-read : goal.returns-in-Ok-Some-read_bytes-clause-read
returns-in-Ok-Some-read_bytes-clause-read g c = λ files told.
    let places = c.in-Ok.ensures.places files told in
    let after : (g.D.Desk.sees c.find_inputs.new.desk).inputs ≡ Some files = ap {A = Meaning} (λ m. m.inputs) c.in-Ok.ensures.kept ∙ told in
    let later : (g.D.Desk.sees c.read_list.new.desk).inputs ≡ Some files = ap {A = Meaning} (λ m. m.inputs) c.in-Ok-Some.ensures.kept ∙ after in
    let bytes = (rw c.in-Ok-Some-read_bytes.field-0-is at c.in-Ok-Some-read_bytes.ensures.bytes) files later in
    record {
      text = bytes_at files c.in-Ok.inputs.list.id;
      list_is = contents_is files c.args.list.now c.in-Ok.inputs.list.id _ places.0 refl;
      source_is = contents_is files c.args.source.now c.in-Ok.inputs.source.id _ places.1 bytes;
      slice_is = sym (c.in-Ok-Some.ensures.slice files after) ∙ ap (option_map slice_view) c.in-Ok-Some.field-0-is;
    }

pub returns-in-Ok-None-read_bytes-clause-refused : goal.returns-in-Ok-None-read_bytes-clause-refused
returns-in-Ok-None-read_bytes-clause-refused g c = λ files told.
    let places = c.in-Ok.ensures.places files told in
    let after : (g.D.Desk.sees c.find_inputs.new.desk).inputs ≡ Some files = ap {A = Meaning} (λ m. m.inputs) c.in-Ok.ensures.kept ∙ told in
    let later : (g.D.Desk.sees c.read_list.new.desk).inputs ≡ Some files = ap {A = Meaning} (λ m. m.inputs) c.in-Ok-Some.ensures.kept ∙ after in
    let not_plain = (rw c.in-Ok-None-read_bytes.field-0-is at c.in-Ok-None-read_bytes.ensures.not_plain) files later in (
      bytes_at files c.in-Ok.inputs.list.id,
      bytes_at files c.in-Ok.inputs.source.id,
      contents_is files c.args.list.now c.in-Ok.inputs.list.id _ places.0 refl,
      contents_is files c.args.source.now c.in-Ok.inputs.source.id _ places.1 refl,
      inr not_plain,
    )

pub returns-then-inputs-gt-LONGEST_LIST-clause-refused : goal.returns-then-inputs-gt-LONGEST_LIST-clause-refused
returns-then-inputs-gt-LONGEST_LIST-clause-refused g c = λ files told.
    let places = c.in-Ok.ensures.places files told in
    let sizes = c.in-Ok.ensures.sizes files told in (
      bytes_at files c.in-Ok.inputs.list.id,
      bytes_at files c.in-Ok.inputs.source.id,
      contents_is files c.args.list.now c.in-Ok.inputs.list.id _ places.0 refl,
      contents_is files c.args.source.now c.in-Ok.inputs.source.id _ places.1 refl,
      inl (long_no_slice (bytes_at files c.in-Ok.inputs.list.id) (omega (arith, sizes.0, c.if-inputs-gt-LONGEST_LIST.true))),
    )
