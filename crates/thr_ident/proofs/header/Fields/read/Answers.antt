-- Each field is read behind those in front of it.
use Rattle.std.proofs.Common.{refl}
use Rattle.vid_base.specs.Bits.{bits_of}
use Rattle.thr_ident.specs.Header.{header_in}
use Rattle.thr_ident.proofs.FieldLemmas.{behind_more, field-behind}
use Rattle.thr_ident.proofs.header.Fields.read.Goals as goal

pub returns-clause-value : goal.returns-clause-value
unfolding header_in
returns-clause-value c =
    let bytes = c.args.bytes.now in
    let behind_56 = c.behind_name-r.ensures.left in
    let behind_64 = behind_more 56 8 64 (bits_of bytes) c.behind_name-r.result.left c.byte.new.r.left refl behind_56 c.byte.ensures.left in
    let behind_72 = behind_more 64 8 72 (bits_of bytes) c.byte.new.r.left c.byte-2.new.r.left refl behind_64 c.byte-2.ensures.left in
    let behind_80 = behind_more 72 8 80 (bits_of bytes) c.byte-2.new.r.left c.byte-3.new.r.left refl behind_72 c.byte-3.ensures.left in
    let behind_96 = behind_more 80 16 96 (bits_of bytes) c.byte-3.new.r.left c.field.new.r.left refl behind_80 c.field.ensures.left in
    let behind_112 = behind_more 96 16 112 (bits_of bytes) c.field.new.r.left c.field-2.new.r.left refl behind_96 c.field-2.ensures.left in
    let behind_136 = behind_more 112 24 136 (bits_of bytes) c.field-2.new.r.left c.field-3.new.r.left refl behind_112 c.field-3.ensures.left in
    let behind_160 = behind_more 136 24 160 (bits_of bytes) c.field-3.new.r.left c.field-4.new.r.left refl behind_136 c.field-4.ensures.left in
    let behind_168 = behind_more 160 8 168 (bits_of bytes) c.field-4.new.r.left c.byte-4.new.r.left refl behind_160 c.byte-4.ensures.left in
    let behind_176 = behind_more 168 8 176 (bits_of bytes) c.byte-4.new.r.left c.byte-5.new.r.left refl behind_168 c.byte-5.ensures.left in
    let behind_208 = behind_more 176 32 208 (bits_of bytes) c.byte-5.new.r.left c.field-5.new.r.left refl behind_176 c.field-5.ensures.left in
    let behind_240 = behind_more 208 32 240 (bits_of bytes) c.field-5.new.r.left c.field-6.new.r.left refl behind_208 c.field-6.ensures.left in
    let behind_264 = behind_more 240 24 264 (bits_of bytes) c.field-6.new.r.left c.field-7.new.r.left refl behind_240 c.field-7.ensures.left in
    let behind_288 = behind_more 264 24 288 (bits_of bytes) c.field-7.new.r.left c.field-8.new.r.left refl behind_264 c.field-8.ensures.left in
    let behind_296 = behind_more 288 8 296 (bits_of bytes) c.field-8.new.r.left c.byte-6.new.r.left refl behind_288 c.byte-6.ensures.left in
    let behind_320 = behind_more 296 24 320 (bits_of bytes) c.byte-6.new.r.left c.field-9.new.r.left refl behind_296 c.field-9.ensures.left in
    let behind_326 = behind_more 320 6 326 (bits_of bytes) c.field-9.new.r.left c.field-10.new.r.left refl behind_320 c.field-10.ensures.left in
    let behind_331 = behind_more 326 5 331 (bits_of bytes) c.field-10.new.r.left c.field-11.new.r.left refl behind_326 c.field-11.ensures.left in
    let behind_333 = behind_more 331 2 333 (bits_of bytes) c.field-11.new.r.left c.field-12.new.r.left refl behind_331 c.field-12.ensures.left in
    λ i. record {
      vmaj = field-behind 56 8 c.byte.result bytes c.behind_name-r.result.left behind_56 c.byte.ensures.value i;
      vmin = field-behind 64 8 c.byte-2.result bytes c.byte.new.r.left behind_64 c.byte-2.ensures.value i;
      vrev = field-behind 72 8 c.byte-3.result bytes c.byte-2.new.r.left behind_72 c.byte-3.ensures.value i;
      fmbw = field-behind 80 16 c.field.result bytes c.byte-3.new.r.left behind_80 c.field.ensures.value i;
      fmbh = field-behind 96 16 c.field-2.result bytes c.field.new.r.left behind_96 c.field-2.ensures.value i;
      picw = field-behind 112 24 c.field-3.result bytes c.field-2.new.r.left behind_112 c.field-3.ensures.value i;
      pich = field-behind 136 24 c.field-4.result bytes c.field-3.new.r.left behind_136 c.field-4.ensures.value i;
      picx = field-behind 160 8 c.byte-4.result bytes c.field-4.new.r.left behind_160 c.byte-4.ensures.value i;
      picy = field-behind 168 8 c.byte-5.result bytes c.byte-4.new.r.left behind_168 c.byte-5.ensures.value i;
      frn = field-behind 176 32 c.field-5.result bytes c.byte-5.new.r.left behind_176 c.field-5.ensures.value i;
      frd = field-behind 208 32 c.field-6.result bytes c.field-5.new.r.left behind_208 c.field-6.ensures.value i;
      parn = field-behind 240 24 c.field-7.result bytes c.field-6.new.r.left behind_240 c.field-7.ensures.value i;
      pard = field-behind 264 24 c.field-8.result bytes c.field-7.new.r.left behind_264 c.field-8.ensures.value i;
      cs = field-behind 288 8 c.byte-6.result bytes c.field-8.new.r.left behind_288 c.byte-6.ensures.value i;
      nombr = field-behind 296 24 c.field-9.result bytes c.byte-6.new.r.left behind_296 c.field-9.ensures.value i;
      qual = field-behind 320 6 c.field-10.result bytes c.field-9.new.r.left behind_320 c.field-10.ensures.value i;
      shift = field-behind 326 5 c.field-11.result bytes c.field-10.new.r.left behind_326 c.field-11.ensures.value i;
      pf = field-behind 331 2 c.field-12.result bytes c.field-11.new.r.left behind_331 c.field-12.ensures.value i;
      reserved = field-behind 333 3 c.field-13.result bytes c.field-12.new.r.left behind_333 c.field-13.ensures.value i;
    }
