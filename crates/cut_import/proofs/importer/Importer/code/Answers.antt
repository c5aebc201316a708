use Rattle.std.proofs.Common.{◌≡◌, ◌∙◌, ◌%◌, ◌^◌, ◌<◌, List, length, ℕ, true, false, subst}
use Rattle.y4m_io.specs.Pictures.{samples_of}
use Rattle.enc_frame.specs.Encoding.{Leads}
use Rattle.enc_frame.specs.Near.{Near}
use Rattle.thr_frame.specs.Step.{is_key as is_key_packet}
use Rattle.cut_import.proofs.CodeLemmas.{added_all, coded, divides_false, divides_true, pad_is, pad_sealed, pad_sized}
use Rattle.cut_import.proofs.importer.Importer.code.Goals as goal

pub key-requires-clause-sized : goal.key-requires-clause-sized
key-requires-clause-sized c = pad_sized c.args.self.now.encoder.shape (samples_of c.args.picture.now) c.args.self.now.target c.pad.new.into c.requires.importer.target c.pad.ensures

pub key-requires-clause-sealed : goal.key-requires-clause-sealed
key-requires-clause-sealed c = pad_sealed c.args.self.now.encoder.shape (samples_of c.args.picture.now) c.args.self.now.target c.pad.new.into c.requires.importer.target c.pad.ensures

pub inter-requires-clause-sized : goal.inter-requires-clause-sized
inter-requires-clause-sized c = pad_sized c.args.self.now.encoder.shape (samples_of c.args.picture.now) c.args.self.now.target c.pad.new.into c.requires.importer.target c.pad.ensures

pub inter-requires-clause-sealed : goal.inter-requires-clause-sealed
inter-requires-clause-sealed c = pad_sealed c.args.self.now.encoder.shape (samples_of c.args.picture.now) c.args.self.now.target c.pad.new.into c.requires.importer.target c.pad.ensures

pub returns-in_err-key-clause-importer : goal.returns-in_err-key-clause-importer
returns-in_err-key-clause-importer c = record {
  tables = c.key.ensures.kept.0 ∙ c.requires.importer.tables;
  target = rw c.key.ensures.kept.1 (pad_sized c.args.self.now.encoder.shape (samples_of c.args.picture.now) c.args.self.now.target c.pad.new.into c.requires.importer.target c.pad.ensures);
  low = c.requires.importer.low;
  some = c.requires.importer.some;
  few = c.requires.importer.few;
}

pub returns-then-n-self-eq0-clause-importer : goal.returns-then-n-self-eq0-clause-importer
returns-then-n-self-eq0-clause-importer c = record {
  tables = c.key.ensures.kept.0 ∙ c.requires.importer.tables;
  target = rw c.key.ensures.kept.1 (pad_sized c.args.self.now.encoder.shape (samples_of c.args.picture.now) c.args.self.now.target c.pad.new.into c.requires.importer.target c.pad.ensures);
  low = c.requires.importer.low;
  some = c.requires.importer.some;
  few = c.requires.importer.few;
}

pub returns-in_err-inter-clause-importer : goal.returns-in_err-inter-clause-importer
returns-in_err-inter-clause-importer c = record {
  tables = c.inter.ensures.kept.0 ∙ c.requires.importer.tables;
  target = rw c.inter.ensures.kept.1 (pad_sized c.args.self.now.encoder.shape (samples_of c.args.picture.now) c.args.self.now.target c.pad.new.into c.requires.importer.target c.pad.ensures);
  low = c.requires.importer.low;
  some = c.requires.importer.some;
  few = c.requires.importer.few;
}

pub returns-clause-importer : goal.returns-clause-importer
returns-clause-importer c = record {
  tables = c.inter.ensures.kept.0 ∙ c.requires.importer.tables;
  target = rw c.inter.ensures.kept.1 (pad_sized c.args.self.now.encoder.shape (samples_of c.args.picture.now) c.args.self.now.target c.pad.new.into c.requires.importer.target c.pad.ensures);
  low = c.requires.importer.low;
  some = c.requires.importer.some;
  few = c.requires.importer.few;
}

pub returns-then-n-self-eq0-clause-coded : goal.returns-then-n-self-eq0-clause-coded
returns-then-n-self-eq0-clause-coded c =
    let e = c.args.self.now.encoder in
    let p = samples_of c.args.picture.now in
    let all = added_all c.clear.new.self.items c.key.new.out.items c.clear.ensures.items in
    let near : Near e.setup e.shape e.state c.pad.new.into c.args.self.now.qi c.key.new.out.items = subst (λ (t : List ℕ). Near e.setup e.shape e.state c.pad.new.into c.args.self.now.qi t) all (c.in_ok-key.ensures.near c.args.self.now.encoder.state) in
    let leads : Leads e.setup e.shape e.state c.key.new.out.items c.key.new.self.state = subst (λ (t : List ℕ). Leads e.setup e.shape e.state t c.key.new.self.state) all (c.in_ok-key.ensures.step c.args.self.now.encoder.state) in
    let kind : is_key_packet c.key.new.out.items ≡ true = subst (λ (t : List ℕ). is_key_packet t ≡ true) all c.in_ok-key.ensures.key in
    let short : length c.key.new.out.items < 2 ^ 30 = subst (λ (t : List ℕ). length t < 2 ^ 30) all c.in_ok-key.ensures.few.1 in
    coded c.args.self.now (record { encoder = c.key.new.self; target = c.pad.new.into; packet = c.key.new.out; mux = c.args.self.now.mux; qi = c.args.self.now.qi; keys = c.args.self.now.keys }) c.args.n p c.pad.new.into c.key.new.out.items true c.requires.importer.tables
    (c.pad.ensures ∙ pad_is e.shape p c.args.self.now.target c.requires.importer.target) (divides_true (c.args.n % c.args.self.now.keys) c.if-n-self-eq0.true) kind short near leads

pub returns-clause-coded : goal.returns-clause-coded
returns-clause-coded c =
    let e = c.args.self.now.encoder in
    let p = samples_of c.args.picture.now in
    let all = added_all c.clear.new.self.items c.inter.new.out.items c.clear.ensures.items in
    let near : Near e.setup e.shape e.state c.pad.new.into c.args.self.now.qi c.inter.new.out.items = subst (λ (t : List ℕ). Near e.setup e.shape e.state c.pad.new.into c.args.self.now.qi t) all c.in_ok-inter.ensures.near in
    let leads : Leads e.setup e.shape e.state c.inter.new.out.items c.inter.new.self.state = subst (λ (t : List ℕ). Leads e.setup e.shape e.state t c.inter.new.self.state) all c.in_ok-inter.ensures.step in
    let kind : is_key_packet c.inter.new.out.items ≡ false = subst (λ (t : List ℕ). is_key_packet t ≡ false) all c.in_ok-inter.ensures.not_key in
    let short : length c.inter.new.out.items < 2 ^ 30 = subst (λ (t : List ℕ). length t < 2 ^ 30) all c.in_ok-inter.ensures.few.1 in
    coded c.args.self.now (record { encoder = c.inter.new.self; target = c.pad.new.into; packet = c.inter.new.out; mux = c.args.self.now.mux; qi = c.args.self.now.qi; keys = c.args.self.now.keys }) c.args.n p c.pad.new.into c.inter.new.out.items false c.requires.importer.tables
    (c.pad.ensures ∙ pad_is e.shape p c.args.self.now.target c.requires.importer.target) (divides_false (c.args.n % c.args.self.now.keys) c.if-n-self-eq0.false) kind short near leads
