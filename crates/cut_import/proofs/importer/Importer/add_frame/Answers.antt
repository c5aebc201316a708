use Rattle.std.proofs.Common.{◌≡◌, ◌∙◌, ◌+◌, ◌-◌, ◌%◌, ◌==◌, ◌∷◌, ◌++◌, [], List, ℕ, ap, sym, subst, inl, inr, arith}
use Rattle.ogg_mux.specs.Muxing.{Muxing, rest_of}
use Rattle.cut_desk.proofs.GrowingLemmas.{grows_none}
use Rattle.cut_import.specs.declared.importer.Importer.{Importer}
use Rattle.cut_import.specs.Importers.{IsAt}
use Rattle.cut_import.proofs.CodeLemmas.{gap_more, ready_first, some_more, taken}
use Rattle.cut_import.proofs.importer.Importer.add_frame.Goals as goal

pub returns-in_default-clause-part : goal.returns-in_default-clause-part
returns-in_default-clause-part g c = inl (grows_none (g.D.Desk.sees c.args.desk.now) c.args.id)

pub returns-in-Err-clause-part : goal.returns-in-Err-clause-part
returns-in-Err-clause-part g c = inl (grows_none (g.D.Desk.sees c.args.desk.now) c.args.id)

pub returns-in-Ok-append-clause-added : goal.returns-in-Ok-append-clause-added
returns-in-Ok-append-clause-added g c =
    let packet : List ℕ = c.code.new.self.packet.items in
    let m : Muxing = c.packet.new.self in
    let all : (more : List (List ℕ)) → rest_of m more ≡ rest_of c.args.self.now.mux (packet ∷ more) = λ more. rw (c.deref.ensures.value, c.in-Ok.ensures.mux) at (c.in-Ok-packet.ensures.all more) in
    record {
      packet = packet;
      coded = record { codes = c.in-Ok.ensures.coded.codes; state = ap {A = Importer} (λ i. i.encoder.state) c.append.ensures.kept ∙ c.in-Ok.ensures.coded.state };
      came = m.ready;
      grows = c.in-Ok-append.ensures.added;
      pages = λ more. ap {A = Importer} (λ i. m.ready ++ rest_of i.mux more) c.append.ensures.kept ∙ taken m more ∙ all more;
    }

pub returns-in-Ok-append-clause-at : goal.returns-in-Ok-append-clause-at
returns-in-Ok-append-clause-at g c =
    let n = c.args.n in
    let old = c.args.self.now in
    let m : Muxing = c.packet.new.self in
    let keys : c.code.new.self.keys ≡ old.keys = c.code.ensures.stays.keys in
    let divides : c.in-Ok.key ≡ (n % old.keys == 0) = c.in-Ok.ensures.key ∙ c.in-Ok.ensures.coded.codes.key in
    let frames : m.frames ≡ n + 1 = omega (arith, c.in-Ok-packet.ensures.frames, ap {A = Muxing} (λ m. m.frames) c.in-Ok.ensures.mux, c.requires.at.frames) in
    let before = rw (← c.in-Ok.ensures.mux) at c.requires.at.gap in
    let gap : m.frames - m.key ≡ n % old.keys + 1 = c.in-Ok-packet.ensures.gap ∙ gap_more n old.keys (c.code.new.self.mux.frames - c.code.new.self.mux.key) c.in-Ok.key c.requires.importer.some divides before in
    let back : n + 1 - 1 ≡ n = omega arith in
    subst (λ (i : Importer). IsAt (n + 1) i) (sym c.append.ensures.kept)
    (record {
      started = λ some. c.in-Ok.ensures.started;
      shift = c.in-Ok-packet.ensures.shift ∙ ap {A = Muxing} (λ m. m.shift) c.in-Ok.ensures.mux ∙ c.requires.at.shift;
      unfinished = c.in-Ok-packet.ensures.open;
      frames = frames;
      gap = λ some. rw (keys, back) gap;
    })

pub returns-in-Err-append-clause-part : goal.returns-in-Err-append-clause-part
returns-in-Err-append-clause-part g c =
    let packet : List ℕ = c.code.new.self.packet.items in
    let m : Muxing = c.packet.new.self in
    let all : rest_of m [] ≡ rest_of c.args.self.now.mux (packet ∷ []) = rw (c.deref.ensures.value, c.in-Ok.ensures.mux) at (c.in-Ok-packet.ensures.all []) in
    let first = ready_first m [] in
    inr (record {
      packet = packet;
      codes = c.in-Ok.ensures.coded.codes;
      some = some_more (g.D.Desk.sees c.args.desk.now) (g.D.Desk.sees c.append.new.desk) c.args.id m.ready first.0 (rest_of c.args.self.now.mux (packet ∷ [])) c.in-Err-append.ensures.part (sym all ∙ first.1);
    })
