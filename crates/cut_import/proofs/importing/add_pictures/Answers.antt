use Rattle.std.proofs.Common.{◌≡◌, ◌∙◌, ◌+◌, ◌^◌, ◌<◌, ◌∷◌, ◌++◌, [], List, ℕ, Some, None, ap, sym, subst, refl, inl, inr, arith, append_assoc}
use Rattle.std.proofs.lemmas.List.{append-nil}
use Rattle.vid_desk.specs.Meaning.{Meaning, bytes_at}
use Rattle.ogg_mux.specs.Muxing.{rest_of}
use Rattle.thr_frame.specs.Rebuilt.{Pair}
use Rattle.y4m_io.specs.Pictures.{samples_of}
use Rattle.y4m_io.specs.Progress.{Follow, Progress, progress_of}
use Rattle.cut_desk.specs.Growing.{Grows}
use Rattle.cut_desk.proofs.GrowingLemmas.{grows_none, grows_twice}
use Rattle.cut_import.specs.Imported.{Codes}
use Rattle.cut_import.proofs.CodeLemmas.{codes_more, codes_none, join_more, some_behind, some_none}
use Rattle.cut_import.proofs.FollowLemmas.{Behind, codes_stay, grows_before, join_end, leads_end, leads_more, length_more, read_first}
use Rattle.cut_import.proofs.importing.add_pictures.Goals as goal

pub pictures-init : goal.pictures-init
pictures-init g c = record {
  read = [];
  coded = [];
  came = [];
  grows = grows_none (g.D.Desk.sees c.args.desk.now) c.args.id;
  pages = λ more. refl;
  join = λ more others codes. codes;
  count = refl;
  made = c.requires.importer;
  at = c.requires.at;
  stays = record { shape = refl; qi = refl; keys = refl };
  behind = c.requires.start;
  few = omega arith;
  same = record { input = refl; size = refl; head = refl };
  sound = c.requires.sound;
  of_input = c.requires.of;
  shown = c.requires.picture;
  follows = λ files told more bad follow. follow;
}

pub returns-in-Err-clause-part : goal.returns-in-Err-clause-part
returns-in-Err-clause-part g c =
    let i = c.args.importer.now in
    let inv = c.pictures.invariant in
    let left : List ℕ = rest_of c.pictures.importer.mux [] in
    let all : rest_of i.mux inv.coded ≡ inv.came ++ left = ap (rest_of i.mux) (sym (append-nil inv.coded)) ∙ sym (inv.pages []) in
    record {
      pictures = inv.read;
      packets = inv.coded;
      codes = join_end i.encoder.shape i.qi i.keys c.pictures.frames i.encoder.state c.pictures.importer.encoder.state inv.read inv.coded inv.join;
      some = some_none (g.D.Desk.sees c.args.desk.now) (g.D.Desk.sees c.next.new.desk) c.args.id inv.came left (rest_of i.mux inv.coded) (grows_before (g.D.Desk.sees c.args.desk.now) (g.D.Desk.sees c.pictures.desk) (g.D.Desk.sees c.next.new.desk) c.args.id inv.came inv.grows c.next.ensures.kept c.next.ensures.count) all;
      first = λ files told. read_first (bytes_at files (progress_of c.args.y4m.now).input) (progress_of c.args.y4m.now) (progress_of c.pictures.y4m) inv.read inv.sound inv.same.head (inv.behind ∙ inv.count) (inv.follows files told);
    }

pub returns-in-Err-end-clause-part : goal.returns-in-Err-end-clause-part
returns-in-Err-end-clause-part g c =
    let i = c.args.importer.now in
    let inv = c.pictures.invariant in
    let left : List ℕ = rest_of c.pictures.importer.mux [] in
    let all : rest_of i.mux inv.coded ≡ inv.came ++ left = ap (rest_of i.mux) (sym (append-nil inv.coded)) ∙ sym (inv.pages []) in
    record {
      pictures = inv.read;
      packets = inv.coded;
      codes = join_end i.encoder.shape i.qi i.keys c.pictures.frames i.encoder.state c.pictures.importer.encoder.state inv.read inv.coded inv.join;
      some = some_behind (g.D.Desk.sees c.args.desk.now) (g.D.Desk.sees c.next.new.desk) (g.D.Desk.sees c.end.new.desk) c.args.id inv.came left (rest_of i.mux inv.coded) (grows_before (g.D.Desk.sees c.args.desk.now) (g.D.Desk.sees c.pictures.desk) (g.D.Desk.sees c.next.new.desk) c.args.id inv.came inv.grows c.next.ensures.kept c.next.ensures.count) c.in-Err-end.ensures.part all;
      first = λ files told. read_first (bytes_at files (progress_of c.args.y4m.now).input) (progress_of c.args.y4m.now) (progress_of c.pictures.y4m) inv.read inv.sound inv.same.head (inv.behind ∙ inv.count) (inv.follows files told);
    }

pub returns-in-Ok-end-clause-added : goal.returns-in-Ok-end-clause-added
returns-in-Ok-end-clause-added g c =
    let i = c.args.importer.now in
    let inv = c.pictures.invariant in
    let left : List ℕ = rest_of c.pictures.importer.mux [] in
    let all : rest_of i.mux inv.coded ≡ inv.came ++ left = ap (rest_of i.mux) (sym (append-nil inv.coded)) ∙ sym (inv.pages []) in
    record {
      pictures = inv.read;
      packets = inv.coded;
      codes = join_end i.encoder.shape i.qi i.keys c.pictures.frames i.encoder.state c.pictures.importer.encoder.state inv.read inv.coded inv.join;
      grows = subst (λ (t : List ℕ). Grows (g.D.Desk.sees c.args.desk.now) (g.D.Desk.sees c.end.new.desk) c.args.id t) (sym all)
          (grows_twice (g.D.Desk.sees c.args.desk.now) (g.D.Desk.sees c.next.new.desk) (g.D.Desk.sees c.end.new.desk) c.args.id inv.came left (grows_before (g.D.Desk.sees c.args.desk.now) (g.D.Desk.sees c.pictures.desk) (g.D.Desk.sees c.next.new.desk) c.args.id inv.came inv.grows c.next.ensures.kept c.next.ensures.count) c.in-Ok-end.ensures.added);
      count_is = inv.count;
      few = omega (arith, inv.few, inv.count);
      all = λ files told.
          let bytes = bytes_at files (progress_of c.args.y4m.now).input in
          let gives : Follow (progress_of c.pictures.y4m) (bytes_at files (progress_of c.pictures.y4m).input) [] None = rw c.in-Ok-false.field-0-test at (c.in-Ok-false.ensures.gives files (ap {A = Meaning} (λ m. m.inputs) inv.grows.grown ∙ told)) in
          let here : Follow (progress_of c.pictures.y4m) bytes [] None = subst (λ (b : List ℕ). Follow (progress_of c.pictures.y4m) b [] None) (ap (λ n. bytes_at files n) inv.same.input) gives in
          leads_end bytes (progress_of c.args.y4m.now) (progress_of c.pictures.y4m) inv.read None (inv.follows files told) here;
    }

pub returns-in-Err-add_frame-clause-part : goal.returns-in-Err-add_frame-clause-part
returns-in-Err-add_frame-clause-part g c =
    let i = c.args.importer.now in
    let inv = c.pictures.invariant in
    let p = samples_of c.next.new.into in
    let before = grows_before (g.D.Desk.sees c.args.desk.now) (g.D.Desk.sees c.pictures.desk) (g.D.Desk.sees c.next.new.desk) c.args.id inv.came inv.grows c.next.ensures.kept c.next.ensures.count in
    let old = progress_of c.pictures.y4m in
    let new = progress_of c.next.new.self in
    let turns : (new ≡ record old { at = new.at; frames = old.frames + 1 }) × (old.frames < 2 ^ 24) = rw c.in-Ok-true.field-0-test at c.in-Ok-true.ensures.turns in
    elim c.in-Err-add_frame.ensures.part [
      | inl none ↦
          let left : List ℕ = rest_of c.pictures.importer.mux [] in
          let all : rest_of i.mux inv.coded ≡ inv.came ++ left = ap (rest_of i.mux) (sym (append-nil inv.coded)) ∙ sym (inv.pages []) in
          record {
            pictures = inv.read;
            packets = inv.coded;
            codes = join_end i.encoder.shape i.qi i.keys c.pictures.frames i.encoder.state c.pictures.importer.encoder.state inv.read inv.coded inv.join;
            some = some_behind (g.D.Desk.sees c.args.desk.now) (g.D.Desk.sees c.next.new.desk) (g.D.Desk.sees c.add_frame.new.desk) c.args.id inv.came left (rest_of i.mux inv.coded) before (some_none (g.D.Desk.sees c.next.new.desk) (g.D.Desk.sees c.add_frame.new.desk) c.args.id [] left left none refl) all;
            first = λ files told. read_first (bytes_at files (progress_of c.args.y4m.now).input) (progress_of c.args.y4m.now) old inv.read inv.sound inv.same.head (inv.behind ∙ inv.count) (inv.follows files told);
          }
      | inr broke ↦
          let codes = (codes_stay i c.pictures.importer c.pictures.importer.encoder.state c.pictures.frames p broke.packet inv.stays broke.codes).0 in
          record {
            pictures = inv.read ++ p ∷ [];
            packets = inv.coded ++ broke.packet ∷ [];
            codes = inv.join (p ∷ []) (broke.packet ∷ []) (codes_more i.encoder.shape i.qi i.keys c.pictures.frames c.pictures.importer.encoder.state p [] broke.packet [] codes (codes_none i.encoder.shape i.qi i.keys (c.pictures.frames + 1) (Some codes.next)));
            some = some_behind (g.D.Desk.sees c.args.desk.now) (g.D.Desk.sees c.next.new.desk) (g.D.Desk.sees c.add_frame.new.desk) c.args.id inv.came (rest_of c.pictures.importer.mux (broke.packet ∷ [])) (rest_of i.mux (inv.coded ++ broke.packet ∷ [])) before broke.some (sym (inv.pages (broke.packet ∷ [])));
            first = λ files told.
                let bytes = bytes_at files (progress_of c.args.y4m.now).input in
                let gives : Behind (bytes_at files old.input) old new p = rw c.in-Ok-true.field-0-test at (c.in-Ok-true.ensures.gives files (ap {A = Meaning} (λ m. m.inputs) inv.grows.grown ∙ told)) in
                let here : Behind bytes old new p = subst (λ (b : List ℕ). Behind b old new p) (ap (λ n. bytes_at files n) inv.same.input) gives in
                read_first bytes (progress_of c.args.y4m.now) new (inv.read ++ p ∷ []) (ap {A = Progress} (λ q. q.bad) turns.0 ∙ inv.sound) (c.in-Ok-true.ensures.stays.head ∙ inv.same.head)
                (ap {A = Progress} (λ q. q.frames) turns.0 ∙ ap (λ n. n + 1) inv.behind ∙ length_more inv.read p c.pictures.frames inv.count)
                (leads_more bytes (progress_of c.args.y4m.now) old new inv.read p (inv.follows files told) here);
          }
    ]

pub pictures-preserved : goal.pictures-preserved
pictures-preserved g c =
    let i = c.args.importer.now in
    let inv = c.pictures.invariant in
    let p = samples_of c.next.new.into in
    let added = c.in-Ok.ensures.added in
    let old = progress_of c.pictures.y4m in
    let new = progress_of c.next.new.self in
    let turns : (new ≡ record old { at = new.at; frames = old.frames + 1 }) × (old.frames < 2 ^ 24) = rw c.in-Ok-true.field-0-test at c.in-Ok-true.ensures.turns in
    let stays = c.in-Ok-true.ensures.stays in
    let moved = codes_stay i c.pictures.importer c.pictures.importer.encoder.state c.pictures.frames p added.packet inv.stays added.coded.codes in
    let codes : Codes i.encoder.shape i.qi i.keys c.pictures.importer.encoder.state c.pictures.frames p added.packet = moved.0 in
    let next : c.add_frame.new.self.encoder.state ≡ Some codes.next = added.coded.state ∙ ap (λ (q : Pair). Some q) (sym moved.1) in
    record {
      read = inv.read ++ p ∷ [];
      coded = inv.coded ++ added.packet ∷ [];
      came = inv.came ++ added.came;
      grows = grows_twice (g.D.Desk.sees c.args.desk.now) (g.D.Desk.sees c.next.new.desk) (g.D.Desk.sees c.add_frame.new.desk) c.args.id inv.came added.came (grows_before (g.D.Desk.sees c.args.desk.now) (g.D.Desk.sees c.pictures.desk) (g.D.Desk.sees c.next.new.desk) c.args.id inv.came inv.grows c.next.ensures.kept c.next.ensures.count) added.grows;
      pages = λ more.
          append_assoc inv.came added.came (rest_of c.add_frame.new.self.mux more) ∙ ap (λ t. inv.came ++ t) (added.pages more) ∙ inv.pages (added.packet ∷ more)
          ∙ ap (rest_of i.mux) (sym (append_assoc inv.coded (added.packet ∷ []) more));
      join = rw next (join_more i.encoder.shape i.qi i.keys c.pictures.frames i.encoder.state c.pictures.importer.encoder.state inv.read inv.coded p added.packet codes inv.join);
      count = length_more inv.read p c.pictures.frames inv.count;
      made = c.in-Ok.ensures.importer;
      at = c.in-Ok.ensures.at;
      stays = record { shape = c.in-Ok.ensures.stays.shape ∙ inv.stays.shape; qi = c.in-Ok.ensures.stays.qi ∙ inv.stays.qi; keys = c.in-Ok.ensures.stays.keys ∙ inv.stays.keys };
      behind = ap {A = Progress} (λ q. q.frames) turns.0 ∙ ap (λ n. n + 1) inv.behind;
      few = omega (arith, turns.1, inv.behind);
      same = record { input = stays.input ∙ inv.same.input; size = stays.size ∙ inv.same.size; head = stays.head ∙ inv.same.head };
      sound = ap {A = Progress} (λ q. q.bad) turns.0 ∙ inv.sound;
      of_input = (λ files told. c.in-Ok-true.ensures.of files (sym (ap {A = Meaning} (λ m. m.inputs) added.grows.grown) ∙ told));
      shown = rw stays.head c.in-Ok-true.ensures.into;
      follows = λ files told.
          let bytes = bytes_at files (progress_of c.args.y4m.now).input in
          let gives : Behind (bytes_at files old.input) old new p = rw c.in-Ok-true.field-0-test at (c.in-Ok-true.ensures.gives files (ap {A = Meaning} (λ m. m.inputs) inv.grows.grown ∙ told)) in
          let here : Behind bytes old new p = subst (λ (b : List ℕ). Behind b old new p) (ap (λ n. bytes_at files n) inv.same.input) gives in
          leads_more bytes (progress_of c.args.y4m.now) old new inv.read p (inv.follows files told) here;
    }
