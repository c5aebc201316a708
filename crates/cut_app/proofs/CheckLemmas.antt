-- Checks: counting key frames, and the cause of each refusal. The command `check` cites these.
use Rattle.std.proofs.Common.{◌≡◌, ℕ, ◌+◌, ◌<◌, ◌≤◌, List, [], suc, ◌∷◌, ◌++◌, length, take, get_or, map, Bool, true, false, refl, ap, sym, ◌∙◌, arith, if◌then◌else◌}
use Rattle.std.specs.List.{filter}
use mir.Val.{bool_byte}
use Rattle.std.proofs.lemmas.List.{take_more, take_all, length-append, length-drop, length-map}
use Rattle.std.proofs.lemmas.List.Elements.{filter-append}
use Rattle.vid_desk.specs.Meaning.{File}
use Rattle.ogg_link.specs.Track.{is_key}
use Rattle.src_index.specs.Index.{Index, frame_count, keys_of}
use Rattle.src_index.specs.Track.{frames_of}
use Rattle.src_index.proofs.IndexLemmas.{index_count, index_keys}
use Rattle.thr_ident.specs.Ident.{ident_of}
use Rattle.cut_report.specs.Lines.{link_text, seekable_text}
use Rattle.cut_app.specs.Index.{marked, HasIndex, IsIndexText}
use Rattle.cut_app.specs.Texts.{IsCheckText, key_count}
use Rattle.cut_app.specs.Causes.{IsSound}

-- how many marks of key frames there are among the first n
abbrev pub keys_among : ℕ → List Bool → ℕ
keys_among n keys = marked (take n keys)

-- one frame more
pub keys_more : (keys : List Bool) (n : ℕ) → n < length keys → keys_among (n + 1) keys ≡ keys_among n keys + bool_byte (get_or keys n false)
keys_more keys n h =
    ap marked (take_more keys n false h)
    ∙ ap length (filter-append (λ key. key) (take n keys) (get_or keys n false ∷ []))
    ∙ length-append (filter (λ key. key) (take n keys)) (filter (λ key. key) (get_or keys n false ∷ []))
    ∙ ap (λ k. keys_among n keys + k) (one (get_or keys n false))
  where
    one : (key : Bool) → length (filter (λ k. k) (key ∷ [])) ≡ bool_byte key
    one true = refl
    one false = refl

-- the marks of key frames count the key frames
marked_keys : (packets : List (List ℕ)) → marked (map is_key packets) ≡ length (filter is_key packets)
marked_keys [] = refl
marked_keys (packet ∷ packets) = elim (is_key packet) as (λ key. length (if key then key ∷ filter (λ k. k) (map is_key packets) else filter (λ k. k) (map is_key packets)) ≡ length (if key then packet ∷ filter is_key packets else filter is_key packets)) [
  | true ↦ ap suc (marked_keys packets)
  | false ↦ marked_keys packets
]

-- what is said of an index is said of the file
pub text_of_file : (files : List File) (file text : List ℕ) (index : Index) → HasIndex files file index → IsIndexText index text → IsCheckText files file text
text_of_file files file text index read said =
    let packets = read.indexed.packets in
    let index_of = read.indexed.index_of in
    let keys : marked (keys_of index) ≡ key_count packets = ap marked (index_keys read.bytes packets index index_of) ∙ marked_keys (frames_of packets) in
    let frames : frame_count index ≡ length (frames_of packets) = omega (arith, index_count read.bytes packets index index_of, length-drop 3 packets) in
    record {
      packets = packets;
      found = record { bytes = read.bytes; there = read.there; judged = (read.short, read.indexed.judged) };
      lines = record {
        ident = said.ident;
        answer = index.seekable;
        header = ap ident_of (sym index_of.ident) ∙ said.header;
        seekable = index_of.seekable;
        not_seekable = index_of.not_seekable;
        text_is = said.text_is ∙ ap (λ n. link_text 1 said.ident n (marked (keys_of index)) ++ seekable_text index.seekable) frames ∙ ap (λ k. link_text 1 said.ident (length (frames_of packets)) k ++ seekable_text index.seekable) keys;
      };
    }

-- a truth value counts for at most one
pub byte_small : (key : Bool) → bool_byte key ≤ 1
byte_small true = omega arith
byte_small false = omega arith

-- a file with an index is sound
pub sound_of : (files : List File) (file : List ℕ) (index : Index) → HasIndex files file index → IsSound files file
sound_of files file index read = (read.indexed.packets, record { bytes = read.bytes; there = read.there; judged = (read.short, read.indexed.judged) })

-- all marks were counted
pub keys_all : (index : Index) (n : ℕ) → n ≡ frame_count index → keys_among n (keys_of index) ≡ marked (keys_of index)
keys_all index n all = ap marked (take_all n (keys_of index) (omega (arith, all, length-map index.frames (λ frame. frame.key))))
