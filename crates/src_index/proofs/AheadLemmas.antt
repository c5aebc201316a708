-- The bytes that lie ahead, when a piece more is read and when some of them are judged. The calls on `Ahead` cite these.
use Rattle.std.proofs.Common.{◌≡◌, ℕ, ◌+◌, ◌-◌, ◌≤◌, List, ◌++◌, length, length-append, length-drop, length-take, take, drop, inl, inr, ap, sym, ◌∙◌, arith}
use Rattle.std.proofs.lemmas.List.{drop-drop, drop-take, drop-append-le, take-append-drop, append_assoc, nil_from_length}
use Rattle.std.proofs.Math.Seq.{drop-append_seam, take-append_seam, take-append-add}
use Rattle.src_index.specs.Windows.{OpensTwo}
use Rattle.src_index.specs.declared.ahead.Ahead.{Ahead}
use Rattle.src_index.specs.Ahead.{window_of, LiesIn, HasPages}

-- the bytes behind those that lie ahead
behind : (window rest bytes : List ℕ) (at : ℕ) → drop at bytes ≡ window ++ rest → drop (at + length window) bytes ≡ rest
behind window rest bytes at h = sym (drop-drop (length window) at bytes) ∙ ap (drop (length window)) h ∙ drop-append_seam window rest

-- a piece more, read behind those that lie at the front of the buffer
pub piece_more : (buf same piece back rest bytes : List ℕ) (at first past count : ℕ) → first ≡ 0 → past ≤ length buf → same ≡ buf → length piece ≡ count
    → drop at bytes ≡ take (past - first) (drop first buf) ++ rest → piece ≡ take count (drop (at + past) bytes)
    → drop at bytes ≡ take (past + count - first) (drop first (take past same ++ (piece ++ back))) ++ drop count rest
piece_more buf same piece back rest bytes at first past count front fits e many h read =
    let long : length (take past buf) ≡ past = omega (arith, length-take past buf, fits) in
    let here : past - 0 ≡ past = omega arith in
    let there : past + count - 0 ≡ past + count = omega arith in
    let lies : drop at bytes ≡ take past buf ++ rest = (rw front at h) ∙ ap (λ n. take n buf ++ rest) here in
    let next : drop (at + past) bytes ≡ rest = ap (λ n. drop (at + n) bytes) (sym long) ∙ behind (take past buf) rest bytes at lies in
    let piece_is : piece ≡ take count rest = read ∙ ap (take count) next in
    let window : take (past + count) (take past buf ++ (piece ++ back)) ≡ take past buf ++ piece =
    ap (λ n. take (n + count) (take past buf ++ (piece ++ back))) (sym long) ∙ take-append-add (take past buf) (piece ++ back) count
    ∙ ap (λ n. take past buf ++ take n (piece ++ back)) (sym many) ∙ ap (λ xs. take past buf ++ xs) (take-append_seam piece back) in
    let whole : take (past + count) (take past buf ++ (piece ++ back)) ++ drop count rest ≡ drop at bytes =
    ap (λ xs. xs ++ drop count rest) window ∙ append_assoc (take past buf) piece (drop count rest) ∙ ap (λ xs. take past buf ++ (xs ++ drop count rest)) piece_is
    ∙ ap (λ xs. take past buf ++ xs) (take-append-drop count rest) ∙ sym lies in
    rw (e, front) (sym whole ∙ ap (λ n. take n (take past buf ++ (piece ++ back)) ++ drop count rest) (sym there))

-- a list in which a piece was written over is as long as before
pub written_length : (buf piece : List ℕ) (past count : ℕ) → past + count ≤ length buf → length piece ≡ count → length (take past buf ++ (piece ++ drop count (drop past buf))) ≡ length buf
written_length buf piece past count fits many =
    omega (arith, fits, many, length-append (take past buf) (piece ++ drop count (drop past buf)), length-append piece (drop count (drop past buf)), length-take past buf, length-drop count (drop past buf), length-drop past buf)

-- some of them are judged
pub bytes_passed : (buf rest bytes : List ℕ) (at first past count : ℕ) → count ≤ past - first → past ≤ length buf → drop at bytes ≡ take (past - first) (drop first buf) ++ rest
    → drop (at + count) bytes ≡ take (past - (first + count)) (drop (first + count) buf) ++ rest
bytes_passed buf rest bytes at first past count few fits h =
    let window = take (past - first) (drop first buf) in
    let long : count ≤ length window = omega (arith, few, fits, length-take (past - first) (drop first buf), length-drop first buf) in
    let split : past - first ≡ count + (past - (first + count)) = omega (arith, few) in
    let left : drop count window ≡ take (past - (first + count)) (drop (first + count) buf) =
    ap (λ n. drop count (take n (drop first buf))) split ∙ drop-take count (past - (first + count)) (drop first buf) ∙ ap (take (past - (first + count))) (drop-drop count first buf) in
    sym (drop-drop count at bytes) ∙ ap (drop count) h ∙ drop-append-le count window rest long ∙ ap (λ xs. xs ++ rest) left

-- how many they are
pub window_length : (ahead : Ahead) → length (window_of ahead) ≡ ahead.past - ahead.first
window_length ahead =
    omega (arith, ahead.within, ahead.buf.ok.0, length-take (ahead.past - ahead.first) (drop ahead.first ahead.buf.items), length-drop ahead.first ahead.buf.items)

-- where they hold two pages or all that is left, they open the bytes of the file from there on
pub opens_ahead : (ahead : Ahead) (bytes : List ℕ) → LiesIn ahead bytes → HasPages ahead → OpensTwo (window_of ahead) (drop ahead.at bytes)
opens_ahead ahead bytes lies page = record {
  rest = lies.rest;
  whole = lies.whole;
  enough = elim page [
    | inl end ↦ inl (nil_from_length lies.rest (omega (arith, end, lies.size, window_length ahead, length-drop ahead.at bytes, ap length lies.whole, length-append (window_of ahead) lies.rest)))
    | inr many ↦ inr (omega (arith, many, window_length ahead))
  ];
}

-- before the first piece none are
pub lies_at_start : (ahead : Ahead) (bytes : List ℕ) → ahead.size ≡ length bytes → ahead.at ≡ 0 → ahead.past ≡ ahead.first → LiesIn ahead bytes
lies_at_start ahead bytes size at none = record {
  size = size;
  rest = bytes;
  whole =
      let no : ahead.past - ahead.first ≡ 0 = omega (arith, none) in
      ap (λ n. drop n bytes) at ∙ ap (λ n. take n (drop ahead.first ahead.buf.items) ++ bytes) (sym no);
}
