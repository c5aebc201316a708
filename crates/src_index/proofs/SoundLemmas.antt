-- Sound headers and frames make a track without a fault: the converse of what `FaultlessLemmas` shows. Writers of a track cite this, by `laws`.
use Rattle.std.proofs.Common.{◌≡◌, ℕ, ◌+◌, ◌-◌, ◌^◌, ◌<◌, ◌≤◌, Bool, true, false, List, [], ◌∷◌, length, map, Option, Some, None, Ok, Err, IsOk, is_ok, is_some, All, nat_le, nat_lt, if◌then◌else◌, refl, ap, sym, subst, ◌∙◌, arith, true≢false, lt-ltb, le-ltb}
use Rattle.std.proofs.lemmas.Bool.{lt-leb, or_from}
use Rattle.std.proofs.lemmas.List.Elements.{All-head, All-tail}
use Rattle.vid_base.specs.declared.fault.PacketFault.TheVariants.{TooLarge, KeyTooFar}
use Rattle.vid_base.specs.Reading.{◌>>=◌, and_then}
use Rattle.ogg_link.specs.Track.{is_key}
use Rattle.ogg_link.specs.declared.state.Counted.{Counted}
use Rattle.ogg_link.specs.Progress.{counted, key_after, one_more}
use Rattle.ogg_link.specs.Spacing.{behind, Close, BeginsWithKey, AreSpaced}
use Rattle.thr_ident.specs.Header.{Header}
use Rattle.thr_ident.specs.Ident.{ident_of}
use Rattle.thr_ident.specs.Comment.{comment_of}
use Rattle.thr_ident.specs.Shape.{shape_of}
use Rattle.thr_setup.specs.Setup.{Contents, setup_of}
use Rattle.thr_frame.specs.CodedFrame.{CodedFrame}
use Rattle.thr_frame.specs.Parsed.{frame_in}
use Rattle.thr_frame.specs.Rebuilt.{Pair}
use Rattle.thr_frame.specs.Step.{step, state_after, next_state}
use Rattle.src_index.specs.Said.{Said, Start, WithIdent, WithComment, WithSetup}
use Rattle.src_index.specs.Checks.{packet_step, packets_over, fault_at, said_step, frame_step, is_near, most_packets, most_bytes, AreFaultless}
use Rattle.src_index.proofs.CheckLemmas.{bind_ok, behind_ok}
use Rattle.src_index.proofs.LetterLemmas.{ok_value}
use Rattle.src_index.proofs.FaultlessLemmas.{no_key}

-- a packet within the limits is taken where its kind's check is passed
step_passes : (said next : Said) (c : Counted) (packet : List ℕ) → c.number < most_packets → length packet ≤ most_bytes → said_step said c packet ≡ Ok next → packet_step said c packet ≡ Ok next
unfolding packet_step
step_passes said next c packet few short h =
    ap (λ large. if large then Err TooLarge else said_step said c packet)
    (or_from (nat_lt most_bytes (length packet)) (nat_le most_packets c.number) (le-ltb most_bytes (length packet) short) (lt-leb most_packets c.number few))
    ∙ h

-- so are the packets behind it, where they have no fault
over_passes : (n : ℕ) (last : Option ℕ) (said next final : Said) (x : List ℕ) (xs : List (List ℕ)) → n < most_packets → length x ≤ most_bytes → said_step said (counted n last x) x ≡ Ok next
    → packets_over 0 (one_more n) (key_after (is_key x) n last) next xs ≡ Ok final → packets_over 0 n last said (x ∷ xs) ≡ Ok final
unfolding packets_over
over_passes n last said next final x xs few short h rest =
    ap (λ read. and_then read (λ more. packets_over 0 (one_more n) (key_after (is_key x) n last) more xs) (fault_at 0 n)) (step_passes said next (counted n last x) x few short h) ∙ rest

-- a frame that says something near its key frame passes
frame_passes : (header : Header) (contents : Contents) (coded : Option CodedFrame) (number : ℕ) (last : Option ℕ) (packet : List ℕ) → frame_in contents (shape_of header) (nat_lt 0 (number - 3)) packet ≡ Ok coded
    → is_near header.shift (number - 3) (key_after (is_key packet) number last) ≡ true → frame_step header contents (counted number last packet) packet ≡ Ok (WithSetup header contents)
frame_passes header contents coded number last packet says near =
    ap (λ read. read >>= (λ _. if is_near header.shift (number - 3) (key_after (is_key packet) number last) then Ok (WithSetup header contents) else Err KeyTooFar)) says
    ∙ ap (λ b. if b then Ok (WithSetup header contents) else Err KeyTooFar) near

-- this is the last key frame behind so many frames, and the next would stand so far behind it; the first is a key frame
Stands : ℕ → Option ℕ → ℕ → List Bool → Type 0
Stands count None distance keys = BeginsWithKey keys
Stands count (Some key) distance keys = key + distance ≡ count

-- a frame more
near_more : (shift count distance : ℕ) (last : Option ℕ) (key : Bool) (keys : List Bool) → Stands count last distance (key ∷ keys) → behind distance key < 2 ^ shift
    → (is_near shift count (if key then Some count else last) ≡ true) × Stands (count + 1) (if key then Some count else last) (behind distance key + 1) keys
unfolding Stands BeginsWithKey
near_more shift count distance last true keys stands close = (lt-ltb (count - count) (2 ^ shift) (omega (arith, close)), omega arith)
near_more shift count distance None false keys stands close = absurd (true≢false (sym stands))
near_more shift count distance (Some key) false keys stands close = (lt-ltb (count - key) (2 ^ shift) (omega (arith, stands, close)), omega (arith, stands))

-- behind the headers a key frame is the last one
key_is : (key : Bool) (n : ℕ) (last : Option ℕ) → 3 ≤ n → key_after key n last ≡ (if key then Some (n - 3) else last)
key_is true n last many = ap (λ b. if b then Some (n - 3) else last) (lt-ltb 2 n (omega (arith, many)))
key_is false n last many = refl

-- frames that decode one after the other, each near its key frame
sound_frames : (n distance : ℕ) (last : Option ℕ) (header : Header) (contents : Contents) (state : Option Pair) (frames : List (List ℕ)) → 3 ≤ n → n + length frames ≤ most_packets
    → All (λ packet. length packet ≤ most_bytes) frames → nat_lt 0 (n - 3) ≡ is_some state → Stands (n - 3) last distance (map is_key frames) → Close header.shift distance (map is_key frames)
    → IsOk (state_after contents (shape_of header) state frames) → packets_over 0 n last (WithSetup header contents) frames ≡ Ok (WithSetup header contents)
unfolding packets_over state_after step Close
sound_frames n distance last header contents state [] many few short began stands close decodes = refl
sound_frames n distance last header contents state (x ∷ frames) many few short began stands close decodes =
    let whole = ok_value (state_after contents (shape_of header) state (x ∷ frames)) decodes in
    let stepped = bind_ok (step contents (shape_of header) state x) (λ next. state_after contents (shape_of header) (Some next) frames) whole.0 whole.1 in
    let says = bind_ok (frame_in contents (shape_of header) (is_some state) x) (λ coded. Ok (next_state contents (shape_of header) state coded)) stepped.0 stepped.1 in
    let more = near_more header.shift (n - 3) distance last (is_key x) (map is_key frames) stands close.0 in
    let last_is : key_after (is_key x) n last ≡ (if is_key x then Some (n - 3) else last) = key_is (is_key x) n last many in
    let up : n - 3 + 1 ≡ one_more n - 3 = omega (arith, many, few) in
    over_passes n last (WithSetup header contents) (WithSetup header contents) (WithSetup header contents) x frames (omega (arith, few)) (All-head (λ (p : List ℕ). length p ≤ most_bytes) x frames short)
    (frame_passes header contents says.0 n last x (ap (λ b. frame_in contents (shape_of header) b x) began ∙ says.1) (ap (is_near header.shift (n - 3)) last_is ∙ more.0))
    (sound_frames (one_more n) (behind distance (is_key x) + 1) (key_after (is_key x) n last) header contents (Some stepped.0) frames (omega (arith, many)) (omega (arith, few))
    (All-tail (λ (p : List ℕ). length p ≤ most_bytes) x frames short) (lt-ltb 0 (one_more n - 3) (omega (arith, many, few)))
    (subst (λ i. Stands i (key_after (is_key x) n last) (behind distance (is_key x) + 1) (map is_key frames)) up
    (subst (λ k. Stands (n - 3 + 1) k (behind distance (is_key x) + 1) (map is_key frames)) (sym last_is) more.1))
    close.1 (ap is_ok stepped.2))

-- the headers before them
pub sound_track : (ident comment setup : List ℕ) (frames : List (List ℕ)) (header : Header) (contents : Contents) → ident_of ident ≡ Ok header → IsOk (comment_of comment) → setup_of setup ≡ Ok contents
    → All (λ packet. length packet ≤ 2 ^ 30) (ident ∷ comment ∷ setup ∷ frames) → length frames ≤ 2 ^ 24 → AreSpaced header.shift (map is_key frames) → IsOk (state_after contents (shape_of header) None frames)
    → AreFaultless (ident ∷ comment ∷ setup ∷ frames)
unfolding Stands
sound_track ident comment setup frames header contents ident_is commented setup_is short few spaced decodes =
    let short_1 = All-tail (λ (p : List ℕ). length p ≤ 2 ^ 30) ident (comment ∷ setup ∷ frames) short in
    let short_2 = All-tail (λ (p : List ℕ). length p ≤ 2 ^ 30) comment (setup ∷ frames) short_1 in
    let short_3 = All-tail (λ (p : List ℕ). length p ≤ 2 ^ 30) setup frames short_2 in
    let k1 = key_after (is_key ident) 0 None in
    let k2 = key_after (is_key comment) 1 k1 in
    let k3 = key_after (is_key setup) 2 k2 in
    let none : k3 ≡ None = no_key (is_key setup) k2 ∙ no_key (is_key comment) k1 ∙ no_key (is_key ident) None in
    let rest : packets_over 0 3 None (WithSetup header contents) frames ≡ Ok (WithSetup header contents) =
    sound_frames 3 0 None header contents None frames (omega arith) (omega (arith, few)) short_3 refl spaced.first spaced.close decodes in
    let third = over_passes 2 k2 (WithComment header) (WithSetup header contents) (WithSetup header contents) setup frames (omega arith) (All-head (λ (p : List ℕ). length p ≤ 2 ^ 30) setup frames short_2)
    (ap (λ read. read >>= (λ contents. Ok (WithSetup header contents))) setup_is) (ap (λ last. packets_over 0 3 last (WithSetup header contents) frames) none ∙ rest) in
    let second = over_passes 1 k1 (WithIdent header) (WithComment header) (WithSetup header contents) comment (setup ∷ frames) (omega arith) (All-head (λ (p : List ℕ). length p ≤ 2 ^ 30) comment (setup ∷ frames) short_1)
    (behind_ok (comment_of comment) (Ok (WithComment header)) commented) third in
    ap is_ok (over_passes 0 None Start (WithIdent header) (WithSetup header contents) ident (comment ∷ setup ∷ frames) (omega arith) (All-head (λ (p : List ℕ). length p ≤ 2 ^ 30) ident (comment ∷ setup ∷ frames) short)
    (ap (λ read. read >>= (λ header. Ok (WithIdent header))) ident_is) second)
