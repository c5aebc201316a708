-- The end of a packet, of a page's position, and of a file. Judges of a file, which go over its pieces, cite these.
use Rattle.std.proofs.Common.{◌≡◌, ℕ, ◌-◌, ◌/◌, ◌%◌, ◌^◌, ◌<◌, ◌≤◌, ◌||◌, Bool, true, false, not, List, [], ◌∷◌, ◌++◌, length, length-append, Option, Some, None, Ok, Err, ◌==◌, nat_lt, if◌then◌else◌, is_none, inl, inr, refl, ap, sym, arith, true≢false, lt-ltb}
use Rattle.std.proofs.lemmas.Bool.{cases_lt}
use Rattle.ogg_page.specs.Packets.{left_from}
use Rattle.ogg_link.specs.Track.{granule_of}
use Rattle.ogg_link.specs.declared.state.State.{State}
use Rattle.ogg_link.specs.declared.state.Progress.{Progress}
use Rattle.ogg_link.specs.declared.fault.LinkFault.TheVariants.{BadGranule, NoTrack, UnfinishedPacket}
use Rattle.ogg_link.specs.Progress.{after_piece, counted, key_after, one_more, Holds}
use Rattle.ogg_link.specs.Walk.{ended}
use Rattle.ogg_link.specs.Granules.{settled, last_frame, against_base, against_key}
use Rattle.ogg_link.proofs.KeyLemmas.{key_of}

-- a piece that ends counts the packet
pub piece_ends : (known : Progress) (front bytes : List ℕ) → Holds known front → after_piece known (record { bytes = bytes; ends = true })
    ≡ record { packets = one_more known.packets; unfinished = false; key = false; last_key = (counted known.packets known.last_key (front ++ bytes)).last_key }
piece_ends known front bytes h =
    ap (λ key. record { packets = one_more known.packets; unfinished = false; key = false; last_key = key_after key known.packets known.last_key }) (key_of known front bytes h)

-- what is known behind a piece is of the packet that it leaves unfinished
pub piece_holds : (known : Progress) (front bytes : List ℕ) (ends : Bool) → Holds known front → (ends ≡ false → 0 < length bytes)
    → Holds (after_piece known (record { bytes = bytes; ends = ends })) (left_from front (record { bytes = bytes; ends = ends } ∷ []))
unfolding left_from
piece_holds known front bytes true h some = record { whole = λ _. refl; begun = λ e. absurd (true≢false (sym e)); key = λ e. absurd (true≢false (sym e)) }
piece_holds known front bytes false h some =
    record { whole = λ e. absurd (true≢false e); begun = λ _. omega (arith, length-append front bytes, some refl); key = λ _. key_of known front bytes h }

-- the position of a page changes nothing of its packets
base_keeps : (state next : State) (shift key : ℕ) (base : Option ℕ) → against_base state shift key base ≡ Ok next → next.progress ≡ state.progress
base_keeps state next shift key (Some base) h = elim (state.granule == granule_of base shift key (last_frame state)) as (λ (b : Bool). (if b then Ok state else Err BadGranule) ≡ Ok next → next.progress ≡ state.progress) [
  | true ↦ λ e. cc
  | false ↦ λ e. cc
] h
base_keeps state next shift key None h =
    elim (nat_lt (state.granule / 2 ^ shift) key || not (state.granule % 2 ^ shift == last_frame state - key)) as (λ (b : Bool). (if b then Err BadGranule else Ok (record state { base = Some (state.granule / 2 ^ shift - key) })) ≡ Ok next → next.progress ≡ state.progress) [
      | true ↦ λ e. cc
      | false ↦ λ e. cc
    ] h

key_keeps : (state next : State) (shift : ℕ) (key : Option ℕ) → against_key state shift key ≡ Ok next → next.progress ≡ state.progress
key_keeps state next shift None h = cc
key_keeps state next shift (Some key) h = base_keeps state next shift key state.base h

pub settled_keeps : (state next : State) (shift : ℕ) → settled state shift ≡ Ok next → next.progress ≡ state.progress
unfolding settled
settled_keeps state next shift h = elim state.settles as (λ (b : Bool). (if b then against_key state shift state.progress.last_key else Ok state) ≡ Ok next → next.progress ≡ state.progress) [
  | true ↦ λ e. key_keeps state next shift state.progress.last_key e
  | false ↦ λ e. cc
] h

-- at an end without a fault three packets have ended
pub three_ended : (state next : State) → ended state ≡ Ok next → 3 ≤ state.progress.packets
unfolding ended
three_ended state next h =
    elim (is_none state.track) as (λ (b : Bool). (if b then Err NoTrack else if state.progress.unfinished || nat_lt state.progress.packets 3 then Err UnfinishedPacket else Ok state) ≡ Ok next → 3 ≤ state.progress.packets) [
      | true ↦ λ e. absurd (cc)
      | false ↦ λ e. elim (cases_lt state.progress.packets 3) [
        | inl few ↦ absurd (refused state.progress.unfinished (nat_lt state.progress.packets 3) (lt-ltb state.progress.packets 3 few) e)
        | inr many ↦ many
      ]
    ] h
  where
    refused : (a b : Bool) → b ≡ true → (if a || b then Err UnfinishedPacket else Ok state) ≡ Ok next → ⊥
    refused true b e r = cc
    refused false true e r = cc
    refused false false e r = cc
