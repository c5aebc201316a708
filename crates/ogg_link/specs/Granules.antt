-- The granule position of a page, against that of the last frame that ends on it (Theora I, A.2.3).
use Rattle.std.specs.Prelude.{◌≡◌, ◌⊎◌, ◌<◌, ℕ, ◌-◌, ◌/◌, ◌%◌, ◌^◌, not, ◌||◌, Option, Some, None, Result, Ok, Err, ◌==◌, nat_lt, if◌then◌else◌}
use Rattle.ogg_link.specs.Track.{granule_of}
use Rattle.ogg_link.specs.declared.state.State.{State}
use Rattle.ogg_link.specs.declared.fault.LinkFault.{LinkFault}
use Rattle.ogg_link.specs.declared.fault.LinkFault.TheVariants.{BadGranule}

-- a frame behind another, with the same last key frame or with one that is behind it too
pub record IsLater (key frame later_key later : ℕ) : Type 0 where
  pub behind : frame < later
  pub of_key : (later_key ≡ key) ⊎ (frame < later_key)

-- the frame whose packet was the last to end, behind three headers
abbrev pub last_frame : State → ℕ
last_frame state = state.progress.packets - 4

-- where the base is known, the position is that of the frame; the first such page tells the base
abbrev pub against_base : State → ℕ → ℕ → Option ℕ → Result State LinkFault
against_base state shift key (Some base) =
    if state.granule == granule_of base shift key (last_frame state) then Ok state else Err BadGranule
against_base state shift key None =
    if nat_lt (state.granule / 2 ^ shift) key || not (state.granule % 2 ^ shift == last_frame state - key) then Err BadGranule
    else Ok (record state { base = Some (state.granule / 2 ^ shift - key) })

-- no position is right before the first key frame
abbrev pub against_key : State → ℕ → Option ℕ → Result State LinkFault
against_key state shift None = Err BadGranule
against_key state shift (Some key) = against_base state shift key state.base

-- the position of the page just given is looked at where a frame ends on it
unfoldable pub settled : State → ℕ → Result State LinkFault
settled state shift = if state.settles then against_key state shift state.progress.last_key else Ok state
