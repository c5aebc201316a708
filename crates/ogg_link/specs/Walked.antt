-- What the calls of a walk answer, and how they leave it (own).
use Rattle.std.specs.Prelude.{◌≡◌, ◌<◌, ⊤, Option, Some, None, Result, Ok, Err, IsOk, length}
use Rattle.ogg_page.specs.Page.{Page}
use Rattle.ogg_link.specs.declared.state.State.{State}
use Rattle.ogg_link.specs.declared.fault.LinkFault.{LinkFault}
use Rattle.ogg_link.specs.declared.fault.LinkRefusal.{LinkRefusal}
use Rattle.ogg_link.specs.declared.fault.LinkRefusal.TheVariants.{Bad, NoMem}
use Rattle.ogg_link.specs.Parts.{parts_of, lacing_if}
use Rattle.ogg_link.specs.Walk.{step, is_of_track}

-- a walk: what is known, and the fault with which it failed
pub record Walked : Type 0 where
  pub state : State
  pub failed : Option LinkFault

-- a walk that has failed answers its fault again, whatever comes
abbrev pub or_failed : Option LinkFault → Result State LinkFault → Result State LinkFault
or_failed (Some fault) next = Err fault
or_failed None next = next

-- an answer that is no fault leaves what is known next; with a fault the walk has failed, and knows what it knew
abbrev pub Moves : {A : Type 0} → Result A LinkFault → Walked → Walked → Result State LinkFault → Type 0
Moves (Ok _) old new next = (or_failed old.failed next ≡ Ok new.state) × (new.failed ≡ None)
Moves (Err fault) old new next = (or_failed old.failed next ≡ Err fault) × (new ≡ record old { failed = Some fault })

-- the same of a call that may also find no memory
abbrev pub MovesOrNoMem : {A : Type 0} → Result A LinkRefusal → Walked → Walked → Result State LinkFault → Type 0
MovesOrNoMem (Ok _) old new next = (or_failed old.failed next ≡ Ok new.state) × (new.failed ≡ None)
MovesOrNoMem (Err (Bad fault)) old new next = (or_failed old.failed next ≡ Err fault) × (new ≡ record old { failed = Some fault })
MovesOrNoMem (Err NoMem) old new next = ⊤

-- a refusal names the fault of what was to come, or is want of memory
abbrev pub Refuses : LinkRefusal → Result State LinkFault → Type 0
Refuses (Bad fault) next = next ≡ Err fault
Refuses NoMem next = ⊤

-- the page has no fault and brings parts: only these take memory
abbrev pub BringsParts : State → Page → Type 0
BringsParts state page = IsOk (step state page) × (0 < length (parts_of state.progress.unfinished (lacing_if (is_of_track state page) page.lacing)))
