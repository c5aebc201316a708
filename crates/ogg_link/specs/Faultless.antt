-- What a page of the track needs to have no fault in its place (RFC 3533, 4 to 6; Theora I, A.2).
use Rattle.std.specs.Prelude.{◌≡◌, ◌+◌, ◌%◌, ◌^◌, true, false, Some, None}
use Rattle.ogg_page.specs.Page.{Page}
use Rattle.ogg_page.specs.Packets.{segments}
use Rattle.ogg_link.specs.declared.state.State.{State}
use Rattle.ogg_link.specs.Flags.{is_continued, is_first}
use Rattle.ogg_link.specs.Progress.{after_pieces, is_alone, is_crowded}
use Rattle.ogg_link.specs.Track.{begins_track}
use Rattle.ogg_link.specs.Walk.{with_page}

-- a later page of the track fits what is known: its serial and sequence number, its flags and its lacing values
pub record Follows (state : State) (page : Page) : Type 0 where
  pub of_track : state.track ≡ Some page.serial
  pub open_track : state.closed ≡ false
  pub next_number : page.number ≡ (state.number + 1) % 2 ^ 32
  pub goes_on : is_continued page.flags ≡ state.progress.unfinished
  pub later : is_first page.flags ≡ false
  pub roomy : is_crowded state.progress.packets page.lacing ≡ false

-- the track's first page, before which no page with data stands: an identification header alone
pub record Begins (state : State) (page : Page) : Type 0 where
  pub no_track : state.track ≡ None
  pub no_data : state.past_first_pages ≡ false
  pub open_track : state.closed ≡ false
  pub whole : state.progress.unfinished ≡ false
  pub begins_stream : is_first page.flags ≡ true
  pub goes_on : is_continued page.flags ≡ false
  pub header : begins_track page.body ≡ true
  pub alone : is_alone page.lacing ≡ true
  pub roomy : is_crowded state.progress.packets page.lacing ≡ false

-- what is known behind a page of the track that has no fault
abbrev pub stepped : State → Page → State
stepped state page = with_page state page (after_pieces state.progress (segments page.lacing page.body))
