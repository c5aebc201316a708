-- From page to page of a link: what is known before a page, and what the page adds or its first fault
-- (RFC 3533, 4 to 6; Theora I, A.2).
use Rattle.std.specs.Prelude.{ℕ, ◌+◌, ◌%◌, ◌^◌, Bool, true, false, not, ◌||◌, ◌&&◌, length, Option, Some, None, Result, Ok, Err, ◌==◌, nat_lt, if◌then◌else◌, is_none, is_some}
use Rattle.ogg_page.specs.Page.{Page}
use Rattle.ogg_page.specs.Packets.{segments}
use Rattle.ogg_link.specs.declared.state.State.{State}
use Rattle.ogg_link.specs.declared.state.Progress.{Progress}
use Rattle.ogg_link.specs.declared.fault.LinkFault.{LinkFault}
use Rattle.ogg_link.specs.declared.fault.LinkFault.TheVariants.{MissingPage, BadContinued, NoTrack, HeadersNotAlone, UnfinishedPacket, DataAfterEnd, Chained}
use Rattle.ogg_link.specs.Flags.{is_continued, is_first, is_last}
use Rattle.ogg_link.specs.Track.{begins_track}
use Rattle.ogg_link.specs.Progress.{after_pieces, is_alone, is_crowded}

-- before the first page
abbrev pub start : State
start = record {
  begun = false;
  past_first_pages = false;
  track = None;
  closed = false;
  number = 0;
  progress = record { packets = 0; unfinished = false; key = false; last_key = None };
  settles = false;
  granule = 0;
  base = None;
}

-- the page is of the track with this serial number; where there is none, it begins the track
abbrev pub is_of : Option ℕ → Page → Bool
is_of (Some serial) page = serial == page.serial
is_of None page = is_first page.flags && begins_track page.body

abbrev pub is_of_track : State → Page → Bool
is_of_track state page = is_of state.track page

-- another page of the track stands between the page and the one before
abbrev pub is_missing : State → Page → Bool
is_missing state page = is_some state.track && not (page.number == (state.number + 1) % 2 ^ 32)

-- the page has lacing values, and says that it goes on with a packet where none is unfinished, or does not where one is
abbrev pub is_badly_continued : State → Page → Bool
is_badly_continued state page =
    nat_lt 0 (length page.lacing) && (if state.progress.unfinished then not (is_continued page.flags) else is_continued page.flags)

-- the identification header is not alone on the track's one first page
abbrev pub is_shared : State → Page → Bool
is_shared state page = if is_some state.track then is_first page.flags else not (is_alone page.lacing)

-- what is known after a page of the track
abbrev pub with_page : State → Page → Progress → State
with_page state page progress = record {
  begun = true;
  past_first_pages = state.past_first_pages || not (is_first page.flags);
  track = Some page.serial;
  closed = is_last page.flags;
  number = page.number;
  progress = progress;
  settles = nat_lt 3 progress.packets && nat_lt state.progress.packets progress.packets;
  granule = page.granule;
  base = state.base;
}

-- a page of the track
unfoldable pub track_step : State → Page → Result State LinkFault
track_step state page =
    if state.closed then Err DataAfterEnd
    else if is_missing state page then Err MissingPage
    else if is_badly_continued state page then Err BadContinued
    else if is_shared state page || is_crowded state.progress.packets page.lacing then Err HeadersNotAlone
    else Ok (with_page state page (after_pieces state.progress (segments page.lacing page.body)))

-- what is known after a page of another stream
abbrev pub passed_by : State → Page → State
passed_by state page = record state { begun = true; past_first_pages = state.past_first_pages || not (is_first page.flags); settles = false }

-- the next page of the file
unfoldable pub step : State → Page → Result State LinkFault
step state page =
    if is_first page.flags && state.past_first_pages then Err Chained
    else if not (is_first page.flags) && is_none state.track then Err NoTrack
    else if is_of_track state page then track_step state page
    else Ok (passed_by state page)

-- the end of the file
unfoldable pub ended : State → Result State LinkFault
ended state =
    if is_none state.track then Err NoTrack
    else if state.progress.unfinished || nat_lt state.progress.packets 3 then Err UnfinishedPacket
    else Ok state
