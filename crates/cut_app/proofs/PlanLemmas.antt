-- The text of a plan, and the causes of its refusals. The command `plan` cites these.
use Rattle.std.proofs.Common.{◌≡◌, ℕ, ◌≤◌, ◌<◌, List, [], ◌∷◌, length, map, Some, Ok, refl, ap, sym, inl, inr, ◌∙◌, arith}
use Rattle.std.proofs.lemmas.List.{length-drop}
use Rattle.vid_desk.specs.Meaning.{File, bytes_at, place_of}
use Rattle.ogg_link.specs.Track.{is_key}
use Rattle.src_index.specs.Index.{Index, frame_count, keys_of}
use Rattle.src_index.specs.Loading.{IsIndexed, longest}
use Rattle.src_index.specs.Track.{frames_of}
use Rattle.src_index.proofs.IndexLemmas.{index_count, index_keys}
use Rattle.cut_list.specs.EditList.{list_of}
use Rattle.cut_list.specs.Slices.{Slices}
use Rattle.cut_plan.specs.Runs.{plan_of}
use Rattle.cut_desk.specs.Inputs.{contents, longest_list, IsTooLong}
use Rattle.cut_desk.proofs.InputLemmas.{contents_is}
use Rattle.cut_report.specs.declared.status.Status.{Status}
use Rattle.cut_report.specs.declared.status.Status.TheVariants.{Done, Usage, NoFile, BadSource, BadList, Range, ReadFault, WriteFault, NoMem, BadY4m, TooLong, SameName, Changed, InPointNotKey, NotYet}
use Rattle.cut_app.specs.Causes.{list_input, source_input, PlanCaused}
use Rattle.cut_app.specs.Plans.{IsRead, Plan, plan_over}
use Rattle.cut_app.specs.Steps.{RefusesInputs, RefusesList, RefusesRange}
use Rattle.cut_app.proofs.JudgeLemmas.{both_there}

-- a list that is too long, or a source
pub list_long : (files : List File) (plan : Plan) (text bytes : List ℕ) (size : ℕ) → contents files plan.list ≡ Some text → contents files plan.source ≡ Some bytes → size ≡ length text → longest_list < size
    → IsTooLong files (list_input plan.list ∷ source_input plan.source ∷ []) 1 size
list_long files plan text bytes size list source is long = (both_there files plan text bytes list source, inl (refl, (text, list, is, omega (arith, is, long))))

pub source_long : (files : List File) (plan : Plan) (text bytes : List ℕ) (size : ℕ) → contents files plan.list ≡ Some text → contents files plan.source ≡ Some bytes → length text ≤ longest_list → size ≡ length bytes → longest < size
    → IsTooLong files (list_input plan.list ∷ source_input plan.source ∷ []) 2 size
source_long files plan text bytes size list source short is long = (both_there files plan text bytes list source, inr ((text, list, short), inl (refl, (bytes, source, is, omega (arith, is, long)))))

-- both inputs are there and within their limits, and judging finds a source of this index
pub record GivesIndex (files : List File) (plan : Plan) (text : List ℕ) (index : Index) : Type 0 where
  pub bytes : List ℕ
  pub list_is : contents files plan.list ≡ Some text
  pub short : length text ≤ longest_list
  pub source_is : contents files plan.source ≡ Some bytes
  pub few : length bytes ≤ longest
  pub indexed : IsIndexed bytes index

-- so say the places and sizes that were found
pub gives_of : (files : List File) (plan : Plan) (list source size : ℕ) (index : Index) → place_of files plan.list ≡ Some list → place_of files plan.source ≡ Some source
    → size ≡ length (bytes_at files list) → size ≤ longest_list → (length (bytes_at files source) ≤ longest) × IsIndexed (bytes_at files source) index → GivesIndex files plan (bytes_at files list) index
gives_of files plan list source size index here there is short judged = record {
  bytes = bytes_at files source;
  list_is = contents_is files plan.list list (bytes_at files list) here refl;
  short = omega (arith, is, short);
  source_is = contents_is files plan.source source (bytes_at files source) there refl;
  few = judged.0;
  indexed = judged.1;
}

-- then these are the packets of the source
pub read_of : (files : List File) (plan : Plan) (text : List ℕ) (index : Index) (gives : GivesIndex files plan text index) → IsRead files plan text gives.indexed.packets
read_of files plan text index gives = record {
  list_is = gives.list_is;
  short = gives.short;
  found = record { bytes = gives.bytes; there = gives.source_is; judged = (gives.few, gives.indexed.judged) };
}

-- and slices have over them the runs that they have by the index
pub plan_by : (bytes : List ℕ) (index : Index) (indexed : IsIndexed bytes index) (slices : Slices) → plan_over indexed.packets slices ≡ plan_of (frame_count index ∷ []) (keys_of index ∷ []) slices
plan_by bytes index indexed slices =
    let packets = indexed.packets in
    let frames : length (frames_of packets) ≡ frame_count index = omega (arith, index_count bytes packets index indexed.index_of, length-drop 3 packets) in
    ap (λ n. plan_of (n ∷ []) (map is_key (frames_of packets) ∷ []) slices) frames
    ∙ ap (λ keys. plan_of (frame_count index ∷ []) (keys ∷ []) slices) (sym (index_keys bytes packets index indexed.index_of))

-- a refusal of the inputs is a cause of a plan
pub inputs_refused : (files : List File) (plan : Plan) (status : Status) → RefusesInputs files plan status → PlanCaused plan files status
inputs_refused files plan (NoFile input) refuses = refuses
inputs_refused files plan (TooLong input size) refuses = refuses
inputs_refused files plan ReadFault refuses = tt
inputs_refused files plan NoMem refuses = tt
inputs_refused files plan (BadSource source what) refuses = absurd refuses
inputs_refused files plan (BadList line why) refuses = absurd refuses
inputs_refused files plan (Range line) refuses = absurd refuses
inputs_refused files plan Done refuses = absurd refuses
inputs_refused files plan Usage refuses = absurd refuses
inputs_refused files plan SameName refuses = absurd refuses
inputs_refused files plan Changed refuses = absurd refuses
inputs_refused files plan WriteFault refuses = absurd refuses
inputs_refused files plan InPointNotKey refuses = absurd refuses
inputs_refused files plan (BadY4m frame why) refuses = absurd refuses
inputs_refused files plan NotYet refuses = absurd refuses

-- so is one of the list
pub list_refused : (files : List File) (plan : Plan) (text : List ℕ) (index : Index) (status : Status) → GivesIndex files plan text index → RefusesList text status → PlanCaused plan files status
list_refused files plan text index (BadList line why) gives refuses = (text, gives.indexed.packets, read_of files plan text index gives, refuses)
list_refused files plan text index ReadFault gives refuses = tt
list_refused files plan text index NoMem gives refuses = tt
list_refused files plan text index (NoFile input) gives refuses = absurd refuses
list_refused files plan text index (BadSource source what) gives refuses = absurd refuses
list_refused files plan text index (Range line) gives refuses = absurd refuses
list_refused files plan text index (TooLong input size) gives refuses = absurd refuses
list_refused files plan text index Done gives refuses = absurd refuses
list_refused files plan text index Usage gives refuses = absurd refuses
list_refused files plan text index SameName gives refuses = absurd refuses
list_refused files plan text index Changed gives refuses = absurd refuses
list_refused files plan text index WriteFault gives refuses = absurd refuses
list_refused files plan text index InPointNotKey gives refuses = absurd refuses
list_refused files plan text index (BadY4m frame why) gives refuses = absurd refuses
list_refused files plan text index NotYet gives refuses = absurd refuses

-- and one of its range
pub range_refused : (files : List File) (plan : Plan) (text : List ℕ) (slices : Slices) (index : Index) (status : Status) → GivesIndex files plan text index → list_of text ≡ Ok slices → RefusesRange index slices status → PlanCaused plan files status
range_refused files plan text slices index (Range line) gives listed refuses = (text, gives.indexed.packets, slices, read_of files plan text index gives, listed, plan_by gives.bytes index gives.indexed slices ∙ refuses)
range_refused files plan text slices index NoMem gives listed refuses = tt
range_refused files plan text slices index ReadFault gives listed refuses = absurd refuses
range_refused files plan text slices index (NoFile input) gives listed refuses = absurd refuses
range_refused files plan text slices index (BadSource source what) gives listed refuses = absurd refuses
range_refused files plan text slices index (BadList line why) gives listed refuses = absurd refuses
range_refused files plan text slices index (TooLong input size) gives listed refuses = absurd refuses
range_refused files plan text slices index Done gives listed refuses = absurd refuses
range_refused files plan text slices index Usage gives listed refuses = absurd refuses
range_refused files plan text slices index SameName gives listed refuses = absurd refuses
range_refused files plan text slices index Changed gives listed refuses = absurd refuses
range_refused files plan text slices index WriteFault gives listed refuses = absurd refuses
range_refused files plan text slices index InPointNotKey gives listed refuses = absurd refuses
range_refused files plan text slices index (BadY4m frame why) gives listed refuses = absurd refuses
range_refused files plan text slices index NotYet gives listed refuses = absurd refuses
