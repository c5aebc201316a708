-- A slice of the program as a slice of its text.
use Rattle.cut_slice.specs.declared.list.Slice.{Slice}
use Rattle.cut_slice.specs.SliceList.{Slice as Frames}

abbrev pub slice_view : Slice → Frames
slice_view slice = record { first = slice.first; past = slice.past }
