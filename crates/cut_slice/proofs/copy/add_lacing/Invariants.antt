use Rattle.std.proofs.Common.{◌≡◌, ◌-◌, ◌/◌, ◌%◌, ◌++◌}
use Rattle.cut_slice.specs.Copy.{lacing_values, lacing_of}
use Rattle.cut_slice.proofs.copy.add_lacing.Given as goal

-- the values so far and those that are left
abbrev pub invariant-loop : goal.invariant-loop
invariant-loop l = l.lacing.items ++ lacing_values (l.size / 255 - l.counter) (l.size % 255) ≡ l.fn.lacing.items ++ lacing_of l.size
