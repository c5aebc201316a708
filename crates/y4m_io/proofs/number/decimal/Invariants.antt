use Rattle.std.proofs.Common.{◌≡◌, ◌≤◌, ◌+◌, ◌-◌, ◌*◌, drop}
use Rattle.std.specs.Prelude.{fold, min}
use Rattle.y4m_io.specs.Numbers.{value_of}
use Rattle.y4m_io.proofs.number.decimal.Given as goal

-- the digits that are left go on from the value so far
abbrev pub invariant-loop-digit : goal.invariant-loop-digit
invariant-loop-digit l = record {
  small : l.value ≤ 4294967296;
  value : min (fold (λ value digit. 10 * value + (digit - 48)) l.value (drop l.digit-index l.digits)) 4294967296 ≡ min (value_of l.digits) 4294967296;
}
