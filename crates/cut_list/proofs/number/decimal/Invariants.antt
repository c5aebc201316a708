use Rattle.std.proofs.Common.{◌≡◌, ◌≤◌, ◌+◌, ◌-◌, ◌*◌, drop}
use Rattle.std.specs.Prelude.{fold}
use Rattle.cut_list.specs.Numbers.{decimal}
use Rattle.cut_list.proofs.number.decimal.Given as goal

-- the digits that are left go on from the value so far
abbrev pub invariant-loop-digit : goal.invariant-loop-digit
invariant-loop-digit l = record {
  small : l.value ≤ 2147483647;
  value : fold (λ value digit. 10 * value + (digit - 48)) l.value (drop l.digit-index l.digits) ≡ decimal l.digits;
}
