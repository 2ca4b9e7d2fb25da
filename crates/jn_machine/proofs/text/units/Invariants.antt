use Rattle.std.proofs.Common.{◌≡◌, ◌≤◌, ◌*◌, ◌+◌, drop}
use Rattle.jn_heap.specs.Values as spec
use Rattle.jn_machine.proofs.text.units.Given as goal

abbrev pub invariant-loop-byte : goal.invariant-loop-byte
invariant-loop-byte l = record {
  few : l.count ≤ 2 * l.byte-index;
  whole : l.count + spec.units (drop l.byte-index l.bytes) ≡ spec.units l.text;
}
