use Rattle.std.proofs.Common.{◌≡◌, ◌≤◌, ◌*◌, ◌++◌, drop, map}
use Rattle.jn_front.specs.Counted.{counted_read}
use Rattle.jn_front.specs.Limits.{size_rows}
use Rattle.jn_front.proofs.limits.limit_rows.Given as goal

abbrev pub invariant-reads : goal.invariant-reads
invariant-reads l = record {
  number : l.file ≡ l.read-index;
  few : l.before ≤ l.read-index * 1048577;
  rows_are : size_rows 0 0 (map counted_read l.reads) ≡ l.rows.items ++ size_rows l.read-index l.before (map counted_read (drop l.read-index l.reads));
}
