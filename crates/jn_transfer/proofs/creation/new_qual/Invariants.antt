use Rattle.std.proofs.Common.{◌≡◌, ◌&&◌, ◌||◌, drop}
use Rattle.jn_transfer.specs.Transfer.{any_empty, any_free, all_settled}
use Rattle.jn_transfer.proofs.creation.new_qual.Given as goal

abbrev pub invariant-loop-qual : goal.invariant-loop-qual
invariant-loop-qual l = record {
  empty : (l.is_empty || any_empty (drop l.qual-index l.quals)) ≡ any_empty l.quals;
  free : (l.is_free || any_free (drop l.qual-index l.quals)) ≡ any_free l.quals;
  settled : (l.is_settled && all_settled (drop l.qual-index l.quals)) ≡ all_settled l.quals;
}
