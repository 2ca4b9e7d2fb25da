use Rattle.std.proofs.Common.{◌≡◌, ◌<◌, ℕ, [], length, filter}
use Rattle.std.specs.Prelude.{slice_index_or}
use Rattle.jn_points.specs.Members.{below}
use Rattle.jn_env.specs.ClassFields.{is_field_of}
use Rattle.jn_env.proofs.owned.OwnFields.new.Given as goal

abbrev pub invariant-loop-field : goal.invariant-loop-field
invariant-loop-field l = record {
  long : length l.lists.items ≡ length l.program.classes;
  own : (c : ℕ) → c < length l.program.classes → slice_index_or l.lists.items c [] ≡ filter (is_field_of l.program c) (below l.field);
}
