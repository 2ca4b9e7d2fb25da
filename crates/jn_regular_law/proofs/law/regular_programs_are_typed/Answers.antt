use Rattle.jn_regular_law.proofs.Shapes.{regular_shaped}
use Rattle.jn_regular_law.proofs.Whole.{regular_slots, regular_inside, regular_typed}
use Rattle.jn_regular_law.proofs.law.regular_programs_are_typed.Goals as goal

pub returns : goal.returns
returns c = record {
  shaped = λ P R. regular_shaped P R;
  slots = λ P R f x n is slot. regular_slots P R f x n is slot;
  inside = λ P R b l. regular_inside P R b l;
  typed = λ P R none. regular_typed P R none;
}
