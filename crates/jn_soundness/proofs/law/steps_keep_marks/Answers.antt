use Rattle.jn_soundness.proofs.Accepts.{accepted_checked, accepted_mains}
use Rattle.jn_soundness.proofs.Overriding.{program_typed, mains_typed}
use Rattle.jn_soundness.proofs.Solves.{solved_accepted}
use Rattle.jn_soundness.proofs.Sound.{no_fault, start_marked}
use Rattle.jn_soundness.proofs.Whole.{is_main, start_typed, step_kept, step_types}
use Rattle.jn_soundness.proofs.law.steps_keep_marks.Goals as goal

pub returns : goal.returns
returns c = record {
  start = λ W S m b main limits words.
      let A = solved_accepted W S in
      start_marked W (accepted_checked W A) b (is_main W (accepted_checked W A) (accepted_mains W A) m b main) limits words;
  start_types = λ W S B m b main limits words. start_typed W B.ordered (program_typed W S.shaped B S.none) b (mains_typed W S.shaped B m b main) limits words;
  step = λ W S B names st next mk good typed is. step_kept W B.ordered (program_typed W S.shaped B S.none) (accepted_checked W (solved_accepted W S)) names st next mk good typed is;
  step_types = λ W S B names st next typed is. step_types W B.ordered (program_typed W S.shaped B S.none) names st next typed is;
  null = λ W S st mk good fault. no_fault W (accepted_checked W (solved_accepted W S)) st mk good fault;
}
