use Rattle.jn_soundness.proofs.Overriding.{program_typed}
use Rattle.jn_progress_law.proofs.Runs.{start_live}
use Rattle.jn_good_law.proofs.Kept.{start_constructs, step_calls, step_constructs, step_lives}
use Rattle.jn_good_law.proofs.law.steps_keep_good_states.Goals as goal

pub returns : goal.returns
returns c =
    let law = c.steps_keep_marks.ensures in
    let typed = c.regular_programs_are_typed.ensures.typed in
    record {
      start = λ W S R N m b main limits words. record {
        marked = law.start W S m b main limits words;
        typed = law.start_types W S (typed W.program R N) m b main limits words;
        live = start_live W.program R m b main limits words;
        calls = tt;
        constructs = start_constructs W.program limits b words;
      };
      step = λ W S R N names st next mk good is.
          let B = typed W.program R N in
          let Y = program_typed W S.shaped B S.none in
          record {
            marked = law.step W S B names st next mk good.marked good.typed is;
            typed = law.step_types W S B names st next good.typed is;
            live = step_lives W B.ordered Y R N names st next good.typed good.live (law.null W S st mk good.marked) is;
            calls = step_calls W B.ordered Y R names st next good.typed good.calls is;
            constructs = step_constructs W B.ordered Y R S.shaped names st next mk good.marked good.constructs is;
          };
      no_fault = λ W S st mk good fault. law.null W S st mk good.marked fault;
    }
