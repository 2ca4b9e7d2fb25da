-- Inference has tasks: the bodies of a program, and after them its methods that override. What each body sends under its least table, and each
-- overriding method for its pairs.
use Rattle.std.specs.Prelude.{ℕ, ◌+◌, ◌-◌, ltb, Bool, cond, List, length, slice_index_or}
use Rattle.jn_quals.specs.Qualifier.{Qualifier}
use Rattle.jn_points.specs.declared.program.Program.{Program}
use Rattle.jn_transfer.specs.Pairs.{overriders, pair_sends}
use Rattle.jn_tables_law.specs.Inferable.{least_sends}

module _ (P : Program) where
  -- how many tasks there are: the bodies, and the methods that override
  abbrev pub task_count : ℕ
  task_count = length P.bodies + length (overriders P)

  -- the task is a body
  abbrev pub is_body_task : ℕ → Bool
  is_body_task t = ltb t (length P.bodies)

  -- the method of a task after the bodies
  abbrev pub task_method : ℕ → ℕ
  task_method t = slice_index_or (overriders P) (t - length P.bodies) 0

  -- what a task sends
  abbrev pub task_sends : List Qualifier → ℕ → List (ℕ × Qualifier)
  task_sends s t = cond (is_body_task t) (least_sends P s t) (pair_sends P s (task_method t))
