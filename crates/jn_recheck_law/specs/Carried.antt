-- Which tasks of inference do the same in two programs.
use Rattle.std.specs.Prelude.{ℕ, ◌≡◌, true, false, List, length}
use Rattle.jn_points.specs.declared.program.Program.{Program}
use Rattle.jn_points.specs.Lookup.{body_at}
use Rattle.jn_tables_law.specs.Tasks.{is_body_task, task_method}
use Rattle.jn_transfer.specs.Pairs.{overriders, under}
use Rattle.jn_recheck_law.specs.Alike.{SameDeclarations}
use Rattle.jn_recheck_law.specs.Reusable.{ActAlike}

-- the programs, each with the texts of its names, declare the same, and have as many bodies and the same methods that override
pub record HaveSameTasks (names more : List (List ℕ)) (P Q : Program) : Type 0 where
  pub declarations : SameDeclarations names more P Q
  pub bodies : length P.bodies ≡ length Q.bodies
  pub overriders : overriders P ≡ overriders Q

-- a body does the same in both, wherever its points stand and whatever the texts of its strings; a method overrides the same ones. No qualifier is compared
pub record DoesTheSame (P Q : Program) (t : ℕ) : Type 0 where
  pub body : is_body_task P t ≡ true → ActAlike (body_at P t) (body_at Q t)
  pub under : is_body_task P t ≡ false → under P (task_method P t) ≡ under Q (task_method P t)
