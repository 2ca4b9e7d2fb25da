-- What inference and checks ask of a program and of its classes' fields.
use Rattle.std.specs.Prelude.{ℕ, ◌≡◌, ◌<◌, ◌^◌, false, List, length}
use Rattle.std.proofs.Math.Nat.{ℕ_set}
use Rattle.std.specs.Coded.{coded_ℕ, coded_list, le_prop}
use base.Stored.{Coded-set}
use Rattle.jn_points.specs.declared.program.Program.{Program}
use Rattle.jn_env.specs.ClassFields.{AreOwnFields}
use Rattle.jn_contrib.specs.declared.listed.Overrider.{Overrider}
use Rattle.jn_transfer.specs.Pairs.{under}
use Rattle.jn_contrib.specs.Entries.{AreOverriders}
use Rattle.jn_tables_law.specs.Inferable.{IsInferable}
use Rattle.jn_tables_law.specs.Tasks.{task_count, task_method, is_body_task}
use Rattle.jn_inference_law.proofs.OneFact.{inferable_prop}

-- the program can be inferred, and the lists are its classes' reference fields
pub record AreReady (P : Program) (own : List (List ℕ)) : Type 0 where
  pub inferable : IsInferable P
  pub fields : AreOwnFields P own

lists_set : (n : ℕ) → IsSet (List ℕ)
lists_set n = Coded-set (coded_list coded_ℕ)

-- this is one fact
pub ready_prop : (P : Program) (own : List (List ℕ)) → IsProp (AreReady P own)
ready_prop P own = hlevel (lists_set, ℕ_set, inferable_prop)

-- the program's tasks can be numbered, and these are its methods that override
pub record AreTasks (P : Program) (own : List (List ℕ)) (list : List Overrider) : Type 0 where
  pub ready : AreReady P own
  pub overriders : AreOverriders P list
  pub few : task_count P < 2 ^ 32

-- this is one fact, too
numbers_set : IsSet (List ℕ)
numbers_set = lists_set 0

pub tasks_prop : (P : Program) (own : List (List ℕ)) (list : List Overrider) → IsProp (AreTasks P own list)
tasks_prop P own list = hlevel (numbers_set, ready_prop, le_prop)

-- the overriding method of a task after the bodies
pub record IsOverriderOf (P : Program) (t : ℕ) (o : Overrider) : Type 0 where
  pub behind : is_body_task P t ≡ false
  pub method : o.method ≡ task_method P t
  pub inside : o.method < length P.methods
  pub under : o.under ≡ under P o.method
