-- When a pass may work on a table, and how it comes back.
use Rattle.std.specs.Prelude.{◌≡◌, ◌≤◌, List}
use Rattle.jn_base.specs.declared.number.BodyNo.{BodyNo}
use Rattle.jn_sigtable.specs.declared.table.SigTable.{SigTable}
use Rattle.jn_sigtable.specs.declared.table.Pass.{Pass}
use Rattle.jn_sigtable.specs.System.{System}
use Rattle.jn_sigtable.specs.Machine.{IsAtRest}
use Rattle.jn_sigtable.specs.Words.{system_of, view_of, bound_of, IsPassOf}
use Rattle.jn_worklist.specs.Plans.{plan_of}

module _ {C : Type 0} {K : _} (describe : C → System) (table : SigTable C K) where
  -- the pass is the table's and at rest, and the plan is the system's
  pub record CanWork (readers : List (List BodyNo)) (pass : Pass C) : Type 0 where
    pub own : IsPassOf describe table pass
    pub plan : readers ≡ plan_of (describe (system_of table))
    pub idle : IsAtRest (describe (system_of table)) (view_of pass)

  -- the pass is still the table's and at rest, with the share that it had, and has taken no more bodies than all passes may
  pub record HasWorked (before after : Pass C) : Type 0 where
    pub own : IsPassOf describe table after
    pub idle : IsAtRest (describe (system_of table)) (view_of after)
    pub share : (view_of after).share ≡ (view_of before).share
    pub bound : (view_of after).taken ≤ bound_of describe table
