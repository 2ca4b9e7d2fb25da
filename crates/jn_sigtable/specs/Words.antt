-- What contracts say of a table and a pass.
use Rattle.std.specs.Prelude.{ℕ, List, Option, Some, take}
use Rattle.jn_sigtable.specs.declared.view.View.{View}
use Rattle.jn_sigtable.specs.declared.table.SigTable.{SigTable}
use Rattle.jn_sigtable.specs.declared.table.Pass.{Pass}
use Rattle.jn_sigtable.specs.System.{System, limit_of}
use Rattle.jn_sigtable.specs.Machine.{IsSeatOf}

-- what the pass knows
abbrev pub view_of : {C : Type 0} → Pass C → View (Option C)
view_of p = p.seat.me.0

module _ {C : Type 0} {K : _} where
  abbrev pub system_of : SigTable C K → C
  system_of t = t.counted.system

  -- the words that the table began with
  abbrev pub started_at : (C → System) → SigTable C K → List ℕ
  started_at describe t = take (describe t.counted.system).words t.table.shared.key.words.items

  -- the most bodies that all passes of the table may have taken and not given back
  abbrev pub bound_of : (C → System) → SigTable C K → ℕ
  bound_of describe t = limit_of (describe t.counted.system) (started_at describe t)

  -- the pass steps on this table, and its view has the table's system and bound
  abbrev pub IsPassOf : (C → System) → SigTable C K → Pass C → Type 0
  IsPassOf describe t p = IsSeatOf t.table.shared.table_id (Some t.counted.system) (bound_of describe t) p.seat
