-- The slots that a task can reach, and masks that have none of their bits.
use Rattle.std.specs.Prelude.{ℕ, ◌*◌, ◌/◌, ◌%◌, ◌^◌, ◌≡◌, cond, List, [], ◌∷◌, ◌++◌}
use Rattle.jn_points.specs.declared.program.Program.{Program}
use Rattle.jn_points.specs.Lookup.{method_at}
use Rattle.jn_tables_law.specs.Tasks.{is_body_task, task_method}
use Rattle.jn_transfer.specs.Pairs.{under}
use Rattle.jn_recheck_law.specs.RuleReads.{method_slots, rule_reads}

-- the three bits of each of the slots are zero in these masks, one for each word
abbrev pub AreUnlost : (ℕ → ℕ) → List ℕ → Type 0
AreUnlost lost [] = Unit {0}
AreUnlost lost (i ∷ is) = (lost (i / 21) / 2 ^ (3 * (i % 21)) % 8 ≡ 0) × AreUnlost lost is

module _ (P : Program) where
  -- receivers, parameters and results of some methods
  abbrev pub methods_slots : List ℕ → List ℕ
  methods_slots [] = []
  methods_slots (k ∷ ks) = method_slots (method_at P k) ++ methods_slots ks

  -- of an overriding method and of those that it overrides
  abbrev pub pair_slots : ℕ → List ℕ
  pair_slots m = method_slots (method_at P m) ++ methods_slots (under P m)

  -- all slots that a task reads or sends to are among these
  abbrev pub task_slots : ℕ → List ℕ
  task_slots t = cond (is_body_task P t) (rule_reads P t) (pair_slots (task_method P t))
