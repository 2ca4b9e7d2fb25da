-- Inference as a system of tasks over the packed words of a program's signature.
use Rattle.std.specs.Prelude.{ℕ, ◌+◌, ◌/◌, cond, List, length}
use Rattle.jn_points.specs.declared.program.Program.{Program}
use Rattle.jn_sigs.specs.Packed.{unpacked}
use Rattle.jn_sigtable.specs.System.{System}
use Rattle.jn_tables_law.specs.Tasks.{task_count, is_body_task, task_method, task_sends}
use Rattle.jn_inference_law.specs.Packing.{packed}
use Rattle.jn_inference_law.specs.Reading.{body_reads, pair_reads, has_word}

abbrev pub words_for : ℕ → ℕ
words_for slots = (slots + 20) / 21

module _ (P : Program) where
  -- the slots that a task reads
  abbrev pub task_reads : ℕ → List ℕ
  task_reads t = cond (is_body_task P t) (body_reads P t) (pair_reads P (task_method P t))

-- the system of a program
abbrev pub inference : Program → System
inference P = record {
  bodies = task_count P;
  words = words_for (length P.slots);
  reads = λ t w. has_word w (task_reads P t);
  output = λ t words. packed (task_sends P (unpacked words (length P.slots)) t);
}
