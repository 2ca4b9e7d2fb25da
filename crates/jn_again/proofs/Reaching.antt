-- What a task can reach.
use Rattle.std.proofs.Common.{◌≡◌, ℕ, Bool, true, cond, sym, subst}
use Rattle.std.specs.Prelude.{◌↔◌}
use Rattle.jn_points.specs.declared.program.Program.{Program}
use Rattle.jn_contrib.specs.declared.listed.Overrider.{Overrider}
use Rattle.jn_tables_law.specs.Tasks.{is_body_task, task_method}
use Rattle.jn_inference_law.specs.Inference.{inference}
use Rattle.jn_recheck_law.specs.RuleReads.{rule_reads}
use Rattle.jn_resume.specs.Keepable.{IsBlind, StandsApart}
use Rattle.jn_system.specs.Ready.{IsOverriderOf}
use Rattle.jn_recheck_law.specs.Unread.{AreUnlost, pair_slots, task_slots}
use Rattle.jn_recheck_law.proofs.Apart.{apart}

module _ (P : Program) (bits : ℕ → ℕ) (t : ℕ) where
  pub body_off : (r : Bool) → is_body_task P t ≡ true → (r ≡ true) ↔ AreUnlost bits (rule_reads P t) → (r ≡ true) ↔ AreUnlost bits (task_slots P t)
  body_off r e h = subst (λ (c : Bool). (r ≡ true) ↔ AreUnlost bits (cond c (rule_reads P t) (pair_slots P (task_method P t)))) (sym e) h

  pub pair_off : (r : Bool) (o : Overrider) → IsOverriderOf P t o → (r ≡ true) ↔ AreUnlost bits (pair_slots P o.method) → (r ≡ true) ↔ AreUnlost bits (task_slots P t)
  pair_off r o is h = subst (λ (c : Bool). (r ≡ true) ↔ AreUnlost bits (cond c (rule_reads P t) (pair_slots P (task_method P t)))) (sym is.behind) (subst (λ (m : ℕ). (r ≡ true) ↔ AreUnlost bits (pair_slots P m)) is.method h)

  pub off_blind : (r : Bool) → (r ≡ true) ↔ AreUnlost bits (task_slots P t) → r ≡ true → IsBlind (inference P) bits t
  off_blind r h e = (apart P bits t (h.0 e)).blind

  pub off_apart : (r : Bool) → (r ≡ true) ↔ AreUnlost bits (task_slots P t) → r ≡ true → StandsApart (inference P) bits t
  off_apart r h e = apart P bits t (h.0 e)
