-- The tables of the example with a chain of constructors respect its edges, so it is accepted and solved.
use Rattle.std.proofs.Common.{◌≡◌, ℕ, zero, suc, Bool, true, false, List, [], ◌∷◌, Option, Some, None, refl, sym, ◌∙◌, eqb, cond, ◌++◌}
use Rattle.std.specs.Prelude.{slice_index_or, IsTrue, slice_get}
use Rattle.jn_quals.specs.Qualifier.{Qualifier}
use Rattle.jn_points.specs.declared.program.SlotInfo.{SlotInfo}
use Rattle.jn_points.specs.declared.program.Field.{Field}
use Rattle.jn_soundness.specs.Solved.{Solved}
use Rattle.jn_base.specs.declared.number.SlotNo.{SlotNo}
use Rattle.jn_env.specs.Keys.{is_on}
use Rattle.jn_transfer.specs.Contributions.{IsSent, kind_sends, unset_sends}
use Rattle.jn_quals.specs.Order.{no_qual, committed_only, within}
use Rattle.jn_points.specs.declared.point.Point.{Point}
use Rattle.jn_points.specs.declared.point.PointKind.{PointKind}
use Rattle.jn_points.specs.declared.point.PointKind.TheVariants.{Return}
use Rattle.jn_points.specs.declared.program.Body.{Body}
use Rattle.jn_points.specs.Lookup.{body_at, point_at, field_info}
use Rattle.jn_env.specs.Environment.{Env}
use Rattle.jn_env.specs.Order.{SlotWithin, env_in}
use Rattle.jn_transfer.specs.Transfer.{transfer, IsAmong}
use Rattle.jn_transfer.specs.Least.{Respects}
use Rattle.jn_soundness.specs.Accepted.{FieldSettles, Accepted}
use Rattle.jn_soundness.specs.ExampleParts.{point_of}
use Rattle.jn_soundness.specs.ChainExample.{chain_program, chain_world, first_points, second_points, third_points, main_points, first_table, second_table, third_table, main_table}
use Rattle.jn_soundness.proofs.Finite.{Each, each_at, points_each, some_is, AllOf, all_of}
use Rattle.jn_soundness.proofs.ChainShape.{chain_regular}

-- what one point of a body lets flow

module _ (b : ℕ) (pts : List Point) (t : List (Option Env)) where
  abbrev Stays : ℕ × Env → Type 0
  Stays x = SlotWithin (Some x.1) (env_in t x.0)

  abbrev edges_at : ℕ → PointKind → Env → List (ℕ × Env)
  edges_at p k e = transfer chain_program chain_world.sig b k p e

  abbrev Flows : ℕ → Point → Type 0
  Flows p pt = (e : Env) → env_in t p ≡ Some e → (x : ℕ × Env) → IsAmong x (edges_at p pt.kind e) → Stays x

  abbrev kind_at : ℕ → PointKind
  kind_at p = (slice_index_or pts p (point_of (Return None))).kind

  flows : (p : ℕ) (e : Env) → env_in t p ≡ Some e → AllOf Stays (edges_at p (kind_at p) e) → (f : Env) → env_in t p ≡ Some f → (x : ℕ × Env) → IsAmong x (edges_at p (kind_at p) f) → Stays x
  flows p e is h f reached = some_is (λ e. (x : ℕ × Env) → IsAmong x (edges_at p (kind_at p) e) → Stays x) e f (sym is ∙ reached) (all_of Stays (edges_at p (kind_at p) e) h)

-- what flows along each edge is in the table
first_flows : Each (Flows 0 first_points first_table) first_points
first_flows = (
  flows 0 first_points first_table 0 _ refl (record { quals = (refl, (refl, tt)); facts = (refl, tt); assigned = (refl, tt) }, tt),
  (
    flows 0 first_points first_table 1 _ refl (record { quals = (refl, (refl, tt)); facts = (refl, tt); assigned = (refl, tt) }, tt),
    (flows 0 first_points first_table 2 _ refl tt, tt),
  ),
)

second_flows : Each (Flows 1 second_points second_table) second_points
second_flows = (
  flows 1 second_points second_table 0 _ refl (record { quals = (refl, (refl, tt)); facts = (refl, tt); assigned = (refl, tt) }, tt),
  (flows 1 second_points second_table 1 _ refl tt, tt),
)

third_flows : Each (Flows 2 third_points third_table) third_points
third_flows = (
  flows 2 third_points third_table 0 _ refl (record { quals = (refl, (refl, tt)); facts = (refl, tt); assigned = (refl, tt) }, tt),
  (
    flows 2 third_points third_table 1 _ refl (record { quals = (refl, (refl, tt)); facts = (refl, tt); assigned = (refl, tt) }, tt),
    (
      flows 2 third_points third_table 2 _ refl (record { quals = (refl, (refl, tt)); facts = (refl, tt); assigned = (refl, tt) }, tt),
      (flows 2 third_points third_table 3 _ refl tt, tt),
    ),
  ),
)

main_flows : Each (Flows 3 main_points main_table) main_points
main_flows = (
  flows 3 main_points main_table 0 _ refl (record { quals = (refl, (refl, (refl, (refl, tt)))); facts = (refl, (refl, (refl, tt))); assigned = tt }, tt),
  (
    flows 3 main_points main_table 1 _ refl (record { quals = (refl, (refl, (refl, (refl, tt)))); facts = (refl, (refl, (refl, tt))); assigned = tt }, tt),
    (
      flows 3 main_points main_table 2 _ refl (record { quals = (refl, (refl, (refl, (refl, tt)))); facts = (refl, (refl, (refl, tt))); assigned = tt }, tt),
      (
        flows 3 main_points main_table 3 _ refl (record { quals = (refl, (refl, (refl, (refl, tt)))); facts = (refl, (refl, (refl, tt))); assigned = tt }, tt),
        (
          flows 3 main_points main_table 4 _ refl (record { quals = (refl, (refl, (refl, (refl, tt)))); facts = (refl, (refl, (refl, tt))); assigned = tt }, tt),
          (
            flows 3 main_points main_table 5 _ refl (record { quals = (refl, (refl, (refl, (refl, tt)))); facts = (refl, (refl, (refl, tt))); assigned = tt }, tt),
            (flows 3 main_points main_table 6 _ refl tt, tt),
          ),
        ),
      ),
    ),
  ),
)

respects : (b : ℕ) (x : Body) → body_at chain_program b ≡ Some x → Respects chain_program chain_world.sig b (slice_index_or chain_world.tables b [])
respects zero x is = record { entry = record { quals = (refl, (refl, tt)); facts = (refl, tt); assigned = (refl, tt) }; edges = λ p pt e at' reached. each_at (Flows 0 first_points first_table) first_points first_flows p pt at' e reached }
respects (suc zero) x is = record { entry = record { quals = (refl, (refl, tt)); facts = (refl, tt); assigned = (refl, tt) }; edges = λ p pt e at' reached. each_at (Flows 1 second_points second_table) second_points second_flows p pt at' e reached }
respects (suc (suc zero)) x is = record { entry = record { quals = (refl, (refl, tt)); facts = (refl, tt); assigned = (refl, tt) }; edges = λ p pt e at' reached. each_at (Flows 2 third_points third_table) third_points third_flows p pt at' e reached }
respects (suc (suc (suc zero))) x is = record { entry = record { quals = (refl, (refl, (refl, (refl, tt)))); facts = (refl, (refl, (refl, tt))); assigned = tt }; edges = λ p pt e at' reached. each_at (Flows 3 main_points main_table) main_points main_flows p pt at' e reached }
respects (suc (suc (suc (suc b)))) x is = cc

-- fields written where they are committed
settles : (b p : ℕ) (pt : Point) → point_at chain_program b p ≡ Some pt → (e : Env) → FieldSettles chain_world e pt.kind
settles = points_each chain_program (λ b p pt. (e : Env) → FieldSettles chain_world e pt.kind) (
  ((λ e. tt), ((λ e r c. refl), ((λ e. tt), tt))),
  (
    ((λ e r c. refl), ((λ e. tt), tt)),
    (
      ((λ e. tt), ((λ e. tt), ((λ e r c. refl), ((λ e. tt), tt)))),
      (((λ e. tt), ((λ e. tt), ((λ e. tt), ((λ e. tt), ((λ e. tt), ((λ e. tt), ((λ e. tt), tt))))))), tt),
    ),
  ),
)

-- accepted, as no rule has a row
pub chain_accepted : Accepted chain_world
chain_accepted = record {
  shaped = chain_regular;
  respects = respects;
  none = refl;
  starts = each_at (λ n info. info.inferred ≡ false → IsTrue (within info.start (slice_index_or chain_world.sig n no_qual))) chain_program.slots ((λ h. refl), ((λ h. refl), ((λ h. refl), ((λ h. refl), tt))));
  fields = λ b p pt e is reached. settles b p pt is e;
}

-- no slot is inferred, so nothing is sent

nothing_sent : (b p : ℕ) (pt : Point) → point_at chain_program b p ≡ Some pt → (e : Env) (x : ℕ × Qualifier) → IsSent x (kind_sends chain_program b e pt.kind) → ⊥
nothing_sent = points_each chain_program (λ b p pt. (e : Env) (x : ℕ × Qualifier) → IsSent x (kind_sends chain_program b e pt.kind) → ⊥) (
  ((λ e x s. s), ((λ e x s. s), ((λ e x s. unset_first e x s), tt))),
  (
    ((λ e x s. s), ((λ e x s. unset_first e x s), tt)),
    (
      ((λ e x s. s), ((λ e x s. s), ((λ e x s. s), ((λ e x s. unset_second e x s), tt)))),
      (((λ e x s. s), ((λ e x s. s), ((λ e x s. s), ((λ e x s. s), ((λ e x s. s), ((λ e x s. s), ((λ e x s. s), tt))))))), tt),
    ),
  ),
)
  where
    nothing : (t : Bool) (x : ℕ × Qualifier) → IsSent x (cond t [] [] ++ []) → ⊥
    nothing true x s = s
    nothing false x s = s

    unset_first : (e : Env) (x : ℕ × Qualifier) → IsSent x (unset_sends chain_program (0 ∷ []) (0 ∷ []) e.assigned) → ⊥
    unset_first e x s = nothing (is_on (λ k. eqb k 0) (0 ∷ []) e.assigned) x s

    unset_second : (e : Env) (x : ℕ × Qualifier) → IsSent x (unset_sends chain_program (1 ∷ []) (1 ∷ []) e.assigned) → ⊥
    unset_second e x s = nothing (is_on (λ k. eqb k 1) (1 ∷ []) e.assigned) x s

-- the slots of fields
slot_of : (n : ℕ) (m : SlotNo) → Some (record { 0 = n }) ≡ Some m → (info : SlotInfo) → slice_get chain_program.slots n ≡ Some info → (info.inferred ≡ false → info.start.committed ≡ true) → (info : SlotInfo) × (slice_get chain_program.slots m.0 ≡ Some info) × (info.inferred ≡ false → info.start.committed ≡ true)
slot_of n m h info is c = some_is (λ m. (info : SlotInfo) × (slice_get chain_program.slots m.0 ≡ Some info) × (info.inferred ≡ false → info.start.committed ≡ true)) (record { 0 = n }) m h (info, is, c)

field_slots : (f : ℕ) (x : Field) → field_info chain_program f ≡ Some x → (n : SlotNo) → x.slot ≡ Some n → (info : SlotInfo) × (slice_get chain_program.slots n.0 ≡ Some info) × (info.inferred ≡ false → info.start.committed ≡ true)
field_slots = each_at (λ f x. (n : SlotNo) → x.slot ≡ Some n → (info : SlotInfo) × (slice_get chain_program.slots n.0 ≡ Some info) × (info.inferred ≡ false → info.start.committed ≡ true)) chain_program.fields
    ((λ n h. slot_of 0 n h (record { start = committed_only; inferred = false }) refl (λ c. refl)), ((λ n h. slot_of 1 n h (record { start = committed_only; inferred = false }) refl (λ c. refl)), tt))

-- solved, as the signature is closed, too
pub chain_solved : Solved chain_world
chain_solved = record {
  shaped = chain_regular;
  slots = λ f x n io so. field_slots f x io n so;
  starts = chain_accepted.starts;
  respects = respects;
  closed = λ b p pt e is reached x s. absurd (nothing_sent b p pt is e x s);
  none = refl;
}
