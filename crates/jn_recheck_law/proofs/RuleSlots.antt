-- The slots on which rows depend hold what the body's table depends on.
use Rattle.std.proofs.Common.{ℕ, List, [], ◌∷◌, ◌++◌}
use Rattle.jn_quals.specs.Qualifier.{Qualifier}
use Rattle.jn_points.specs.declared.point.Point.{Point}
use Rattle.jn_points.specs.declared.point.PointKind.{PointKind}
use Rattle.jn_points.specs.declared.point.PointKind.TheVariants.{FieldRead, Call}
use Rattle.jn_points.specs.declared.program.Program.{Program}
use Rattle.jn_points.specs.Lookup.{body_at, method_at, method_in, points_of}
use Rattle.jn_env.specs.Keys.{own_keys}
use Rattle.jn_env.specs.Order.{Table}
use Rattle.jn_transfer.specs.Least.{IsLeastTable}
use Rattle.jn_recheck_law.specs.Alike.{SameDeclarations}
use Rattle.jn_recheck_law.specs.Slots.{Agree}
use Rattle.jn_recheck_law.specs.RuleReads.{fields_slots, kind_slots, method_slots, points_slots, rule_reads}
use Rattle.jn_recheck_law.specs.Reusable.{ActAlike}
use Rattle.jn_recheck_law.proofs.Agreed as agreed
use Rattle.jn_recheck_law.proofs.Tables.{AllRead, ReadsSame, least_same}

-- the three parts of them
module _ (Q : Program) (s t : List Qualifier) (b : ℕ) (h : Agree s t (rule_reads Q b)) where
  pub method_agrees : Agree s t (method_slots (method_in Q b))
  method_agrees = agreed.agree_left s t (method_slots (method_in Q b)) (points_slots Q (points_of (body_at Q b)) ++ fields_slots Q (own_keys Q b)) h

  both : Agree s t (points_slots Q (points_of (body_at Q b)) ++ fields_slots Q (own_keys Q b))
  both = agreed.agree_right s t (method_slots (method_in Q b)) (points_slots Q (points_of (body_at Q b)) ++ fields_slots Q (own_keys Q b)) h

  pub points_agree : Agree s t (points_slots Q (points_of (body_at Q b)))
  points_agree = agreed.agree_left s t (points_slots Q (points_of (body_at Q b))) (fields_slots Q (own_keys Q b)) both

  pub own_agree : Agree s t (fields_slots Q (own_keys Q b))
  own_agree = agreed.agree_right s t (points_slots Q (points_of (body_at Q b))) (fields_slots Q (own_keys Q b)) both

module _ (names more : List (List ℕ)) (P Q : Program) (s t : List Qualifier) (d : SameDeclarations names more P Q) where
  reads_same : (k : PointKind) → Agree s t (kind_slots Q k) → ReadsSame P Q s t k
  reads_same (FieldRead dst r f) h = agreed.field_qual_same names more P Q s t d f.0 h
  reads_same (Call dst m r direct args) h = agreed.result_same names more P Q s t d m.0 (agreed.agree_result s t (method_at Q m.0) h)
  reads_same kind h = tt

  all_read : (ys : List Point) → Agree s t (points_slots Q ys) → AllRead P Q s t ys
  all_read [] h = tt
  all_read (y ∷ ys) h = (reads_same y.kind (agreed.agree_left s t (kind_slots Q y.kind) (points_slots Q ys) h), all_read ys (agreed.agree_right s t (kind_slots Q y.kind) (points_slots Q ys) h))

  pub least_kept : (b : ℕ) → ActAlike (body_at P b) (body_at Q b) → Agree s t (rule_reads Q b) → (T : Table) → IsLeastTable P s b T → IsLeastTable Q t b T
  least_kept b same h =
      let m = method_agrees Q s t b h in
      least_same names more P Q s t d b same
      (agreed.given_receiver names more P Q s t d b same (agreed.agree_receiver s t (method_in Q b) m))
      (agreed.given_params names more P Q s t d b same (agreed.agree_params s t (method_in Q b) m))
      (all_read (points_of (body_at Q b)) (points_agree Q s t b h))
