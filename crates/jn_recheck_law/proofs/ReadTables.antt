-- A body that does the same has the least table that it had, where the signatures agree on the slots that it reads when it runs.
use Rattle.std.proofs.Common.{◌≡◌, ℕ, List, [], ◌∷◌, ◌++◌, Option, Some, None, refl, subst}
use Rattle.jn_base.specs.declared.number.SlotNo.{SlotNo}
use Rattle.jn_quals.specs.Qualifier.{Qualifier}
use Rattle.jn_points.specs.declared.point.Point.{Point}
use Rattle.jn_points.specs.declared.point.PointKind.{PointKind}
use Rattle.jn_points.specs.declared.point.PointKind.TheVariants.{FieldRead, Call}
use Rattle.jn_points.specs.declared.program.Program.{Program}
use Rattle.jn_points.specs.Lookup.{body_at, field_info, method_at, method_in, points_of, slots_of}
use Rattle.jn_env.specs.Order.{Table}
use Rattle.jn_transfer.specs.Contributions.{field_slot_of, receiver_slot_of, result_slot_of}
use Rattle.jn_transfer.specs.Least.{IsLeastTable}
use Rattle.jn_inference_law.specs.Reading.{body_reads, given_reads, kind_reads, points_reads, slot_list, slot_lists}
use Rattle.jn_recheck_law.specs.Alike.{SameDeclarations}
use Rattle.jn_recheck_law.specs.Slots.{Agree}
use Rattle.jn_recheck_law.specs.Slots as slots
use Rattle.jn_recheck_law.specs.Reusable.{ActAlike}
use Rattle.jn_recheck_law.proofs.Agreed as agreed
use Rattle.jn_recheck_law.proofs.Tables.{AllRead, ReadsSame, least_same}

-- slots as lists of numbers, said twice
one_list : (x : Option SlotNo) → slot_list x ≡ slots.slot_list x
one_list None = refl
one_list (Some n) = refl

all_lists : (xs : List (Option SlotNo)) → slot_lists xs ≡ slots.slot_lists xs
all_lists [] = refl
all_lists (x ∷ xs) = (λ i. one_list x i ++ all_lists xs i)

module _ (names more : List (List ℕ)) (P Q : Program) (s t : List Qualifier) (d : SameDeclarations names more P Q) where
  reads_same : (k : PointKind) → Agree s t (kind_reads Q k) → ReadsSame P Q s t k
  reads_same (FieldRead dst r f) h = agreed.field_qual_same names more P Q s t d f.0 (subst (Agree s t) (one_list (field_slot_of (field_info Q f.0))) h)
  reads_same (Call dst m r direct args) h = agreed.result_same names more P Q s t d m.0 (subst (Agree s t) (one_list (result_slot_of (method_at Q m.0))) h)
  reads_same kind h = tt

  all_read : (ys : List Point) → Agree s t (points_reads Q ys) → AllRead P Q s t ys
  all_read [] h = tt
  all_read (y ∷ ys) h = (reads_same y.kind (agreed.agree_left s t (kind_reads Q y.kind) (points_reads Q ys) h), all_read ys (agreed.agree_right s t (kind_reads Q y.kind) (points_reads Q ys) h))

  module _ (b : ℕ) (same : ActAlike (body_at P b) (body_at Q b)) (h : Agree s t (body_reads Q b)) where
    given : Agree s t (given_reads (method_in Q b))
    given = agreed.agree_left s t (given_reads (method_in Q b)) (points_reads Q (points_of (body_at Q b))) h

    receiver : Agree s t (slots.slot_list (receiver_slot_of (method_in Q b)))
    receiver = subst (Agree s t) (one_list (receiver_slot_of (method_in Q b))) (agreed.agree_left s t (slot_list (receiver_slot_of (method_in Q b))) (slot_lists (slots_of (method_in Q b))) given)

    params : Agree s t (slots.slot_lists (slots_of (method_in Q b)))
    params = subst (Agree s t) (all_lists (slots_of (method_in Q b))) (agreed.agree_right s t (slot_list (receiver_slot_of (method_in Q b))) (slot_lists (slots_of (method_in Q b))) given)

    pub least_kept : (T : Table) → IsLeastTable P s b T → IsLeastTable Q t b T
    least_kept =
        least_same names more P Q s t d b same
        (agreed.given_receiver names more P Q s t d b same receiver)
        (agreed.given_params names more P Q s t d b same params)
        (all_read (points_of (body_at Q b)) (agreed.agree_right s t (given_reads (method_in Q b)) (points_reads Q (points_of (body_at Q b))) h))
