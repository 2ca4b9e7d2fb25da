-- What a point that doesn't lead there carries there: nothing.
use Rattle.std.proofs.Common.{◌≡◌, ℕ, Bool, true, false, cond, ◌&&◌, ◌||◌, List, [], ◌∷◌, ◌++◌, Option, Some, None, refl, ap, ◌∙◌}
use Rattle.std.specs.Prelude.{eqb}
use Rattle.std.proofs.lemmas.Bool.{true≢false}
use Rattle.jn_quals.specs.Qualifier.{Qualifier}
use Rattle.jn_quals.specs.Order.{is_none, null_part, without_null}
use Rattle.jn_points.specs.declared.point.Point.{Point}
use Rattle.jn_points.specs.declared.point.PointKind.{PointKind}
use Rattle.jn_points.specs.declared.point.PointKind.TheVariants.{Const, Move, Unary, Binary, Concat, SameRef, FieldRead, FieldWrite, StaticRead, StaticWrite, ElemRead, ElemWrite, ArrayLen, NewArray, ArrayOf, New, CtorCall, Call, StrOp, Print, Cast, TestInst, TestNull, Branch, Goto, Return}
use Rattle.jn_points.specs.declared.program.Program.{Program}
use Rattle.jn_env.specs.Environment.{Env}
use Rattle.jn_env.specs.Order.{qual_at}
use Rattle.jn_transfer.specs.Transfer.{learn, refine, side, transfer}
use Rattle.jn_reasons_law.specs.declared.item.Bit.{Bit}
use Rattle.jn_reasons_law.specs.declared.item.Place.TheVariants.{OfPoint}
use Rattle.jn_reasons_law.specs.Items.{on}
use Rattle.jn_reasons_law.specs.Sources.{behind}
use Rattle.jn_reasons.specs.Listed.{placed, over_edges, over_point}
use Rattle.jn_origins.specs.Leading.{leads}

left_false : (a b : Bool) → (a || b) ≡ false → a ≡ false
left_false true b h = absurd (true≢false h)
left_false false b h = refl

right_false : (a b : Bool) → (a || b) ≡ false → b ≡ false
right_false true b h = absurd (true≢false h)
right_false false b h = h

module _ (p : ℕ) where
  -- no edge goes there
  abbrev AllApart : List (ℕ × Env) → Type 0
  AllApart [] = Unit {0}
  AllApart (x ∷ xs) = (eqb x.0 p ≡ false) × AllApart xs

  side_apart : (t : Bool) (to : ℕ) (after : Env) (rest : List (ℕ × Env)) → eqb to p ≡ false → AllApart rest → AllApart (side t to after ++ rest)
  side_apart true to after rest h i = i
  side_apart false to after rest h i = (h, i)

  last_apart : (t : Bool) (to : ℕ) (after : Env) → eqb to p ≡ false → AllApart (side t to after)
  last_apart true to after h = tt
  last_apart false to after h = (h, tt)

module _ (P : Program) (s : List Qualifier) (b p r : ℕ) (bit : Bit) (q : ℕ) where
  none_carried : (kind : PointKind) (e : Env) (xs : List (ℕ × Env)) → AllApart p xs → over_edges P b p r bit q kind e xs ≡ []
  none_carried kind e [] h = refl
  none_carried kind e (x ∷ xs) h =
      ap (λ (t : Bool). cond (t && on bit (qual_at x.1 r)) (placed (OfPoint b q) (behind b q P e kind r bit)) [] ++ over_edges P b p r bit q kind e xs) h.0 ∙ none_carried kind e xs h.1

  all_apart : (kind : PointKind) (e : Env) → leads kind q p ≡ false → AllApart p (transfer P s b kind q e)
  all_apart (Const dst v) e h = (h, tt)
  all_apart (Move dst from bound) e h = (h, tt)
  all_apart (Unary dst neg of) e h = (h, tt)
  all_apart (Binary dst op l g) e h = (h, tt)
  all_apart (Concat dst l g) e h = (h, tt)
  all_apart (SameRef dst eq l g) e h = (h, tt)
  all_apart (FieldRead dst o f) e h = (h, tt)
  all_apart (FieldWrite o f v) e h = (h, tt)
  all_apart (StaticRead dst f) e h = (h, tt)
  all_apart (StaticWrite f v) e h = (h, tt)
  all_apart (ElemRead dst o i) e h = (h, tt)
  all_apart (ElemWrite o i v) e h = (h, tt)
  all_apart (ArrayLen dst o) e h = (h, tt)
  all_apart (NewArray dst base n) e h = (h, tt)
  all_apart (ArrayOf dst base xs) e h = (h, tt)
  all_apart (New dst m args) e h = (h, tt)
  all_apart (CtorCall m args own) e h = (h, tt)
  all_apart (Call dst m o direct args) e h = (h, tt)
  all_apart (StrOp dst op of other) e h = (h, tt)
  all_apart (Print of) e h = (h, tt)
  all_apart (Cast dst of c) e h = (h, tt)
  all_apart (TestInst of c og at_yes at_no) e h =
      let v = without_null (qual_at e of.reg.0) in
      side_apart p (is_none v) at_yes.0 (learn P b og (refine e of.reg.0 v)) ((at_no.0, e) ∷ []) (left_false (eqb at_yes.0 p) (eqb at_no.0 p) h) (right_false (eqb at_yes.0 p) (eqb at_no.0 p) h, tt)
  all_apart (TestNull of og at_null at_value) e h =
      let n = null_part (qual_at e of.reg.0) in
      let v = without_null (qual_at e of.reg.0) in
      side_apart p (is_none n) at_null.0 (refine e of.reg.0 n) (side (is_none v) at_value.0 (learn P b og (refine e of.reg.0 v))) (left_false (eqb at_null.0 p) (eqb at_value.0 p) h)
      (last_apart p (is_none v) at_value.0 (learn P b og (refine e of.reg.0 v)) (right_false (eqb at_null.0 p) (eqb at_value.0 p) h))
  all_apart (Branch of at_yes at_no) e h = (left_false (eqb at_yes.0 p) (eqb at_no.0 p) h, (right_false (eqb at_yes.0 p) (eqb at_no.0 p) h, tt))
  all_apart (Goto to) e h = (h, tt)
  all_apart (Return v) e h = tt

  pub skipped : (pt : Point) (o : Option Env) → leads pt.kind q p ≡ false → over_point P s b p r bit q (Some pt) o ≡ []
  skipped pt None h = refl
  skipped pt (Some e) h = none_carried pt.kind e (transfer P s b pt.kind q e) (all_apart pt.kind e h)
