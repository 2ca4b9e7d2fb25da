-- Accepted programs: of the shapes that each regular one has, with tables that respect the edges under a signature, and without a row of the rules.
use Rattle.std.specs.Prelude.{ℕ, ◌≡◌, true, false, IsTrue, [], Some, slice_get, slice_index_or}
use Rattle.jn_quals.specs.Order.{no_qual, settle, within}
use Rattle.jn_points.specs.declared.point.Point.{Point}
use Rattle.jn_points.specs.declared.point.PointKind.{PointKind}
use Rattle.jn_points.specs.declared.point.PointKind.TheVariants.{FieldWrite}
use Rattle.jn_points.specs.declared.program.Body.{Body}
use Rattle.jn_points.specs.declared.program.SlotInfo.{SlotInfo}
use Rattle.jn_points.specs.Lookup.{body_at, point_at, ref_field}
use Rattle.jn_points.specs.Shaped.{Shaped}
use Rattle.jn_sigs.specs.Signature.{field_qual}
use Rattle.jn_env.specs.Environment.{Env}
use Rattle.jn_env.specs.Order.{qual_at}
use Rattle.jn_transfer.specs.Least.{Respects}
use Rattle.jn_transfer.specs.Rules.{rows}
use Rattle.jn_soundness.specs.World.{World, table_at, env_at}

module _ (W : World) where
  -- what is written into a reference field is, once committed, allowed by its slot
  abbrev pub FieldSettles : Env → PointKind → Type 0
  FieldSettles e (FieldWrite r f v) = ref_field W.program f.0 ≡ true → (settle (qual_at e v.reg.0)).committed ≡ true → (field_qual W.program W.sig f.0).committed ≡ true
  FieldSettles e k = Unit {0}

  pub record Accepted : Type 0 where
    pub shaped : Shaped W.program
    pub respects : (b : ℕ) (x : Body) → body_at W.program b ≡ Some x → Respects W.program W.sig b (table_at W b)
    pub none : rows W.program W.sig W.tables ≡ []
    -- the signature has what the slots that aren't inferred start with, and what is written into fields
    pub starts : (n : ℕ) (info : SlotInfo) → slice_get W.program.slots n ≡ Some info → info.inferred ≡ false → IsTrue (within info.start (slice_index_or W.sig n no_qual))
    pub fields : (b p : ℕ) (pt : Point) (e : Env) → point_at W.program b p ≡ Some pt → env_at W b p ≡ Some e → FieldSettles e pt.kind
