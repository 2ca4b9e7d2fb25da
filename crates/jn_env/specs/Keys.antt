-- The keys along which an environment's facts and assigned fields run.
use Rattle.std.specs.Prelude.{ℕ, Bool, false, not, ◌&&◌, ◌||◌, eqb, ltb, List, [], ◌∷◌, length, filter, flat_map, Option, Some, None}
use Rattle.jn_base.specs.declared.number.FieldNo.{FieldNo}
use Rattle.jn_points.specs.declared.point.Operand.{Operand}
use Rattle.jn_points.specs.declared.point.Origin.{Origin}
use Rattle.jn_points.specs.declared.point.PointKind.{PointKind}
use Rattle.jn_points.specs.declared.point.PointKind.TheVariants.{FieldRead, FieldWrite, TestInst, TestNull}
use Rattle.jn_points.specs.declared.program.Method.{Method}
use Rattle.jn_points.specs.declared.program.Program.{Program}
use Rattle.jn_points.specs.Lookup.{points_of, class_of, ctor_of, body_at, locals, monotonic, owner, ref_field, method_in}
use Rattle.jn_points.specs.Members.{below}

-- a field of the object in a register
pub record Key : Type 0 where
  pub reg : ℕ
  pub field : ℕ

-- whether a key is of a field of the object in this register
abbrev pub has_reg : ℕ → Key → Bool
has_reg r k = eqb k.reg r

-- whether a key is of this field, in whatever register the object is
abbrev pub has_key_field : ℕ → Key → Bool
has_key_field f k = eqb k.field f

-- whether a key is that of this field of the object in this register
abbrev pub is_key : ℕ → ℕ → Key → Bool
is_key r f k = eqb k.reg r && eqb k.field f

-- the key of a field that is accessed through an operand, as a list of one
abbrev pub key_of : Operand → FieldNo → List Key
key_of r f = record { reg = r.reg.0; field = f.0 } ∷ []

-- the key of the field read that a tested value comes from, none where a test has no origin
abbrev pub origin_key : Option Origin → List Key
origin_key None = []
origin_key (Some og) = record { reg = og.reg.0; field = og.field.0 } ∷ []

-- the field that a point reads, writes or tests through a register
abbrev pub kind_keys : PointKind → List Key
kind_keys (FieldRead dst object field) = key_of object field
kind_keys (FieldWrite object field value) = key_of object field
kind_keys (TestInst of class origin at_yes at_no) = origin_key origin
kind_keys (TestNull of origin at_null at_value) = origin_key origin
kind_keys kind = []

-- each key once, where it stands first
abbrev pub distinct : List Key → List Key
distinct [] = []
distinct (k ∷ ks) = k ∷ filter (λ x. not (is_key k.reg k.field x)) (distinct ks)

module _ (P : Program) where
  -- reference fields read, tested or written through a parameter or local by a point of the body
  abbrev pub fact_keys : ℕ → List Key
  fact_keys b = distinct (filter (λ k. ltb k.reg (locals P b) && ref_field P k.field) (flat_map (λ pt. kind_keys pt.kind) (points_of (body_at P b))))

  -- a fact that survives calls: one on a monotonic field
  abbrev pub is_kept : Key → Bool
  is_kept k = monotonic P k.field

  -- a constructor's method, and a reference field of its class
  abbrev pub is_own : Option Method → ℕ → Bool
  is_own m f = ctor_of m && eqb (owner P f) (class_of m) && ref_field P f

  -- the reference fields of a constructor's class
  abbrev pub own_keys : ℕ → List ℕ
  own_keys b = filter (is_own (method_in P b)) (below (length P.fields))

-- bits along a list of keys
module _ {K : Type 0} where
  -- bits are kept at keys that pass
  abbrev pub mask : (K → Bool) → List K → List Bool → List Bool
  mask keep [] bits = bits
  mask keep (k ∷ keys) [] = []
  mask keep (k ∷ keys) (b ∷ bits) = (b && keep k) ∷ mask keep keys bits

  -- bits are set at keys that pass
  abbrev pub also : (K → Bool) → List K → List Bool → List Bool
  also test [] bits = bits
  also test (k ∷ keys) [] = []
  also test (k ∷ keys) (b ∷ bits) = (b || test k) ∷ also test keys bits

  -- a bit is set at a key that passes
  abbrev pub is_on : (K → Bool) → List K → List Bool → Bool
  is_on test [] bits = false
  is_on test (k ∷ keys) [] = false
  is_on test (k ∷ keys) (b ∷ bits) = (b && test k) || is_on test keys bits

  -- a bit for each key, none of them set
  abbrev pub no_bits : List K → List Bool
  no_bits [] = []
  no_bits (k ∷ keys) = false ∷ no_bits keys
