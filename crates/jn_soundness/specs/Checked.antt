-- No rule is broken, tables respect the edges, and what the law asks of a regular program.
use Rattle.std.specs.Prelude.{ℕ, suc, ◌≡◌, ◌⊎◌, Bool, true, false, IsTrue, eqb, List, [], ◌∷◌, Option, Some, None, slice_get}
use Rattle.jn_points.specs.Shaped.{FromRead, NotCtorCall, writes, test_at, Early, Names, NotEarlyReturn}
use Rattle.jn_points.specs.declared.point.Operand.{Operand}
use Rattle.jn_quals.specs.Qualifier.{Qualifier}
use Rattle.jn_points.specs.declared.point.BaseType.{BaseType}
use Rattle.jn_points.specs.declared.point.BaseType.TheVariants.{Array}
use Rattle.jn_points.specs.declared.point.Elem.TheVariants.{Ref as RefElem}
use Rattle.jn_points.specs.declared.point.Point.{Point}
use Rattle.jn_points.specs.declared.point.PointKind.{PointKind}
use Rattle.jn_points.specs.declared.point.PointKind.TheVariants.{FieldRead, FieldWrite, ElemRead, ElemWrite, ArrayLen, NewArray, ArrayOf, New, CtorCall, Call, StrOp, Return}
use Rattle.jn_points.specs.declared.program.Field.{Field}
use Rattle.jn_points.specs.declared.program.Method.{Method}
use Rattle.jn_points.specs.declared.program.Body.{Body}
use Rattle.jn_env.specs.Environment.{Env}
use Rattle.jn_transfer.specs.Transfer.{IsAmong, elem_qual, entry_env, transfer}
use Rattle.jn_env.specs.Order.{SlotWithin, qual_at}
use Rattle.jn_soundness.specs.World.{World, env_at, param_quals}
use Rattle.jn_points.specs.Lookup.{body_at, body_of, class_of, ctor_of, is_ref_base, method_at, method_in, monotonic, owner, point_at, ref_field, reg_base, regs_of, static_of}
use Rattle.jn_sigs.specs.Signature.{field_qual, receiver_of, result_of}
use Rattle.jn_points.specs.Members.{has_field}
use Rattle.jn_env.specs.Keys.{is_on, own_keys}
use Rattle.jn_quals.specs.Order.{settle, within}

-- the arguments are within the parameters' slots, one for each
abbrev pub ArgsPass : Env → List Qualifier → List Operand → Type 0
ArgsPass e [] [] = Unit {0}
ArgsPass e [] (a ∷ args) = ⊥
ArgsPass e (q ∷ qs) [] = ⊥
ArgsPass e (q ∷ qs) (a ∷ args) = IsTrue (within (qual_at e a.reg.0) q) × ArgsPass e qs args

abbrev pub AllWithin : Env → Qualifier → List Operand → Type 0
AllWithin e q [] = Unit {0}
AllWithin e q (a ∷ args) = IsTrue (within (qual_at e a.reg.0) q) × AllWithin e q args

abbrev pub NotNull : Env → ℕ → Type 0
NotNull e r = (qual_at e r).null ≡ false

-- an array of references
abbrev pub ref_elems : BaseType → Bool
ref_elems (Array (RefElem c) nullable) = true
ref_elems b = false

abbrev pub NewArrayPasses : BaseType → Type 0
NewArrayPasses (Array (RefElem c) nullable) = nullable ≡ true
NewArrayPasses b = Unit {0}

module _ (W : World) where
  abbrev pub ReceiverPasses : Env → Option Method → Option Operand → Type 0
  ReceiverPasses e m None = static_of m ≡ true
  ReceiverPasses e m (Some r) = NotNull e r.reg.0 × IsTrue (within (qual_at e r.reg.0) (receiver_of W.sig m)) × (static_of m ≡ false)

  abbrev pub ResultPasses : Env → ℕ → Option Operand → Type 0
  ResultPasses e b None = Unit {0}
  ResultPasses e b (Some v) = IsTrue (within (qual_at e v.reg.0) (result_of W.sig (method_in W.program b)))

  -- a constructor's non-null reference fields of its class are assigned
  abbrev pub AllAssigned : ℕ → Env → Type 0
  AllAssigned b e = ctor_of (method_in W.program b) ≡ true → (f : ℕ) → owner W.program f ≡ class_of (method_in W.program b) → ref_field W.program f ≡ true → (field_qual W.program W.sig f).null ≡ false → is_on (λ k. eqb k f) (own_keys W.program b) e.assigned ≡ true

  pub record WritePasses (e : Env) (r f s : ℕ) : Type 0 where
    pub not_null : (qual_at e r).null ≡ false
    pub value : ref_field W.program f ≡ true → IsTrue (within (settle (qual_at e s)) (field_qual W.program W.sig f))
    pub init : (qual_at e s).free ≡ true → (qual_at e r).committed ≡ true → ⊥
    pub kept : monotonic W.program f ≡ true → (qual_at e s).null ≡ false

  -- no rule is broken at a point of body b
  abbrev pub Unbroken : ℕ → Env → PointKind → Type 0
  Unbroken b e (FieldRead dst r f) = NotNull e r.reg.0
  Unbroken b e (FieldWrite r f s) = WritePasses e r.reg.0 f.0 s.reg.0
  Unbroken b e (ElemRead dst r i) = NotNull e r.reg.0
  Unbroken b e (ElemWrite r i s) = NotNull e r.reg.0 × (ref_elems (reg_base W.program b r.reg.0) ≡ true → IsTrue (within (qual_at e s.reg.0) (elem_qual (reg_base W.program b r.reg.0))))
  Unbroken b e (ArrayLen dst r) = NotNull e r.reg.0
  Unbroken b e (NewArray dst base n) = NewArrayPasses base
  Unbroken b e (ArrayOf dst base xs) = ref_elems base ≡ true → AllWithin e (elem_qual base) xs
  Unbroken b e (New dst m args) = ArgsPass e (param_quals W m.0) args
  Unbroken b e (CtorCall m args own) = ArgsPass e (param_quals W m.0) args
  Unbroken b e (Call dst m r direct args) = ArgsPass e (param_quals W m.0) args × ReceiverPasses e (method_at W.program m.0) r
  Unbroken b e (StrOp dst op of other) = NotNull e of.reg.0
  Unbroken b e (Return v) = ResultPasses e b v × AllAssigned b e
  Unbroken b e k = Unit {0}

  pub record Edge (b p : ℕ) (k : PointKind) (x : ℕ × Env) : Type 0 where
    pub within : SlotWithin (Some x.1) (env_at W b x.0)
    pub test : FromRead k (test_at W.program b x.0)
    pub early : NotCtorCall k → Early W.program b p → Early W.program b x.0

  pub record PointOk (b p : ℕ) (e : Env) (k : PointKind) : Type 0 where
    pub edges : (x : ℕ × Env) → IsAmong x (transfer W.program W.sig b k p e) → Edge b p k x
    pub rules : Unbroken b e k
    pub this_kept : ctor_of (method_in W.program b) ≡ true → writes k ≡ Some 0 → ⊥
    pub names : Names W.program b k
    pub end : ctor_of (method_in W.program b) ≡ true → NotEarlyReturn W.program b p k

  abbrev pub AllOwn : ℕ → List ℕ → Type 0
  AllOwn c [] = Unit {0}
  AllOwn c (f ∷ fs) = (owner W.program f ≡ c) × AllOwn c fs

  -- the tables respect entries and edges, no rule is broken at a reached point, and the program is regular
  pub record Checked : Type 0 where
    pub entry : (b : ℕ) (x : Body) → body_at W.program b ≡ Some x → SlotWithin (Some (entry_env W.program W.sig b)) (env_at W b 0)
    pub entry_test : (b : ℕ) → test_at W.program b 0 ≡ None
    pub entry_early : (b : ℕ) → ctor_of (method_in W.program b) ≡ true → Early W.program b 0 ⊎ ((f : ℕ) → has_field W.program (class_of (method_in W.program b)) f ≡ true → owner W.program f ≡ class_of (method_in W.program b))
    pub points : (b p : ℕ) (pt : Point) (e : Env) → point_at W.program b p ≡ Some pt → env_at W b p ≡ Some e → PointOk b p e pt.kind
    pub bodies : (m b : ℕ) → body_of (method_at W.program m) ≡ Some b → method_in W.program b ≡ method_at W.program m
    pub there : (m b : ℕ) → body_of (method_at W.program m) ≡ Some b → (x : Body) × (body_at W.program b ≡ Some x)
    pub ctor_this : (m : ℕ) → ctor_of (method_at W.program m) ≡ true → static_of (method_at W.program m) ≡ false
    pub ctor_regs : (b : ℕ) → ctor_of (method_in W.program b) ≡ true → (n : ℕ) × (regs_of (body_at W.program b) ≡ suc n)
    pub fields : (f : ℕ) (x : Field) → slice_get W.program.fields f ≡ Some x → ref_field W.program f ≡ false → is_ref_base x.base ≡ false
