-- The rules, as rows at reached points, at constructors and at overriding pairs (the Checker Framework manual's nullness and initialization rules).
use Rattle.std.specs.Prelude.{ℕ, ◌+◌, ◌≡◌, Bool, true, false, cond, not, ◌&&◌, ◌||◌, eqb, List, [], ◌∷◌, ◌++◌, length, flat_map, Option, Some, None, slice_index_or}
use Rattle.jn_base.specs.declared.place.Span.{Span}
use Rattle.jn_base.specs.declared.place.Row.{Row}
use Rattle.jn_base.specs.declared.code.Code.{Code}
use Rattle.jn_base.specs.declared.code.Code.TheVariants.{Deref, Field as FieldCode, FieldInit, Arg, ArgInit, RecvInit, Return as ReturnCode, ReturnInit, Local, LocalInit, Elem, ElemInit, NewArray as NewArrayCode, CtorFields, OvrParam, OvrReceiver, OvrResult}
use Rattle.jn_quals.specs.Qualifier.{Qualifier}
use Rattle.jn_quals.specs.Order.{within}
use Rattle.jn_points.specs.declared.point.Operand.{Operand}
use Rattle.jn_points.specs.declared.point.BaseType.{BaseType}
use Rattle.jn_points.specs.declared.point.BaseType.TheVariants.{Array}
use Rattle.jn_points.specs.declared.point.Elem.TheVariants.{Ref as RefElem}
use Rattle.jn_points.specs.declared.point.StrOperation.{StrOperation}
use Rattle.jn_points.specs.declared.point.StrOperation.TheVariants.{Equals}
use Rattle.jn_points.specs.declared.point.Point.{Point}
use Rattle.jn_points.specs.declared.point.PointKind.{PointKind}
use Rattle.jn_points.specs.declared.point.PointKind.TheVariants.{Move, FieldWrite, ElemWrite, NewArray, ArrayOf, New, CtorCall, Call, StrOp, Return}
use Rattle.jn_points.specs.declared.program.Method.{Method}
use Rattle.jn_points.specs.declared.program.Program.{Program}
use Rattle.jn_points.specs.Lookup.{points_of, slots_of, dereferences, monotonic, body_at, reg_base, method_at, method_in}
use Rattle.jn_points.specs.Members.{some_of, below, is_pair}
use Rattle.jn_sigs.specs.Signature.{slot_quals, result_of, receiver_of, field_qual}
use Rattle.jn_env.specs.Environment.{Env}
use Rattle.jn_env.specs.Order.{Table, env_in, qual_at}
use Rattle.jn_env.specs.Keys.{is_on, own_keys}
use Rattle.jn_transfer.specs.Transfer.{elem_qual}
use Rattle.jn_transfer.specs.Least.{IsLeastTable}

-- a row of the code at the place where the rule is broken, else none
abbrev pub row_if : Bool → Span → Code → List Row
row_if false span code = []
row_if true span code = record { span = span; code = code } ∷ []

-- the value may be null, and the slot takes no null
abbrev pub lacks_null : Qualifier → Qualifier → Bool
lacks_null q slot = q.null && not slot.null

-- the value may be committed or free, and the slot doesn't take that
abbrev pub lacks_init : Qualifier → Qualifier → Bool
lacks_init q slot = (q.committed && not slot.committed) || (q.free && not slot.free)

-- what is passed to a slot has N, or C or F, that the slot lacks
abbrev pub pass_rows : Code → Code → Env → Operand → Qualifier → List Row
pass_rows code init e a slot = row_if (lacks_null (qual_at e a.reg.0) slot) a.span code ++ row_if (lacks_init (qual_at e a.reg.0) slot) a.span init

-- the rows of the arguments of a call, each passed to its parameter's slot
abbrev pub arg_rows : Env → List Qualifier → List Operand → List Row
arg_rows e [] args = []
arg_rows e (q ∷ qs) [] = []
arg_rows e (q ∷ qs) (a ∷ args) = pass_rows Arg ArgInit e a q ++ arg_rows e qs args

-- the rows of a value that goes to a local with annotations, which are its bound; none where a move has no bound
abbrev pub bound_rows : Env → Operand → Option Qualifier → List Row
bound_rows e a None = []
bound_rows e a (Some q) = pass_rows Local LocalInit e a q

-- the rows of the value that a return passes to the result's slot; none where it has no value
abbrev pub return_rows : Env → Option Operand → Qualifier → List Row
return_rows e None q = []
return_rows e (Some a) q = pass_rows ReturnCode ReturnInit e a q

-- the row of a receiver that is committed or free where its slot takes no such object; that of null is the dereference's
abbrev pub receiver_rows : Env → Option Operand → Qualifier → List Row
receiver_rows e None q = []
receiver_rows e (Some a) q = row_if (lacks_init (qual_at e a.reg.0) q) a.span RecvInit

-- the row of an argument of a String's `equals` that may be under construction
abbrev pub equals_rows : Env → StrOperation → Option Operand → List Row
equals_rows e Equals (Some a) = row_if (qual_at e a.reg.0).free a.span ArgInit
equals_rows e op other = []

-- an element is stored in an array of the type
abbrev pub elem_rows : Env → BaseType → Operand → List Row
elem_rows e base a = row_if (lacks_null (qual_at e a.reg.0) (elem_qual base)) a.span Elem ++ row_if (qual_at e a.reg.0).free a.span ElemInit

-- the rows of the elements that an array is made of, each stored in it
abbrev pub elems_rows : Env → BaseType → List Operand → List Row
elems_rows e base [] = []
elems_rows e base (a ∷ xs) = elem_rows e base a ++ elems_rows e base xs

-- the row of a new array by its length whose elements are references that take no null, though all of them are null at first
abbrev pub new_array_rows : Span → BaseType → List Row
new_array_rows span (Array (RefElem c) false) = row_if true span NewArrayCode
new_array_rows span base = []

-- the row of a dereference of a register that may be null; none where nothing is dereferenced
abbrev pub deref_rows : Env → Option Operand → List Row
deref_rows e None = []
deref_rows e (Some a) = row_if (qual_at e a.reg.0).null a.span Deref

-- some qualifier of the first list isn't within the other's
abbrev pub some_outside : List Qualifier → List Qualifier → Bool
some_outside [] qs = false
some_outside (a ∷ as') [] = false
some_outside (a ∷ as') (b ∷ bs) = not (within a b) || some_outside as' bs

module _ (s : List Qualifier) where
  -- what an overrider narrows of its parameters and receiver, or widens of its result
  abbrev pub override_rows : Option Method → Option Method → List Row
  override_rows None under = []
  override_rows (Some over) under =
      row_if (some_outside (slot_quals s (slots_of under)) (slot_quals s over.param_slots)) over.span OvrParam
      ++ row_if (not (within (receiver_of s under) (receiver_of s (Some over)))) over.span OvrReceiver
      ++ row_if (not (within (result_of s (Some over)) (result_of s under))) over.span OvrResult

module _ (P : Program) (s : List Qualifier) where
  -- null is written where the slot has none, or to a monotonic field
  abbrev pub writes_null : Qualifier → ℕ → Bool
  writes_null q f = q.null && (not (field_qual P s f).null || monotonic P f)

  -- FIELD and FIELD-INIT
  abbrev pub write_rows : Env → Operand → ℕ → Operand → List Row
  write_rows e r f v = row_if (writes_null (qual_at e v.reg.0) f) v.span FieldCode ++ row_if ((qual_at e v.reg.0).free && (qual_at e r.reg.0).committed) v.span FieldInit

  -- rows of a point of body b but for its dereference
  abbrev pub kind_rows : ℕ → Env → Span → PointKind → List Row
  kind_rows b e span (Move dst from bound) = bound_rows e from bound
  kind_rows b e span (FieldWrite r f v) = write_rows e r f.0 v
  kind_rows b e span (ElemWrite r i v) = elem_rows e (reg_base P b r.reg.0) v
  kind_rows b e span (NewArray dst base n) = new_array_rows span base
  kind_rows b e span (ArrayOf dst base xs) = elems_rows e base xs
  kind_rows b e span (New dst m args) = arg_rows e (slot_quals s (slots_of (method_at P m.0))) args
  kind_rows b e span (CtorCall m args own) = arg_rows e (slot_quals s (slots_of (method_at P m.0))) args
  kind_rows b e span (Call dst m r direct args) = arg_rows e (slot_quals s (slots_of (method_at P m.0))) args ++ receiver_rows e r (receiver_of s (method_at P m.0))
  kind_rows b e span (StrOp dst op of other) = equals_rows e op other
  kind_rows b e span (Return v) = return_rows e v (result_of s (method_in P b))
  kind_rows b e span kind = []

  -- broken rules at a point, where it is reached
  abbrev pub rows_at : ℕ → Point → Option Env → List Row
  rows_at b pt None = []
  rows_at b pt (Some e) = deref_rows e (dereferences pt.kind) ++ kind_rows b e pt.span pt.kind

  -- the broken rules at points that stand from number p on
  abbrev pub rows_from : ℕ → List Point → ℕ → Table → List Row
  rows_from b [] p t = []
  rows_from b (pt ∷ pts) p t = rows_at b pt (env_in t p) ++ rows_from b pts (p + 1) t

  -- a reference field of the constructor's class whose slot has no N isn't assigned
  abbrev pub is_unset : ℕ → Env → Bool
  is_unset b e = some_of (λ f. not (field_qual P s f).null && not (is_on (λ k. eqb k f) (own_keys P b) e.assigned)) (own_keys P b)

  -- whether the point is a reached Return at which some such field isn't assigned
  abbrev pub unset_at : ℕ → PointKind → Option Env → Bool
  unset_at b (Return v) (Some e) = is_unset b e
  unset_at b kind e = false

  -- at some reached Return
  abbrev pub unset_from : ℕ → List Point → ℕ → Table → Bool
  unset_from b [] p t = false
  unset_from b (pt ∷ pts) p t = unset_at b pt.kind (env_in t p) || unset_from b pts (p + 1) t

  -- the row, at a constructor's place, of fields that take no null and aren't assigned at some Return; none for a method
  abbrev pub ctor_rows : ℕ → Option Method → Table → List Row
  ctor_rows b None t = []
  ctor_rows b (Some m) t = row_if (m.ctor && unset_from b (points_of (body_at P b)) 0 t) m.span CtorFields

  -- the broken rules of a body
  abbrev pub body_rows : ℕ → Table → List Row
  body_rows b t = rows_from b (points_of (body_at P b)) 0 t ++ ctor_rows b (method_in P b) t

  -- the broken rules of these bodies, each under its own table
  abbrev pub bodies_rows : List ℕ → List (List (Option Env)) → List Row
  bodies_rows [] tables = []
  bodies_rows (b ∷ bs) tables = body_rows b (slice_index_or tables b []) ++ bodies_rows bs tables

  -- broken rules of an overriding pair
  abbrev pub pair_rows : ℕ → ℕ → List Row
  pair_rows m k = cond (is_pair P m k) (override_rows s (method_at P m) (method_at P k)) []

  -- the broken rules of all overriding pairs of the program
  abbrev pub pairs_rows : List Row
  pairs_rows = flat_map (λ m. flat_map (pair_rows m) (below (length P.methods))) (below (length P.methods))

  -- all broken rules under the bodies' tables
  abbrev pub rows : List (List (Option Env)) → List Row
  rows tables = bodies_rows (below (length P.bodies)) tables ++ pairs_rows

  -- exactly the broken rules under the least tables
  pub record Breaks (broken : List Row) : Type 0 where
    pub tables : List (List (Option Env))
    pub least : (b : ℕ) → IsLeastTable P s b (slice_index_or tables b [])
    pub all : broken ≡ rows tables
