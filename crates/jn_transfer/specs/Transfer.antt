-- What each point makes of an environment. Facts on fields follow the Checker Framework's flow, initialization follows Freedom Before Commitment.
use Rattle.std.specs.Prelude.{ℕ, zero, suc, ◌+◌, ◌≡◌, ◌⊎◌, Bool, true, false, cond, not, ◌&&◌, ◌||◌, eqb, ltb, List, [], ◌∷◌, ◌++◌, Option, Some, None, slice_set}
use Rattle.jn_base.specs.declared.number.SlotNo.{SlotNo}
use Rattle.jn_base.specs.declared.number.RegNo.{RegNo}
use Rattle.jn_quals.specs.Qualifier.{Qualifier}
use Rattle.jn_quals.specs.Order.{no_qual, null_only, committed_only, free_only, null_or_committed, all_quals, without_null, without_free, null_part, is_none}
use Rattle.jn_points.specs.declared.point.Operand.{Operand}
use Rattle.jn_points.specs.declared.point.Origin.{Origin}
use Rattle.jn_points.specs.declared.point.Literal.{Literal}
use Rattle.jn_points.specs.declared.point.Literal.TheVariants.{Int, Truth, Str, Null}
use Rattle.jn_points.specs.declared.point.BaseType.{BaseType}
use Rattle.jn_points.specs.declared.point.BaseType.TheVariants.{Array}
use Rattle.jn_points.specs.declared.point.Elem.TheVariants.{Ref as RefElem}
use Rattle.jn_points.specs.declared.point.PointKind.{PointKind}
use Rattle.jn_points.specs.declared.point.PointKind.TheVariants.{Const, Move, Unary, Binary, Concat, SameRef, FieldRead, FieldWrite, StaticRead, StaticWrite, ElemRead, ElemWrite, ArrayLen, NewArray, ArrayOf, New, CtorCall, Call, StrOp, Print, Cast, TestInst, TestNull, Branch, Goto, Return}
use Rattle.jn_points.specs.declared.program.Method.{Method}
use Rattle.jn_points.specs.declared.program.Program.{Program}
use Rattle.jn_points.specs.Lookup.{regs_of, slots_of, class_of, ctor_of, static_of, body_at, reg_base, locals, monotonic, owner, ref_field, flat_field, method_at, method_in}
use Rattle.jn_sigs.specs.Signature.{slot_quals, result_of, receiver_of, field_qual}
use Rattle.jn_env.specs.Environment.{Env}
use Rattle.jn_env.specs.Order.{qual_at}
use Rattle.jn_env.specs.Keys.{has_reg, has_key_field, is_key, is_kept, mask, also, is_on, no_bits, fact_keys, own_keys}

-- of a literal: {N} for `null`, {C} for a text, nothing for an int or a boolean
abbrev pub literal_qual : Literal → Qualifier
literal_qual (Int i) = no_qual
literal_qual (Truth b) = no_qual
literal_qual (Str n) = committed_only
literal_qual Null = null_only

-- of an array's elements
abbrev pub elem_qual : BaseType → Qualifier
elem_qual (Array (RefElem c) nullable) = record { null = nullable; committed = true; free = false }
elem_qual b = no_qual

-- more is known of the value in a register; it is the same value, so facts stay
abbrev pub refine : Env → ℕ → Qualifier → Env
refine e r q = record { quals = slice_set e.quals r q; facts = e.facts; assigned = e.assigned }

-- a side of a test, which is unreached where nothing is left
abbrev pub side : Bool → ℕ → Env → List (ℕ × Env)
side true to e = []
side false to e = (to, e) ∷ []

-- some of them has no bit, so that no value comes there
abbrev pub any_empty : List Qualifier → Bool
any_empty [] = false
any_empty (q ∷ qs) = is_none q || any_empty qs

-- some of the values may be under construction
abbrev pub any_free : List Qualifier → Bool
any_free [] = false
any_free (q ∷ qs) = q.free || any_free qs

-- each of the values may be something other than an object under construction
abbrev pub all_settled : List Qualifier → Bool
all_settled [] = true
all_settled (q ∷ qs) = (q.committed || q.null) && all_settled qs

-- the qualifiers of the reference arguments
abbrev pub ref_quals : Env → List (Option SlotNo) → List Operand → List Qualifier
ref_quals e [] args = []
ref_quals e (x ∷ xs) [] = []
ref_quals e (None ∷ xs) (a ∷ args) = ref_quals e xs args
ref_quals e (Some s ∷ xs) (a ∷ args) = qual_at e a.reg.0 ∷ ref_quals e xs args

-- of a new object, by its reference arguments (Freedom Before Commitment, section on object creation)
abbrev pub new_qual : List Qualifier → Qualifier
new_qual qs = cond (any_empty qs) no_qual (record { null = false; committed = all_settled qs; free = any_free qs })

-- without N where the flag is set
abbrev pub less_null : Bool → Qualifier → Qualifier
less_null true q = without_null q
less_null false q = q

-- the list at the given length: cut there, or filled up with empty qualifiers
abbrev pub pad_quals : List Qualifier → ℕ → List Qualifier
pad_quals qs zero = []
pad_quals [] (suc n) = no_qual ∷ pad_quals [] n
pad_quals (q ∷ qs) (suc n) = q ∷ pad_quals qs n

module _ (s : List Qualifier) where
  -- of `this` where a body starts: free in a constructor, in a method as the receiver's slot has it
  abbrev pub this_qual : Option Method → Qualifier
  this_qual m = cond (ctor_of m) free_only (receiver_of s m)

  -- what a body of the method is given
  abbrev pub given_quals : Option Method → List Qualifier
  given_quals m = cond (static_of m) (slot_quals s (slots_of m)) (this_qual m ∷ slot_quals s (slots_of m))

module _ (P : Program) where
  -- a register is written, so its facts go
  abbrev pub put : ℕ → Env → ℕ → Qualifier → Env
  put b e dst q = record { quals = slice_set e.quals dst q; facts = mask (λ k. not (has_reg dst k)) (fact_keys P b) e.facts; assigned = e.assigned }

  -- facts on fields that aren't monotonic go
  abbrev pub drop_facts : ℕ → Env → Env
  drop_facts b e = record { quals = e.quals; facts = mask (is_kept P) (fact_keys P b) e.facts; assigned = e.assigned }

  -- a register, if there is one, is written
  abbrev pub put_to : ℕ → Env → Option RegNo → Qualifier → Env
  put_to b e None q = e
  put_to b e (Some dst) q = put b e dst.0 q

  -- a test's origin is a fact
  abbrev pub learn : ℕ → Option Origin → Env → Env
  learn b None e = e
  learn b (Some og) e = record { quals = e.quals; facts = also (is_key og.reg.0 og.field.0) (fact_keys P b) e.facts; assigned = e.assigned }

  -- facts on the field that is written go, unless it takes no null
  abbrev pub facts_but : ℕ → Env → ℕ → List Bool
  facts_but b e f = cond (monotonic P f) e.facts (mask (λ k. not (has_key_field f k)) (fact_keys P b) e.facts)

  -- facts after register s is written to field f of register r: a new one where s has no N and r is a parameter or local
  abbrev pub write_facts : ℕ → Env → ℕ → ℕ → ℕ → List Bool
  write_facts b e r f s =
      let dropped = facts_but b e f in
      cond (ltb r (locals P b) && not (qual_at e s).null) (also (is_key r f) (fact_keys P b) dropped) dropped

  -- the assigned fields after a write of field f: it is one of them where a constructor writes a field of its class through `this`
  abbrev pub write_assigned : ℕ → Env → ℕ → ℕ → List Bool
  write_assigned b e r f = cond (ctor_of (method_in P b) && eqb r 0 && eqb (owner P f) (class_of (method_in P b))) (also (λ k. eqb k f) (own_keys P b) e.assigned) e.assigned

  -- after a write of field f of the object in register r; nothing changes where the field is of no reference type
  abbrev pub written : ℕ → Env → ℕ → ℕ → ℕ → Bool → Env
  written b e r f s false = e
  written b e r f s true = record { quals = e.quals; facts = write_facts b e r f s; assigned = write_assigned b e r f }

  -- after a constructor call: facts go as at a call, and after `this(..)` all of the class's own fields are assigned
  abbrev pub ctor_called : ℕ → Env → Bool → Env
  ctor_called b e false = drop_facts b e
  ctor_called b e true = record { quals = e.quals; facts = mask (is_kept P) (fact_keys P b) e.facts; assigned = also (λ k. true) (own_keys P b) e.assigned }

  -- of an element of the array in register r, which is empty where that register can be nothing but null
  abbrev pub elem_read : ℕ → Env → ℕ → Qualifier
  elem_read b e r = cond (is_none (without_null (qual_at e r))) no_qual (elem_qual (reg_base P b r))

module _ (P : Program) (s : List Qualifier) where
  -- of a field, read from an object that isn't null
  abbrev pub read_part : ℕ → Qualifier → Qualifier
  read_part f k = cond (is_none k) no_qual (cond k.free (cond (flat_field P f) null_or_committed all_quals) (without_free (field_qual P s f)))

  -- of field f of the object in register r: without N where a fact says so, and empty where the field is no reference
  abbrev pub read_qual : ℕ → Env → ℕ → ℕ → Qualifier
  read_qual b e r f = less_null (is_on (is_key r f) (fact_keys P b) e.facts) (cond (ref_field P f) (read_part f (without_null (qual_at e r))) no_qual)

  -- for each edge of a point of body b its target and the environment after it
  abbrev pub transfer : ℕ → PointKind → ℕ → Env → List (ℕ × Env)
  transfer b (Const dst value) p e = (p + 1, put P b e dst.0 (literal_qual value)) ∷ []
  transfer b (Move dst from bound) p e = (p + 1, put P b e dst.0 (qual_at e from.reg.0)) ∷ []
  transfer b (Unary dst negate of) p e = (p + 1, put P b e dst.0 no_qual) ∷ []
  transfer b (Binary dst op l r) p e = (p + 1, put P b e dst.0 no_qual) ∷ []
  transfer b (Concat dst l r) p e = (p + 1, put P b e dst.0 committed_only) ∷ []
  transfer b (SameRef dst eq l r) p e = (p + 1, put P b e dst.0 no_qual) ∷ []
  transfer b (FieldRead dst r f) p e = (p + 1, put P b e dst.0 (read_qual b e r.reg.0 f.0)) ∷ []
  transfer b (FieldWrite r f v) p e = (p + 1, written P b e r.reg.0 f.0 v.reg.0 (ref_field P f.0)) ∷ []
  transfer b (StaticRead dst f) p e = (p + 1, put P b e dst.0 no_qual) ∷ []
  transfer b (StaticWrite f v) p e = (p + 1, e) ∷ []
  transfer b (ElemRead dst r i) p e = (p + 1, put P b e dst.0 (elem_read P b e r.reg.0)) ∷ []
  transfer b (ElemWrite r i v) p e = (p + 1, e) ∷ []
  transfer b (ArrayLen dst r) p e = (p + 1, put P b e dst.0 no_qual) ∷ []
  transfer b (NewArray dst base n) p e = (p + 1, put P b e dst.0 committed_only) ∷ []
  transfer b (ArrayOf dst base xs) p e = (p + 1, put P b e dst.0 committed_only) ∷ []
  transfer b (New dst m args) p e = (p + 1, put P b (drop_facts P b e) dst.0 (new_qual (ref_quals e (slots_of (method_at P m.0)) args))) ∷ []
  transfer b (CtorCall m args own) p e = (p + 1, ctor_called P b e own) ∷ []
  transfer b (Call dst m r direct args) p e = (p + 1, put_to P b (drop_facts P b e) dst (result_of s (method_at P m.0))) ∷ []
  transfer b (StrOp dst op of other) p e = (p + 1, put P b e dst.0 no_qual) ∷ []
  transfer b (Print of) p e = (p + 1, e) ∷ []
  transfer b (Cast dst of c) p e = (p + 1, put P b e dst.0 (qual_at e of.reg.0)) ∷ []
  transfer b (TestInst of c og at_yes at_no) p e =
      let v = without_null (qual_at e of.reg.0) in
      side (is_none v) at_yes.0 (learn P b og (refine e of.reg.0 v)) ++ (at_no.0, e) ∷ []
  transfer b (TestNull of og at_null at_value) p e =
      let n = null_part (qual_at e of.reg.0) in
      let v = without_null (qual_at e of.reg.0) in
      side (is_none n) at_null.0 (refine e of.reg.0 n) ++ side (is_none v) at_value.0 (learn P b og (refine e of.reg.0 v))
  transfer b (Branch of at_yes at_no) p e = (at_yes.0, e) ∷ (at_no.0, e) ∷ []
  transfer b (Goto to) p e = (to.0, e) ∷ []
  transfer b (Return v) p e = []

  -- parameters and receiver by their slots, a constructor's `this` free, all else empty
  abbrev pub entry_env : ℕ → Env
  entry_env b = record { quals = pad_quals (given_quals s (method_in P b)) (regs_of (body_at P b)); facts = no_bits (fact_keys P b); assigned = no_bits (own_keys P b) }

-- an edge, as its target and what it carries, is one of the list
abbrev pub IsAmong : ℕ × Env → List (ℕ × Env) → Type 0
IsAmong x [] = ⊥
IsAmong x (y ∷ ys) = (x ≡ y) ⊎ IsAmong x ys
