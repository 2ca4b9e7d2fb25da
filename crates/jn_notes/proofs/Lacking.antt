-- What is told of a row is what its rule found lacking.
use Rattle.std.proofs.Common.{◌≡◌, ◌⊎◌, inl, inr, ⊎_elim, ℕ, zero, suc, ◌<◌, ◌≤◌, Bool, true, false, not, ◌&&◌, ◌||◌, cond, List, [], ◌∷◌, ◌++◌, length, Option, Some, None, refl, sym, ap, ◌∙◌, subst, arith}
use Rattle.std.specs.Prelude.{eqb, slice_index_or}
use Rattle.std.specs.Option.{option_or}
use Rattle.std.specs.List.{Contains}
use Rattle.std.proofs.lemmas.Bool.{eqb-true, false≢true, cases_lt}
use Rattle.std.proofs.lemmas.List.Elements.{Contains-append_left, Contains-append_right}
use Rattle.jn_base.specs.declared.place.Span.{Span}
use Rattle.jn_base.specs.declared.place.Row.{Row}
use Rattle.jn_base.specs.declared.code.Code.{Code}
use Rattle.jn_base.specs.declared.code.Code.TheVariants.{Deref, Field as FieldCode, FieldInit, Arg, ArgInit, RecvInit, Return as ReturnCode, ReturnInit, Local, LocalInit, Elem, ElemInit}
use Rattle.jn_quals.specs.Qualifier.{Qualifier}
use Rattle.jn_quals.specs.Order.{join, null_only}
use Rattle.jn_points.specs.declared.point.Operand.{Operand}
use Rattle.jn_points.specs.declared.point.BaseType.{BaseType}
use Rattle.jn_points.specs.declared.point.Point.{Point}
use Rattle.jn_points.specs.declared.point.PointKind.{PointKind}
use Rattle.jn_points.specs.declared.point.PointKind.TheVariants.{Move, FieldWrite, ElemWrite, ArrayOf, New, CtorCall, Call, StrOp, Return}
use Rattle.jn_points.specs.declared.point.StrOperation.{StrOperation}
use Rattle.jn_points.specs.declared.point.StrOperation.TheVariants.{Equals}
use Rattle.jn_points.specs.declared.program.Program.{Program}
use Rattle.jn_points.specs.Lookup.{body_at, dereferences, method_at, method_in, monotonic, point_at, points_of, reg_base, slots_of}
use Rattle.jn_sigs.specs.Signature.{field_qual, receiver_of, result_of, slot_quals}
use Rattle.jn_env.specs.Environment.{Env}
use Rattle.jn_env.specs.Order.{Table, env_in, qual_at}
use Rattle.jn_transfer.specs.Transfer.{elem_qual}
use Rattle.jn_transfer.specs.Rules.{row_if, lacks_null, lacks_init, pass_rows, arg_rows, bound_rows, return_rows, receiver_rows, equals_rows, elem_rows, elems_rows, deref_rows, writes_null, write_rows, kind_rows, rows_at}
use Rattle.jn_reasons_law.specs.declared.item.Bit.{Bit}
use Rattle.jn_reasons_law.specs.declared.item.Bit.TheVariants.{Nullable, Committed, Free}
use Rattle.jn_reasons_law.specs.declared.item.Item.{Item}
use Rattle.jn_reasons_law.specs.declared.item.Item.TheVariants.{AtRegister}
use Rattle.jn_reasons_law.specs.Items.{on}
use Rattle.jn_note_words.specs.Owned.{first_below}
use Rattle.jn_notes.specs.Asked.{same_span, sought_of, by_ask, by_asks, by_point, by_number, by_body, register_item, item_by, item_of}
use Rattle.jn_notes.specs.Asks.{Ask, ask, ask_if, ask_each, ask_args, asks, taking, elem_taken, write_taken, write_asks, argument_asks, receiver_asks, result_asks, local_asks, element_asks, equals_asks, bound_asks}
use Rattle.jn_notes.specs.Lacking.{IsLacking, IsRefused, TakesAll}
use Rattle.jn_notes.specs.declared.reads.Rule.{Rule}
use Rattle.jn_notes.specs.declared.reads.Rule.TheVariants.{Dereference, Write, Argument, Receiver, Result as ResultRule, Local as LocalRule, Element}
use Rattle.jn_notes.specs.declared.reads.Sought.{Sought}
use Rattle.jn_notes.proofs.Standing.{and_left, and_right, given_by, if_there, none_some, split_or}

-- ---- members

there_first : {A : Type 0} (x : A) (xs : List A) → Contains (x ∷ xs) x
there_first x xs = (0, omega arith, refl)

there_more : {A : Type 0} (x y : A) (xs : List A) → Contains xs y → Contains (x ∷ xs) y
there_more x y xs h = Contains-append_right (x ∷ []) xs y h

there_cases : {A : Type 0} (x y : A) (xs : List A) → Contains (x ∷ xs) y → (x ≡ y) ⊎ Contains xs y
there_cases x y xs h = by h.0 h.1 h.2
  where
    by : (k : ℕ) → k < suc (length xs) → slice_index_or (x ∷ xs) k y ≡ y → (x ≡ y) ⊎ Contains xs y
    by zero lt e = inl e
    by (suc k) lt e = inr (k, omega (arith, lt), e)

never_there : {A : Type 0} (y : A) → Contains [] y → ⊥
never_there y h = absurd (omega (arith, h.1))

only_one : {A : Type 0} (x y : A) → Contains (x ∷ []) y → x ≡ y
only_one x y h = ⊎_elim (λ e. e) (λ c. absurd (never_there y c)) (there_cases x y [] h)

-- ---- bits

not_true : (a : Bool) → not a ≡ true → a ≡ false
not_true false e = refl
not_true true e = absurd (false≢true e)

both : (a b : Bool) → a ≡ true → b ≡ false → (a && not b) ≡ true
both true false e f = refl
both true true e f = absurd (false≢true (sym f))
both false b e f = absurd (false≢true e)

or_right : (a b : Bool) → b ≡ true → (a || b) ≡ true
or_right true b e = refl
or_right false b e = e

or_left : (a b : Bool) → a ≡ true → (a || b) ≡ true
or_left true b e = refl
or_left false b e = absurd (false≢true e)

-- ---- items

some_none : (x : Item) → Some x ≡ None → ⊥
some_none x e = cc

none_left : (x y : Option Item) → option_or x y ≡ None → x ≡ None
none_left None y e = refl
none_left (Some x) y e = e

none_right : (x y : Option Item) → option_or x y ≡ None → y ≡ None
none_right None y e = e
none_right (Some x) y e = absurd (some_none x e)

-- where no number gives one, none below gives one
none_at : (f : ℕ → Option Item) (n i : ℕ) → i < n → first_below f n ≡ None → f i ≡ None
none_at f zero i lt h = absurd (omega (arith, lt))
none_at f (suc n) i lt h = ⊎_elim
    (λ (low : i < n). none_at f n i low (none_left (first_below f n) (f n) h))
    (λ (le : n ≤ i). let same : n ≡ i = omega (arith, le, lt) in subst (λ (k : ℕ). f k ≡ None) same (none_right (first_below f n) (f n) h))
    (cases_lt i n)

-- ---- rows

row_here : (t : Bool) (span : Span) (code : Code) → t ≡ true → Contains (row_if t span code) (record { span = span; code = code })
row_here true span code e = there_first (record { span = span; code = code }) []
row_here false span code e = absurd (false≢true e)

abbrev of_bit : Code → Code → Bit → Code
of_bit code init Nullable = code
of_bit code init Committed = init
of_bit code init Free = init

-- the code of the row that a rule has for a bit
abbrev code_of : Rule → Bit → Code
code_of Dereference bit = Deref
code_of Write bit = of_bit FieldCode FieldInit bit
code_of Argument bit = of_bit Arg ArgInit bit
code_of Receiver bit = RecvInit
code_of ResultRule bit = of_bit ReturnCode ReturnInit bit
code_of LocalRule bit = of_bit Local LocalInit bit
code_of Element bit = of_bit Elem ElemInit bit

-- what is sought is of the row's code and place
abbrev IsSaid : Span → Code → Option Sought → Type 0
IsSaid span code None = Unit {0}
IsSaid span code (Some q) = (code ≡ code_of q.rule q.bit) × (span ≡ q.span)

said : (span : Span) (code : Code) → IsSaid span code (sought_of span code)
said span Deref = (refl, refl)
said span FieldCode = (refl, refl)
said span FieldInit = (refl, refl)
said span Arg = (refl, refl)
said span ArgInit = (refl, refl)
said span RecvInit = (refl, refl)
said span ReturnCode = (refl, refl)
said span ReturnInit = (refl, refl)
said span Local = (refl, refl)
said span LocalInit = (refl, refl)
said span Elem = (refl, refl)
said span ElemInit = (refl, refl)
said span code = tt

sought_back : (span : Span) (code : Code) (q : Sought) → sought_of span code ≡ Some q → (code ≡ code_of q.rule q.bit) × (span ≡ q.span)
sought_back span code q e = subst (IsSaid span code) e (said span code)

-- ---- rows of rules

module _ (e : Env) (bit : Bit) where
  abbrev Has : Operand → Type 0
  Has v = on bit (qual_at e v.reg.0) ≡ true

  abbrev Lacks : Qualifier → Type 0
  Lacks t = on bit t ≡ false

  abbrev row_of : Operand → Code → Row
  row_of v code = record { span = v.span; code = code }

  -- a list of rows has the row of a value that is asked for
  abbrev HasRow : List Row → Rule → Ask → Type 0
  HasRow rows rule a = Has a.value → Lacks a.taken → Contains rows (row_of a.value (code_of rule bit))

  same_ask : (rows : List Row) (rule : Rule) (a b : Ask) → a ≡ b → HasRow rows rule a → HasRow rows rule b
  same_ask rows rule a b is h = subst (HasRow rows rule) is h

  row_left : (xs ys : List Row) (rule : Rule) (a : Ask) → HasRow xs rule a → HasRow (xs ++ ys) rule a
  row_left xs ys rule a f h l = Contains-append_left xs ys (row_of a.value (code_of rule bit)) (f h l)

  row_right : (xs ys : List Row) (rule : Rule) (a : Ask) → HasRow ys rule a → HasRow (xs ++ ys) rule a
  row_right xs ys rule a f h l = Contains-append_right xs ys (row_of a.value (code_of rule bit)) (f h l)

  only_row : (rows : List Row) (rule : Rule) (a b : Ask) → HasRow rows rule a → Contains (a ∷ []) b → HasRow rows rule b
  only_row rows rule a b h c = same_ask rows rule a b (only_one a b c) h

pass_row : (e : Env) (bit : Bit) (code init : Code) (v : Operand) (t : Qualifier) → Has e bit v → Lacks e bit t → Contains (pass_rows code init e v t) (record { span = v.span; code = of_bit code init bit })
pass_row e Nullable code init v t h l =
    let q = qual_at e v.reg.0 in
    Contains-append_left (row_if (lacks_null q t) v.span code) (row_if (lacks_init q t) v.span init) (record { span = v.span; code = code }) (row_here (lacks_null q t) v.span code (both q.null t.null h l))
pass_row e Committed code init v t h l =
    let q = qual_at e v.reg.0 in
    Contains-append_right (row_if (lacks_null q t) v.span code) (row_if (lacks_init q t) v.span init) (record { span = v.span; code = init }) (row_here (lacks_init q t) v.span init (or_left (q.committed && not t.committed) (q.free && not t.free) (both q.committed t.committed h l)))
pass_row e Free code init v t h l =
    let q = qual_at e v.reg.0 in
    Contains-append_right (row_if (lacks_null q t) v.span code) (row_if (lacks_init q t) v.span init) (record { span = v.span; code = init }) (row_here (lacks_init q t) v.span init (or_right (q.committed && not t.committed) (q.free && not t.free) (both q.free t.free h l)))

args_row : (e : Env) (bit : Bit) (slots : List Qualifier) (args : List Operand) (a : Ask) → Contains (ask_args slots args) a → HasRow e bit (arg_rows e slots args) Argument a
args_row e bit [] args a c = absurd (never_there a c)
args_row e bit (t ∷ slots) [] a c = absurd (never_there a c)
args_row e bit (t ∷ slots) (v ∷ args) a c = ⊎_elim
    (λ (is : ask v t ≡ a). same_ask e bit (pass_rows Arg ArgInit e v t ++ arg_rows e slots args) Argument (ask v t) a is (row_left e bit (pass_rows Arg ArgInit e v t) (arg_rows e slots args) Argument (ask v t) (λ h l. pass_row e bit Arg ArgInit v t h l)))
    (λ (m : Contains (ask_args slots args) a). row_right e bit (pass_rows Arg ArgInit e v t) (arg_rows e slots args) Argument a (args_row e bit slots args a m))
    (there_cases (ask v t) a (ask_args slots args) c)

elem_row : (e : Env) (bit : Bit) (base : BaseType) (v : Operand) → HasRow e bit (elem_rows e base v) Element (ask v (elem_taken base))
elem_row e Nullable base v h l =
    let q = qual_at e v.reg.0 in
    Contains-append_left (row_if (lacks_null q (elem_qual base)) v.span Elem) (row_if q.free v.span ElemInit) (record { span = v.span; code = Elem }) (row_here (lacks_null q (elem_qual base)) v.span Elem (both q.null (elem_qual base).null h l))
elem_row e Committed base v h l = absurd (false≢true (sym l))
elem_row e Free base v h l =
    let q = qual_at e v.reg.0 in
    Contains-append_right (row_if (lacks_null q (elem_qual base)) v.span Elem) (row_if q.free v.span ElemInit) (record { span = v.span; code = ElemInit }) (row_here q.free v.span ElemInit h)

each_row : (e : Env) (bit : Bit) (base : BaseType) (values : List Operand) (a : Ask) → Contains (ask_each values (elem_taken base)) a → HasRow e bit (elems_rows e base values) Element a
each_row e bit base [] a c = absurd (never_there a c)
each_row e bit base (v ∷ values) a c = ⊎_elim
    (λ (is : ask v (elem_taken base) ≡ a). same_ask e bit (elem_rows e base v ++ elems_rows e base values) Element (ask v (elem_taken base)) a is (row_left e bit (elem_rows e base v) (elems_rows e base values) Element (ask v (elem_taken base)) (elem_row e bit base v)))
    (λ (m : Contains (ask_each values (elem_taken base)) a). row_right e bit (elem_rows e base v) (elems_rows e base values) Element a (each_row e bit base values a m))
    (there_cases (ask v (elem_taken base)) a (ask_each values (elem_taken base)) c)

equals_row : (e : Env) (bit : Bit) (v : Operand) → HasRow e bit (equals_rows e Equals (Some v)) Argument (ask v (taking true false))
equals_row e Nullable v h l = absurd (false≢true (sym l))
equals_row e Committed v h l = absurd (false≢true (sym l))
equals_row e Free v h l = row_here (qual_at e v.reg.0).free v.span ArgInit h

equal_rows : (e : Env) (bit : Bit) (op : StrOperation) (other : Option Operand) (a : Ask) → Contains (equals_asks op other) a → HasRow e bit (equals_rows e op other) Argument a
equal_rows e bit Equals None a c = absurd (never_there a c)
equal_rows e bit Equals (Some v) a c = only_row e bit (equals_rows e Equals (Some v)) Argument (ask v (taking true false)) a (equals_row e bit v) c
equal_rows e bit op other a c = absurd (never_there a c)

deref_row : (e : Env) (bit : Bit) (v : Operand) → HasRow e bit (deref_rows e (Some v)) Dereference (ask v (taking false true))
deref_row e Nullable v h l = row_here (qual_at e v.reg.0).null v.span Deref h
deref_row e Committed v h l = absurd (false≢true (sym l))
deref_row e Free v h l = absurd (false≢true (sym l))

dereference_row : (e : Env) (bit : Bit) (o : Option Operand) (a : Ask) → Contains (ask_if o (taking false true)) a → HasRow e bit (deref_rows e o) Dereference a
dereference_row e bit None a c = absurd (never_there a c)
dereference_row e bit (Some v) a c = only_row e bit (deref_rows e (Some v)) Dereference (ask v (taking false true)) a (deref_row e bit v) c

receives_row : (e : Env) (bit : Bit) (v : Operand) (t : Qualifier) → HasRow e bit (receiver_rows e (Some v) t) Receiver (ask v (join null_only t))
receives_row e Nullable v t h l = absurd (false≢true (sym l))
receives_row e Committed v t h l =
    let q = qual_at e v.reg.0 in
    row_here (lacks_init q t) v.span RecvInit (or_left (q.committed && not t.committed) (q.free && not t.free) (both q.committed t.committed h l))
receives_row e Free v t h l =
    let q = qual_at e v.reg.0 in
    row_here (lacks_init q t) v.span RecvInit (or_right (q.committed && not t.committed) (q.free && not t.free) (both q.free t.free h l))

receiver_row : (e : Env) (bit : Bit) (o : Option Operand) (t : Qualifier) (a : Ask) → Contains (ask_if o (join null_only t)) a → HasRow e bit (receiver_rows e o t) Receiver a
receiver_row e bit None t a c = absurd (never_there a c)
receiver_row e bit (Some v) t a c = only_row e bit (receiver_rows e (Some v) t) Receiver (ask v (join null_only t)) a (receives_row e bit v t) c

result_row : (e : Env) (bit : Bit) (o : Option Operand) (t : Qualifier) (a : Ask) → Contains (ask_if o t) a → HasRow e bit (return_rows e o t) ResultRule a
result_row e bit None t a c = absurd (never_there a c)
result_row e bit (Some v) t a c = only_row e bit (return_rows e (Some v) t) ResultRule (ask v t) a (λ h l. pass_row e bit ReturnCode ReturnInit v t h l) c

bound_row : (e : Env) (bit : Bit) (v : Operand) (bound : Option Qualifier) (a : Ask) → Contains (bound_asks v bound) a → HasRow e bit (bound_rows e v bound) LocalRule a
bound_row e bit v None a c = absurd (never_there a c)
bound_row e bit v (Some t) a c = only_row e bit (bound_rows e v (Some t)) LocalRule (ask v t) a (λ h l. pass_row e bit Local LocalInit v t h l) c

outside : (n m : Bool) → (n && not m) ≡ false → (not n || m) ≡ true
outside false m h = refl
outside true true h = refl
outside true false h = absurd (false≢true (sym h))

not_false : (a : Bool) → not a ≡ false → a ≡ true
not_false true h = refl
not_false false h = absurd (false≢true (sym h))

both_true : (a b : Bool) → a ≡ true → b ≡ true → (a && b) ≡ true
both_true true b e f = f
both_true false b e f = e

module _ (P : Program) (s : List Qualifier) where
  written_row : (e : Env) (bit : Bit) (r : Operand) (f : ℕ) (v : Operand) → HasRow e bit (write_rows P s e r f v) Write (ask v (write_taken P s (qual_at e r.reg.0) f))
  written_row e Nullable r f v h l =
      let q = qual_at e v.reg.0 in
      Contains-append_left (row_if (writes_null P s q f) v.span FieldCode) (row_if (q.free && (qual_at e r.reg.0).committed) v.span FieldInit) (record { span = v.span; code = FieldCode })
      (row_here (writes_null P s q f) v.span FieldCode (both_true q.null (not (field_qual P s f).null || monotonic P f) h (outside (field_qual P s f).null (monotonic P f) l)))
  written_row e Committed r f v h l = absurd (false≢true (sym l))
  written_row e Free r f v h l =
      let q = qual_at e v.reg.0 in
      Contains-append_right (row_if (writes_null P s q f) v.span FieldCode) (row_if (q.free && (qual_at e r.reg.0).committed) v.span FieldInit) (record { span = v.span; code = FieldInit })
      (row_here (q.free && (qual_at e r.reg.0).committed) v.span FieldInit (both_true q.free (qual_at e r.reg.0).committed h (not_false (qual_at e r.reg.0).committed l)))

  module _ (b : ℕ) (e : Env) (bit : Bit) (span : Span) where
    abbrev rows_of : PointKind → List Row
    rows_of kind = kind_rows P s b e span kind

    write_kind : (kind : PointKind) (a : Ask) → Contains (write_asks P s e kind) a → HasRow e bit (rows_of kind) Write a
    write_kind (FieldWrite r f v) a c = only_row e bit (write_rows P s e r f.0 v) Write (ask v (write_taken P s (qual_at e r.reg.0) f.0)) a (written_row e bit r f.0 v) c
    write_kind kind a c = absurd (never_there a c)

    argument_kind : (kind : PointKind) (a : Ask) → Contains (argument_asks P s kind) a → HasRow e bit (rows_of kind) Argument a
    argument_kind (New dst m args) a c = args_row e bit (slot_quals s (slots_of (method_at P m.0))) args a c
    argument_kind (CtorCall m args own) a c = args_row e bit (slot_quals s (slots_of (method_at P m.0))) args a c
    argument_kind (Call dst m r direct args) a c =
        row_left e bit (arg_rows e (slot_quals s (slots_of (method_at P m.0))) args) (receiver_rows e r (receiver_of s (method_at P m.0))) Argument a (args_row e bit (slot_quals s (slots_of (method_at P m.0))) args a c)
    argument_kind (StrOp dst op of other) a c = equal_rows e bit op other a c
    argument_kind kind a c = absurd (never_there a c)

    receiver_kind : (kind : PointKind) (a : Ask) → Contains (receiver_asks P s kind) a → HasRow e bit (rows_of kind) Receiver a
    receiver_kind (Call dst m r direct args) a c =
        row_right e bit (arg_rows e (slot_quals s (slots_of (method_at P m.0))) args) (receiver_rows e r (receiver_of s (method_at P m.0))) Receiver a (receiver_row e bit r (receiver_of s (method_at P m.0)) a c)
    receiver_kind kind a c = absurd (never_there a c)

    result_kind : (kind : PointKind) (a : Ask) → Contains (result_asks P s b kind) a → HasRow e bit (rows_of kind) ResultRule a
    result_kind (Return value) a c = result_row e bit value (result_of s (method_in P b)) a c
    result_kind kind a c = absurd (never_there a c)

    local_kind : (kind : PointKind) (a : Ask) → Contains (local_asks kind) a → HasRow e bit (rows_of kind) LocalRule a
    local_kind (Move dst from bound) a c = bound_row e bit from bound a c
    local_kind kind a c = absurd (never_there a c)

    element_kind : (kind : PointKind) (a : Ask) → Contains (element_asks P b kind) a → HasRow e bit (rows_of kind) Element a
    element_kind (ElemWrite r i v) a c = only_row e bit (elem_rows e (reg_base P b r.reg.0) v) Element (ask v (elem_taken (reg_base P b r.reg.0))) a (elem_row e bit (reg_base P b r.reg.0) v) c
    element_kind (ArrayOf dst base xs) a c = each_row e bit base xs a c
    element_kind kind a c = absurd (never_there a c)

    -- what a rule asks and doesn't get is a row of the point
    asked_row : (rule : Rule) (kind : PointKind) (a : Ask) → Contains (asks P s rule b e kind) a → HasRow e bit (deref_rows e (dereferences kind) ++ rows_of kind) rule a
    asked_row Dereference kind a c = row_left e bit (deref_rows e (dereferences kind)) (rows_of kind) Dereference a (dereference_row e bit (dereferences kind) a c)
    asked_row Write kind a c = row_right e bit (deref_rows e (dereferences kind)) (rows_of kind) Write a (write_kind kind a c)
    asked_row Argument kind a c = row_right e bit (deref_rows e (dereferences kind)) (rows_of kind) Argument a (argument_kind kind a c)
    asked_row Receiver kind a c = row_right e bit (deref_rows e (dereferences kind)) (rows_of kind) Receiver a (receiver_kind kind a c)
    asked_row ResultRule kind a c = row_right e bit (deref_rows e (dereferences kind)) (rows_of kind) ResultRule a (result_kind kind a c)
    asked_row LocalRule kind a c = row_right e bit (deref_rows e (dereferences kind)) (rows_of kind) LocalRule a (local_kind kind a c)
    asked_row Element kind a c = row_right e bit (deref_rows e (dereferences kind)) (rows_of kind) Element a (element_kind kind a c)

-- ---- what is found

abbrev span_of : ℕ → ℕ → ℕ → Span
span_of file from to = record { file = record { 0 = file }; from = from; to = to }

spans_same : (x y : Span) → same_span x y ≡ true → x ≡ y
spans_same x y h =
    let two = and_left (eqb x.file.0 y.file.0 && eqb x.from y.from) (eqb x.to y.to) h in
    let files = eqb-true x.file.0 y.file.0 (and_left (eqb x.file.0 y.file.0) (eqb x.from y.from) two) in
    let froms = eqb-true x.from y.from (and_right (eqb x.file.0 y.file.0) (eqb x.from y.from) two) in
    let tos = eqb-true x.to y.to (and_right (eqb x.file.0 y.file.0 && eqb x.from y.from) (eqb x.to y.to) h) in
    ap (λ (n : ℕ). span_of n x.from x.to) files ∙ ap (λ (n : ℕ). span_of y.file.0 n x.to) froms ∙ ap (λ (n : ℕ). span_of y.file.0 y.from n) tos

module _ (q : Sought) (b p : ℕ) (e : Env) where
  record IsFound (list : List Ask) (x : Item) : Type 0 where
    pub one : Ask
    pub asked : Contains list one
    pub refused : IsRefused q e one
    pub is : x ≡ AtRegister b p one.value.reg.0 q.bit

  one_found : (a : Ask) (x : Item) → by_ask q b p e a ≡ Some x → IsRefused q e a × (x ≡ AtRegister b p a.value.reg.0 q.bit)
  one_found a x h =
      let here = same_span a.value.span q.span in
      let has = on q.bit (qual_at e a.value.reg.0) in
      let r = if_there (here && has && not (on q.bit a.taken)) (AtRegister b p a.value.reg.0 q.bit) x h in
      let two = and_left (here && has) (not (on q.bit a.taken)) r.0 in (
        record { there = and_left here has two; has = and_right here has two; lacks = not_true (on q.bit a.taken) (and_right (here && has) (not (on q.bit a.taken)) r.0) },
        sym r.1,
      )

  found_in : (list : List Ask) (x : Item) → by_asks q b p e list ≡ Some x → IsFound list x
  found_in [] x h = absurd (none_some x h)
  found_in (a ∷ list) x h = ⊎_elim
      (λ g. let r = one_found a x g in record { one = a; asked = there_first a list; refused = r.0; is = r.1 })
      (λ g. let f = found_in list x g in record { one = f.one; asked = there_more a f.one list f.asked; refused = f.refused; is = f.is })
      (split_or (by_ask q b p e a) (by_asks q b p e list) x h)

  -- one that isn't taken is found
  refused_found : (a : Ask) → IsRefused q e a → by_ask q b p e a ≡ Some (AtRegister b p a.value.reg.0 q.bit)
  refused_found a r =
      ap (λ (t : Bool). cond t (Some (AtRegister b p a.value.reg.0 q.bit)) None)
      (both (same_span a.value.span q.span && on q.bit (qual_at e a.value.reg.0)) (on q.bit a.taken) (both_true (same_span a.value.span q.span) (on q.bit (qual_at e a.value.reg.0)) r.there r.has) r.lacks)

  none_taken : (list : List Ask) (a : Ask) → by_asks q b p e list ≡ None → Contains list a → IsRefused q e a → ⊥
  none_taken [] a h c r = never_there a c
  none_taken (y ∷ list) a h c r = ⊎_elim
      (λ (is : y ≡ a). some_none (AtRegister b p a.value.reg.0 q.bit) (sym (ap (λ (z : Ask). by_ask q b p e z) is ∙ refused_found a r) ∙ (none_left (by_ask q b p e y) (by_asks q b p e list) h)))
      (λ (m : Contains list a). none_taken list a (none_right (by_ask q b p e y) (by_asks q b p e list) h) m r)
      (there_cases y a list c)

abbrev row_at_code : Span → Code → Row
row_at_code span code = record { span = span; code = code }

module _ (P : Program) (s : List Qualifier) (tables : List Table) where
  point_found : (q : Sought) (b p : ℕ) (o : Option Point) (slot : Option Env) (x : Item) (row : Row) → point_at P b p ≡ o → env_in (slice_index_or tables b []) p ≡ slot
      → row.code ≡ code_of q.rule q.bit → row.span ≡ q.span → by_point P s q b p o slot ≡ Some x → IsLacking P s tables row q x
  point_found q b p None slot x row there reached code span h = absurd (none_some x h)
  point_found q b p (Some pt) None x row there reached code span h = absurd (none_some x h)
  point_found q b p (Some pt) (Some e) x row there reached code span h =
      let f = found_in q b p e (asks P s q.rule b e pt.kind) x h in
      let v = f.one.value in
      let same = ap (λ (u : Span). row_at_code u (code_of q.rule q.bit)) (spans_same v.span q.span f.refused.there ∙ sym span) ∙ ap (row_at_code row.span) (sym code) in
      record {
        body = b;
        point = p;
        at = pt;
        env = e;
        ask = f.one;
        stands = record { there = there; reached = reached };
        asked = f.asked;
        refused = f.refused;
        broken = subst (λ (r : Row). Contains (rows_at P s b pt (Some e)) r) same (asked_row P s b e q.bit pt.span q.rule pt.kind f.one f.asked f.refused.has f.refused.lacks);
        is = f.is;
      }

  register_found : (row : Row) (q : Sought) (x : Item) → row.code ≡ code_of q.rule q.bit → row.span ≡ q.span → register_item P s q tables ≡ Some x → IsLacking P s tables row q x
  register_found row q x code span h =
      let r = given_by (λ b. by_body P s q b (slice_index_or tables b [])) (length P.bodies) x h in
      let p = given_by (by_number P s q r.0 (slice_index_or tables r.0 [])) (length (points_of (body_at P r.0))) x r.1 in
      point_found q r.0 p.0 (point_at P r.0 p.0) (env_in (slice_index_or tables r.0 []) p.0) x row refl refl code span p.1

  pub item_lacks : (row : Row) (q : Sought) (x : Item) → sought_of row.span row.code ≡ Some q → item_of P s row tables ≡ Some x → IsLacking P s tables row q x
  item_lacks row q x is h =
      let told = sought_back row.span row.code q is in
      register_found row q x told.0 told.1 (subst (λ (o : Option Sought). item_by P s row tables o ≡ Some x) is h)

  pub none_lacks : (row : Row) (q : Sought) → sought_of row.span row.code ≡ Some q → item_of P s row tables ≡ None → TakesAll P s tables q
  none_lacks row q is h body point at e a inside there stands asked refused =
      let whole : register_item P s q tables ≡ None = subst (λ (o : Option Sought). item_by P s row tables o ≡ None) is h in
      let no_body = none_at (λ b. by_body P s q b (slice_index_or tables b [])) (length P.bodies) body inside whole in
      let no_point = none_at (by_number P s q body (slice_index_or tables body [])) (length (points_of (body_at P body))) point there no_body in
      let none : by_asks q body point e (asks P s q.rule body e at.kind) ≡ None = ap (λ (o : Option Point). by_point P s q body point o (Some e)) (sym stands.there) ∙ ap (by_point P s q body point (point_at P body point)) (sym stands.reached) ∙ no_point in
      none_taken q body point e (asks P s q.rule body e at.kind) a none asked refused
