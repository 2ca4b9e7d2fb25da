-- Where no value of a point stands at a place, no rule finds one there.
use Rattle.std.proofs.Common.{◌≡◌, ℕ, ◌+◌, Bool, true, false, cond, ◌||◌, List, [], ◌∷◌, ◌++◌, Option, Some, None, refl, ap, ◌∙◌}
use Rattle.std.specs.Prelude.{not, ◌&&◌}
use Rattle.std.specs.Option.{option_or}
use Rattle.jn_base.specs.declared.place.Span.{Span}
use Rattle.jn_quals.specs.Qualifier.{Qualifier}
use Rattle.jn_points.specs.declared.point.Operand.{Operand}
use Rattle.jn_points.specs.declared.point.PointKind.{PointKind}
use Rattle.jn_points.specs.declared.point.PointKind.TheVariants.{Move, FieldRead, FieldWrite, ElemRead, ElemWrite, ArrayLen, ArrayOf, New, CtorCall, Call, StrOp, Return}
use Rattle.jn_points.specs.declared.point.StrOperation.{StrOperation}
use Rattle.jn_points.specs.declared.point.StrOperation.TheVariants.{Length, IsEmpty, Equals}
use Rattle.jn_points.specs.declared.program.Program.{Program}
use Rattle.jn_points.specs.Lookup.{method_at, slots_of}
use Rattle.jn_sigs.specs.Signature.{slot_quals}
use Rattle.jn_env.specs.Environment.{Env}
use Rattle.jn_env.specs.Order.{qual_at}
use Rattle.jn_reasons_law.specs.declared.item.Item.{Item}
use Rattle.jn_reasons_law.specs.declared.item.Item.TheVariants.{AtRegister}
use Rattle.jn_reasons_law.specs.Items.{on}
use Rattle.jn_note_words.specs.declared.owners.Owner.{Owner}
use Rattle.jn_note_words.specs.declared.owners.Owner.TheVariants.{OfParameter}
use Rattle.jn_notes.specs.declared.reads.Rule.{Rule}
use Rattle.jn_notes.specs.declared.reads.Rule.TheVariants.{Dereference, Write, Argument, Receiver, Result as ResultRule, Local as LocalRule, Element}
use Rattle.jn_notes.specs.declared.reads.Sought.{Sought}
use Rattle.jn_notes.specs.Asked.{same_span, by_ask, by_asks}
use Rattle.jn_notes.specs.Asks.{Ask, ask, ask_if, ask_each, ask_args, dereference_asks, equals_asks, bound_asks, local_asks, element_asks, write_asks, argument_asks, receiver_asks, result_asks, asks}
use Rattle.jn_points.specs.Operands.{operand_if}
use Rattle.jn_sites.specs.Marks.{asked, stands_there}
use Rattle.jn_notes.specs.Spoken.{pass, pass_if, pass_args, is_refused, write_passes, argument_passes, receiver_passes, result_passes, passes, by_pass, by_passes}

none_of : {A : Type 0} (x y : Option A) → x ≡ None → y ≡ None → option_or x y ≡ None
none_of {A} x y h g = ap (λ (o : Option A). option_or o y) h ∙ g

-- neither of two
pub either_not : (x y : Bool) → (x || y) ≡ false → (x ≡ false) × (y ≡ false)
either_not true y h = absurd cc
either_not false y h = (refl, h)

module _ (z : Span) where
  first_not : (v : Operand) (vs : List Operand) → stands_there z (v ∷ vs) ≡ false → same_span v.span z ≡ false
  first_not v vs h = (either_not (same_span v.span z) (stands_there z vs) h).0

  rest_not : (v : Operand) (vs : List Operand) → stands_there z (v ∷ vs) ≡ false → stands_there z vs ≡ false
  rest_not v vs h = (either_not (same_span v.span z) (stands_there z vs) h).1

  parts_not : (xs ys : List Operand) → stands_there z (xs ++ ys) ≡ false → (stands_there z xs ≡ false) × (stands_there z ys ≡ false)
  parts_not [] ys h = (refl, h)
  parts_not (x ∷ xs) ys h =
      let f = either_not (same_span x.span z) (stands_there z (xs ++ ys)) h in
      let g = parts_not xs ys f.1 in
      (ap (λ (t : Bool). t || stands_there z xs) f.0 ∙ g.0, g.1)

-- ---- what rules ask

module _ (q : Sought) (b p : ℕ) (e : Env) where
  one_apart : (v : Operand) (t : Qualifier) → same_span v.span q.span ≡ false → by_ask q b p e (ask v t) ≡ None
  one_apart v t h = ap (λ (c : Bool). cond (c && on q.bit (qual_at e v.reg.0) && not (on q.bit t)) (Some (AtRegister b p v.reg.0 q.bit)) None) h

  single_apart : (v : Operand) (t : Qualifier) → same_span v.span q.span ≡ false → by_asks q b p e (ask v t ∷ []) ≡ None
  single_apart v t h = none_of (by_ask q b p e (ask v t)) None (one_apart v t h) refl

  if_apart : (o : Option Operand) (t : Qualifier) → stands_there q.span (operand_if o) ≡ false → by_asks q b p e (ask_if o t) ≡ None
  if_apart None t h = refl
  if_apart (Some v) t h = single_apart v t (first_not q.span v [] h)

  each_apart : (vs : List Operand) (t : Qualifier) → stands_there q.span vs ≡ false → by_asks q b p e (ask_each vs t) ≡ None
  each_apart [] t h = refl
  each_apart (v ∷ vs) t h = none_of (by_ask q b p e (ask v t)) (by_asks q b p e (ask_each vs t)) (one_apart v t (first_not q.span v vs h)) (each_apart vs t (rest_not q.span v vs h))

  args_apart : (ts : List Qualifier) (vs : List Operand) → stands_there q.span vs ≡ false → by_asks q b p e (ask_args ts vs) ≡ None
  args_apart [] vs h = refl
  args_apart (t ∷ ts) [] h = refl
  args_apart (t ∷ ts) (v ∷ vs) h = none_of (by_ask q b p e (ask v t)) (by_asks q b p e (ask_args ts vs)) (one_apart v t (first_not q.span v vs h)) (args_apart ts vs (rest_not q.span v vs h))

  abbrev found : List Ask → Option Item
  found list = by_asks q b p e list

  dereference_apart : (k : PointKind) → stands_there q.span (asked k) ≡ false → found (dereference_asks k) ≡ None
  dereference_apart (FieldRead dst object f) h = single_apart object _ (first_not q.span object [] h)
  dereference_apart (FieldWrite object f value) h = single_apart object _ (first_not q.span object (value ∷ []) h)
  dereference_apart (ElemRead dst array i) h = single_apart array _ (first_not q.span array [] h)
  dereference_apart (ElemWrite array i value) h = single_apart array _ (first_not q.span array (value ∷ []) h)
  dereference_apart (ArrayLen dst array) h = single_apart array _ (first_not q.span array [] h)
  dereference_apart (StrOp dst op of other) h = single_apart of _ (first_not q.span of (operand_if other) h)
  dereference_apart (Call dst m receiver direct args) h = if_apart receiver _ (parts_not q.span (operand_if receiver) args h).0
  dereference_apart k h = refl

  equals_apart : (op : StrOperation) (other : Option Operand) → stands_there q.span (operand_if other) ≡ false → found (equals_asks op other) ≡ None
  equals_apart Equals other h = if_apart other _ h
  equals_apart Length other h = refl
  equals_apart IsEmpty other h = refl

  bound_apart : (from : Operand) (bound : Option Qualifier) → same_span from.span q.span ≡ false → found (bound_asks from bound) ≡ None
  bound_apart from None h = refl
  bound_apart from (Some t) h = single_apart from t h

  local_apart : (k : PointKind) → stands_there q.span (asked k) ≡ false → found (local_asks k) ≡ None
  local_apart (Move dst from bound) h = bound_apart from bound (first_not q.span from [] h)
  local_apart k h = refl

  module _ (P : Program) where
    element_apart : (k : PointKind) → stands_there q.span (asked k) ≡ false → found (element_asks P b k) ≡ None
    element_apart (ElemWrite array i value) h = single_apart value _ (first_not q.span value [] (rest_not q.span array (value ∷ []) h))
    element_apart (ArrayOf dst base values) h = each_apart values _ h
    element_apart k h = refl

    module _ (s : List Qualifier) where
      write_apart : (k : PointKind) → stands_there q.span (asked k) ≡ false → found (write_asks P s e k) ≡ None
      write_apart (FieldWrite object f value) h = single_apart value _ (first_not q.span value [] (rest_not q.span object (value ∷ []) h))
      write_apart k h = refl

      argument_apart : (k : PointKind) → stands_there q.span (asked k) ≡ false → found (argument_asks P s k) ≡ None
      argument_apart (New dst ctor args) h = args_apart (slot_quals s (slots_of (method_at P ctor.0))) args h
      argument_apart (CtorCall ctor args own) h = args_apart (slot_quals s (slots_of (method_at P ctor.0))) args h
      argument_apart (Call dst m receiver direct args) h = args_apart (slot_quals s (slots_of (method_at P m.0))) args (parts_not q.span (operand_if receiver) args h).1
      argument_apart (StrOp dst op of other) h = equals_apart op other (rest_not q.span of (operand_if other) h)
      argument_apart k h = refl

      receiver_apart : (k : PointKind) → stands_there q.span (asked k) ≡ false → found (receiver_asks P s k) ≡ None
      receiver_apart (Call dst m receiver direct args) h = if_apart receiver _ (parts_not q.span (operand_if receiver) args h).0
      receiver_apart k h = refl

      result_apart : (k : PointKind) → stands_there q.span (asked k) ≡ false → found (result_asks P s b k) ≡ None
      result_apart (Return value) h = if_apart value _ h
      result_apart k h = refl

      -- no item by any rule
      pub asks_apart : (r : Rule) (k : PointKind) → stands_there q.span (asked k) ≡ false → by_asks q b p e (asks P s r b e k) ≡ None
      asks_apart Dereference k h = dereference_apart k h
      asks_apart Write k h = write_apart k h
      asks_apart Argument k h = argument_apart k h
      asks_apart Receiver k h = receiver_apart k h
      asks_apart ResultRule k h = result_apart k h
      asks_apart LocalRule k h = local_apart k h
      asks_apart Element k h = element_apart k h

-- ---- where values go

module _ (q : Sought) (e : Env) where
  pass_apart : (v : Operand) (t : Qualifier) (to : Owner) → same_span v.span q.span ≡ false → by_pass q e (pass v t to) ≡ None
  pass_apart v t to h = ap (λ (c : Bool). cond (c && is_refused q.bit (qual_at e v.reg.0) t) (Some to) None) h

  single_pass_apart : (v : Operand) (t : Qualifier) (to : Owner) → same_span v.span q.span ≡ false → by_passes q e (pass v t to ∷ []) ≡ None
  single_pass_apart v t to h = none_of (by_pass q e (pass v t to)) None (pass_apart v t to h) refl

  pass_if_apart : (o : Option Operand) (t : Qualifier) (to : Owner) → stands_there q.span (operand_if o) ≡ false → by_passes q e (pass_if o t to) ≡ None
  pass_if_apart None t to h = refl
  pass_if_apart (Some v) t to h = single_pass_apart v t to (first_not q.span v [] h)

  pass_args_apart : (m i : ℕ) (ts : List Qualifier) (vs : List Operand) → stands_there q.span vs ≡ false → by_passes q e (pass_args m i ts vs) ≡ None
  pass_args_apart m i [] vs h = refl
  pass_args_apart m i (t ∷ ts) [] h = refl
  pass_args_apart m i (t ∷ ts) (v ∷ vs) h =
      none_of (by_pass q e (pass v t (OfParameter m i))) (by_passes q e (pass_args m (i + 1) ts vs))
      (pass_apart v t _ (first_not q.span v vs h)) (pass_args_apart m (i + 1) ts vs (rest_not q.span v vs h))

  module _ (P : Program) (s : List Qualifier) where
    write_pass_apart : (k : PointKind) → stands_there q.span (asked k) ≡ false → by_passes q e (write_passes P s e k) ≡ None
    write_pass_apart (FieldWrite object f value) h = single_pass_apart value _ _ (first_not q.span value [] (rest_not q.span object (value ∷ []) h))
    write_pass_apart k h = refl

    argument_pass_apart : (k : PointKind) → stands_there q.span (asked k) ≡ false → by_passes q e (argument_passes P s k) ≡ None
    argument_pass_apart (New dst ctor args) h = pass_args_apart ctor.0 0 (slot_quals s (slots_of (method_at P ctor.0))) args h
    argument_pass_apart (CtorCall ctor args own) h = pass_args_apart ctor.0 0 (slot_quals s (slots_of (method_at P ctor.0))) args h
    argument_pass_apart (Call dst m receiver direct args) h = pass_args_apart m.0 0 (slot_quals s (slots_of (method_at P m.0))) args (parts_not q.span (operand_if receiver) args h).1
    argument_pass_apart k h = refl

    receiver_pass_apart : (k : PointKind) → stands_there q.span (asked k) ≡ false → by_passes q e (receiver_passes P s k) ≡ None
    receiver_pass_apart (Call dst m receiver direct args) h = pass_if_apart receiver _ _ (parts_not q.span (operand_if receiver) args h).0
    receiver_pass_apart k h = refl

    result_pass_apart : (b : ℕ) (k : PointKind) → stands_there q.span (asked k) ≡ false → by_passes q e (result_passes P s b k) ≡ None
    result_pass_apart b (Return value) h = pass_if_apart value _ _ h
    result_pass_apart b k h = refl

    -- no owner by any rule
    pub passes_apart : (r : Rule) (b : ℕ) (k : PointKind) → stands_there q.span (asked k) ≡ false → by_passes q e (passes P s r b e k) ≡ None
    passes_apart Dereference b k h = refl
    passes_apart Write b k h = write_pass_apart k h
    passes_apart Argument b k h = argument_pass_apart k h
    passes_apart Receiver b k h = receiver_pass_apart k h
    passes_apart ResultRule b k h = result_pass_apart b k h
    passes_apart LocalRule b k h = refl
    passes_apart Element b k h = refl
