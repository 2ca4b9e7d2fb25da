-- Where there is no row, no rule is broken.
use Rattle.std.proofs.Common.{◌≡◌, ℕ, zero, suc, ◌+◌, ◌<◌, Bool, true, false, not, ◌&&◌, ◌||◌, ◌⊎◌, inl, inr, List, [], ◌∷◌, ◌++◌, length, filter, Option, Some, None, refl, sym, ap, ◌∙◌, subst, cond, arith, flat_map}
use Rattle.std.specs.Prelude.{slice_get, slice_index_or, IsTrue, eqb}
use Rattle.std.proofs.lemmas.Bool.{eq-eqb, or_parts}
use Rattle.std.proofs.lemmas.Option.{slice_get_within}
use Rattle.jn_soundness.proofs.Basics.{eqb_cases, body_there}
use Rattle.jn_base.specs.declared.place.Span.{Span}
use Rattle.jn_base.specs.declared.code.Code.{Code}
use Rattle.jn_base.specs.declared.number.SlotNo.{SlotNo}
use Rattle.jn_quals.specs.Qualifier.{Qualifier}
use Rattle.jn_quals.specs.Order.{settle, within}
use Rattle.jn_points.specs.declared.point.Operand.{Operand}
use Rattle.jn_points.specs.declared.point.BaseType.{BaseType}
use Rattle.jn_points.specs.declared.point.BaseType.TheVariants.{Array}
use Rattle.jn_points.specs.declared.point.Elem.TheVariants.{Ref as RefElem}
use Rattle.jn_points.specs.declared.point.Point.{Point}
use Rattle.jn_points.specs.declared.point.PointKind.{PointKind}
use Rattle.jn_points.specs.declared.point.PointKind.TheVariants.{FieldRead, FieldWrite, ElemRead, ElemWrite, ArrayLen, NewArray, ArrayOf, New, CtorCall, Call, StrOp, Return}
use Rattle.jn_points.specs.declared.program.Field.{Field}
use Rattle.jn_points.specs.declared.program.Method.{Method}
use Rattle.jn_points.specs.Lookup.{points_of, ref_of, ctor_of, class_of, slots_of, dereferences, body_at, point_at, monotonic, owner, ref_field, reg_base, method_at, method_in}
use Rattle.jn_points.specs.Members.{some_of, below}
use Rattle.jn_points.specs.Shaped.{Passes, ReceiverMatches}
use Rattle.jn_sigs.specs.Signature.{slot_quals, result_of, receiver_of, field_qual}
use Rattle.jn_env.specs.Environment.{Env}
use Rattle.jn_env.specs.Order.{Table, env_in, qual_at}
use Rattle.jn_env.specs.Keys.{is_on, is_own, own_keys}
use Rattle.jn_transfer.specs.Transfer.{elem_qual}
use Rattle.jn_transfer.specs.Rules.{row_if, lacks_null, lacks_init, pass_rows, arg_rows, return_rows, receiver_rows, elem_rows, elems_rows, new_array_rows, deref_rows, writes_null, write_rows, kind_rows, rows_at, rows_from, is_unset, unset_at, unset_from, ctor_rows, body_rows, bodies_rows, pairs_rows, rows}
use Rattle.jn_soundness.specs.World.{World, env_at, table_at, param_quals}
use Rattle.jn_soundness.specs.Checked.{ArgsPass, AllWithin, NotNull, ref_elems, NewArrayPasses, ReceiverPasses, ResultPasses, AllAssigned, Unbroken}
use Rattle.jn_soundness.specs.Accepted.{FieldSettles}
use Rattle.jn_soundness.specs.Heaps.{IsMember}

pub no_left : {A : Type 0} (xs ys : List A) → xs ++ ys ≡ [] → xs ≡ []
no_left [] ys h = refl
no_left (x ∷ xs) ys h = cc

pub no_right : {A : Type 0} (xs ys : List A) → xs ++ ys ≡ [] → ys ≡ []
no_right [] ys h = h
no_right (x ∷ xs) ys h = cc

pub row_none : (t : Bool) (span : Span) (code : Code) → row_if t span code ≡ [] → t ≡ false
row_none false span code h = refl
row_none true span code h = cc

-- bits

implies : (a x : Bool) → (a && not x) ≡ false → (not a || x) ≡ true
implies false x h = refl
implies true true h = refl
implies true false h = cc

pub all_three : (a b c : Bool) → a ≡ true → b ≡ true → c ≡ true → IsTrue (a && b && c)
all_three true true c x y z = z
all_three true false c x y z = cc
all_three false b c x y z = cc

or_true : (a : Bool) → (a || true) ≡ true
or_true true = refl
or_true false = refl

not_false : (a b : Bool) → a ≡ false → (not a || b) ≡ true
not_false false b h = refl
not_false true b h = cc

within_of : (q slot : Qualifier) → lacks_null q slot ≡ false → lacks_init q slot ≡ false → IsTrue (within q slot)
within_of q slot n i =
    let x = or_parts (q.committed && not slot.committed) (q.free && not slot.free) i in
    all_three (not q.null || slot.null) (not q.committed || slot.committed) (not q.free || slot.free) (implies q.null slot.null n) (implies q.committed slot.committed x.0) (implies q.free slot.free x.1)

pass_none : (code init : Code) (e : Env) (a : Operand) (slot : Qualifier) → pass_rows code init e a slot ≡ [] → IsTrue (within (qual_at e a.reg.0) slot)
pass_none code init e a slot h =
    let q = qual_at e a.reg.0 in
    within_of q slot (row_none (lacks_null q slot) a.span code (no_left (row_if (lacks_null q slot) a.span code) (row_if (lacks_init q slot) a.span init) h))
    (row_none (lacks_init q slot) a.span init (no_right (row_if (lacks_null q slot) a.span code) (row_if (lacks_init q slot) a.span init) h))

args_none : (e : Env) (qs : List Qualifier) (args : List Operand) → arg_rows e qs args ≡ [] → length args ≡ length qs → ArgsPass e qs args
args_none e [] [] h n = tt
args_none e [] (a ∷ args) h n = cc
args_none e (q ∷ qs) [] h n = cc
args_none e (q ∷ qs) (a ∷ args) h n =
    (pass_none _ _ e a q (no_left _ (arg_rows e qs args) h), args_none e qs args (no_right (pass_rows _ _ e a q) (arg_rows e qs args) h) (omega (n, arith)))

pub quals_length : (s : List Qualifier) (xs : List (Option SlotNo)) → length (slot_quals s xs) ≡ length xs
quals_length s [] = refl
quals_length s (x ∷ xs) = ap (λ n. suc n) (quals_length s xs)

deref_none : (e : Env) (a : Operand) → deref_rows e (Some a) ≡ [] → NotNull e a.reg.0
deref_none e a h = row_none (qual_at e a.reg.0).null a.span _ h

elem_none : (e : Env) (base : BaseType) (a : Operand) → elem_rows e base a ≡ [] → ref_elems base ≡ true → IsTrue (within (qual_at e a.reg.0) (elem_qual base))
elem_none e (Array (RefElem c) nullable) a h r =
    let q = qual_at e a.reg.0 in
    all_three (not q.null || nullable) (not q.committed || true) (not q.free || false)
    (implies q.null nullable (row_none (q.null && not nullable) a.span _ (no_left _ (row_if q.free a.span _) h)))
    (or_true (not q.committed))
    (not_false q.free false (row_none q.free a.span _ (no_right (row_if (q.null && not nullable) a.span _) (row_if q.free a.span _) h)))
elem_none e base a h r = cc

elems_none : (e : Env) (base : BaseType) (xs : List Operand) → elems_rows e base xs ≡ [] → ref_elems base ≡ true → AllWithin e (elem_qual base) xs
elems_none e base [] h r = tt
elems_none e base (a ∷ xs) h r = (elem_none e base a (no_left (elem_rows e base a) (elems_rows e base xs) h) r, elems_none e base xs (no_right (elem_rows e base a) (elems_rows e base xs) h) r)

new_array_none : (span : Span) (base : BaseType) → new_array_rows span base ≡ [] → NewArrayPasses base
new_array_none span (Array (RefElem c) true) h = refl
new_array_none span (Array (RefElem c) false) h = cc
new_array_none span base h = tt

-- members of lists

pub some_none : {A : Type 0} (test : A → Bool) (xs : List A) (k : ℕ) (x : A) → some_of test xs ≡ false → slice_get xs k ≡ Some x → test x ≡ false
some_none test [] k x h is = cc
some_none test (y ∷ xs) zero x h is = let same : y ≡ x = cc in subst (λ z. test z ≡ false) same (or_parts (test y) (some_of test xs) h).0
some_none test (y ∷ xs) (suc k) x h is = some_none test xs k x (or_parts (test y) (some_of test xs) h).1 is

pub member_none : (test : ℕ → Bool) (xs : List ℕ) (x : ℕ) → some_of test xs ≡ false → IsMember x xs → test x ≡ false
member_none test [] x h is = absurd is
member_none test (y ∷ xs) x h (inl e) = subst (λ z. test z ≡ false) (sym e) (or_parts (test y) (some_of test xs) h).0
member_none test (y ∷ xs) x h (inr is) = member_none test xs x (or_parts (test y) (some_of test xs) h).1 is

pub member_left : (x : ℕ) (xs ys : List ℕ) → IsMember x xs → IsMember x (xs ++ ys)
member_left x [] ys h = absurd h
member_left x (y ∷ xs) ys (inl e) = inl e
member_left x (y ∷ xs) ys (inr h) = inr (member_left x xs ys h)

member_last : (x : ℕ) (xs : List ℕ) → IsMember x (xs ++ x ∷ [])
member_last x [] = inl refl
member_last x (y ∷ xs) = inr (member_last x xs)

pub below_member : (n k : ℕ) → k < n → IsMember k (below n)
below_member zero k h = absurd (omega (h, arith))
below_member (suc n) k h = by (eqb_cases k n) (below_member n k)
  where
    by : (k ≡ n) ⊎ (k ≡ n → ⊥) → (k < n → IsMember k (below n)) → IsMember k (below n ++ n ∷ [])
    by (inl e) rest = subst (λ z. IsMember z (below n ++ n ∷ [])) (sym e) (member_last n (below n))
    by (inr l) rest = member_left k (below n) (n ∷ []) (rest (omega (h, l, arith)))

filter_member : (test : ℕ → Bool) (xs : List ℕ) (x : ℕ) → IsMember x xs → test x ≡ true → IsMember x (filter test xs)
filter_member test [] x h t = absurd h
filter_member test (y ∷ xs) x (inl e) t = subst (λ b. IsMember x (cond b (y ∷ filter test xs) (filter test xs))) (sym (subst (λ z. test z ≡ true) e t)) (inl e)
filter_member test (y ∷ xs) x (inr h) t = by (test y) (filter_member test xs x h t)
  where
    by : (b : Bool) → IsMember x (filter test xs) → IsMember x (cond b (y ∷ filter test xs) (filter test xs))
    by true m = inr m
    by false m = m

pub flat_none : {A : Type 0} (f : ℕ → List A) (xs : List ℕ) (x : ℕ) → flat_map f xs ≡ [] → IsMember x xs → f x ≡ []
flat_none f [] x h is = absurd is
flat_none f (y ∷ xs) x h (inl e) = subst (λ z. f z ≡ []) (sym e) (no_left (f y) (flat_map f xs) h)
flat_none f (y ∷ xs) x h (inr is) = flat_none f xs x (no_right (f y) (flat_map f xs) h) is

module _ (W : World) where
  receiver_none : (e : Env) (m : ℕ) (r : Option Operand) → deref_rows e r ≡ [] → receiver_rows e r (receiver_of W.sig (method_at W.program m)) ≡ [] → ReceiverMatches W.program m r → ReceiverPasses W e (method_at W.program m) r
  receiver_none e m None d h s = s
  receiver_none e m (Some a) d h s =
      let q = qual_at e a.reg.0 in
      let slot = receiver_of W.sig (method_at W.program m) in
      let n : q.null ≡ false = deref_none e a d in
      (n, within_of q slot (no_and q.null (not slot.null) n) (row_none (lacks_init q slot) a.span _ h), s)
    where
      no_and : (a b : Bool) → a ≡ false → (a && b) ≡ false
      no_and false b h = refl
      no_and true b h = cc

  return_none : (e : Env) (b : ℕ) (v : Option Operand) → return_rows e v (result_of W.sig (method_in W.program b)) ≡ [] → ResultPasses W e b v
  return_none e b None h = tt
  return_none e b (Some a) h = pass_none _ _ e a (result_of W.sig (method_in W.program b)) h

  pass_args : (e : Env) (m : ℕ) (args : List Operand) → arg_rows e (param_quals W m) args ≡ [] → length args ≡ length (slots_of (method_at W.program m)) → ArgsPass e (param_quals W m) args
  pass_args e m args h n = args_none e (param_quals W m) args h (n ∙ sym (quals_length W.sig (slots_of (method_at W.program m))))

  module _ (b : ℕ) (e : Env) (span : Span) where
    write_none : (r v : Operand) (f : ℕ) → (qual_at e r.reg.0).null ≡ false → write_rows W.program W.sig e r f v ≡ [] → (ref_field W.program f ≡ true → (settle (qual_at e v.reg.0)).committed ≡ true → (field_qual W.program W.sig f).committed ≡ true) → Unbroken W b e (FieldWrite r (record { 0 = f }) v)
    write_none r v f d h s =
        let q = qual_at e v.reg.0 in
        let slot = field_qual W.program W.sig f in
        let bad = writes_null W.program W.sig q f in
        let late = q.free && (qual_at e r.reg.0).committed in
        let nulls : bad ≡ false = row_none bad v.span _ (no_left (row_if bad v.span _) (row_if late v.span _) h) in
        let init : late ≡ false = row_none late v.span _ (no_right (row_if bad v.span _) (row_if late v.span _) h) in
        record {
          not_null = d;
          value = λ ir. all_three (not q.null || slot.null) (not (q.committed || q.free) || slot.committed) (not false || slot.free)
              (in_slot q.null slot.null (monotonic W.program f) nulls)
              (holds (q.committed || q.free) slot.committed (s ir)) refl;
          init = λ x y. not_both q.free (qual_at e r.reg.0).committed init x y;
          kept = not_null q.null slot.null (monotonic W.program f) nulls;
        }
      where
        in_slot : (a x k : Bool) → (a && (not x || k)) ≡ false → (not a || x) ≡ true
        in_slot false x k h = refl
        in_slot true true k h = refl
        in_slot true false k h = cc

        not_null : (a x k : Bool) → (a && (not x || k)) ≡ false → k ≡ true → a ≡ false
        not_null false x k h e = refl
        not_null true true k h e = absurd (let bad : true ≡ false = sym e ∙ h in cc)
        not_null true false k h e = cc

        holds : (a x : Bool) → (a ≡ true → x ≡ true) → (not a || x) ≡ true
        holds false x k = refl
        holds true x k = k refl

        not_both : (a x : Bool) → (a && x) ≡ false → a ≡ true → x ≡ true → ⊥
        not_both true true h p q = cc
        not_both true false h p q = cc
        not_both false x h p q = cc

    unbroken : (k : PointKind) → deref_rows e (dereferences k) ++ kind_rows W.program W.sig b e span k ≡ [] → Passes W.program k → FieldSettles W e k → ((v : Option Operand) → k ≡ Return v → AllAssigned W b e) → Unbroken W b e k
    unbroken (FieldRead dst r f) h p s a = deref_none e r (no_left (deref_rows e (Some r)) [] h)
    unbroken (FieldWrite r f v) h p s a = write_none r v f.0 (deref_none e r (no_left (deref_rows e (Some r)) (write_rows W.program W.sig e r f.0 v) h)) (no_right (deref_rows e (Some r)) (write_rows W.program W.sig e r f.0 v) h) s
    unbroken (ElemRead dst r i) h p s a = deref_none e r (no_left (deref_rows e (Some r)) [] h)
    unbroken (ElemWrite r i v) h p s a =
        let t = reg_base W.program b r.reg.0 in
        (deref_none e r (no_left (deref_rows e (Some r)) (elem_rows e t v) h), λ x. elem_none e t v (no_right (deref_rows e (Some r)) (elem_rows e t v) h) x)
    unbroken (ArrayLen dst r) h p s a = deref_none e r (no_left (deref_rows e (Some r)) [] h)
    unbroken (NewArray dst base n) h p s a = new_array_none span base h
    unbroken (ArrayOf dst base xs) h p s a = λ x. elems_none e base xs h x
    unbroken (New dst m args) h p s a = pass_args e m.0 args h p
    unbroken (CtorCall m args own) h p s a = pass_args e m.0 args h p
    unbroken (Call dst m r direct args) h p s a =
        let arg = arg_rows e (param_quals W m.0) args in
        let rec = receiver_rows e r (receiver_of W.sig (method_at W.program m.0)) in
        let rest : arg ++ rec ≡ [] = no_right (deref_rows e r) (arg ++ rec) h in
        (pass_args e m.0 args (no_left arg rec rest) p.0, receiver_none e m.0 r (no_left (deref_rows e r) (arg ++ rec) h) (no_right arg rec rest) p.1)
    unbroken (StrOp dst op of other) h p s a = deref_none e of (no_left (deref_rows e (Some of)) (kind_rows W.program W.sig b e span (StrOp dst op of other)) h)
    unbroken (Return v) h p s a = (return_none e b v h, a v refl)
    unbroken k h p s a = tt

    own_member : (f : ℕ) → ctor_of (method_in W.program b) ≡ true → owner W.program f ≡ class_of (method_in W.program b) → ref_field W.program f ≡ true → IsMember f (own_keys W.program b)
    own_member f c o r = filter_member (is_own W.program (method_in W.program b)) (below (length W.program.fields)) f (below_member (length W.program.fields) f (inside (slice_get W.program.fields f) refl r))
        (all_three (ctor_of (method_in W.program b)) (eqb (owner W.program f) (class_of (method_in W.program b))) (ref_field W.program f) c (eq-eqb (owner W.program f) (class_of (method_in W.program b)) o) r)
      where
        inside : (x : Option Field) → slice_get W.program.fields f ≡ x → ref_of x ≡ true → f < length W.program.fields
        inside None is h = cc
        inside (Some x) is h = slice_get_within W.program.fields f x is

    set_all : is_unset W.program W.sig b e ≡ false → AllAssigned W b e
    set_all h c f o r n = on ((field_qual W.program W.sig f).null) (is_on (λ k. eqb k f) (own_keys W.program b) e.assigned) n
        (member_none (λ f. not (field_qual W.program W.sig f).null && not (is_on (λ k. eqb k f) (own_keys W.program b) e.assigned)) (own_keys W.program b) f h (own_member f c o r))
      where
        on : (a x : Bool) → a ≡ false → (not a && not x) ≡ false → x ≡ true
        on true x p q = cc
        on false true p q = refl
        on false false p q = cc

  -- from the rows of a body to those of a point

  rows_point : (b : ℕ) (t : Table) (pts : List Point) (p k : ℕ) (pt : Point) → rows_from W.program W.sig b pts p t ≡ [] → slice_get pts k ≡ Some pt → rows_at W.program W.sig b pt (env_in t (p + k)) ≡ []
  rows_point b t [] p k pt h is = cc
  rows_point b t (x ∷ pts) p zero pt h is =
      let same : x ≡ pt = cc in
      let place : p ≡ p + 0 = omega arith in
      subst (λ n. rows_at W.program W.sig b pt (env_in t n) ≡ []) place (subst (λ y. rows_at W.program W.sig b y (env_in t p) ≡ []) same (no_left (rows_at W.program W.sig b x (env_in t p)) (rows_from W.program W.sig b pts (p + 1) t) h))
  rows_point b t (x ∷ pts) p (suc k) pt h is =
      let place : p + 1 + k ≡ p + suc k = omega arith in
      subst (λ n. rows_at W.program W.sig b pt (env_in t n) ≡ []) place (rows_point b t pts (p + 1) k pt (no_right (rows_at W.program W.sig b x (env_in t p)) (rows_from W.program W.sig b pts (p + 1) t) h) is)

  unset_point : (b : ℕ) (t : Table) (pts : List Point) (p k : ℕ) (pt : Point) → unset_from W.program W.sig b pts p t ≡ false → slice_get pts k ≡ Some pt → unset_at W.program W.sig b pt.kind (env_in t (p + k)) ≡ false
  unset_point b t [] p k pt h is = cc
  unset_point b t (x ∷ pts) p zero pt h is =
      let same : x ≡ pt = cc in
      let place : p ≡ p + 0 = omega arith in
      subst (λ n. unset_at W.program W.sig b pt.kind (env_in t n) ≡ false) place (subst (λ y. unset_at W.program W.sig b y.kind (env_in t p) ≡ false) same (or_parts (unset_at W.program W.sig b x.kind (env_in t p)) (unset_from W.program W.sig b pts (p + 1) t) h).0)
  unset_point b t (x ∷ pts) p (suc k) pt h is =
      let place : p + 1 + k ≡ p + suc k = omega arith in
      subst (λ n. unset_at W.program W.sig b pt.kind (env_in t n) ≡ false) place (unset_point b t pts (p + 1) k pt (or_parts (unset_at W.program W.sig b x.kind (env_in t p)) (unset_from W.program W.sig b pts (p + 1) t) h).1 is)

  body_none : (bs : List ℕ) (tables : List (List (Option Env))) (b : ℕ) → bodies_rows W.program W.sig bs tables ≡ [] → IsMember b bs → body_rows W.program W.sig b (slice_index_or tables b []) ≡ []
  body_none [] tables b h is = absurd is
  body_none (c ∷ bs) tables b h (inl e) = subst (λ c. body_rows W.program W.sig c (slice_index_or tables c []) ≡ []) (sym e) (no_left (body_rows W.program W.sig c (slice_index_or tables c [])) (bodies_rows W.program W.sig bs tables) h)
  body_none (c ∷ bs) tables b h (inr is) = body_none bs tables b (no_right (body_rows W.program W.sig c (slice_index_or tables c [])) (bodies_rows W.program W.sig bs tables) h) is

  module _ (none : rows W.program W.sig W.tables ≡ []) (b p : ℕ) (pt : Point) (e : Env) (is : point_at W.program b p ≡ Some pt) (reached : env_at W b p ≡ Some e) where
    here : body_rows W.program W.sig b (table_at W b) ≡ []
    here =
        let x = body_there W.program b p pt is in
        body_none (below (length W.program.bodies)) W.tables b (no_left (bodies_rows W.program W.sig (below (length W.program.bodies)) W.tables) (pairs_rows W.program W.sig) none) (below_member (length W.program.bodies) b (slice_get_within W.program.bodies b x.0 x.1))

    at_point : rows_at W.program W.sig b pt (Some e) ≡ []
    at_point =
        let place : 0 + p ≡ p = omega arith in
        subst (λ o. rows_at W.program W.sig b pt o ≡ []) (ap (env_in (table_at W b)) place ∙ reached)
        (rows_point b (table_at W b) (points_of (body_at W.program b)) 0 p pt (no_left (rows_from W.program W.sig b (points_of (body_at W.program b)) 0 (table_at W b)) (ctor_rows W.program W.sig b (method_in W.program b) (table_at W b)) here) is)

    set_at_return : (v : Option Operand) → pt.kind ≡ Return v → AllAssigned W b e
    set_at_return v k c = by (method_in W.program b) refl c (no_right (rows_from W.program W.sig b (points_of (body_at W.program b)) 0 (table_at W b)) (ctor_rows W.program W.sig b (method_in W.program b) (table_at W b)) here)
      where
        left : (x y : Bool) → x ≡ true → (x && y) ≡ false → y ≡ false
        left true y c h = h
        left false y c h = cc

        by : (m : Option Method) → method_in W.program b ≡ m → ctor_of m ≡ true → ctor_rows W.program W.sig b m (table_at W b) ≡ [] → (f : ℕ) → owner W.program f ≡ class_of (method_in W.program b) → ref_field W.program f ≡ true → (field_qual W.program W.sig f).null ≡ false → is_on (λ k. eqb k f) (own_keys W.program b) e.assigned ≡ true
        by None im ic h = cc
        by (Some m) im ic h =
            let pts = points_of (body_at W.program b) in
            let unset : unset_from W.program W.sig b pts 0 (table_at W b) ≡ false = left m.ctor (unset_from W.program W.sig b pts 0 (table_at W b)) ic (row_none (m.ctor && unset_from W.program W.sig b pts 0 (table_at W b)) m.span _ h) in
            let place : 0 + p ≡ p = omega arith in
            let at_end : unset_at W.program W.sig b pt.kind (Some e) ≡ false = subst (λ o. unset_at W.program W.sig b pt.kind o ≡ false) (ap (env_in (table_at W b)) place ∙ reached) (unset_point b (table_at W b) pts 0 p pt unset is) in
            set_all b e pt.span (subst (λ k. unset_at W.program W.sig b k (Some e) ≡ false) k at_end) c

    -- no rule is broken at a reached point
    pub none_broken : Passes W.program pt.kind → FieldSettles W e pt.kind → Unbroken W b e pt.kind
    none_broken p s = unbroken b e pt.span pt.kind at_point p s set_at_return
