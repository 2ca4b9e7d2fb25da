-- A heap that grows or is written keeps the base types of all that it holds.
use Rattle.std.proofs.Common.{◌≡◌, ℕ, zero, suc, Bool, true, false, ◌⊎◌, inl, inr, List, [], ◌∷◌, ◌++◌, length, replicate, Option, Some, None, refl, sym, ap, ◌∙◌, subst, cond, ltb}
use Rattle.std.specs.Prelude.{slice_get, slice_set, ltb, ℤ}
use Rattle.jn_points.specs.BaseTyping.{AllTyped, ArgsTyped, StartsWith, Ordered}
use Rattle.jn_points.specs.declared.point.Operand.{Operand}
use Rattle.jn_points.specs.declared.point.BaseType.{BaseType}
use Rattle.jn_soundness.specs.Types.{HasType, HeapTyped, ProgramTyped, RegsTyped, StateTyped, ThingFits, ThingTyped, WaitTyped, base_of_thing}
use Rattle.jn_heap.specs.Values.{At, Elems, Fails, Gives, Got, Lacks, NullRef, Object, Plain, Text, Thing, Value, default_of, index}
use Rattle.jn_heap.specs.State.{Ends, Frame, Goes, Next, Regs, State, Stuck, gather, gather_more, value_at}
use Rattle.jn_heap.specs.Steps.{allocates, array_of, may_hold, new_array, put_thing, store_in, stored, write_elem, write_field, write_in}
use Rattle.jn_heap.specs.Calls.{pad}
use Rattle.jn_soundness.specs.World.{World}
use Rattle.jn_points.specs.Lookup.{field_base, reg_base, is_array, elem_base}
use Rattle.jn_points.specs.Members.{fits, has_field}
use Rattle.jn_soundness.proofs.Basics.{eqb_cases, value_other, value_same, replicated}
use Rattle.jn_soundness.proofs.Writes.{set_same, set_there, set_other}
use Rattle.jn_soundness.proofs.Grows.{append_other, append_last, past_end}
use Rattle.jn_soundness.proofs.TypedValues.{fits_type, held_has, default_has}

module _ (W : World) (T : Ordered W.program) (P : ProgramTyped W) where
  -- a heap that keeps the base of each thing

  abbrev pub HeapMore : List Thing → List Thing → Type 0
  HeapMore heap heap' = (o : ℕ) (t : BaseType) → ThingFits W (slice_get heap o) t → ThingFits W (slice_get heap' o) t

  module _ (heap heap' : List Thing) (more : HeapMore heap heap') where
    has_more : (t : BaseType) (v : Value) → HasType W heap t v → HasType W heap' t v
    has_more t NullRef h = h
    has_more t (Text x) h = h
    has_more t (Plain p) h = h
    has_more t (At o) h = more o t h

    thing_more : (x : Option Thing) → ThingTyped W heap x → ThingTyped W heap' x
    thing_more None h = tt
    thing_more (Some (Object c fs)) h = (h.0, λ f v is. has_more (field_base W.program f) v (h.1 f v is))
    thing_more (Some (Elems c xs)) h = (h.0, λ i v is. has_more (elem_base c) v (h.1 i v is))

    pub regs_more : (b : ℕ) (regs : Regs) → RegsTyped W heap b regs → RegsTyped W heap' b regs
    regs_more b regs h r v is = has_more (reg_base W.program b r) v (h r v is)

    pub wait_more : (b : ℕ) (ws : List Frame) → WaitTyped W heap b ws → WaitTyped W heap' b ws
    wait_more b [] h = tt
    wait_more b (w ∷ ws) h = (regs_more w.body w.regs h.0, h.1, wait_more w.body ws h.2)

  -- a thing in the place of another of its base
  put_more : (heap : List Thing) (o : ℕ) (x y : Thing) → slice_get heap o ≡ Some x → base_of_thing x ≡ base_of_thing y → HeapMore heap (slice_set heap o y)
  put_more heap o x y is same p t h = by (eqb_cases o p)
    where
      by : (o ≡ p) ⊎ (o ≡ p → ⊥) → ThingFits W (slice_get (slice_set heap o y) p) t
      by (inr n) = subst (λ z. ThingFits W z t) (sym (set_other heap o p y n)) h
      by (inl e) =
          let old : fits W.program (base_of_thing x) t ≡ true = subst (λ z. ThingFits W z t) (subst (λ z. slice_get heap z ≡ Some x) e is) h in
          subst (λ z. ThingFits W z t) (sym (subst (λ z. slice_get (slice_set heap o y) z ≡ Some y) e (set_there heap o x y is))) (subst (λ z. fits W.program z t ≡ true) same old)

  put_heap : (heap : List Thing) (o : ℕ) (x y : Thing) → slice_get heap o ≡ Some x → (more : HeapMore heap (slice_set heap o y)) → HeapTyped W heap → ThingTyped W (slice_set heap o y) (Some y) → HeapTyped W (slice_set heap o y)
  put_heap heap o x y is more h new p = by (eqb_cases o p)
    where
      by : (o ≡ p) ⊎ (o ≡ p → ⊥) → ThingTyped W (slice_set heap o y) (slice_get (slice_set heap o y) p)
      by (inr n) = subst (λ z. ThingTyped W (slice_set heap o y) z) (sym (set_other heap o p y n)) (thing_more heap (slice_set heap o y) more (slice_get heap p) (h p))
      by (inl e) = subst (λ z. ThingTyped W (slice_set heap o y) z) (sym (subst (λ z. slice_get (slice_set heap o y) z ≡ Some y) e (set_there heap o x y is))) new

  -- a thing more
  pub push_more : (heap : List Thing) (x : Thing) → HeapMore heap (heap ++ x ∷ [])
  push_more heap x o t h = subst (λ z. ThingFits W z t) (sym (append_other heap x o (λ e. subst (λ z. ThingFits W z t) (ap (λ y. slice_get heap y) e ∙ past_end heap) h))) h

  pub push_heap : (heap : List Thing) (x : Thing) → HeapTyped W heap → ThingTyped W (heap ++ x ∷ []) (Some x) → HeapTyped W (heap ++ x ∷ [])
  push_heap heap x h new o = by (eqb_cases o (length heap))
    where
      by : (o ≡ length heap) ⊎ (o ≡ length heap → ⊥) → ThingTyped W (heap ++ x ∷ []) (slice_get (heap ++ x ∷ []) o)
      by (inl e) = subst (λ z. ThingTyped W (heap ++ x ∷ []) z) (sym (ap (λ y. slice_get (heap ++ x ∷ []) y) e ∙ append_last heap x)) new
      by (inr n) = subst (λ z. ThingTyped W (heap ++ x ∷ []) z) (sym (append_other heap x o n)) (thing_more heap (heap ++ x ∷ []) (push_more heap x) (slice_get heap o) (h o))

  -- where a state follows, it is of its types
  abbrev pub NextOk : Next → Type 0
  NextOk (Goes x) = StateTyped W x
  NextOk (Ends e x) = Unit {0}
  NextOk Stuck = Unit {0}

  -- values for a list of types
  abbrev pub AllHave : List Thing → List BaseType → List Value → Type 0
  AllHave heap ts [] = Unit {0}
  AllHave heap [] (v ∷ vs) = ⊥
  AllHave heap (t ∷ ts) (v ∷ vs) = HasType W heap t v × AllHave heap ts vs

  pub padded : (heap : List Thing) (base : ℕ → BaseType) (ts : List BaseType) (vs : List Value) (n r : ℕ) (v : Value) → StartsWith W.program base ts → AllHave heap ts vs → value_at (pad vs n) r ≡ Some v → HasType W heap (base r) v
  padded heap base ts vs zero r v s a is = cc
  padded heap base ts [] (suc n) zero v s a is = cc
  padded heap base ts [] (suc n) (suc r) v s a is = padded heap (λ r. base (suc r)) [] [] n r v tt tt is
  padded heap base [] (w ∷ vs) (suc n) r v s a is = absurd a
  padded heap base (t ∷ ts) (w ∷ vs) (suc n) zero v s a is = let same : w ≡ v = cc in subst (λ v. HasType W heap (base 0) v) same (fits_type W T P heap t (base 0) w s.0 a.0)
  padded heap base (t ∷ ts) (w ∷ vs) (suc n) (suc r) v s a is = padded heap (λ r. base (suc r)) ts vs n r v s.1 a.1 is

  pub all_more : (heap heap' : List Thing) → HeapMore heap heap' → (ts : List BaseType) (vs : List Value) → AllHave heap ts vs → AllHave heap' ts vs
  all_more heap heap' more ts [] a = tt
  all_more heap heap' more [] (v ∷ vs) a = a
  all_more heap heap' more (t ∷ ts) (v ∷ vs) a = (has_more heap heap' more t v a.0, all_more heap heap' more ts vs a.1)

  module _ (st : State) (ty : StateTyped W st) where
    -- what operands give
    one_more : (ts : List BaseType) (t : BaseType) (v : Option Value) (o : Option (List Value)) (vs : List Value) → gather_more v o ≡ Some vs → ((w : Value) → v ≡ Some w → HasType W st.heap t w) → ((us : List Value) → o ≡ Some us → AllHave st.heap ts us) → AllHave st.heap (t ∷ ts) vs
    one_more ts t None o vs is f g = cc
    one_more ts t (Some v) None vs is f g = cc
    one_more ts t (Some v) (Some us) vs is f g = let same : v ∷ us ≡ vs = cc in subst (λ x. AllHave st.heap (t ∷ ts) x) same (f v refl, g us refl)

    pub args_have : (ts : List BaseType) (args : List Operand) (vs : List Value) → ArgsTyped W.program st.top.body ts args → gather st.top.regs args ≡ Some vs → AllHave st.heap ts vs
    args_have ts [] vs a is = let same : [] ≡ vs = cc in subst (λ x. AllHave st.heap ts x) same tt
    args_have [] (x ∷ args) vs a is = absurd a
    args_have (t ∷ ts) (x ∷ args) vs a is = one_more ts t (value_at st.top.regs x.reg.0) (gather st.top.regs args) vs is (λ w e. fits_type W T P st.heap (reg_base W.program st.top.body x.reg.0) t w a.0 (ty.top x.reg.0 w e)) (λ us e. args_have ts args us a.1 e)

    items_have : (t : BaseType) (args : List Operand) (vs : List Value) → AllTyped W.program st.top.body t args → gather st.top.regs args ≡ Some vs → (i : ℕ) (v : Value) → slice_get vs i ≡ Some v → HasType W st.heap t v
    items_have t [] vs a is i v h = let same : [] ≡ vs = cc in absurd (let bad : slice_get [] i ≡ Some v = subst (λ x. slice_get x i ≡ Some v) (sym same) h in let k : None ≡ Some v = bad in cc)
    items_have t (x ∷ args) vs a is i v h = more (value_at st.top.regs x.reg.0) (gather st.top.regs args) vs is i v h (λ w e. fits_type W T P st.heap (reg_base W.program st.top.body x.reg.0) t w a.0 (ty.top x.reg.0 w e)) (λ us e. items_have t args us a.1 e)
      where
        place : (w : Value) (us : List Value) (i : ℕ) (v : Value) → slice_get (w ∷ us) i ≡ Some v → HasType W st.heap t w → ((i : ℕ) (v : Value) → slice_get us i ≡ Some v → HasType W st.heap t v) → HasType W st.heap t v
        place w us zero v h f g = let same : w ≡ v = cc in subst (λ v. HasType W st.heap t v) same f
        place w us (suc i) v h f g = g i v h

        more : (w : Option Value) (o : Option (List Value)) (vs : List Value) → gather_more w o ≡ Some vs → (i : ℕ) (v : Value) → slice_get vs i ≡ Some v → ((u : Value) → w ≡ Some u → HasType W st.heap t u) → ((us : List Value) → o ≡ Some us → (i : ℕ) (v : Value) → slice_get us i ≡ Some v → HasType W st.heap t v) → HasType W st.heap t v
        more None o vs e i v h f g = cc
        more (Some w) None vs e i v h f g = cc
        more (Some w) (Some us) vs e i v h f g = let same : w ∷ us ≡ vs = cc in place w us i v (subst (λ y. slice_get y i ≡ Some v) (sym same) h) (f w refl) (g us refl)

    -- writes of fields and elements
    put_typed : (o : ℕ) (x y : Thing) → slice_get st.heap o ≡ Some x → base_of_thing x ≡ base_of_thing y → ThingTyped W (slice_set st.heap o y) (Some y) → NextOk (put_thing st o (Gives y))
    put_typed o x y is same new =
        let more = put_more st.heap o x y is same in
        record { heap = put_heap st.heap o x y is more ty.heap new; top = regs_more st.heap (slice_set st.heap o y) more st.top.body st.top.regs ty.top; waiting = wait_more st.heap (slice_set st.heap o y) more st.top.body st.waiting ty.waiting }

    known : (o : ℕ) (x : Thing) → slice_get st.heap o ≡ Some x → ThingTyped W st.heap (Some x)
    known o x is = subst (λ z. ThingTyped W st.heap z) is (ty.heap o)

    cond_by : (t : Bool) (x y : Option Value) (w : Value) → cond t x None ≡ Some w → cond t y None ≡ cond t y None → (x ≡ Some w) × (t ≡ true)
    cond_by true x y w h k = (h, refl)
    cond_by false x y w h k = cc

    write_object : (o c f : ℕ) (fs : List Value) (v : Value) → slice_get st.heap o ≡ Some (Object c fs) → HasType W st.heap (field_base W.program f) v → (t : Bool) → NextOk (put_thing st o (cond t (Gives (Object c (slice_set fs f v))) Lacks))
    write_object o c f fs v is h false = tt
    write_object o c f fs v is h true =
        let heap' = slice_set st.heap o (Object c (slice_set fs f v)) in
        let more : HeapMore st.heap heap' = put_more st.heap o (Object c fs) (Object c (slice_set fs f v)) is refl in
        put_typed o (Object c fs) (Object c (slice_set fs f v)) is refl ((known o (Object c fs) is).0, λ g w x. has_more st.heap heap' more (field_base W.program g) w (by g w (cond_by (has_field W.program c g) (slice_get (slice_set fs f v) g) None w x refl) (eqb_cases f g)))
      where
        by : (g : ℕ) (w : Value) → (slice_get (slice_set fs f v) g ≡ Some w) × (has_field W.program c g ≡ true) → (f ≡ g) ⊎ (f ≡ g → ⊥) → HasType W st.heap (field_base W.program g) w
        by g w x (inl e) = subst (λ y. HasType W st.heap (field_base W.program y) w) e (subst (λ w. HasType W st.heap (field_base W.program f) w) (set_same fs f v w (subst (λ y. slice_get (slice_set fs f v) y ≡ Some w) (sym e) x.0)) h)
        by g w x (inr n) = (known o (Object c fs) is).1 g w (ap (λ t. cond t (slice_get fs g) None) x.1 ∙ (sym (set_other fs f g v n) ∙ x.0))

    write_thing : (o f : ℕ) (v : Value) → HasType W st.heap (field_base W.program f) v → (x : Option Thing) → slice_get st.heap o ≡ x → NextOk (put_thing st o (write_in W.program x f v))
    write_thing o f v h None is = tt
    write_thing o f v h (Some (Object c fs)) is = write_object o c f fs v is h (has_field W.program c f)
    write_thing o f v h (Some (Elems c xs)) is = tt

    pub write_typed : (s f : ℕ) → fits W.program (reg_base W.program st.top.body s) (field_base W.program f) ≡ true → (o : Option ℕ) (v : Option Value) → value_at st.top.regs s ≡ v → NextOk (write_field W.program st o f v)
    write_typed s f p None v is = tt
    write_typed s f p (Some o) None is = tt
    write_typed s f p (Some o) (Some v) is = write_thing o f v (fits_type W T P st.heap (reg_base W.program st.top.body s) (field_base W.program f) v p (ty.top s v is)) (slice_get st.heap o) refl

    stored_typed : (o : ℕ) (c : BaseType) (xs : List Value) (i : ℕ) (v : Value) → slice_get st.heap o ≡ Some (Elems c xs) → (x y : Bool) → may_hold W.program st.heap (elem_base c) v ≡ y → NextOk (put_thing st o (stored c xs i v x y))
    stored_typed o c xs i v is false y m = tt
    stored_typed o c xs i v is true false m = tt
    stored_typed o c xs i v is true true m =
        let heap' = slice_set st.heap o (Elems c (slice_set xs i v)) in
        let more : HeapMore st.heap heap' = put_more st.heap o (Elems c xs) (Elems c (slice_set xs i v)) is refl in
        put_typed o (Elems c xs) (Elems c (slice_set xs i v)) is refl ((known o (Elems c xs) is).0, λ j w x. has_more st.heap heap' more (elem_base c) w (by j w x (eqb_cases i j)))
      where
        by : (j : ℕ) (w : Value) → slice_get (slice_set xs i v) j ≡ Some w → (i ≡ j) ⊎ (i ≡ j → ⊥) → HasType W st.heap (elem_base c) w
        by j w x (inl e) = subst (λ w. HasType W st.heap (elem_base c) w) (set_same xs i v w (subst (λ y. slice_get (slice_set xs i v) y ≡ Some w) (sym e) x)) (held_has W T P st.heap ty.heap (elem_base c) v m)
        by j w x (inr n) = (known o (Elems c xs) is).1 j w (sym (set_other xs i j v n) ∙ x)

    store_typed : (o : ℕ) (i : Option ℕ) (v : Value) (x : Option Thing) → slice_get st.heap o ≡ x → NextOk (put_thing st o (store_in W.program st.heap x i v))
    store_typed o i v None is = tt
    store_typed o i v (Some (Object c fs)) is = tt
    store_typed o None v (Some (Elems c xs)) is = tt
    store_typed o (Some i) v (Some (Elems c xs)) is = stored_typed o c xs i v is (ltb i (length xs)) (may_hold W.program st.heap (elem_base c) v) refl

    pub write_elem_typed : (o : Option ℕ) (i : Option ℤ) (v : Option Value) → NextOk (write_elem W.program st o i v)
    write_elem_typed None i v = tt
    write_elem_typed (Some o) None v = tt
    write_elem_typed (Some o) (Some i) None = tt
    write_elem_typed (Some o) (Some i) (Some v) = store_typed o (index i) v (slice_get st.heap o) refl

    -- new arrays
    allocate_typed : (dst : ℕ) (x : Thing) → fits W.program (base_of_thing x) (reg_base W.program st.top.body dst) ≡ true → ThingTyped W (st.heap ++ x ∷ []) (Some x) → NextOk (allocates st dst x)
    allocate_typed dst x f new =
        let heap' = st.heap ++ x ∷ [] in
        let more : HeapMore st.heap heap' = push_more st.heap x in
        record {
          heap = push_heap st.heap x ty.heap new;
          top = λ r w is. by r w is (eqb_cases r dst);
          waiting = wait_more st.heap heap' more st.top.body st.waiting ty.waiting;
        }
      where
        by : (r : ℕ) (w : Value) → value_at (slice_set st.top.regs dst (Some (At (length st.heap)))) r ≡ Some w → (r ≡ dst) ⊎ (r ≡ dst → ⊥) → HasType W (st.heap ++ x ∷ []) (reg_base W.program st.top.body r) w
        by r w is (inl e) =
            let now : At (length st.heap) ≡ w = value_same st.top.regs dst (At (length st.heap)) w (subst (λ y. value_at (slice_set st.top.regs dst (Some (At (length st.heap)))) y ≡ Some w) e is) in
            subst (λ w. HasType W (st.heap ++ x ∷ []) (reg_base W.program st.top.body r) w) now (subst (λ z. ThingFits W z (reg_base W.program st.top.body r)) (sym (append_last st.heap x)) (subst (λ y. fits W.program (base_of_thing x) (reg_base W.program st.top.body y) ≡ true) (sym e) f))
        by r w is (inr n) = has_more st.heap (st.heap ++ x ∷ []) (push_more st.heap x) (reg_base W.program st.top.body r) w (ty.top r w (sym (value_other st.top.regs dst r (Some (At (length st.heap))) n) ∙ is))

    pub new_array_typed : (dst : ℕ) (c : BaseType) → is_array c ≡ true → fits W.program c (reg_base W.program st.top.body dst) ≡ true → (n : Got ℕ) → NextOk (new_array st dst c n)
    new_array_typed dst c a f (Gives n) = allocate_typed dst (Elems c (replicate n (default_of (elem_base c)))) f (a, λ i v x. subst (λ v. HasType W (st.heap ++ Elems c (replicate n (default_of (elem_base c))) ∷ []) (elem_base c) v) (replicated n (default_of (elem_base c)) i v x) (default_has W T P (st.heap ++ Elems c (replicate n (default_of (elem_base c))) ∷ []) (elem_base c)))
    new_array_typed dst c a f (Fails e) = tt
    new_array_typed dst c a f Lacks = tt

    pub array_of_typed : (dst : ℕ) (c : BaseType) (args : List Operand) → is_array c ≡ true → fits W.program c (reg_base W.program st.top.body dst) ≡ true → AllTyped W.program st.top.body (elem_base c) args → (vs : Option (List Value)) → gather st.top.regs args ≡ vs → NextOk (array_of st dst c vs)
    array_of_typed dst c args a f p None is = tt
    array_of_typed dst c args a f p (Some vs) is = allocate_typed dst (Elems c vs) f (a, λ i v x. has_more st.heap (st.heap ++ Elems c vs ∷ []) (push_more st.heap (Elems c vs)) (elem_base c) v (items_have (elem_base c) args vs p is i v x))
