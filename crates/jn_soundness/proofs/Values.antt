-- What a point that gives a value gives.
use Rattle.std.proofs.Common.{◌≡◌, ℕ, Bool, true, false, List, ◌++◌, Option, Some, None, refl, sym, ap, ◌∙◌, subst, cond}
use Rattle.std.specs.Prelude.{slice_get, eqb, ltb, ℤ}
use Rattle.std.proofs.lemmas.Bool.{eqb-true, and_parts}
use Rattle.jn_base.specs.declared.number.SlotNo.{SlotNo}
use Rattle.jn_quals.specs.Qualifier.{Qualifier}
use Rattle.jn_points.specs.declared.point.Operator.{Operator}
use Rattle.jn_points.specs.declared.point.StrOperation.{StrOperation}
use Rattle.jn_points.specs.declared.point.BaseType.{BaseType}
use Rattle.jn_points.specs.declared.point.Literal.{Literal}
use Rattle.jn_points.specs.declared.point.Literal.TheVariants.{Int, Truth as TruthOf, Str, Null}
use Rattle.jn_points.specs.declared.program.Field.{Field}
use Rattle.jn_heap.specs.Values.{At, Elems, Fails, Gives, Got, Lacks, NullRef, Object, Plain, Prim, Text, Thing, Value, binary, index, unary, units, text_op}
use Rattle.jn_env.specs.Environment.{Env}
use Rattle.jn_heap.specs.State.{Regs, got_of, got_plain, object_of, value_at}
use Rattle.jn_heap.specs.Steps.{array_len, binary_of, cast_as, cast_of, concat_of, elem_in, field_at, field_in, is_within, item_at, item_or_index, length_in, literal_value, read_elem, read_field, same_of, str_op, text_or_long, unary_of}
use Rattle.jn_heap.specs.Calls.{class_at, class_in}
use Rattle.jn_soundness.specs.World.{World}
use Rattle.jn_quals.specs.Order.{all_quals, committed_only, is_none, no_qual, null_or_committed, without_free, without_null}
use Rattle.jn_transfer.specs.Transfer.{elem_qual, elem_read, less_null, literal_qual, read_part, read_qual}
use Rattle.jn_env.specs.Keys.{fact_keys, is_key, is_on}
use Rattle.jn_sigs.specs.Signature.{field_qual, field_qual_of, slot_qual}
use Rattle.jn_points.specs.Lookup.{flat_field, owner, ref_field, ref_of, reg_base, has_slot}
use Rattle.jn_env.specs.Order.{qual_at}
use Rattle.jn_soundness.proofs.Basics.{true_false, described_at, settled_describes, settled_within, on_is_on}
use Rattle.jn_soundness.proofs.Tops.{GotOk, object_is, alive, without_null_describes}
use Rattle.jn_soundness.specs.Frames.{AllOn, Described, FactOk}
use Rattle.jn_soundness.specs.Marks.{Committed, FrameMark, Free, Marks, ObjMark, Unborn}
use Rattle.jn_soundness.specs.Heaps.{Describes, FieldOk, FreeField, HeapOk, MarkFits, Settled, ThingOk}

module _ (W : World) (m : Marks) (a : ℕ) where
  abbrev pub Fits : Qualifier → Value → Type 0
  Fits q v = Describes m a q (Some v)

  pub literal_fits : (names : List (List ℕ)) (l : Literal) → Fits (literal_qual l) (literal_value names l)
  literal_fits names (Int i) = tt
  literal_fits names (TruthOf b) = tt
  literal_fits names (Str n) = refl
  literal_fits names Null = refl

  pub got_fits : (q : Qualifier) (v : Option Value) → Describes m a q v → GotOk (Fits q) (got_of v)
  got_fits q None d = tt
  got_fits q (Some v) d = d

  pub plain_fits : (g : Got Prim) → GotOk (Fits no_qual) (got_plain g)
  plain_fits (Gives p) = tt
  plain_fits (Fails e) = tt
  plain_fits Lacks = tt

  pub unary_fits : (neg : Bool) (p : Option Prim) → GotOk (Fits no_qual) (unary_of neg p)
  unary_fits neg None = tt
  unary_fits neg (Some p) = plain_fits (unary neg p)

  pub binary_fits : (op : Operator) (p q : Option Prim) → GotOk (Fits no_qual) (binary_of op p q)
  binary_fits op None q = tt
  binary_fits op (Some p) None = tt
  binary_fits op (Some p) (Some q) = plain_fits (binary op p q)

  text_fits : (t : List ℕ) (b : Bool) → GotOk (Fits committed_only) (text_or_long t b)
  text_fits t true = tt
  text_fits t false = refl

  pub concat_fits : (longest : ℕ) (t u : Option (List ℕ)) → GotOk (Fits committed_only) (concat_of longest t u)
  concat_fits longest None u = tt
  concat_fits longest (Some t) None = tt
  concat_fits longest (Some t) (Some u) = text_fits (t ++ u) (ltb longest (units (t ++ u)))

  pub same_fits : (eq : Bool) (v w : Option Value) → GotOk (Fits no_qual) (same_of eq v w)
  same_fits eq None w = tt
  same_fits eq (Some v) None = tt
  same_fits eq (Some v) (Some w) = tt

  length_fits : (x : Option Thing) → GotOk (Fits no_qual) (length_in x)
  length_fits None = tt
  length_fits (Some (Object c fs)) = tt
  length_fits (Some (Elems b xs)) = tt

  pub len_fits : (heap : List Thing) (o : Option ℕ) → GotOk (Fits no_qual) (array_len heap o)
  len_fits heap None = tt
  len_fits heap (Some o) = length_fits (slice_get heap o)

  pub str_fits : (op : StrOperation) (v w : Option Value) → GotOk (Fits no_qual) (str_op op v w)
  str_fits op None w = tt
  str_fits op (Some NullRef) w = tt
  str_fits op (Some (Text t)) w = plain_fits (text_op op t w)
  str_fits op (Some (Plain p)) w = tt
  str_fits op (Some (At o)) w = tt

  cast_as_fits : (q : Qualifier) (v : Value) (b : Bool) → Fits q v → GotOk (Fits q) (cast_as v b)
  cast_as_fits q v true d = d
  cast_as_fits q v false d = tt

  pub cast_fits : (heap : List Thing) (q : Qualifier) (v : Option Value) (c : ℕ) → Describes m a q v → GotOk (Fits q) (cast_of W.program heap v c)
  cast_fits heap q None c d = tt
  cast_fits heap q (Some NullRef) c d = d
  cast_fits heap q (Some (Text t)) c d = cast_as_fits q (Text t) (is_within W.program heap (Text t) c) d
  cast_fits heap q (Some (Plain p)) c d = tt
  cast_fits heap q (Some (At o)) c d = cast_as_fits q (At o) (is_within W.program heap (At o) c) d

  -- fields

  field_of_thing : (gs : List FrameMark) (o : ℕ) (mark : ObjMark) (x : Option Thing) (f : ℕ) (v : Value) → ThingOk W m gs o mark x → field_in W.program x f ≡ Some v → FieldOk m mark (owner W.program f) (ref_field W.program f) (field_qual W.program W.sig f) v
  field_of_thing gs o mark None f v t is = cc
  field_of_thing gs o mark (Some (Object c fs)) f v t is = t.fields f v is
  field_of_thing gs o mark (Some (Elems b xs)) f v t is = cc

  pub field_ok : (gs : List FrameMark) (heap : List Thing) → HeapOk W m gs heap → (o f : ℕ) (v : Value) → field_at W.program heap o f ≡ Some v → FieldOk m (m o) (owner W.program f) (ref_field W.program f) (field_qual W.program W.sig f) v
  field_ok gs heap h o f v is = field_of_thing gs o (m o) (slice_get heap o) f v (h o) is

  -- a place that is no object is committed, where it is there at all
  flat_thing : (gs : List FrameMark) (o : ℕ) (q : Qualifier) (mark : ObjMark) (x : Option Thing) → ThingOk W m gs o mark x → class_in x ≡ None → MarkFits a q mark → mark ≡ Committed
  flat_thing gs o q mark None t n h = absurd (subst (λ k. MarkFits a q k) t h)
  flat_thing gs o q mark (Some (Object c fs)) t n h = cc
  flat_thing gs o q mark (Some (Elems b xs)) t n h = t.0

  pub flat_committed : (gs : List FrameMark) (heap : List Thing) → HeapOk W m gs heap → (o : ℕ) (q : Qualifier) → class_at heap o ≡ None → MarkFits a q (m o) → m o ≡ Committed
  flat_committed gs heap h o q n f = flat_thing gs o q (m o) (slice_get heap o) (h o) n f

  no_ref_qual : (x : Option Field) → ref_of x ≡ false → field_qual_of W.sig x ≡ no_qual
  no_ref_qual None h = refl
  no_ref_qual (Some f) h = by_slot f.slot h
    where
      by_slot : (s : Option SlotNo) → has_slot s ≡ false → slot_qual W.sig s ≡ no_qual
      by_slot None h = refl
      by_slot (Some s) h = cc

  less_null_fits : (b : Bool) (q : Qualifier) (v : Value) → Fits q v → (b ≡ true → v ≡ NullRef → ⊥) → Fits (less_null b q) v
  less_null_fits false q v d n = d
  less_null_fits true q NullRef d n = absurd (n refl refl)
  less_null_fits true q (Text t) d n = without_null_describes m a q (Text t) tt d
  less_null_fits true q (Plain p) d n = tt
  less_null_fits true q (At o) d n = without_null_describes m a q (At o) tt d

  settled_wide : (fq : Qualifier) (v : Value) (b : Bool) → Settled m fq v → Fits (cond b null_or_committed all_quals) v
  settled_wide fq v true s = settled_describes m a null_or_committed v (settled_within m fq null_or_committed v (λ x. refl) (λ x. refl) s)
  settled_wide fq v false s = settled_describes m a all_quals v (settled_within m fq all_quals v (λ x. refl) (λ x. refl) s)

  -- a field of a committed object
  committed_part : (f : ℕ) (b : Bool) (free : Bool) (fq : Qualifier) (v : Value) → b ≡ false → Settled m fq v → Fits (cond b no_qual (cond free (cond (flat_field W.program f) null_or_committed all_quals) (without_free fq))) v
  committed_part f true free fq v n s = cc
  committed_part f false true fq v n s = settled_wide fq v (flat_field W.program f) s
  committed_part f false false fq v n s = settled_describes m a (without_free fq) v (settled_within m fq (without_free fq) v (λ x. x) (λ x. x) s)

  -- a field of a free object
  wide : (v : Value) (fl : Bool) → Fits all_quals v → ((o : ℕ) → v ≡ At o → fl ≡ true → MarkFits a all_quals (m o) → m o ≡ Committed) → Fits (cond fl null_or_committed all_quals) v
  wide v false d h = d
  wide NullRef true d h = refl
  wide (Text t) true d h = refl
  wide (Plain p) true d h = tt
  wide (At o) true d h = subst (λ k. MarkFits a null_or_committed k) (sym (h o refl refl d)) refl

  free_part : (f : ℕ) (b free : Bool) (fq : Qualifier) (v : Value) → b ≡ false → free ≡ true → Fits all_quals v → ((o : ℕ) → v ≡ At o → flat_field W.program f ≡ true → MarkFits a all_quals (m o) → m o ≡ Committed) → Fits (cond b no_qual (cond free (cond (flat_field W.program f) null_or_committed all_quals) (without_free fq))) v
  free_part f true free fq v n k d h = cc
  free_part f false false fq v n k d h = cc
  free_part f false true fq v n k d h = wide v (flat_field W.program f) d h

  -- what is no reference is plain
  prim_free : (e : ℕ) (ended : List ℕ) (own : ℕ) (fq : Qualifier) (v : Value) → fq ≡ no_qual → FreeField m e ended own false fq v → Fits no_qual v
  prim_free e ended own fq NullRef n h = h.value
  prim_free e ended own fq (Text t) n h = subst (λ q. q.committed ≡ true) n (h.slot tt)
  prim_free e ended own fq (Plain p) n h = tt
  prim_free e ended own fq (At o) n h = true_false fq.committed (h.slot tt) (ap (λ q. q.committed) n)

  by_mark : (f : ℕ) (q : Qualifier) (v : Value) (mark : ObjMark) (is_ref : Bool) → ref_field W.program f ≡ is_ref → MarkFits a q mark → is_none (without_null q) ≡ false → FieldOk m mark (owner W.program f) is_ref (field_qual W.program W.sig f) v → ((o : ℕ) → v ≡ At o → flat_field W.program f ≡ true → MarkFits a all_quals (m o) → m o ≡ Committed) → Fits (cond is_ref (read_part W.program W.sig f (without_null q)) no_qual) v
  by_mark f q v Unborn is_ref ir h n k c = absurd h
  by_mark f q v Committed true ir h n k c = committed_part f (is_none (without_null q)) q.free (field_qual W.program W.sig f) v n k
  by_mark f q v Committed false ir h n k c = settled_describes m a no_qual v (subst (λ x. Settled m x v) (no_ref_qual (slice_get W.program.fields f) ir) k)
  by_mark f q v (Free e ended) true ir h n k c = free_part f (is_none (without_null q)) q.free (field_qual W.program W.sig f) v n h.0 (subst (λ x. Describes m x all_quals (Some v)) h.1 k.value) c
  by_mark f q v (Free e ended) false ir h n k c = prim_free e ended (owner W.program f) (field_qual W.program W.sig f) v (no_ref_qual (slice_get W.program.fields f) ir) k

  fact_on : (b : ℕ) (e : Env) (heap : List Thing) (regs : Regs) (r f o : ℕ) (v : Value) → AllOn (FactOk W heap regs) (fact_keys W.program b) e.facts → value_at regs r ≡ Some (At o) → field_at W.program heap o f ≡ Some v → is_on (is_key r f) (fact_keys W.program b) e.facts ≡ true → v ≡ NullRef → ⊥
  fact_on b e heap regs r f o v fa is at' on null =
      on_is_on (FactOk W heap regs) (is_key r f) (fact_keys W.program b) e.facts fa on (λ k t h.
      let both = and_parts (eqb k.reg r) (eqb k.field f) t in
      let same_reg : k.reg ≡ r = eqb-true k.reg r both.0 in
      let same_field : k.field ≡ f = eqb-true k.field f both.1 in
      h o (subst (λ x. value_at regs x ≡ Some (At o)) (sym same_reg) is) (subst (λ x. field_at W.program heap o x ≡ Some NullRef) (sym same_field) (at' ∙ ap (λ x. Some x) null)))

  module _ (b : ℕ) (e : Env) (heap : List Thing) (regs : Regs) (gs : List FrameMark) (h : HeapOk W m gs heap) (d : Described m a e.quals regs) where
    fits_at : (r o : ℕ) → value_at regs r ≡ Some (At o) → MarkFits a (qual_at e r) (m o)
    fits_at r o is = subst (λ v. Describes m a (qual_at e r) v) is (described_at m a e.quals regs r d)

    field_got : (r f o : ℕ) (v : Option Value) → AllOn (FactOk W heap regs) (fact_keys W.program b) e.facts → value_at regs r ≡ Some (At o) → field_at W.program heap o f ≡ v → ((p : ℕ) → field_at W.program heap o f ≡ Some (At p) → flat_field W.program f ≡ true → class_at heap p ≡ None) → GotOk (Fits (read_qual W.program W.sig b e r f)) (got_of v)
    field_got r f o None fa is at' ty = tt
    field_got r f o (Some v) fa is at' ty =
        let q = qual_at e r in
        let ok = field_ok gs heap h o f v at' in
        less_null_fits (is_on (is_key r f) (fact_keys W.program b) e.facts) (cond (ref_field W.program f) (read_part W.program W.sig f (without_null q)) no_qual) v
        (by_mark f q v (m o) (ref_field W.program f) refl (fits_at r o is) (alive m a q (At o) (fits_at r o is) tt) ok (λ p same fl fit. flat_committed gs heap h p all_quals (ty p (at' ∙ ap (λ x. Some x) same) fl) fit))
        (λ on null. fact_on b e heap regs r f o v fa is at' on null)

    pub read_fits : (r f : ℕ) (o : Option ℕ) → object_of (value_at regs r) ≡ o → AllOn (FactOk W heap regs) (fact_keys W.program b) e.facts → ((o p : ℕ) → value_at regs r ≡ Some (At o) → field_at W.program heap o f ≡ Some (At p) → flat_field W.program f ≡ true → class_at heap p ≡ None) → GotOk (Fits (read_qual W.program W.sig b e r f)) (read_field W.program heap o f)
    read_fits r f None is fa ty = tt
    read_fits r f (Some o) is fa ty =
        let at' = object_is (value_at regs r) o is in
        field_got r f o (field_at W.program heap o f) fa at' refl (λ p x fl. ty o p at' x fl)

    -- elements

    elem_settled : (q : Qualifier) (v : Option Value) → ((w : Value) → v ≡ Some w → Settled m q w) → GotOk (Fits q) (item_or_index v)
    elem_settled q None k = tt
    elem_settled q (Some v) k = settled_describes m a q v (k v refl)

    elem_item : (q : Qualifier) (xs : List Value) (i : Option ℕ) → ((i : ℕ) (v : Value) → slice_get xs i ≡ Some v → Settled m q v) → GotOk (Fits q) (item_or_index (item_at xs i))
    elem_item q xs None k = tt
    elem_item q xs (Some i) k = elem_settled q (slice_get xs i) (λ w x. k i w x)

    elem_got : (q : Qualifier) (o : ℕ) (mark : ObjMark) (x : Option Thing) (i : Option ℕ) → ThingOk W m gs o mark x → ((b : BaseType) (xs : List Value) → x ≡ Some (Elems b xs) → elem_qual b ≡ q) → GotOk (Fits q) (elem_in x i)
    elem_got q o mark None i t k = tt
    elem_got q o mark (Some (Object c fs)) i t k = tt
    elem_got q o mark (Some (Elems b xs)) i t k = elem_item q xs i (λ j v x. subst (λ q. Settled m q v) (k b xs refl) (t.1 j v x))

    alive_elem : (r : ℕ) (bit : Bool) (g : Got Value) → bit ≡ false → GotOk (Fits (elem_qual (reg_base W.program b r))) g → GotOk (Fits (cond bit no_qual (elem_qual (reg_base W.program b r)))) g
    alive_elem r true g n h = cc
    alive_elem r false g n h = h

    pub elem_fits : (r : ℕ) (o : Option ℕ) (i : Option ℤ) → object_of (value_at regs r) ≡ o → ((o : ℕ) (c : BaseType) (xs : List Value) → value_at regs r ≡ Some (At o) → slice_get heap o ≡ Some (Elems c xs) → elem_qual c ≡ elem_qual (reg_base W.program b r)) → GotOk (Fits (elem_read W.program b e r)) (read_elem heap o i)
    elem_fits r None i is ty = tt
    elem_fits r (Some o) None is ty = tt
    elem_fits r (Some o) (Some i) is ty =
        let at' = object_is (value_at regs r) o is in
        alive_elem r (is_none (without_null (qual_at e r))) (elem_in (slice_get heap o) (index i)) (alive m a (qual_at e r) (At o) (fits_at r o at') tt)
        (elem_got (elem_qual (reg_base W.program b r)) o (m o) (slice_get heap o) (index i) (h o) (λ c xs x. ty o c xs at' x))
