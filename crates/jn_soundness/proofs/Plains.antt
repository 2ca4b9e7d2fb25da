-- Each kind of point that enters and leaves no frame keeps a good state.
use Rattle.std.proofs.Common.{◌≡◌, ℕ, zero, suc, ◌+◌, Bool, true, false, inl, inr, List, [], ◌∷◌, ◌++◌, length, replicate, Option, Some, None, refl, sym, ap, ◌∙◌, subst, cond}
use Rattle.std.specs.Prelude.{slice_get, slice_set, IsTrue, ltb, ℤ}
use Rattle.jn_points.specs.Shaped.{Early, FromRead, Test, test_at, test_by, test_of}
use Rattle.jn_quals.specs.Qualifier.{Qualifier}
use Rattle.jn_points.specs.declared.point.Operand.{Operand}
use Rattle.jn_points.specs.declared.point.Origin.{Origin}
use Rattle.jn_points.specs.declared.point.BaseType.{BaseType}
use Rattle.jn_points.specs.declared.point.BaseType.TheVariants.{Array}
use Rattle.jn_points.specs.declared.point.Elem.TheVariants.{Ref as RefElem}
use Rattle.jn_points.specs.declared.point.PointKind.{PointKind}
use Rattle.jn_points.specs.declared.point.PointKind.TheVariants.{Const, Move, Unary, Binary, Concat, SameRef, FieldRead, FieldWrite, StaticRead, StaticWrite, ElemRead, ElemWrite, ArrayLen, NewArray, ArrayOf, New, CtorCall, Call, StrOp, Print, Cast, TestInst, TestNull, Branch, Goto, Return}
use Rattle.jn_soundness.specs.Checked.{AllWithin, NewArrayPasses, PointOk, WritePasses, ref_elems}
use Rattle.jn_heap.specs.Values.{At, Elems, Fails, Gives, Got, Lacks, NullRef, Object, Plain, Prim, Text, Thing, Value, default_of, index}
use Rattle.jn_env.specs.Environment.{Env}
use Rattle.jn_transfer.specs.Transfer.{IsAmong, elem_qual, elem_read, learn, literal_qual, put, read_qual, refine, side, written}
use Rattle.jn_transfer.proofs.Monotone.{among_right}
use Rattle.jn_heap.specs.State.{Regs, State, gather, gather_more, got_of, got_sets, holds_at, moves, moves_to, object_of, prim_of, sets, value_at, value_of, int_of, truth_of, text_in, got_plain, got_prim}
use Rattle.jn_heap.specs.Steps.{allocates, array_of, branch, count_of, field_at, goes_by, is_within, literal_value, may_hold, new_array, print, put_thing, read_field, store_in, stored, test_inst, test_null, write_elem, write_field, write_in, write_static}
use Rattle.jn_heap.specs.Runs.{act, step}
use Rattle.jn_env.specs.Order.{SlotWithin, qual_at}
use Rattle.jn_soundness.specs.World.{World, env_at}
use Rattle.jn_points.specs.Members.{has_field}
use Rattle.jn_quals.specs.Order.{committed_only, is_none, no_qual, null_part, settle, within, without_null}
use Rattle.jn_points.specs.Lookup.{ctor_of, method_in, ref_field, reg_base, owner, elem_base}
use Rattle.jn_sigs.specs.Signature.{field_qual}
use Rattle.jn_soundness.proofs.Basics.{true_false, within_null, describes_within, described_at, described_set, settled_of, value_zero, value_same, value_other, replicated}
use Rattle.jn_soundness.proofs.Tops.{GotOk, object_is, alive, null_alive, without_null_describes, side_among, side_alone, Step, plain_step, arrives, ctor_moves, goes_top, facts_set, set_top, move_top, refine_top, learn_top, some_zero}
use Rattle.jn_soundness.proofs.Values.{literal_fits, got_fits, plain_fits, unary_fits, binary_fits, concat_fits, same_fits, len_fits, str_fits, cast_fits, read_fits, elem_fits}
use Rattle.jn_soundness.proofs.Laters.{Later, ctor_later, all_later, waiting_later}
use Rattle.jn_soundness.proofs.Writes.{fits_field, later_after, heap_ok_after, facts_after, facts_same, assigned_after, assigned_kept, null_is_ref, plain_field}
use Rattle.jn_soundness.proofs.Grows.{elems_later, elems_heap, elems_field, grown_marks, grown_later, grown_heap, field_grown, top_later, mark_same, committed_grown, settled_later}
use Rattle.jn_soundness.specs.Marks.{Committed, Marking, Marks, births, mark_by}
use Rattle.jn_soundness.specs.Heaps.{Describes, HoldsRef, MarkFits, Settled, FieldOk}
use Rattle.jn_soundness.specs.Asked.{ElemsFit, Typed, HoldsPlain, AllPlain}
use Rattle.jn_soundness.specs.Marked.{Marked, MarkedNext}
use Rattle.jn_soundness.specs.Frames.{GoodTop, Kept, TestOk}
use Rattle.jn_soundness.proofs.Eras.{committed_eras}

elem_settled : (b : BaseType) → (elem_qual b).free ≡ false
elem_settled (Array (RefElem c) nullable) = refl
elem_settled b = refl

plain_settled : (m : Marks) (q : Qualifier) (v : Value) → HoldsPlain (Some v) → Settled m q v
plain_settled m q NullRef h = absurd h
plain_settled m q (Text t) h = absurd h
plain_settled m q (Plain p) h = tt
plain_settled m q (At o) h = absurd h

-- a point that enters no frame and leaves none
abbrev pub IsPlainKind : PointKind → Type 0
IsPlainKind (New dst m args) = ⊥
IsPlainKind (CtorCall m args own) = ⊥
IsPlainKind (Call dst m r direct args) = ⊥
IsPlainKind (Return v) = ⊥
IsPlainKind k = Unit {0}

module _ (W : World) (st : State) (mk : Marking) (good : Marked W st mk) where
  -- heap and marks are as they were
  keep : (s : List Prim) (out : List ℕ) (to : ℕ) (regs : Regs) → GoodTop W mk.marks st.heap (record { body = st.top.body; at = to; regs = regs }) mk.top → Marked W (record { limits = st.limits; heap = st.heap; statics = s; out = out; top = record { body = st.top.body; at = to; regs = regs }; waiting = st.waiting }) mk
  keep s out to regs t = record { heap = good.heap; top = t; waiting = good.waiting; below = good.below; eras = good.eras }

  sets_good : (dst : ℕ) (q : Qualifier) (v : Value) → Step W st.top.body st.top.at (st.top.at + 1, put W.program st.top.body good.top.env dst q) → (ctor_of (method_in W.program st.top.body) ≡ true → Some dst ≡ Some 0 → ⊥) → Describes mk.marks mk.top.era q (Some v) → MarkedNext W mk (sets st dst v)
  sets_good dst q v s k d = keep st.statics st.out (st.top.at + 1) (slice_set st.top.regs dst (Some v)) (set_top W mk.marks st.heap st.top mk.top good.top dst q v s k d)

  got_good : (dst : ℕ) (q : Qualifier) (x : Got Value) → Step W st.top.body st.top.at (st.top.at + 1, put W.program st.top.body good.top.env dst q) → (ctor_of (method_in W.program st.top.body) ≡ true → Some dst ≡ Some 0 → ⊥) → GotOk (λ v. Describes mk.marks mk.top.era q (Some v)) x → MarkedNext W mk (got_sets st dst x)
  got_good dst q (Gives v) s k d = sets_good dst q v s k d
  got_good dst q (Fails e) s k d = tt
  got_good dst q Lacks s k d = tt

  moves_good : (s : List Prim) (out : List ℕ) (to : ℕ) → Step W st.top.body st.top.at (to, good.top.env) → Marked W (record { limits = st.limits; heap = st.heap; statics = s; out = out; top = moves_to st.top to; waiting = st.waiting }) mk
  moves_good s out to h = keep s out to st.top.regs (move_top W mk.marks st.heap st.top mk.top good.top to h)

  described : (r : ℕ) → Describes mk.marks mk.top.era (qual_at good.top.env r) (value_at st.top.regs r)
  described r = described_at mk.marks mk.top.era good.top.env.quals st.top.regs r good.top.stands.quals

  described_is : (r : ℕ) (o : Option Value) → value_at st.top.regs r ≡ o → Describes mk.marks mk.top.era (qual_at good.top.env r) o
  described_is r o is = subst (λ v. Describes mk.marks mk.top.era (qual_at good.top.env r) v) is (described r)

  -- tests

  abbrev Goes' : ℕ → Env → Type 0
  Goes' to e = Step W st.top.body st.top.at (to, e)

  value_side : (og : Option Origin) (r to : ℕ) (v : Value) → value_at st.top.regs r ≡ Some v → HoldsRef v → Goes' to (learn W.program st.top.body og (refine good.top.env r (without_null (qual_at good.top.env r)))) → TestOk W st.heap st.top.regs (test_by og r) → MarkedNext W mk (moves st to)
  value_side og r to v is h s t =
      let q = qual_at good.top.env r in
      keep st.statics st.out to st.top.regs (learn_top W mk.marks st.heap st.top mk.top good.top og to r (without_null q) v s t is h
      (subst (λ x. Describes mk.marks mk.top.era (without_null q) x) (sym is) (without_null_describes mk.marks mk.top.era q v h (described_is r (Some v) is))))

  test_null_good : (of : Operand) (og : Option Origin) (a b : ℕ) (o : Option Value) → value_at st.top.regs of.reg.0 ≡ o → TestOk W st.heap st.top.regs (test_by og of.reg.0) →
      ((x : ℕ × Env) → IsAmong x (side (is_none (null_part (qual_at good.top.env of.reg.0))) a (refine good.top.env of.reg.0 (null_part (qual_at good.top.env of.reg.0))) ++ side (is_none (without_null (qual_at good.top.env of.reg.0))) b (learn W.program st.top.body og (refine good.top.env of.reg.0 (without_null (qual_at good.top.env of.reg.0))))) → Step W st.top.body st.top.at x) →
      MarkedNext W mk (test_null st a b o)
  test_null_good of og a b None is t c = tt
  test_null_good of og a b (Some NullRef) is t c =
      let q = qual_at good.top.env of.reg.0 in
      let d = described_is of.reg.0 (Some NullRef) is in
      keep st.statics st.out a st.top.regs (refine_top W mk.marks st.heap st.top mk.top good.top a of.reg.0 (null_part q) (c _ (side_among (is_none (null_part q)) a (refine good.top.env of.reg.0 (null_part q)) _ (null_alive q d)))
      (subst (λ x. Describes mk.marks mk.top.era (null_part q) x) (sym is) d))
  test_null_good of og a b (Some (Text x)) is t c =
      let q = qual_at good.top.env of.reg.0 in
      value_side og of.reg.0 b (Text x) is tt (c _ (among_right _ (side (is_none (null_part q)) a (refine good.top.env of.reg.0 (null_part q))) _ (side_alone (is_none (without_null q)) b _ (alive mk.marks mk.top.era q (Text x) (described_is of.reg.0 (Some (Text x)) is) tt)))) t
  test_null_good of og a b (Some (Plain p)) is t c = tt
  test_null_good of og a b (Some (At x)) is t c =
      let q = qual_at good.top.env of.reg.0 in
      value_side og of.reg.0 b (At x) is tt (c _ (among_right _ (side (is_none (null_part q)) a (refine good.top.env of.reg.0 (null_part q))) _ (side_alone (is_none (without_null q)) b _ (alive mk.marks mk.top.era q (At x) (described_is of.reg.0 (Some (At x)) is) tt)))) t

  goes_by_good : (t : Bool) (a b : ℕ) → MarkedNext W mk (moves st a) → MarkedNext W mk (moves st b) → MarkedNext W mk (goes_by st t a b)
  goes_by_good true a b x y = x
  goes_by_good false a b x y = y

  module _ (of : Operand) (og : Option Origin) (k a b : ℕ) (t : TestOk W st.heap st.top.regs (test_by og of.reg.0)) (c : (x : ℕ × Env) → IsAmong x (side (is_none (without_null (qual_at good.top.env of.reg.0))) a (learn W.program st.top.body og (refine good.top.env of.reg.0 (without_null (qual_at good.top.env of.reg.0)))) ++ (b, good.top.env) ∷ []) → Step W st.top.body st.top.at x) where
    inst_yes : (v : Value) → value_at st.top.regs of.reg.0 ≡ Some v → HoldsRef v → MarkedNext W mk (moves st a)
    inst_yes v is h =
        let q = qual_at good.top.env of.reg.0 in
        value_side og of.reg.0 a v is h (c _ (side_among (is_none (without_null q)) a (learn W.program st.top.body og (refine good.top.env of.reg.0 (without_null q))) _ (alive mk.marks mk.top.era q v (described_is of.reg.0 (Some v) is) h))) t

    inst_no : MarkedNext W mk (moves st b)
    inst_no =
        let q = qual_at good.top.env of.reg.0 in
        moves_good st.statics st.out b (c (b, good.top.env) (among_right (b, good.top.env) (side (is_none (without_null q)) a (learn W.program st.top.body og (refine good.top.env of.reg.0 (without_null q)))) _ (inl refl)))

    test_inst_good : (o : Option Value) → value_at st.top.regs of.reg.0 ≡ o → MarkedNext W mk (test_inst W.program st k a b o)
    test_inst_good None is = tt
    test_inst_good (Some NullRef) is = inst_no
    test_inst_good (Some (Text x)) is = goes_by_good (is_within W.program st.heap (Text x) k) a b (inst_yes (Text x) is tt) inst_no
    test_inst_good (Some (Plain p)) is = tt
    test_inst_good (Some (At x)) is = goes_by_good (is_within W.program st.heap (At x) k) a b (inst_yes (At x) is tt) inst_no

  branch_good : (a b : ℕ) (p : Option Bool) → MarkedNext W mk (moves st a) → MarkedNext W mk (moves st b) → MarkedNext W mk (branch st a b p)
  branch_good a b None x y = tt
  branch_good a b (Some p) x y = goes_by_good p a b x y

  print_good : (t : Option (List ℕ)) → Goes' (st.top.at + 1) good.top.env → MarkedNext W mk (print st t)
  print_good None s = tt
  print_good (Some t) s = moves_good st.statics (st.out ++ (t ++ 10 ∷ [])) (st.top.at + 1) s

  static_good : (f : ℕ) (p : Option Prim) → Goes' (st.top.at + 1) good.top.env → MarkedNext W mk (write_static st f p)
  static_good f None s = tt
  static_good f (Some p) s = moves_good (slice_set st.statics f p) st.out (st.top.at + 1) s

  -- a read of a field, after which a test may stand
  read_test : (r f o dst : ℕ) (v : Value) (k : Option Test) → value_at st.top.regs r ≡ Some (At o) → field_at W.program st.heap o f ≡ Some v → (h : (t : Test) → k ≡ Some t → (dst ≡ t.tested) × (r ≡ t.reg) × (f ≡ t.field) × (t.reg ≡ t.tested → ⊥)) → TestOk W st.heap (slice_set st.top.regs dst (Some v)) k
  read_test r f o dst v None is at' h = tt
  read_test r f o dst v (Some t) is at' h =
      let x = h t refl in
      record {
        object = o;
        there = value_other st.top.regs dst t.reg (Some v) (λ e. x.3 (e ∙ x.0)) ∙ subst (λ y. value_at st.top.regs y ≡ Some (At o)) x.1 is;
        value = v;
        read = subst (λ y. field_at W.program st.heap o y ≡ Some v) x.2 at';
        same = λ u seen. value_same st.top.regs dst v u (subst (λ y. value_at (slice_set st.top.regs dst (Some v)) y ≡ Some u) (sym x.0) seen);
      }

  module _ (dst : ℕ) (r f : ℕ) (e' : Env) (same : e' ≡ put W.program st.top.body good.top.env dst (read_qual W.program W.sig st.top.body good.top.env r f))
      (s : SlotWithin (Some e') (env_at W st.top.body (st.top.at + 1))) (early : Early W.program st.top.body st.top.at → Early W.program st.top.body (st.top.at + 1))
      (kept : ctor_of (method_in W.program st.top.body) ≡ true → Some dst ≡ Some 0 → ⊥)
      (h : (t : Test) → test_at W.program st.top.body (st.top.at + 1) ≡ Some t → (dst ≡ t.tested) × (r ≡ t.reg) × (f ≡ t.field) × (t.reg ≡ t.tested → ⊥)) where
    read_top : (o : ℕ) (v : Value) → value_at st.top.regs r ≡ Some (At o) → field_at W.program st.heap o f ≡ Some v → Describes mk.marks mk.top.era (read_qual W.program W.sig st.top.body good.top.env r f) (Some v) → GoodTop W mk.marks st.heap (holds_at st.top dst v) mk.top
    read_top o v is at' d =
        let q = read_qual W.program W.sig st.top.body good.top.env r f in
        let e = good.top.env in
        arrives W mk.marks st.heap (holds_at st.top dst v) mk.top (put W.program st.top.body e dst q)
        (subst (λ x. SlotWithin (Some x) (env_at W st.top.body (st.top.at + 1))) same s)
        (record {
          quals = described_set mk.marks mk.top.era e.quals st.top.regs dst q v d good.top.stands.quals;
          assigned = good.top.stands.assigned;
          ctor = ctor_moves W mk.marks st.heap st.top mk.top (st.top.at + 1) (slice_set st.top.regs dst (Some v)) mk.top.built good.top.stands.ctor (λ c. value_zero st.top.regs dst (Some v) (some_zero W mk.marks st.heap dst (kept c))) early;
        })
        (facts_set W mk.marks st.heap st.top.body st.top.regs dst (Some v) e.facts good.top.facts)
        (read_test r f o dst v (test_at W.program st.top.body (st.top.at + 1)) is at' h)

    read_value : (o : ℕ) (v : Option Value) → value_at st.top.regs r ≡ Some (At o) → field_at W.program st.heap o f ≡ v → GotOk (λ v. Describes mk.marks mk.top.era (read_qual W.program W.sig st.top.body good.top.env r f) (Some v)) (got_of v) → MarkedNext W mk (got_sets st dst (got_of v))
    read_value o None is at' d = tt
    read_value o (Some v) is at' d = keep st.statics st.out (st.top.at + 1) (slice_set st.top.regs dst (Some v)) (read_top o v is at' d)

    read_good : (o : Option ℕ) → object_of (value_at st.top.regs r) ≡ o → GotOk (λ v. Describes mk.marks mk.top.era (read_qual W.program W.sig st.top.body good.top.env r f) (Some v)) (read_field W.program st.heap o f) → MarkedNext W mk (got_sets st dst (read_field W.program st.heap o f))
    read_good None is d = tt
    read_good (Some o) is d = read_value o (field_at W.program st.heap o f) (object_is (value_at st.top.regs r) o is) refl d

  -- a write of a field
  module _ (r f s : ℕ) (u : WritePasses W good.top.env r f s) (ty : ref_field W.program f ≡ false → HoldsPlain (value_at st.top.regs s)) (step : Step W st.top.body st.top.at (st.top.at + 1, written W.program st.top.body good.top.env r f s (ref_field W.program f))) where
    null_slot : (v : Value) → value_at st.top.regs s ≡ Some v → v ≡ NullRef → (field_qual W.program W.sig f).null ≡ true
    null_slot v is n = by (ref_field W.program f) refl
      where
        by : (t : Bool) → ref_field W.program f ≡ t → (field_qual W.program W.sig f).null ≡ true
        by true ir = within_null (settle (qual_at good.top.env s)) (field_qual W.program W.sig f) (u.value ir) (described_is s (Some NullRef) (is ∙ ap (λ x. Some x) n))
        by false ir = absurd (subst HoldsPlain (is ∙ ap (λ x. Some x) n) (ty ir))

    null_qual : (v : Value) → value_at st.top.regs s ≡ Some v → v ≡ NullRef → (qual_at good.top.env s).null ≡ true
    null_qual v is n = described_is s (Some NullRef) (is ∙ ap (λ x. Some x) n)

    -- no null goes into a field whose facts are kept
    null_kept : (v : Value) → value_at st.top.regs s ≡ Some v → v ≡ NullRef → Kept W f → ⊥
    null_kept v is n k = true_false (qual_at good.top.env s).null (null_qual v is n) (u.kept k)

    module _ (o c : ℕ) (fs : List Value) (v : Value) (at' : value_at st.top.regs r ≡ Some (At o)) (is : value_at st.top.regs s ≡ Some v) (thing : slice_get st.heap o ≡ Some (Object c fs)) where
      write_top : (t : Bool) → ref_field W.program f ≡ t → Step W st.top.body st.top.at (st.top.at + 1, written W.program st.top.body good.top.env r f s t) → GoodTop W mk.marks (slice_set st.heap o (Object c (slice_set fs f v))) (moves_to st.top (st.top.at + 1)) mk.top
      write_top true ir step =
          goes_top W mk.marks (slice_set st.heap o (Object c (slice_set fs f v))) st.top mk.top (st.top.at + 1) st.top.regs (written W.program st.top.body good.top.env r f s true)
          (ctor_later W mk.marks st.heap mk.marks (slice_set st.heap o (Object c (slice_set fs f v))) st.top mk.top (later_after W st.heap o c fs f v thing mk.marks mk.top.era (null_slot v is) (null_kept v is)) mk.top.built good.top.stands.ctor)
          step good.top.stands.quals
          (assigned_after W st.heap o c fs f v thing st.top.body good.top.env st.top.regs r s at' (null_qual v is) mk.marks st.top mk.top mk.top.built refl good.top.stands.ctor (null_slot v is) good.top.stands.assigned)
          (facts_after W st.heap o c fs f v thing st.top.body good.top.env st.top.regs r s at' (null_qual v is) (null_kept v is) good.top.facts)
          (λ c. refl)
      write_top false ir step =
          goes_top W mk.marks (slice_set st.heap o (Object c (slice_set fs f v))) st.top mk.top (st.top.at + 1) st.top.regs good.top.env
          (ctor_later W mk.marks st.heap mk.marks (slice_set st.heap o (Object c (slice_set fs f v))) st.top mk.top (later_after W st.heap o c fs f v thing mk.marks mk.top.era (null_slot v is) (null_kept v is)) mk.top.built good.top.stands.ctor)
          step good.top.stands.quals
          (assigned_kept W st.heap o c fs f v thing st.top.body good.top.env st.top.regs r s at' (null_qual v is) mk.top.built (null_slot v is) good.top.stands.assigned)
          (facts_same W st.heap o c fs f v thing st.top.body good.top.env st.top.regs r s at' (null_qual v is) (λ n. true_false (ref_field W.program f) (null_is_ref W (slice_get W.program.fields f) (null_slot v is n)) ir) good.top.facts)
          (λ c. refl)

      written_fits : (t : Bool) → ref_field W.program f ≡ t → FieldOk mk.marks (mk.marks o) (owner W.program f) (ref_field W.program f) (field_qual W.program W.sig f) v
      written_fits true ir = fits_field W mk.marks mk.top.era good.top.env r f s v (mk.marks o) ir u (described_is r (Some (At o)) at') (described_is s (Some v) is)
      written_fits false ir = plain_field W mk.marks mk.top.era (mk.marks o) (owner W.program f) (ref_field W.program f) (field_qual W.program W.sig f) v (subst HoldsPlain is (ty ir))

      write_object : MarkedNext W mk (put_thing st o (Gives (Object c (slice_set fs f v))))
      write_object = record {
        heap = heap_ok_after W st.heap o c fs f v thing mk.marks (mk.top ∷ mk.waiting) good.heap
            (written_fits (ref_field W.program f) refl);
        top = write_top (ref_field W.program f) refl step;
        waiting = waiting_later W mk.marks st.heap mk.marks (slice_set st.heap o (Object c (slice_set fs f v))) st.top.body mk.top st.waiting mk.waiting
            (all_later W mk.marks st.heap mk.marks (slice_set st.heap o (Object c (slice_set fs f v))) (λ a. later_after W st.heap o c fs f v thing mk.marks a (null_slot v is) (null_kept v is)) mk.waiting)
            good.waiting;
        below = good.below;
        eras = good.eras;
      }

    write_bit : (o c : ℕ) (fs : List Value) (v : Value) → value_at st.top.regs r ≡ Some (At o) → value_at st.top.regs s ≡ Some v → slice_get st.heap o ≡ Some (Object c fs) → (t : Bool) → MarkedNext W mk (put_thing st o (cond t (Gives (Object c (slice_set fs f v))) Lacks))
    write_bit o c fs v at' is thing true = write_object o c fs v at' is thing
    write_bit o c fs v at' is thing false = tt

    write_thing : (o : ℕ) (v : Value) → value_at st.top.regs r ≡ Some (At o) → value_at st.top.regs s ≡ Some v → (x : Option Thing) → slice_get st.heap o ≡ x → MarkedNext W mk (put_thing st o (write_in W.program x f v))
    write_thing o v at' is None thing = tt
    write_thing o v at' is (Some (Object c fs)) thing = write_bit o c fs v at' is thing (has_field W.program c f)
    write_thing o v at' is (Some (Elems b xs)) thing = tt

    write_good : (o : Option ℕ) (v : Option Value) → object_of (value_at st.top.regs r) ≡ o → value_at st.top.regs s ≡ v → MarkedNext W mk (write_field W.program st o f v)
    write_good None v at' is = tt
    write_good (Some o) None at' is = tt
    write_good (Some o) (Some v) at' is = write_thing o v (object_is (value_at st.top.regs r) o at') is (slice_get st.heap o) refl

  -- a write of an element
  module _ (r s : ℕ) (w : ref_elems (reg_base W.program st.top.body r) ≡ true → IsTrue (within (qual_at good.top.env s) (elem_qual (reg_base W.program st.top.body r)))) (ty : ElemsFit W st r × (ref_elems (reg_base W.program st.top.body r) ≡ false → HoldsPlain (value_at st.top.regs s))) (plain : test_at W.program st.top.body st.top.at ≡ None) (step : Step W st.top.body st.top.at (st.top.at + 1, good.top.env)) where
    elem_fits_in : (o : ℕ) (b : BaseType) (xs : List Value) (v : Value) → value_at st.top.regs r ≡ Some (At o) → value_at st.top.regs s ≡ Some v → slice_get st.heap o ≡ Some (Elems b xs) → (t : Bool) → ref_elems (reg_base W.program st.top.body r) ≡ t → Settled mk.marks (elem_qual b) v
    elem_fits_in o b xs v at' is thing true ir = settled_of mk.marks mk.top.era (elem_qual b) v (elem_settled b) (describes_within mk.marks mk.top.era (qual_at good.top.env s) (elem_qual b) (Some v) (subst (λ q. IsTrue (within (qual_at good.top.env s) q)) (sym (ty.0 o b xs at' thing)) (w ir)) (described_is s (Some v) is))
    elem_fits_in o b xs v at' is thing false ir = plain_settled mk.marks (elem_qual b) v (subst HoldsPlain is (ty.1 ir))

    store_elems : (o : ℕ) (b : BaseType) (xs : List Value) (i : ℕ) (v : Value) → value_at st.top.regs r ≡ Some (At o) → value_at st.top.regs s ≡ Some v → slice_get st.heap o ≡ Some (Elems b xs) → MarkedNext W mk (put_thing st o (Gives (Elems b (slice_set xs i v))))
    store_elems o b xs i v at' is thing =
        let heap' = slice_set st.heap o (Elems b (slice_set xs i v)) in
        let l : Later W mk.top.era mk.marks st.heap mk.marks heap' = elems_later W st.heap o b xs i v thing mk.marks mk.top.era in
        let t : GoodTop W mk.marks heap' st.top mk.top = top_later W mk.marks st.heap mk.marks heap' st.top mk.top l (λ p g n. elems_field W st.heap o b xs i v thing p g) plain good.top in
        record {
          heap = elems_heap W st.heap o b xs i v thing mk.marks (mk.top ∷ mk.waiting) good.heap
              (elem_fits_in o b xs v at' is thing (ref_elems (reg_base W.program st.top.body r)) refl);
          top = move_top W mk.marks heap' st.top mk.top t (st.top.at + 1) step;
          waiting = waiting_later W mk.marks st.heap mk.marks heap' st.top.body mk.top st.waiting mk.waiting
              (all_later W mk.marks st.heap mk.marks heap' (λ a. elems_later W st.heap o b xs i v thing mk.marks a) mk.waiting) good.waiting;
          below = good.below;
          eras = good.eras;
        }

    stored_good : (o : ℕ) (b : BaseType) (xs : List Value) (i : ℕ) (v : Value) → value_at st.top.regs r ≡ Some (At o) → value_at st.top.regs s ≡ Some v → slice_get st.heap o ≡ Some (Elems b xs) → (x y : Bool) → MarkedNext W mk (put_thing st o (stored b xs i v x y))
    stored_good o b xs i v at' is thing false y = tt
    stored_good o b xs i v at' is thing true false = tt
    stored_good o b xs i v at' is thing true true = store_elems o b xs i v at' is thing

    store_good : (o : ℕ) (i : Option ℕ) (v : Value) → value_at st.top.regs r ≡ Some (At o) → value_at st.top.regs s ≡ Some v → (x : Option Thing) → slice_get st.heap o ≡ x → MarkedNext W mk (put_thing st o (store_in W.program st.heap x i v))
    store_good o i v at' is None thing = tt
    store_good o i v at' is (Some (Object c fs)) thing = tt
    store_good o None v at' is (Some (Elems b xs)) thing = tt
    store_good o (Some i) v at' is (Some (Elems b xs)) thing = stored_good o b xs i v at' is thing (ltb i (length xs)) (may_hold W.program st.heap (elem_base b) v)

    elem_write_good : (o : Option ℕ) (i : Option ℤ) (v : Option Value) → object_of (value_at st.top.regs r) ≡ o → value_at st.top.regs s ≡ v → MarkedNext W mk (write_elem W.program st o i v)
    elem_write_good None i v at' is = tt
    elem_write_good (Some o) None v at' is = tt
    elem_write_good (Some o) (Some i) None at' is = tt
    elem_write_good (Some o) (Some i) (Some v) at' is = store_good o (index i) v (object_is (value_at st.top.regs r) o at') is (slice_get st.heap o) refl

  -- a new array
  module _ (dst : ℕ) (plain : test_at W.program st.top.body st.top.at ≡ None) (step : Step W st.top.body st.top.at (st.top.at + 1, put W.program st.top.body good.top.env dst committed_only)) (kept : ctor_of (method_in W.program st.top.body) ≡ true → Some dst ≡ Some 0 → ⊥) where
    array_good : (b : BaseType) (xs : List Value) → ((i : ℕ) (v : Value) → slice_get xs i ≡ Some v → Settled (grown_marks W mk.marks (mk.top ∷ mk.waiting) st.heap good.heap (Elems b xs) Committed) (elem_qual b) v) → MarkedNext W (births mk (length st.heap) Committed) (allocates st dst (Elems b xs))
    array_good b xs h =
        let gs = mk.top ∷ mk.waiting in
        let n = grown_marks W mk.marks gs st.heap good.heap (Elems b xs) Committed in
        let heap' = st.heap ++ Elems b xs ∷ [] in
        let t : GoodTop W n heap' st.top mk.top = top_later W mk.marks st.heap n heap' st.top mk.top (grown_later W mk.marks gs st.heap good.heap (Elems b xs) Committed mk.top.era) (field_grown W mk.marks gs st.heap good.heap (Elems b xs) Committed) plain good.top in
        record {
          heap = grown_heap W mk.marks gs st.heap good.heap (Elems b xs) Committed gs (λ o a x. x) (refl, h);
          top = set_top W n heap' st.top mk.top t dst committed_only (At (length st.heap)) step kept (subst (λ k. MarkFits mk.top.era committed_only k) (sym (mark_same mk.marks (length st.heap) Committed)) refl);
          waiting = waiting_later W mk.marks st.heap n heap' st.top.body mk.top st.waiting mk.waiting
              (all_later W mk.marks st.heap n heap' (λ a. grown_later W mk.marks gs st.heap good.heap (Elems b xs) Committed a) mk.waiting) good.waiting;
          below = good.below;
          eras = committed_eras mk.marks (length st.heap) gs good.eras;
        }

    defaults_good : (b : BaseType) (n : ℕ) → NewArrayPasses b → MarkedNext W (births mk (length st.heap) Committed) (allocates st dst (Elems b (replicate n (default_of (elem_base b)))))
    defaults_good b n h = array_good b (replicate n (default_of (elem_base b))) (λ i v x. subst (λ v. Settled (grown_marks W mk.marks (mk.top ∷ mk.waiting) st.heap good.heap (Elems b (replicate n (default_of (elem_base b)))) Committed) (elem_qual b) v) (replicated n (default_of (elem_base b)) i v x) (default_settled (grown_marks W mk.marks (mk.top ∷ mk.waiting) st.heap good.heap (Elems b (replicate n (default_of (elem_base b)))) Committed) b h))
      where
        default_settled : (m : Marks) (b : BaseType) → NewArrayPasses b → Settled m (elem_qual b) (default_of (elem_base b))
        default_settled m (Array (RefElem c) nullable) h = h
        default_settled m b h = tt

    new_array_good : (b : BaseType) (n : Got ℕ) → NewArrayPasses b → MarkedNext W (births mk (length st.heap) Committed) (new_array st dst b n)
    new_array_good b (Gives n) h = defaults_good b n h
    new_array_good b (Fails e) h = tt
    new_array_good b Lacks h = tt

    abbrev AllHold : (Option Value → Type 0) → List Operand → Type 0
    AllHold P [] = Unit {0}
    AllHold P (a ∷ args) = P (value_at st.top.regs a.reg.0) × AllHold P args

    gathered_at : (P : Option Value → Type 0) (args : List Operand) (vs : List Value) → AllHold P args → gather st.top.regs args ≡ Some vs → (i : ℕ) (v : Value) → slice_get vs i ≡ Some v → P (Some v)
    gathered_at P [] vs w is i v h =
        let same : [] ≡ vs = cc in
        let bad : slice_get [] i ≡ Some v = subst (λ x. slice_get x i ≡ Some v) (sym same) h in
        absurd (let k : None ≡ Some v = bad in cc)
    gathered_at P (a ∷ args) vs w is i v h = more (value_at st.top.regs a.reg.0) (gather st.top.regs args) vs is i v h w.0 (λ us k. gathered_at P args us w.1 k)
      where
        at_place : (x : Value) (us : List Value) (i : ℕ) (v : Value) → slice_get (x ∷ us) i ≡ Some v → P (Some x) → ((i : ℕ) (v : Value) → slice_get us i ≡ Some v → P (Some v)) → P (Some v)
        at_place x us zero v h d k = let same : x ≡ v = cc in subst (λ v. P (Some v)) same d
        at_place x us (suc i) v h d k = k i v h

        more : (x : Option Value) (o : Option (List Value)) (vs : List Value) → gather_more x o ≡ Some vs → (i : ℕ) (v : Value) → slice_get vs i ≡ Some v → P x → ((us : List Value) → o ≡ Some us → (i : ℕ) (v : Value) → slice_get us i ≡ Some v → P (Some v)) → P (Some v)
        more None o vs e i v h d k = cc
        more (Some x) None vs e i v h d k = cc
        more (Some x) (Some us) vs e i v h d k = let same : x ∷ us ≡ vs = cc in at_place x us i v (subst (λ y. slice_get y i ≡ Some v) (sym same) h) d (k us refl)

    all_described : (q : Qualifier) (args : List Operand) → AllWithin good.top.env q args → AllHold (Describes mk.marks mk.top.era q) args
    all_described q [] w = tt
    all_described q (a ∷ args) w = (describes_within mk.marks mk.top.era (qual_at good.top.env a.reg.0) q (value_at st.top.regs a.reg.0) w.0 (described a.reg.0), all_described q args w.1)

    all_plain : (args : List Operand) → AllPlain st.top.regs args → AllHold HoldsPlain args
    all_plain [] w = tt
    all_plain (a ∷ args) w = (w.0, all_plain args w.1)

    module _ (b : BaseType) (args : List Operand) (w : ref_elems b ≡ true → AllWithin good.top.env (elem_qual b) args) (ty : ref_elems b ≡ false → AllPlain st.top.regs args) where
      item_settled : (vs : List Value) → gather st.top.regs args ≡ Some vs → (i : ℕ) (v : Value) → slice_get vs i ≡ Some v → (t : Bool) → ref_elems b ≡ t → Settled mk.marks (elem_qual b) v
      item_settled vs is i v x true ir = settled_of mk.marks mk.top.era (elem_qual b) v (elem_settled b) (gathered_at (Describes mk.marks mk.top.era (elem_qual b)) args vs (all_described (elem_qual b) args (w ir)) is i v x)
      item_settled vs is i v x false ir = plain_settled mk.marks (elem_qual b) v (gathered_at HoldsPlain args vs (all_plain args (ty ir)) is i v x)

      array_of_good : (vs : Option (List Value)) → gather st.top.regs args ≡ vs → MarkedNext W (births mk (length st.heap) Committed) (array_of st dst b vs)
      array_of_good None is = tt
      array_of_good (Some vs) is = array_good b vs (λ i v x.
          settled_later W mk.marks (grown_marks W mk.marks (mk.top ∷ mk.waiting) st.heap good.heap (Elems b vs) Committed) (committed_grown W mk.marks (mk.top ∷ mk.waiting) st.heap good.heap (Elems b vs) Committed) (elem_qual b) v
          (item_settled vs is i v x (ref_elems b) refl))

  pub plain_good : (names : List (List ℕ)) (k : PointKind) → IsPlainKind k → PointOk W st.top.body st.top.at good.top.env k → test_at W.program st.top.body st.top.at ≡ test_of k → TestOk W st.heap st.top.regs (test_of k) → Typed W st k → MarkedNext W (mark_by W st mk k) (act W.program names st k)
  plain_good names (Const dst value) x ok pl t ty = sets_good dst.0 (literal_qual value) (literal_value names value) (plain_step W _ _ _ _ tt tt (ok.edges _ (inl refl))) ok.this_kept (literal_fits W mk.marks mk.top.era names value)
  plain_good names (Move dst from bound) x ok pl t ty = got_good dst.0 (qual_at good.top.env from.reg.0) (got_of (value_at st.top.regs from.reg.0)) (plain_step W _ _ _ _ tt tt (ok.edges _ (inl refl))) ok.this_kept (got_fits W mk.marks mk.top.era _ _ (described from.reg.0))
  plain_good names (Unary dst neg of) x ok pl t ty = got_good dst.0 no_qual _ (plain_step W _ _ _ _ tt tt (ok.edges _ (inl refl))) ok.this_kept (unary_fits W mk.marks mk.top.era neg (prim_of (value_at st.top.regs of.reg.0)))
  plain_good names (Binary dst op l r) x ok pl t ty = got_good dst.0 no_qual _ (plain_step W _ _ _ _ tt tt (ok.edges _ (inl refl))) ok.this_kept (binary_fits W mk.marks mk.top.era op (prim_of (value_at st.top.regs l.reg.0)) (prim_of (value_at st.top.regs r.reg.0)))
  plain_good names (Concat dst l r) x ok pl t ty = got_good dst.0 committed_only _ (plain_step W _ _ _ _ tt tt (ok.edges _ (inl refl))) ok.this_kept (concat_fits W mk.marks mk.top.era st.limits.longest (text_in (value_at st.top.regs l.reg.0)) (text_in (value_at st.top.regs r.reg.0)))
  plain_good names (SameRef dst eq l r) x ok pl t ty = got_good dst.0 no_qual _ (plain_step W _ _ _ _ tt tt (ok.edges _ (inl refl))) ok.this_kept (same_fits W mk.marks mk.top.era eq (value_at st.top.regs l.reg.0) (value_at st.top.regs r.reg.0))
  plain_good names (FieldRead dst r f) x ok pl t ty =
      let edge = ok.edges (st.top.at + 1, put W.program st.top.body good.top.env dst.0 (read_qual W.program W.sig st.top.body good.top.env r.reg.0 f.0)) (inl refl) in
      read_good dst.0 r.reg.0 f.0 (put W.program st.top.body good.top.env dst.0 (read_qual W.program W.sig st.top.body good.top.env r.reg.0 f.0)) refl edge.within (edge.early tt) ok.this_kept
      (λ k is. subst (λ o. FromRead (FieldRead dst r f) o) is edge.test)
      (object_of (value_at st.top.regs r.reg.0)) refl
      (read_fits W mk.marks mk.top.era st.top.body good.top.env st.heap st.top.regs (mk.top ∷ mk.waiting) good.heap good.top.stands.quals r.reg.0 f.0 (object_of (value_at st.top.regs r.reg.0)) refl good.top.facts ty)
  plain_good names (FieldWrite r f s) x ok pl t ty = write_good r.reg.0 f.0 s.reg.0 ok.rules ty (plain_step W _ _ _ _ tt tt (ok.edges _ (inl refl))) (object_of (value_at st.top.regs r.reg.0)) (value_at st.top.regs s.reg.0) refl refl
  plain_good names (StaticRead dst f) x ok pl t ty = got_good dst.0 no_qual (got_plain (got_prim (slice_get st.statics f.0))) (plain_step W _ _ _ _ tt tt (ok.edges _ (inl refl))) ok.this_kept (plain_fits W mk.marks mk.top.era (got_prim (slice_get st.statics f.0)))
  plain_good names (StaticWrite f s) x ok pl t ty = static_good f.0 (prim_of (value_at st.top.regs s.reg.0)) (plain_step W _ _ _ _ tt tt (ok.edges _ (inl refl)))
  plain_good names (ElemRead dst r i) x ok pl t ty = got_good dst.0 (elem_read W.program st.top.body good.top.env r.reg.0) _ (plain_step W _ _ _ _ tt tt (ok.edges _ (inl refl))) ok.this_kept
      (elem_fits W mk.marks mk.top.era st.top.body good.top.env st.heap st.top.regs (mk.top ∷ mk.waiting) good.heap good.top.stands.quals r.reg.0 (object_of (value_at st.top.regs r.reg.0)) (int_of (prim_of (value_at st.top.regs i.reg.0))) refl ty)
  plain_good names (ElemWrite r i s) x ok pl t ty = elem_write_good r.reg.0 s.reg.0 ok.rules.1 ty pl (plain_step W _ _ _ _ tt tt (ok.edges _ (inl refl))) (object_of (value_at st.top.regs r.reg.0)) (int_of (prim_of (value_at st.top.regs i.reg.0))) (value_at st.top.regs s.reg.0) refl refl
  plain_good names (ArrayLen dst r) x ok pl t ty = got_good dst.0 no_qual _ (plain_step W _ _ _ _ tt tt (ok.edges _ (inl refl))) ok.this_kept (len_fits W mk.marks mk.top.era st.heap (object_of (value_at st.top.regs r.reg.0)))
  plain_good names (NewArray dst b n) x ok pl t ty = new_array_good dst.0 pl (plain_step W _ _ _ _ tt tt (ok.edges _ (inl refl))) ok.this_kept b (count_of st.limits.longest (int_of (prim_of (value_at st.top.regs n.reg.0)))) ok.rules
  plain_good names (ArrayOf dst b xs) x ok pl t ty = array_of_good dst.0 pl (plain_step W _ _ _ _ tt tt (ok.edges _ (inl refl))) ok.this_kept b xs ok.rules ty (gather st.top.regs xs) refl
  plain_good names (New dst m args) x ok pl t ty = absurd x
  plain_good names (CtorCall m args own) x ok pl t ty = absurd x
  plain_good names (Call dst m r direct args) x ok pl t ty = absurd x
  plain_good names (StrOp dst op of other) x ok pl t ty = got_good dst.0 no_qual _ (plain_step W _ _ _ _ tt tt (ok.edges _ (inl refl))) ok.this_kept (str_fits W mk.marks mk.top.era op (value_at st.top.regs of.reg.0) (value_of st.top.regs other))
  plain_good names (Print of) x ok pl t ty = print_good (text_in (value_at st.top.regs of.reg.0)) (plain_step W _ _ _ _ tt tt (ok.edges _ (inl refl)))
  plain_good names (Cast dst of c) x ok pl t ty = got_good dst.0 (qual_at good.top.env of.reg.0) _ (plain_step W _ _ _ _ tt tt (ok.edges _ (inl refl))) ok.this_kept (cast_fits W mk.marks mk.top.era st.heap _ (value_at st.top.regs of.reg.0) c.0 (described of.reg.0))
  plain_good names (TestInst of c og a b) x ok pl t ty = test_inst_good of og c.0 a.0 b.0 t (λ y h. plain_step W _ _ _ _ tt tt (ok.edges y h)) (value_at st.top.regs of.reg.0) refl
  plain_good names (TestNull of og a b) x ok pl t ty = test_null_good of og a.0 b.0 (value_at st.top.regs of.reg.0) refl t (λ y h. plain_step W _ _ _ _ tt tt (ok.edges y h))
  plain_good names (Branch of a b) x ok pl t ty = branch_good a.0 b.0 (truth_of (prim_of (value_at st.top.regs of.reg.0))) (moves_good st.statics st.out a.0 (plain_step W _ _ _ _ tt tt (ok.edges _ (inl refl)))) (moves_good st.statics st.out b.0 (plain_step W _ _ _ _ tt tt (ok.edges _ (inr (inl refl)))))
  plain_good names (Goto to) x ok pl t ty = moves_good st.statics st.out to.0 (plain_step W _ _ _ _ tt tt (ok.edges _ (inl refl)))
  plain_good names (Return v) x ok pl t ty = absurd x
