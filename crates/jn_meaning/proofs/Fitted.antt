-- Expressions without a row, of which no operand is void, are fit.
use Rattle.std.proofs.Common.{◌≡◌, ◌⊎◌, inl, inr, ℕ, zero, suc, Bool, true, false, cond, not, ◌&&◌, ◌||◌, List, [], ◌++◌, Option, Some, None, refl, sym, subst, eqb}
use Rattle.jn_base.specs.declared.code.Code.TheVariants.{J1, J2, J5}
use Rattle.jn_base.specs.declared.place.Row.{Row}
use Rattle.jn_base.specs.declared.place.Span.{Span}
use Rattle.jn_trees.specs.declared.expression.Identifier.{Identifier}
use Rattle.jn_points.specs.declared.point.BaseType.{BaseType}
use Rattle.jn_points.specs.declared.point.BaseType.TheVariants.{Int, Bool as BoolBase, Void, Null, Ref, Array}
use Rattle.jn_points.specs.declared.point.StrOperation.TheVariants.{Length, IsEmpty, Equals}
use Rattle.jn_points.specs.declared.program.Method.{Method}
use Rattle.jn_points.specs.declared.program.Program.{Program}
use Rattle.jn_points.specs.BaseRows.{is_void}
use Rattle.jn_points.specs.Lookup.{is_array, method_at, result_base_of, static_of}
use Rattle.jn_points.specs.Members.{constructor_of, method_of}
use Rattle.jn_points.specs.Regular.{Regular}
use Rattle.jn_places.specs.Placed.{PlacedTree, PlacedTrees, NoPlacedTrees, MorePlacedTrees, PlacedLiteral, PlacedName, PlacedThis, PlacedParen, PlacedField, PlacedCall, PlacedOwnCall, PlacedSuperCall, PlacedIndex, PlacedNew, PlacedNewArray, PlacedArrayOf, PlacedPostfix, PlacedPrefix, PlacedUnary, PlacedCast, PlacedBinary, PlacedInstanceOf, PlacedConditional, PlacedAssign}
use Rattle.jn_known.specs.Known.{equals_name, is_empty_name, is_object_member, length_name}
use Rattle.jn_lowering.specs.Scopes.{Local, Scope, Meaning, LocalMeant, FieldMeant, ClassMeant, SystemMeant, NothingMeant, Access, ClassField, ObjectField, ArrayLength, NoField, Callee, Println, OfText, ClassMethod, ObjectMethod, NoMethod, access, before_dot, callee, callee_by, callee_of, class_callee, class_named, count, is_output, local_in, meaning, object_callee, or_zero, super_method, text_callee}
use Rattle.jn_lowering.specs.Bases.{type_of}
use Rattle.jn_lowering.specs.Calls.{is_static}
use Rattle.jn_lowering.specs.Expressions.{is_null}
use Rattle.jn_lowering.specs.Annotations.{known_class, row, unless, when}
use Rattle.jn_lowering.specs.ExpressionRows.{Setting, access_rows, array_rows, assigned_access_rows, assigned_name_rows, assigned_rows, equality_rows, final_rows, index_rows, inner_span, is_this, name_rows, new_rows, own_field_rows, own_method_rows, rows_of, rows_of_all, super_method_rows}
use Rattle.jn_lowering.proofs.Found.{ctor_found}
use Rattle.jn_lowering.proofs.NoRows.{AccessGood, CalleeGood, access_good, append_none, dotted_good, new_good, other_side}
use Rattle.jn_lowering.proofs.Ranges.{meant}
use Rattle.jn_meaning.specs.Fitting.{AccessFit, AllFit, CalleeFit, CalleeVoid, CreatedFit, EffectFit, Fit, HasOneTree, IsLocal, IsTarget, NameFit, NeedsThis, OwnCallFit, SuperCallFit, VoidFit}
use Rattle.jn_meaning.proofs.Valuing.{AccessValued, AllValued, CalleeValued, Effectual, Results, Valued, Voiding}

-- constructors of a regular program aren't static
pub ctors_of : (P : Program) → Regular P → (k arity m : ℕ) → constructor_of P k arity ≡ Some m → static_of (method_at P m) ≡ false
ctors_of P H k arity m h =
    let q = ctor_found P k arity m h in
    let x : Method = q.0 in
    subst (λ o. static_of o ≡ false) (sym q.1) ((H.methods m x q.1).ctor q.2).0

module _ (P : Program) (first : ℕ) (this : Bool) (c : ℕ) (at : Setting) (s : Scope)
    (stands : at.this_stands ≡ true → this ≡ true)
    (locals : (n : ℕ) (l : Local) → local_in s n ≡ Some l → IsLocal P first this l.reg)
    (ctors : (k arity m : ℕ) → constructor_of P k arity ≡ Some m → static_of (method_at P m) ≡ false) where
  stood : (b : Bool) (span : Span) → when (not b) (row J1 span) ≡ [] → b ≡ true
  stood true span h = refl
  stood false span h = cc

  own_fit : (b : Bool) (span : Span) → when (not b && not at.this_stands) (row J1 span) ≡ [] → NeedsThis P first this b
  own_fit true span h = tt
  own_fit false span h = stands (stood at.this_stands span h)

  name_fit : (n : ℕ) (span : Span) (m : Meaning) → meaning P c s n ≡ m → name_rows P c at m span ≡ [] → NameFit P first this m
  name_fit n span (LocalMeant l) e h = locals n l (meant P c s n l e)
  name_fit n span (FieldMeant f) e h = own_fit (is_static P f) span h
  name_fit n span (ClassMeant k) e h = cc
  name_fit n span SystemMeant e h = cc
  name_fit n span NothingMeant e h = cc

  assigned_fit : (n : ℕ) (span : Span) (m : Meaning) → meaning P c s n ≡ m → assigned_name_rows P c at m span ≡ [] → NameFit P first this m
  assigned_fit n span (LocalMeant l) e h = locals n l (meant P c s n l e)
  assigned_fit n span (FieldMeant f) e h = own_fit (is_static P f) span (append_none (own_field_rows P c at f span) (unless (own_field_rows P c at f span) (final_rows P c at f true span)) h).0
  assigned_fit n span (ClassMeant k) e h = cc
  assigned_fit n span SystemMeant e h = cc
  assigned_fit n span NothingMeant e h = cc

  access_fit : (a : Access) (rows : List Row) (V Object : Type 0) → AccessGood P c rows a → AccessValued P a V → (V → rows ≡ [] → Object) → AccessFit P first this a Object
  access_fit (ClassField f) rows V Object g v k = tt
  access_fit (ObjectField f) rows V Object g v k = k v g.0
  access_fit ArrayLength rows V Object g v k = k v g
  access_fit NoField rows V Object g v k = absurd g

  callee_fit : (k : Callee) (rows args : List Row) (arity : ℕ) (V A On Args : Type 0) → CalleeGood P c rows args arity k → CalleeValued P false k V A → (V → rows ≡ [] → On) → (A → args ≡ [] → Args) → CalleeFit P first this k On Args
  callee_fit Println rows args arity V A On Args g v on args_fit = let e : false ≡ true = v.0 in cc
  callee_fit (OfText op) rows args arity V A On Args g v on args_fit = (on v.1 g.0, args_fit v.2 g.1)
  callee_fit (ClassMethod m) rows args arity V A On Args g v on args_fit = (v.0, args_fit v.1 g.0)
  callee_fit (ObjectMethod m) rows args arity V A On Args g v on args_fit = (v.0, on v.1 g.0, args_fit v.2 g.1.0)
  callee_fit NoMethod rows args arity V A On Args g v on args_fit = absurd g

  either : (e : PlacedTree) (n arity : ℕ) → (callee P c s e (type_of P c s e) n arity ≡ Println) ⊎ (callee P c s e (type_of P c s e) n arity ≡ callee_by P (before_dot P c s e) (type_of P c s e) n arity)
  either e n arity = by (is_output P c s e && eqb n 3 && eqb arity 1)
    where
      by : (b : Bool) → (cond b Println (callee_by P (before_dot P c s e) (type_of P c s e) n arity) ≡ Println) ⊎ (cond b Println (callee_by P (before_dot P c s e) (type_of P c s e) n arity) ≡ callee_by P (before_dot P c s e) (type_of P c s e) n arity)
      by true = inl refl
      by false = inr refl

  -- a method with a result, or one without
  abbrev Kind : Bool → ℕ → Type 0
  Kind void m = is_void (result_base_of (method_at P m)) ≡ void

  own_call_fit : (void : Bool) (o : Option ℕ) (span : Span) (Args : Type 0) → own_method_rows P at o span ≡ [] → Results P void o → Args → OwnCallFit P first this (Kind void) o Args
  own_call_fit void None span Args h v args = cc
  own_call_fit void (Some m) span Args h v args = (v, own_fit (static_of (method_at P m)) span h, args)

  super_call_fit : (void : Bool) (o : Option ℕ) (span : Span) (Args : Type 0) → super_method_rows P c o span ≡ [] → at.this_stands ≡ true → Results P void o → Args → SuperCallFit P first this (Kind void) o Args
  super_call_fit void None span Args h t v args = cc
  super_call_fit void (Some m) span Args h t v args = (v, stands t, args)

  created_fit : (n arity : ℕ) (span : Span) (Args : Type 0) → new_rows P c (class_named P n) arity span ≡ [] → Args → CreatedFit P first this (constructor_of P (or_zero (class_named P n)) arity) Args
  created_fit n arity span Args h args =
      let q = new_good P c n arity span h in
      subst (λ o. CreatedFit P first this o Args) (sym q.found) (ctors (or_zero (class_named P n)) arity q.ctor q.found, args)

  abbrev parts : (xs ys : List Row) → xs ++ ys ≡ [] → (xs ≡ []) × (ys ≡ [])
  parts xs ys h = append_none xs ys h

  -- a row that stands unless it isn't asked for
  when_true : (b : Bool) (rows : List Row) → b ≡ true → when b rows ≡ [] → rows ≡ []
  when_true true rows e h = h
  when_true false rows e h = cc

  own_parts : (n : Identifier) (es : PlacedTrees) → rows_of_all P c at s es ++ cond (is_object_member n.name.0) (row J5 n.span) (own_method_rows P at (method_of P c n.name.0 (count es)) n.span) ≡ [] → (rows_of_all P c at s es ≡ []) × (own_method_rows P at (method_of P c n.name.0 (count es)) n.span ≡ [])
  own_parts n es h =
      let own : List Row = own_method_rows P at (method_of P c n.name.0 (count es)) n.span in
      let p = parts (rows_of_all P c at s es) (cond (is_object_member n.name.0) (row J5 n.span) own) h in
      (p.0, (other_side (is_object_member n.name.0) (record { span = n.span; code = J5 }) [] own p.1).1)

  super_parts : (n : Identifier) (es : PlacedTrees) (span : Span) → when (not at.this_stands) (row J1 span) ++ (rows_of_all P c at s es ++ cond (is_object_member n.name.0) (row J5 n.span) (when at.this_stands (super_method_rows P c (super_method P c n.name.0 (count es)) n.span))) ≡ [] → (at.this_stands ≡ true) × (rows_of_all P c at s es ≡ []) × (super_method_rows P c (super_method P c n.name.0 (count es)) n.span ≡ [])
  super_parts n es span h =
      let own : List Row = super_method_rows P c (super_method P c n.name.0 (count es)) n.span in
      let p = parts (when (not at.this_stands) (row J1 span)) (rows_of_all P c at s es ++ cond (is_object_member n.name.0) (row J5 n.span) (when at.this_stands own)) h in
      let q = parts (rows_of_all P c at s es) (cond (is_object_member n.name.0) (row J5 n.span) (when at.this_stands own)) p.1 in
      let t : at.this_stands ≡ true = stood at.this_stands span p.0 in
      (t, q.0, when_true at.this_stands own t (other_side (is_object_member n.name.0) (record { span = n.span; code = J5 }) [] (when at.this_stands own) q.1).1)

  indexed : (a i : PlacedTree) → index_rows P c at (type_of P c s a) (rows_of P c at s a) (rows_of P c at s i) (inner_span a) ≡ [] → (rows_of P c at s a ≡ []) × (rows_of P c at s i ≡ [])
  indexed a i h =
      let own : List Row = unless (rows_of P c at s a) (when (not (is_array (type_of P c s a))) (row J2 (inner_span a))) in
      let p = parts (rows_of P c at s a) (rows_of P c at s i ++ own) h in
      (p.0, (parts (rows_of P c at s i) own p.1).0)

  mutual
    pub fit_of : (e : PlacedTree) → Valued P c s e → rows_of P c at s e ≡ [] → Fit P first this c s e
    fit_of (PlacedLiteral l span) v h = tt
    fit_of (PlacedName n) v h = name_fit n.name.0 n.span (meaning P c s n.name.0) refl h
    fit_of (PlacedThis span) v h = stands (stood at.this_stands span h)
    fit_of (PlacedParen e span) v h = fit_of e v h
    fit_of (PlacedField e n span) v h =
        access_fit (access P c s e (type_of P c s e) n.name.0) (rows_of P c at s e) (Valued P c s e) (Fit P first this c s e)
        (access_good P c (before_dot P c s e) (type_of P c s e) (rows_of P c at s e) n.name.0 n.span h) v (λ v k. fit_of e v k)
    fit_of (PlacedCall e n es span) v h =
        let k : Callee = callee P c s e (type_of P c s e) n.name.0 (count es) in
        callee_fit k (rows_of P c at s e) (rows_of_all P c at s es) (count es) (Valued P c s e) (AllValued P c s es) (Fit P first this c s e) (AllFit P first this c s es)
        (dotted_good P c k (before_dot P c s e) (type_of P c s e) (rows_of P c at s e) (rows_of_all P c at s es) n.name.0 (count es) n.span h (either e n.name.0 (count es)))
        v (λ v z. fit_of e v z) (λ v z. all_fit es v z)
    fit_of (PlacedOwnCall n es span) v h =
        let p = own_parts n es h in
        own_call_fit false (method_of P c n.name.0 (count es)) n.span (AllFit P first this c s es) p.1 v.0 (all_fit es v.1 p.0)
    fit_of (PlacedSuperCall n es span) v h =
        let p = super_parts n es span h in
        super_call_fit false (super_method P c n.name.0 (count es)) n.span (AllFit P first this c s es) p.2 p.0 v.0 (all_fit es v.1 p.1)
    fit_of (PlacedIndex a i span) v h = let p = indexed a i h in (fit_of a v.0 p.0, fit_of i v.1 p.1)
    fit_of (PlacedNew n es span) v h =
        let p = parts (rows_of_all P c at s es) (new_rows P c (class_named P n.name.0) (count es) n.span) h in
        created_fit n.name.0 (count es) n.span (AllFit P first this c s es) p.1 (all_fit es v p.0)
    fit_of (PlacedNewArray annotations base size span) v h = fit_of size v (parts (array_rows P base annotations) (rows_of P c at s size) h).1
    fit_of (PlacedArrayOf annotations base es span) v h = all_fit es v (parts (array_rows P base annotations) (rows_of_all P c at s es) h).1
    fit_of (PlacedPostfix e step span) v h = target_fit e v h
    fit_of (PlacedPrefix step e span) v h = target_fit e v h
    fit_of (PlacedUnary o e span) v h = fit_of e v h
    fit_of (PlacedCast n e span) v h = fit_of e v (parts (known_class P (class_named P n.name.0) n.span) (rows_of P c at s e) h).1
    fit_of (PlacedBinary a o b span) v h =
        let own : List Row = unless (rows_of P c at s a ++ rows_of P c at s b) (equality_rows P o (is_null a || is_null b) (type_of P c s a) (type_of P c s b) span) in
        let p = parts (rows_of P c at s a) (rows_of P c at s b ++ own) h in
        (fit_of a v.0 p.0, fit_of b v.1 (parts (rows_of P c at s b) own p.1).0)
    fit_of (PlacedInstanceOf e n span) v h = fit_of e v (parts (known_class P (class_named P n.name.0) n.span) (rows_of P c at s e) h).1
    fit_of (PlacedConditional q a b span) v h =
        let p = parts (rows_of P c at s q) (rows_of P c at s a ++ rows_of P c at s b) h in
        let r = parts (rows_of P c at s a) (rows_of P c at s b) p.1 in
        (fit_of q v.0 p.0, (fit_of a v.1.0 r.0, fit_of b v.1.1 r.1))
    fit_of (PlacedAssign target o e span) v h =
        let p = parts (assigned_rows P c at s target) (rows_of P c at s e) h in
        (target_fit target v.0 p.0, fit_of e v.1 p.1)

    pub all_fit : (es : PlacedTrees) → AllValued P c s es → rows_of_all P c at s es ≡ [] → AllFit P first this c s es
    all_fit NoPlacedTrees v h = tt
    all_fit (MorePlacedTrees e es) v h = let p = parts (rows_of P c at s e) (rows_of_all P c at s es) h in (fit_of e v.0 p.0, all_fit es v.1 p.1)

    -- what is assigned
    pub target_fit : (e : PlacedTree) → Valued P c s e → assigned_rows P c at s e ≡ [] → Fit P first this c s e × IsTarget e
    target_fit (PlacedName n) v h = (assigned_fit n.name.0 n.span (meaning P c s n.name.0) refl h, tt)
    target_fit (PlacedField e n span) v h =
        let own : List Row = access_rows P c (before_dot P c s e) (type_of P c s e) (rows_of P c at s e) n.name.0 n.span in
        let p = parts own (unless own (assigned_access_rows P c at (access P c s e (type_of P c s e) n.name.0) (is_this e) span)) h in (
          access_fit (access P c s e (type_of P c s e) n.name.0) (rows_of P c at s e) (Valued P c s e) (Fit P first this c s e)
              (access_good P c (before_dot P c s e) (type_of P c s e) (rows_of P c at s e) n.name.0 n.span p.0) v (λ v k. fit_of e v k),
          tt,
        )
    target_fit (PlacedIndex a i span) v h = let p = indexed a i h in ((fit_of a v.0 p.0, fit_of i v.1 p.1), tt)
    target_fit e v h = cc

  -- println has one argument

  not_text : (n arity : ℕ) → text_callee n arity ≡ Println → ⊥
  not_text n zero e = by (eqb n length_name) (eqb n is_empty_name) e
    where
      by : (a b : Bool) → cond a (OfText Length) (cond b (OfText IsEmpty) NoMethod) ≡ Println → ⊥
      by true b e = cc
      by false true e = cc
      by false false e = cc
  not_text n (suc zero) e = by (eqb n equals_name) e
    where
      by : (a : Bool) → cond a (OfText Equals) NoMethod ≡ Println → ⊥
      by true e = cc
      by false e = cc
  not_text n (suc (suc more)) e = cc

  not_object : (o : Option ℕ) → object_callee o ≡ Println → ⊥
  not_object None e = cc
  not_object (Some m) e = cc

  not_class : (o : Option ℕ) → class_callee o ≡ Println → ⊥
  not_class None e = cc
  not_class (Some m) e = cc

  not_value : (base : BaseType) (n arity : ℕ) → callee_of P base n arity ≡ Println → ⊥
  not_value (Ref k) n arity e = by (eqb k.0 1) e
    where
      by : (b : Bool) → cond b (text_callee n arity) (object_callee (method_of P k.0 n arity)) ≡ Println → ⊥
      by true e = not_text n arity e
      by false e = not_object (method_of P k.0 n arity) e
  not_value Int n arity e = cc
  not_value BoolBase n arity e = cc
  not_value Void n arity e = cc
  not_value Null n arity e = cc
  not_value (Array x nullable) n arity e = cc

  not_println : (m : Meaning) (base : BaseType) (n arity : ℕ) → callee_by P m base n arity ≡ Println → ⊥
  not_println (ClassMeant k) base n arity e = not_class (method_of P k n arity) e
  not_println SystemMeant base n arity e = cc
  not_println (LocalMeant l) base n arity e = not_value base n arity e
  not_println (FieldMeant f) base n arity e = not_value base n arity e
  not_println NothingMeant base n arity e = not_value base n arity e

  one_argument : (e : PlacedTree) (n : ℕ) (es : PlacedTrees) → callee P c s e (type_of P c s e) n (count es) ≡ Println → HasOneTree es
  one_argument e n es i = by es (is_output P c s e && eqb n 3) i
    where
      by : (es : PlacedTrees) (b : Bool) → cond (b && eqb (count es) 1) Println (callee_by P (before_dot P c s e) (type_of P c s e) n (count es)) ≡ Println → HasOneTree es
      by (MorePlacedTrees x xs) b i = tt
      by NoPlacedTrees true i = not_println (before_dot P c s e) (type_of P c s e) n 0 i
      by NoPlacedTrees false i = not_println (before_dot P c s e) (type_of P c s e) n 0 i

  -- what stands for its effect

  callee_void : (k : Callee) (rows args : List Row) (arity : ℕ) (V A One On Args : Type 0) → CalleeGood P c rows args arity k → CalleeValued P true k V A → (k ≡ Println → One) → (V → rows ≡ [] → On) → (A → args ≡ [] → Args) → CalleeVoid P first this k One On Args
  callee_void Println rows args arity V A One On Args g v one on args_fit = (one refl, args_fit v.1 g)
  callee_void (OfText op) rows args arity V A One On Args g v one on args_fit = let e : true ≡ false = v.0 in cc
  callee_void (ClassMethod m) rows args arity V A One On Args g v one on args_fit = (v.0, args_fit v.1 g.0)
  callee_void (ObjectMethod m) rows args arity V A One On Args g v one on args_fit = (v.0, on v.1 g.0, args_fit v.2 g.1.0)
  callee_void NoMethod rows args arity V A One On Args g v one on args_fit = absurd g

  void_fit : (e : PlacedTree) → Voiding P c s e → rows_of P c at s e ≡ [] → VoidFit P first this c s e
  void_fit (PlacedCall e n es span) v h =
      let k : Callee = callee P c s e (type_of P c s e) n.name.0 (count es) in
      callee_void k (rows_of P c at s e) (rows_of_all P c at s es) (count es) (Valued P c s e) (AllValued P c s es) (HasOneTree es) (Fit P first this c s e) (AllFit P first this c s es)
      (dotted_good P c k (before_dot P c s e) (type_of P c s e) (rows_of P c at s e) (rows_of_all P c at s es) n.name.0 (count es) n.span h (either e n.name.0 (count es)))
      v (one_argument e n.name.0 es) (λ v z. fit_of e v z) (λ v z. all_fit es v z)
  void_fit (PlacedOwnCall n es span) v h =
      let p = own_parts n es h in
      own_call_fit true (method_of P c n.name.0 (count es)) n.span (AllFit P first this c s es) p.1 v.0 (all_fit es v.1 p.0)
  void_fit (PlacedSuperCall n es span) v h =
      let p = super_parts n es span h in
      super_call_fit true (super_method P c n.name.0 (count es)) n.span (AllFit P first this c s es) p.2 p.0 v.0 (all_fit es v.1 p.1)
  void_fit (PlacedParen e span) v h = void_fit e v h
  void_fit e v h = absurd v

  pub effect_fit : (e : PlacedTree) → Effectual P c s e → rows_of P c at s e ≡ [] → EffectFit P first this c s e
  effect_fit e (inl v) h = inl (fit_of e v h)
  effect_fit e (inr v) h = inr (void_fit e v h)
