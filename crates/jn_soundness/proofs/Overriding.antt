-- The method that an object's class has for a method above it overrides that method, so base typing and rules speak of it.
use Rattle.std.proofs.Common.{◌≡◌, ℕ, zero, suc, ◌+◌, Bool, true, false, not, ◌&&◌, ◌||◌, ◌⊎◌, inl, inr, List, [], ◌∷◌, ◌++◌, length, filter, flat_map, Option, Some, None, refl, sym, ap, ◌∙◌, subst, cond, arith}
use Rattle.std.specs.Prelude.{slice_get, IsTrue, eqb}
use Rattle.std.proofs.lemmas.Bool.{eqb-true, eq-eqb, not-true, or_parts}
use Rattle.std.proofs.lemmas.Option.{slice_get_within}
use Rattle.jn_heap.specs.Runs.{words_base}
use Rattle.jn_points.specs.declared.point.PointKind.TheVariants.{New, CtorCall, Call}
use Rattle.jn_points.specs.declared.point.PointKind.{PointKind}
use Rattle.jn_points.specs.declared.point.Point.{Point}
use Rattle.jn_points.specs.declared.program.Field.{Field}
use Rattle.jn_base.specs.declared.code.Code.TheVariants.{OvrParam, OvrReceiver, OvrResult}
use Rattle.jn_base.specs.declared.number.ClassNo.{ClassNo}
use Rattle.jn_base.specs.declared.number.SlotNo.{SlotNo}
use Rattle.jn_quals.specs.Qualifier.{Qualifier}
use Rattle.jn_quals.specs.Order.{within}
use Rattle.jn_points.specs.declared.point.BaseType.{BaseType}
use Rattle.jn_points.specs.declared.point.BaseType.TheVariants.{Ref}
use Rattle.jn_points.specs.declared.program.Class.{Class}
use Rattle.jn_points.specs.declared.program.Method.{Method}
use Rattle.jn_points.specs.declared.program.Program.{Program}
use Rattle.jn_points.specs.Lookup.{parent_of, supers_of, interface_of, class_of, body_of, ctor_of, static_of, slots_of, params_of, result_base_of, class_info, method_at, method_in, method_of_body, ref_field, is_ref_base, field_base, field_info, field_base_of, ref_of, point_at, reg_base}
use Rattle.jn_points.specs.Members.{some_of, below, first_at, first_or, first_some, where_some, is_number, is_named, reaches, sub, fits, interfaces, walk_parent, walk_by, walk, declared_method, method_of, is_class, with_body, selected_for, dispatch, class_pair, class_pairs, interface_pairs, pairs_of, is_pair}
use Rattle.jn_points.specs.Shaped.{SlotsMatch, IsObjectClass, IsVirtual, Shaped, Names, Passes}
use Rattle.jn_points.specs.BaseTyping.{PairTyped, BaseTyped, StartsWith, given_bases}
use Rattle.jn_sigs.specs.Signature.{slot_quals, result_of, receiver_of}
use Rattle.jn_env.specs.Order.{QualsWithin}
use Rattle.jn_env.proofs.Order.{quals_refl}
use Rattle.jn_transfer.specs.Rules.{row_if, some_outside, override_rows, pair_rows, pairs_rows, bodies_rows, rows}
use Rattle.jn_soundness.specs.World.{World}
use Rattle.jn_soundness.specs.Types.{Selects, ProgramTyped, MainsTyped, SlotsRef}
use Rattle.jn_soundness.proofs.Basics.{eqb_cases, within_refl}
use Rattle.jn_soundness.proofs.Fits.{or_right, or_left, both_true, fits_self}
use Rattle.jn_soundness.proofs.Rows.{no_left, no_right, row_none, below_member, flat_none, quals_length}
use Rattle.jn_soundness.specs.Heaps.{IsMember}

-- searches

pub record FoundAt {A : Type 0} (test : A → Bool) (i : ℕ) (xs : List A) (k : ℕ) : Type 0 where
  pub place : ℕ
  pub item : A
  pub number : k ≡ i + place
  pub there : slice_get xs place ≡ Some item
  pub passes : test item ≡ true

first_found : {A : Type 0} (test : A → Bool) (i : ℕ) (xs : List A) (k : ℕ) → first_at test i xs ≡ Some k → FoundAt test i xs k
first_found test i [] k h = cc
first_found {A = A} test i (x ∷ xs) k h = by (test x) refl (first_found test (i + 1) xs k) h
  where
    by : (t : Bool) → test x ≡ t → (first_at test (i + 1) xs ≡ Some k → FoundAt test (i + 1) xs k) → cond t (Some i) (first_at test (i + 1) xs) ≡ Some k → FoundAt test i (x ∷ xs) k
    by true is rest h = let same : i ≡ k = cc in record { place = 0; item = x; number = omega (same, arith); there = refl; passes = is }
    by false is rest h =
        let r = rest h in
        let n : k ≡ i + 1 + r.place = r.number in
        record { place = suc r.place; item = r.item; number = omega (n, arith); there = r.there; passes = r.passes }

some_found : (found : ℕ → Option ℕ) (cs : List ℕ) (k : ℕ) → first_some found cs ≡ Some k → (d : ℕ) × IsMember d cs × (found d ≡ Some k)
some_found found [] k h = cc
some_found found (c ∷ cs) k h = by (found c) refl (some_found found cs k) h
  where
    by : (o : Option ℕ) → found c ≡ o → (first_some found cs ≡ Some k → (d : ℕ) × IsMember d cs × (found d ≡ Some k)) → first_or o (first_some found cs) ≡ Some k → (d : ℕ) × (IsMember d (c ∷ cs)) × (found d ≡ Some k)
    by None is rest h = let r = rest h in (r.0, inr r.1, r.2)
    by (Some n) is rest h = (c, inl refl, is ∙ h)

-- members

member_split : (x : ℕ) (xs ys : List ℕ) → IsMember x (xs ++ ys) → IsMember x xs ⊎ IsMember x ys
member_split x [] ys h = inr h
member_split x (y ∷ xs) ys (inl e) = inl (inl e)
member_split x (y ∷ xs) ys (inr h) = by (member_split x xs ys h)
  where
    by : IsMember x xs ⊎ IsMember x ys → IsMember x (y ∷ xs) ⊎ IsMember x ys
    by (inl a) = inl (inr a)
    by (inr b) = inr b

some_member : (test : ℕ → Bool) (xs : List ℕ) (x : ℕ) → IsMember x xs → test x ≡ true → some_of test xs ≡ true
some_member test [] x h t = absurd h
some_member test (y ∷ xs) x (inl e) t = or_left (test y) (some_of test xs) (subst (λ z. test z ≡ true) e t)
some_member test (y ∷ xs) x (inr h) t = or_right (test y) (some_of test xs) (some_member test xs x h t)

some_at : {A : Type 0} (test : A → Bool) (xs : List A) (i : ℕ) (x : A) → slice_get xs i ≡ Some x → test x ≡ true → some_of test xs ≡ true
some_at test [] i x is t = cc
some_at test (y ∷ xs) zero x is t = let same : y ≡ x = cc in or_left (test y) (some_of test xs) (subst (λ z. test z ≡ true) (sym same) t)
some_at test (y ∷ xs) (suc i) x is t = or_right (test y) (some_of test xs) (some_at test xs i x is t)

or_more : (a b c d : Bool) → (a ≡ true → c ≡ true) → (b ≡ true → d ≡ true) → (a || b) ≡ true → (c || d) ≡ true
or_more true b c d f g h = or_left c d (f refl)
or_more false b c d f g h = or_right c d (g h)

some_more : {A : Type 0} (p q : A → Bool) (xs : List A) → ((x : A) → p x ≡ true → q x ≡ true) → some_of p xs ≡ true → some_of q xs ≡ true
some_more p q [] f h = h
some_more p q (x ∷ xs) f h = or_more (p x) (some_of p xs) (q x) (some_of q xs) (f x) (some_more p q xs f) h

flat_member : (f : ClassNo → List ℕ) (xs : List ClassNo) (d : ℕ) → IsMember d (flat_map f xs) → (i : ℕ) × (s : ClassNo) × (slice_get xs i ≡ Some s) × IsMember d (f s)
flat_member f [] d h = absurd h
flat_member f (x ∷ xs) d h = by (member_split d (f x) (flat_map f xs) h) (flat_member f xs d)
  where
    by : IsMember d (f x) ⊎ IsMember d (flat_map f xs) → (IsMember d (flat_map f xs) → (i : ℕ) × (s : ClassNo) × (slice_get xs i ≡ Some s) × IsMember d (f s)) → (i : ℕ) × (s : ClassNo) × (slice_get (x ∷ xs) i ≡ Some s) × IsMember d (f s)
    by (inl a) rest = (0, x, refl, a)
    by (inr b) rest = let r = rest b in (suc r.0, r.1, r.2, r.3)

filter_back : {A : Type 0} (test : A → Bool) (xs : List A) (i : ℕ) (x : A) → slice_get (filter test xs) i ≡ Some x → (j : ℕ) × (slice_get xs j ≡ Some x)
filter_back test [] i x h = cc
filter_back {A = A} test (y ∷ xs) i x h = by (test y) i h (λ i. filter_back test xs i x)
  where
    by : (t : Bool) (i : ℕ) → slice_get (cond t (y ∷ filter test xs) (filter test xs)) i ≡ Some x → ((i : ℕ) → slice_get (filter test xs) i ≡ Some x → (j : ℕ) × (slice_get xs j ≡ Some x)) → (j : ℕ) × (slice_get (y ∷ xs) j ≡ Some x)
    by true zero h rest = (0, h)
    by true (suc i) h rest = let r = rest i h in (suc r.0, r.1)
    by false i h rest = let r = rest i h in (suc r.0, r.1)

all_parts : (a b c : Bool) → (a && b && c) ≡ true → (a ≡ true) × (b ≡ true) × (c ≡ true)
all_parts true true c h = (refl, refl, h)
all_parts true false c h = cc
all_parts false true c h = cc
all_parts false false c h = cc

false_not : (a : Bool) → a ≡ false → not a ≡ true
false_not false h = refl
false_not true h = cc

module _ (P : Program) (B : BaseTyped P) where
  -- a class reaches all classes of its walk
  walk_reaches : (n c d : ℕ) → IsMember d (walk_by P n c) → reaches P n c d ≡ true
  walk_reaches zero c d h = absurd h
  walk_reaches (suc n) c d (inl e) = or_left (eqb c d) (some_of (λ s. reaches P n s.0 d) (supers_of (class_info P c))) (eq-eqb c d (sym e))
  walk_reaches (suc n) c d (inr h) = or_right (eqb c d) (some_of (λ s. reaches P n s.0 d) (supers_of (class_info P c)))
      (by (member_split d (walk_parent P (walk_by P n) (parent_of (class_info P c))) (flat_map (λ s. walk_by P n s.0) (interfaces P c)) h) (λ c h. walk_reaches n c d h))
    where
      by_parent : (o : Option Class) → class_info P c ≡ o → (p : Option ClassNo) → parent_of o ≡ p → IsMember d (walk_parent P (walk_by P n) p) → ((c : ℕ) → IsMember d (walk_by P n c) → reaches P n c d ≡ true) → some_of (λ s. reaches P n s.0 d) (supers_of o) ≡ true
      by_parent o io None ip h rest = absurd h
      by_parent None io (Some p) ip h rest = cc
      by_parent (Some x) io (Some p) ip h rest = some_more (λ s. eqb s.0 p.0) (λ s. reaches P n s.0 d) x.supers (λ s e. subst (λ c. reaches P n c d ≡ true) (sym (eqb-true s.0 p.0 e)) (rest p.0 h)) (B.parents c x p io ip)

      by : IsMember d (walk_parent P (walk_by P n) (parent_of (class_info P c))) ⊎ IsMember d (flat_map (λ s. walk_by P n s.0) (interfaces P c)) → ((c : ℕ) → IsMember d (walk_by P n c) → reaches P n c d ≡ true) → some_of (λ s. reaches P n s.0 d) (supers_of (class_info P c)) ≡ true
      by (inl a) rest = by_parent (class_info P c) refl (parent_of (class_info P c)) refl a rest
      by (inr b) rest =
          let m = flat_member (λ s. walk_by P n s.0) (interfaces P c) d b in
          let k = filter_back (λ s. not (is_class (parent_of (class_info P c)) s)) (supers_of (class_info P c)) m.0 m.1 m.2 in
          some_at (λ s. reaches P n s.0 d) (supers_of (class_info P c)) k.0 m.1 k.1 (rest m.1.0 m.3)

  -- what selection finds

  pub record Found (c k : ℕ) (named : Method) : Type 0 where
    pub info : Method
    pub name : info.name.0 ≡ named.name.0
    pub arity : length info.params ≡ length named.params
    pub there : method_at P k ≡ Some info
    pub method : info.ctor ≡ false
    pub above : sub P c info.owner.0 ≡ true
    pub has : method_of P c info.name.0 (length info.params) ≡ Some k

  bodied : (o : Option ℕ) (k : ℕ) → with_body P o ≡ Some k → o ≡ Some k
  bodied None k h = cc
  bodied (Some j) k h = by (body_of (method_at P j)) h
    where
      by : (o : Option ℕ) → where_some o j ≡ Some k → Some j ≡ Some k
      by None h = cc
      by (Some b) h = h

  found : (c m k : ℕ) (v : IsVirtual P m) → dispatch P c m ≡ Some k → Found c k v.info
  found c m k v h =
      let has : method_of P c v.info.name.0 (length v.info.params) ≡ Some k = bodied (method_of P c v.info.name.0 (length v.info.params)) k (subst (λ o. selected_for P c o ≡ Some k) v.there h) in
      let d = some_found (declared_method P c v.info.name.0 (length v.info.params)) (walk P c) k has in
      let f = first_found (λ m. is_named m v.info.name.0 (length v.info.params) && eqb m.owner.0 d.0 && (not m.is_private || eqb d.0 c)) 0 P.methods k d.2 in
      let x : Method = f.item in
      let place : f.place ≡ k = omega (f.number, arith) in
      let p = all_parts (is_named x v.info.name.0 (length v.info.params)) (eqb x.owner.0 d.0) (not x.is_private || eqb d.0 c) f.passes in
      let q = all_parts (not x.ctor) (eqb x.name.0 v.info.name.0) (eqb (length x.params) (length v.info.params)) p.0 in
      let name : x.name.0 ≡ v.info.name.0 = eqb-true x.name.0 v.info.name.0 q.1 in
      let arity : length x.params ≡ length v.info.params = eqb-true (length x.params) (length v.info.params) q.2 in
      record {
        info = x;
        name = name;
        arity = arity;
        there = subst (λ n. slice_get P.methods n ≡ Some x) place f.there;
        method = not-true x.ctor q.0;
        above = or_right (eqb x.owner.0 0) (reaches P (length P.classes) c x.owner.0) (walk_reaches (length P.classes) c x.owner.0 (subst (λ z. IsMember z (walk P c)) (sym (eqb-true x.owner.0 d.0 p.1)) d.1));
        has = subst (λ n. method_of P c n (length x.params) ≡ Some k) (sym name) (subst (λ n. method_of P c v.info.name.0 n ≡ Some k) (sym arity) has);
      }

  is_the : (o : Option ℕ) (k : ℕ) → o ≡ Some k → is_number o k ≡ true
  is_the None k h = cc
  is_the (Some j) k h = let same : j ≡ k = cc in eq-eqb j k same

  not_equal : (a b : ℕ) → (a ≡ b → ⊥) → not (eqb a b) ≡ true
  not_equal a b n = by (eqb a b) refl
    where
      by : (t : Bool) → eqb a b ≡ t → not t ≡ true
      by true e = absurd (n (eqb-true a b e))
      by false e = refl

  named : (info x : Method) → info.ctor ≡ false → x.name.0 ≡ info.name.0 → length x.params ≡ length info.params → is_named info x.name.0 (length x.params) ≡ true
  named info x c n a = both_true (not info.ctor && eqb info.name.0 x.name.0) (eqb (length info.params) (length x.params)) (both_true (not info.ctor) (eqb info.name.0 x.name.0) (false_not info.ctor c) (eq-eqb info.name.0 x.name.0 (sym n))) (eq-eqb (length info.params) (length x.params) (sym a))

  overriding : (c m k : ℕ) → IsObjectClass P c → (v : IsVirtual P m) → Found c k v.info → sub P c v.info.owner.0 ≡ true → (k ≡ m → ⊥) → is_pair P k m ≡ true
  overriding c m k o v f s d =
      let x : Method = f.info in
      let class : class_pair P k x v.info c ≡ true = both_true (not (interface_of (class_info P c)) && is_number (method_of P c x.name.0 (length x.params)) k) (sub P c v.info.owner.0)
      (both_true (not (interface_of (class_info P c))) (is_number (method_of P c x.name.0 (length x.params)) k) (false_not (interface_of (class_info P c)) (ap interface_of o.there ∙ o.class)) (is_the (method_of P c x.name.0 (length x.params)) k f.has)) s in
      let some : some_of (class_pair P k x v.info) (below (length P.classes)) ≡ true = some_member (class_pair P k x v.info) (below (length P.classes)) c (below_member (length P.classes) c (slice_get_within P.classes c o.info o.there)) class in
      let pairs : class_pairs P k m x v.info ≡ true = both_true (not (eqb k m) && not v.info.is_private && not v.info.is_static) (some_of (class_pair P k x v.info) (below (length P.classes)))
      (both_true (not (eqb k m) && not v.info.is_private) (not v.info.is_static) (both_true (not (eqb k m)) (not v.info.is_private) (not_equal k m d) (false_not v.info.is_private v.open_to_all)) (false_not v.info.is_static v.instance)) some in
      let all : pairs_of P k m (Some x) (Some v.info) ≡ true = both_true (not x.ctor && is_named v.info x.name.0 (length x.params)) (class_pairs P k m x v.info || interface_pairs P x v.info)
      (both_true (not x.ctor) (is_named v.info x.name.0 (length x.params)) (false_not x.ctor f.method) (named v.info x v.method f.name f.arity)) (or_left (class_pairs P k m x v.info) (interface_pairs P x v.info) pairs) in
      subst (λ o. pairs_of P k m o (method_at P m) ≡ true) (sym f.there) (subst (λ o. pairs_of P k m (Some x) o ≡ true) (sym v.there) all)

-- qualifiers of slots

pub slots_length : (xs : List (Option SlotNo)) (ts : List BaseType) → SlotsMatch xs ts → length xs ≡ length ts
slots_length [] [] h = refl
slots_length [] (t ∷ ts) h = absurd h
slots_length (x ∷ xs) [] h = absurd h
slots_length (x ∷ xs) (t ∷ ts) h = ap (λ n. suc n) (slots_length xs ts h.1)

module _ (W : World) where
  none_outside : (as' bs : List Qualifier) → length as' ≡ length bs → some_outside as' bs ≡ false → QualsWithin as' bs
  none_outside [] [] n h = tt
  none_outside [] (b ∷ bs) n h = cc
  none_outside (a ∷ as') [] n h = cc
  none_outside (a ∷ as') (b ∷ bs) n h =
      let x = or_parts (not (within a b)) (some_outside as' bs) h in
      (not_not (within a b) x.0, none_outside as' bs (omega (n, arith)) x.1)
    where
      not_not : (t : Bool) → not t ≡ false → t ≡ true
      not_not true h = refl
      not_not false h = cc

module _ (W : World) (R : Shaped W.program) (B : BaseTyped W.program) where
  param_slots_length : (m : ℕ) (x : Method) → method_at W.program m ≡ Some x → length (slots_of (method_at W.program m)) ≡ length (params_of (method_at W.program m))
  param_slots_length m x is = subst (λ o. length (slots_of o) ≡ length (params_of o)) (sym is) (slots_length x.param_slots x.params (R.params m x is))

  same_selects : (m : ℕ) → ctor_of (method_at W.program m) ≡ false → static_of (method_at W.program m) ≡ false → Selects W m m
  same_selects m c i =
      let q = receiver_of W.sig (method_at W.program m) in
      let r = result_of W.sig (method_at W.program m) in
      record {
        over = record {
          params = quals_refl (slot_quals W.sig (slots_of (method_at W.program m)));
          receiver = within_refl q.null q.committed q.free;
          result = within_refl r.null r.committed r.free;
          method = c;
          instance = i;
        };
        params = refl;
        result = fits_self W.program (result_base_of (method_at W.program m));
      }

  module _ (none : rows W.program W.sig W.tables ≡ []) where
    pair_none : (k m : ℕ) (x y : Method) → method_at W.program k ≡ Some x → method_at W.program m ≡ Some y → is_pair W.program k m ≡ true → override_rows W.sig (Some x) (method_at W.program m) ≡ []
    pair_none k m x y ik im p =
        let n = length W.program.methods in
        let all : pairs_rows W.program W.sig ≡ [] = no_right (bodies_rows W.program W.sig (below (length W.program.bodies)) W.tables) (pairs_rows W.program W.sig) none in
        let row : flat_map (pair_rows W.program W.sig k) (below n) ≡ [] = flat_none (λ k. flat_map (pair_rows W.program W.sig k) (below n)) (below n) k all (below_member n k (slice_get_within W.program.methods k x ik)) in
        let one : pair_rows W.program W.sig k m ≡ [] = flat_none (pair_rows W.program W.sig k) (below n) m row (below_member n m (slice_get_within W.program.methods m y im)) in
        subst (λ z. override_rows W.sig z (method_at W.program m) ≡ []) ik (subst (λ t. cond t (override_rows W.sig (method_at W.program k) (method_at W.program m)) [] ≡ []) p one)

    not_not : (t : Bool) → not t ≡ false → t ≡ true
    not_not true h = refl
    not_not false h = cc

    over_selects : (k m : ℕ) (x y : Method) → method_at W.program k ≡ Some x → method_at W.program m ≡ Some y → x.ctor ≡ false → y.is_static ≡ false → is_pair W.program k m ≡ true → Selects W k m
    over_selects k m x y ik im c i p =
        let t : PairTyped W.program k m = B.pairs k m p in
        let o = method_at W.program m in
        let outside = some_outside (slot_quals W.sig (slots_of o)) (slot_quals W.sig x.param_slots) in
        let receiver = within (receiver_of W.sig o) (receiver_of W.sig (Some x)) in
        let result = within (result_of W.sig (Some x)) (result_of W.sig o) in
        let all : override_rows W.sig (Some x) o ≡ [] = pair_none k m x y ik im p in
        let front : row_if outside x.span OvrParam ++ row_if (not receiver) x.span OvrReceiver ≡ [] = no_left (row_if outside x.span OvrParam ++ row_if (not receiver) x.span OvrReceiver) (row_if (not result) x.span OvrResult) all in
        let size : length (slot_quals W.sig (slots_of o)) ≡ length (slot_quals W.sig x.param_slots) =
        quals_length W.sig (slots_of o) ∙ param_slots_length m y im ∙ sym (ap length t.params) ∙ sym (param_slots_length k x ik) ∙ ap (λ z. length (slots_of z)) ik ∙ sym (quals_length W.sig x.param_slots) in
        record {
          over = record {
            params = subst (λ z. QualsWithin (slot_quals W.sig (slots_of o)) (slot_quals W.sig (slots_of z))) (sym ik)
                (none_outside W (slot_quals W.sig (slots_of o)) (slot_quals W.sig x.param_slots) size (row_none outside x.span OvrParam (no_left (row_if outside x.span OvrParam) (row_if (not receiver) x.span OvrReceiver) front)));
            receiver = subst (λ z. IsTrue (within (receiver_of W.sig o) (receiver_of W.sig z))) (sym ik)
                (not_not receiver (row_none (not receiver) x.span OvrReceiver (no_right (row_if outside x.span OvrParam) (row_if (not receiver) x.span OvrReceiver) front)));
            result = subst (λ z. IsTrue (within (result_of W.sig z) (result_of W.sig o))) (sym ik)
                (not_not result (row_none (not result) x.span OvrResult (no_right (row_if outside x.span OvrParam ++ row_if (not receiver) x.span OvrReceiver) (row_if (not result) x.span OvrResult) all)));
            method = ap ctor_of ik ∙ c;
            instance = t.both (ap static_of im ∙ i);
          };
          params = t.params;
          result = t.result;
        }

    selected : (c m k : ℕ) → IsObjectClass W.program c → IsVirtual W.program m → dispatch W.program c m ≡ Some k → fits W.program (Ref (record { 0 = c })) (Ref (record { 0 = class_of (method_at W.program m) })) ≡ true → Selects W k m × (fits W.program (Ref (record { 0 = c })) (Ref (record { 0 = class_of (method_at W.program k) })) ≡ true)
    selected c m k o v d f =
        let x = found W.program B c m k v d in
        (by x (eqb_cases k m), subst (λ z. sub W.program c (class_of z) ≡ true) (sym x.there) x.above)
      where
        by : Found W.program B c k v.info → (k ≡ m) ⊎ (k ≡ m → ⊥) → Selects W k m
        by x (inl e) = subst (λ z. Selects W z m) (sym e) (same_selects m (ap ctor_of v.there ∙ v.method) (ap static_of v.there ∙ v.instance))
        by x (inr n) = over_selects k m x.info v.info x.there v.there x.method v.instance
            (overriding W.program B c m k o v x (subst (λ z. sub W.program c (class_of z) ≡ true) v.there f) n)

  pub body_method : (m b : ℕ) → body_of (method_at W.program m) ≡ Some b → method_in W.program b ≡ method_at W.program m
  body_method m b is =
      let x = R.bodies m b is in
      ap (method_of_body W.program) x.1 ∙ ap (method_at W.program) x.2

  plain_field : (f : ℕ) → ref_field W.program f ≡ false → is_ref_base (field_base W.program f) ≡ false
  plain_field f n = by (field_info W.program f) refl n
    where
      by : (o : Option Field) → field_info W.program f ≡ o → ref_of o ≡ false → is_ref_base (field_base_of o) ≡ false
      by None is n = refl
      by (Some x) is n = sym (R.fields f x is) ∙ n

  slots_ref : (xs : List (Option SlotNo)) (ts : List BaseType) → SlotsMatch xs ts → SlotsRef W xs ts
  slots_ref [] ts h = tt
  slots_ref (x ∷ xs) [] h = tt
  slots_ref (None ∷ xs) (t ∷ ts) h = slots_ref xs ts h.1
  slots_ref (Some s ∷ xs) (t ∷ ts) h = (sym h.0, slots_ref xs ts h.1)

  method_slots_ref : (m : ℕ) → SlotsRef W (slots_of (method_at W.program m)) (params_of (method_at W.program m))
  method_slots_ref m = by (method_at W.program m) refl
    where
      by : (o : Option Method) → method_at W.program m ≡ o → SlotsRef W (slots_of o) (params_of o)
      by None is = tt
      by (Some x) is = slots_ref x.param_slots x.params (R.params m x is)

  names_at : (b p : ℕ) (pt : Point) (k : PointKind) → point_at W.program b p ≡ Some pt → pt.kind ≡ k → Names W.program b k
  names_at b p pt k is e = subst (λ k. Names W.program b k) e (R.points b p pt is).names

  passes_at : (b p : ℕ) (pt : Point) (k : PointKind) → point_at W.program b p ≡ Some pt → pt.kind ≡ k → Passes W.program k
  passes_at b p pt k is e = subst (λ k. Passes W.program k) e (R.points b p pt is).passes

  pub program_typed : rows W.program W.sig W.tables ≡ [] → ProgramTyped W
  program_typed none = record {
    points = B.points;
    selects = selected none;
    virtual = λ b p pt dst m r args is e. (names_at b p pt (Call dst m (Some r) false args) is e).1;
    direct = λ b p pt dst m r args is e. same_selects m.0 (names_at b p pt (Call dst m (Some r) true args) is e).0 (passes_at b p pt (Call dst m (Some r) true args) is e).1;
    fields = plain_field;
    refs = method_slots_ref;
    bodies = body_method;
    starts = B.starts;
    ctor_reg = λ m b is c. (B.ctor_reg m b is c, R.ctor_this m c);
    receivers = λ b p pt dst m direct args is e. (passes_at b p pt (Call dst m None direct args) is e).1;
    news = λ b p pt dst m args is e. names_at b p pt (New dst m args) is e;
    ctors = λ b p pt m args own is e. (names_at b p pt (CtorCall m args own) is e).ctor;
  }

  pub mains_typed : MainsTyped W
  mains_typed m b main =
      let x : Method = main.method in
      let params : params_of (method_at W.program m) ≡ words_base ∷ [] = ap params_of main.there ∙ B.mains m x main.there main.is_main in
      let static : static_of (method_at W.program m) ≡ true = ap static_of main.there ∙ (R.mains m x main.there main.is_main).1 in
      let start : StartsWith W.program (reg_base W.program b) (given_bases W.program m) = B.starts m b (ap body_of main.there ∙ main.body) in
      subst (λ ts. StartsWith W.program (reg_base W.program b) ts) params
      (subst (λ t. StartsWith W.program (reg_base W.program b) (cond t (params_of (method_at W.program m)) (Ref (record { 0 = class_of (method_at W.program m) }) ∷ params_of (method_at W.program m)))) static start)
