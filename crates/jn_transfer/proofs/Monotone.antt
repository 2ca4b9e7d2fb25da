-- A greater environment has greater ones after all edges, at each of the 26 kinds of points.
use Rattle.std.proofs.Common.{◌≡◌, ℕ, Bool, true, false, not, ◌&&◌, ◌||◌, cond, ◌⊎◌, inl, inr, ⊎_elim, List, [], ◌∷◌, ◌++◌, Option, Some, None, refl, sym, subst}
use Rattle.std.specs.Prelude.{IsTrue, ltb, eqb}
use Rattle.std.proofs.lemmas.Bool.{and_parts, and_from}
use Rattle.jn_base.specs.declared.number.SlotNo.{SlotNo}
use Rattle.jn_base.specs.declared.number.RegNo.{RegNo}
use Rattle.jn_quals.specs.Qualifier.{Qualifier}
use Rattle.jn_quals.specs.Order.{within, no_qual, committed_only, null_or_committed, all_quals, without_null, without_free, null_part, is_none}
use Rattle.jn_quals.proofs.Order.{included, within_of, within_refl, nothing_within, without_null_within, null_part_within, is_none_within}
use Rattle.jn_points.specs.declared.point.Operand.{Operand}
use Rattle.jn_points.specs.declared.point.Origin.{Origin}
use Rattle.jn_points.specs.declared.point.PointKind.{PointKind}
use Rattle.jn_points.specs.declared.point.PointKind.TheVariants.{Const, Move, Unary, Binary, Concat, SameRef, FieldRead, FieldWrite, StaticRead, StaticWrite, ElemRead, ElemWrite, ArrayLen, NewArray, ArrayOf, New, CtorCall, Call, StrOp, Print, Cast, TestInst, TestNull, Branch, Goto, Return}
use Rattle.jn_points.specs.declared.program.Program.{Program}
use Rattle.jn_points.specs.Lookup.{slots_of, class_of, ctor_of, locals, monotonic, owner, ref_field, flat_field, method_at, method_in, reg_base}
use Rattle.jn_sigs.specs.Signature.{result_of, field_qual}
use Rattle.jn_env.specs.Environment.{Env}
use Rattle.jn_env.specs.Order.{qual_at, QualsWithin, EnvWithin, BitsAbove}
use Rattle.jn_env.proofs.Order.{quals_set, env_qual}
use Rattle.jn_env.specs.Keys.{is_key, has_key_field, mask, also, is_on, fact_keys, own_keys}
use Rattle.jn_transfer.specs.Transfer.{literal_qual, elem_qual, refine, side, any_empty, any_free, all_settled, ref_quals, new_qual, less_null, put, drop_facts, put_to, learn, written, ctor_called, elem_read, read_part, read_qual, transfer, IsAmong}
use Rattle.jn_transfer.specs.Covered.{Covered}
use Rattle.jn_env.proofs.BitOrder.{mask_above, also_above, also_left, is_on_above}

pub among_left : (x : ℕ × Env) (xs ys : List (ℕ × Env)) → IsAmong x xs → IsAmong x (xs ++ ys)
among_left x [] ys h = absurd h
among_left x (y ∷ xs) ys (inl e) = inl e
among_left x (y ∷ xs) ys (inr h) = inr (among_left x xs ys h)

pub among_right : (x : ℕ × Env) (xs ys : List (ℕ × Env)) → IsAmong x ys → IsAmong x (xs ++ ys)
among_right x [] ys h = h
among_right x (y ∷ xs) ys h = inr (among_right x xs ys h)

pub among_cases : (x : ℕ × Env) (xs ys : List (ℕ × Env)) → IsAmong x (xs ++ ys) → IsAmong x xs ⊎ IsAmong x ys
among_cases x [] ys h = inr h
among_cases x (y ∷ xs) ys (inl e) = inl (inl e)
among_cases x (y ∷ xs) ys (inr h) = ⊎_elim (λ a. inl (inr a)) (λ b. inr b) (among_cases x xs ys h)

one_above : (to : ℕ) (e f : Env) (x : ℕ × Env) → EnvWithin e f → IsAmong x ((to, e) ∷ []) → Covered x ((to, f) ∷ [])
one_above to e f x w (inl i) = subst (λ y. Covered y ((to, f) ∷ [])) (sym i) (record { env = f; there = inl refl; above = w })
one_above to e f x w (inr m) = absurd m

side_above : (b c : Bool) (to : ℕ) (e f : Env) (x : ℕ × Env) → (c ≡ true → b ≡ true) → EnvWithin e f → IsAmong x (side b to e) → Covered x (side c to f)
side_above true c to e f x h w m = absurd m
side_above false true to e f x h w m = absurd (let k = h refl in cc)
side_above false false to e f x h w m = one_above to e f x w m

above_left : (x : ℕ × Env) (ys zs : List (ℕ × Env)) → Covered x ys → Covered x (ys ++ zs)
above_left x ys zs a = record { env = a.env; there = among_left _ ys zs a.there; above = a.above }

above_right : (x : ℕ × Env) (ys zs : List (ℕ × Env)) → Covered x zs → Covered x (ys ++ zs)
above_right x ys zs a = record { env = a.env; there = among_right _ ys zs a.there; above = a.above }

both_above : (x : ℕ × Env) (xs xs' ys ys' : List (ℕ × Env)) → (IsAmong x xs → Covered x ys) → (IsAmong x xs' → Covered x ys') → IsAmong x (xs ++ xs') → Covered x (ys ++ ys')
both_above x xs xs' ys ys' f g m = ⊎_elim (λ s. above_left x ys ys' (f s)) (λ s. above_right x ys ys' (g s)) (among_cases x xs xs' m)

refine_above : (e f : Env) (r : ℕ) (p q : Qualifier) → IsTrue (within p q) → EnvWithin e f → EnvWithin (refine e r p) (refine f r q)
refine_above e f r p q v w = record { quals = quals_set e.quals f.quals r p q v w.quals; facts = w.facts; assigned = w.assigned }

-- reference arguments
or_keeps : (a b u v : Bool) → (a ≡ true → b ≡ true) → (u ≡ true → v ≡ true) → (a || u) ≡ true → (b || v) ≡ true
or_keeps a true u v h k e = refl
or_keeps true false u v h k e = absurd (let l = h refl in cc)
or_keeps false false u v h k e = k e

any_empty_above : (xs ys : List Qualifier) → QualsWithin xs ys → any_empty ys ≡ true → any_empty xs ≡ true
any_empty_above [] [] w e = e
any_empty_above [] (y ∷ ys) w e = absurd w
any_empty_above (x ∷ xs) [] w e = absurd w
any_empty_above (x ∷ xs) (y ∷ ys) w e = or_keeps (is_none y) (is_none x) (any_empty ys) (any_empty xs) (is_none_within x y w.0) (any_empty_above xs ys w.1) e

any_free_above : (xs ys : List Qualifier) → QualsWithin xs ys → any_free xs ≡ true → any_free ys ≡ true
any_free_above [] [] w e = e
any_free_above [] (y ∷ ys) w e = absurd w
any_free_above (x ∷ xs) [] w e = absurd w
any_free_above (x ∷ xs) (y ∷ ys) w e = or_keeps x.free y.free (any_free xs) (any_free ys) (included x y w.0).free (any_free_above xs ys w.1) e

all_settled_above : (xs ys : List Qualifier) → QualsWithin xs ys → all_settled xs ≡ true → all_settled ys ≡ true
all_settled_above [] [] w e = e
all_settled_above [] (y ∷ ys) w e = absurd w
all_settled_above (x ∷ xs) [] w e = absurd w
all_settled_above (x ∷ xs) (y ∷ ys) w e =
    let s = included x y w.0 in
    let p = and_parts (x.committed || x.null) (all_settled xs) e in
    and_from (y.committed || y.null) (all_settled ys) (or_keeps x.committed y.committed x.null y.null s.committed s.null p.0) (all_settled_above xs ys w.1 p.1)

new_part : (a b : Bool) (p q : Qualifier) → (b ≡ true → a ≡ true) → IsTrue (within p q) → IsTrue (within (cond a no_qual p) (cond b no_qual q))
new_part true b p q h w = nothing_within (cond b no_qual q)
new_part false true p q h w = absurd (let k = h refl in cc)
new_part false false p q h w = w

abbrev new_object : List Qualifier → Qualifier
new_object qs = record { null = false; committed = all_settled qs; free = any_free qs }

new_above : (xs ys : List Qualifier) → QualsWithin xs ys → IsTrue (within (new_qual xs) (new_qual ys))
new_above xs ys w = new_part (any_empty xs) (any_empty ys) (new_object xs) (new_object ys) (any_empty_above xs ys w) (within_of (new_object xs) (new_object ys) (record { null = λ e. e; committed = all_settled_above xs ys w; free = any_free_above xs ys w }))

ref_quals_above : (e f : Env) (slots : List (Option SlotNo)) (args : List Operand) → EnvWithin e f → QualsWithin (ref_quals e slots args) (ref_quals f slots args)
ref_quals_above e f [] args w = tt
ref_quals_above e f (s ∷ slots) [] w = tt
ref_quals_above e f (None ∷ slots) (a ∷ args) w = ref_quals_above e f slots args w
ref_quals_above e f (Some s ∷ slots) (a ∷ args) w = (env_qual e f a.reg.0 w, ref_quals_above e f slots args w)

less_null_above : (a b : Bool) (p q : Qualifier) → (b ≡ true → a ≡ true) → IsTrue (within p q) → IsTrue (within (less_null a p) (less_null b q))
less_null_above true true p q h w = without_null_within p q w
less_null_above true false p q h w = within_of (without_null p) q (record { null = λ e. absurd (cc); committed = (included p q w).committed; free = (included p q w).free })
less_null_above false true p q h w = absurd (let k = h refl in cc)
less_null_above false false p q h w = w

module _ (P : Program) (s : List Qualifier) (b : ℕ) where
  put_above : (e f : Env) (d : ℕ) (p q : Qualifier) → IsTrue (within p q) → EnvWithin e f → EnvWithin (put P b e d p) (put P b f d q)
  put_above e f d p q v w = record { quals = quals_set e.quals f.quals d p q v w.quals; facts = mask_above _ (fact_keys P b) e.facts f.facts w.facts; assigned = w.assigned }

  drop_above : (e f : Env) → EnvWithin e f → EnvWithin (drop_facts P b e) (drop_facts P b f)
  drop_above e f w = record { quals = w.quals; facts = mask_above _ (fact_keys P b) e.facts f.facts w.facts; assigned = w.assigned }

  put_to_above : (e f : Env) (dst : Option RegNo) (q : Qualifier) → EnvWithin e f → EnvWithin (put_to P b e dst q) (put_to P b f dst q)
  put_to_above e f None q w = w
  put_to_above e f (Some dst) q w = put_above e f dst.0 q q (within_refl q) w

  learn_above : (e f : Env) (og : Option Origin) → EnvWithin e f → EnvWithin (learn P b og e) (learn P b og f)
  learn_above e f None w = w
  learn_above e f (Some og) w = record { quals = w.quals; facts = also_above _ (fact_keys P b) e.facts f.facts w.facts; assigned = w.assigned }

  fact_bits_above : (l : Bool) (m n : Bool) (r f : ℕ) (as' bs : List Bool) → (m ≡ true → n ≡ true) → BitsAbove as' bs → BitsAbove (cond (l && not m) (also (is_key r f) (fact_keys P b) as') as') (cond (l && not n) (also (is_key r f) (fact_keys P b) bs) bs)
  fact_bits_above false m n r f as' bs h w = w
  fact_bits_above true true true r f as' bs h w = w
  fact_bits_above true true false r f as' bs h w = absurd (let k = h refl in cc)
  fact_bits_above true false true r f as' bs h w = also_left (is_key r f) (fact_keys P b) as' bs w
  fact_bits_above true false false r f as' bs h w = also_above (is_key r f) (fact_keys P b) as' bs w

  assigned_above : (c : Bool) (f : ℕ) (as' bs : List Bool) → BitsAbove as' bs → BitsAbove (cond c (also (λ k. eqb k f) (own_keys P b) as') as') (cond c (also (λ k. eqb k f) (own_keys P b) bs) bs)
  assigned_above true f as' bs w = also_above _ (own_keys P b) as' bs w
  assigned_above false f as' bs w = w

  facts_but_above : (e g : Env) (f : ℕ) (kept : Bool) → EnvWithin e g → BitsAbove (cond kept e.facts (mask (λ k. not (has_key_field f k)) (fact_keys P b) e.facts)) (cond kept g.facts (mask (λ k. not (has_key_field f k)) (fact_keys P b) g.facts))
  facts_but_above e g f true w = w.facts
  facts_but_above e g f false w = mask_above (λ k. not (has_key_field f k)) (fact_keys P b) e.facts g.facts w.facts

  written_above : (e g : Env) (r f v : ℕ) (ref : Bool) → EnvWithin e g → EnvWithin (written P b e r f v ref) (written P b g r f v ref)
  written_above e g r f v false w = w
  written_above e g r f v true w =
      let a = facts_but_above e g f (monotonic P f) w in
      record {
        quals = w.quals;
        facts = fact_bits_above (ltb r (locals P b)) (qual_at e v).null (qual_at g v).null r f _ _ (included (qual_at e v) (qual_at g v) (env_qual e g v w)).null a;
        assigned = assigned_above (ctor_of (method_in P b) && eqb r 0 && eqb (owner P f) (class_of (method_in P b))) f e.assigned g.assigned w.assigned;
      }

  ctor_called_above : (e f : Env) (own : Bool) → EnvWithin e f → EnvWithin (ctor_called P b e own) (ctor_called P b f own)
  ctor_called_above e f false w = drop_above e f w
  ctor_called_above e f true w = record { quals = w.quals; facts = mask_above _ (fact_keys P b) e.facts f.facts w.facts; assigned = also_above _ (own_keys P b) e.assigned f.assigned w.assigned }

  elem_read_above : (e f : Env) (r : ℕ) → EnvWithin e f → IsTrue (within (elem_read P b e r) (elem_read P b f r))
  elem_read_above e f r w =
      let v = without_null_within (qual_at e r) (qual_at f r) (env_qual e f r w) in
      let q = elem_qual (reg_base P b r) in
      new_part (is_none (without_null (qual_at e r))) (is_none (without_null (qual_at f r))) q q (is_none_within (without_null (qual_at e r)) (without_null (qual_at f r)) v) (within_refl q)

  free_part : (flat c d : Bool) (q : Qualifier) → (c ≡ true → d ≡ true) → IsTrue (within (cond c (cond flat null_or_committed all_quals) (without_free q)) (cond d (cond flat null_or_committed all_quals) (without_free q)))
  free_part flat true true q h = within_refl (cond flat null_or_committed all_quals)
  free_part flat true false q h = absurd (let k = h refl in cc)
  free_part true false true q h = within_of (without_free q) null_or_committed (record { null = λ e. refl; committed = λ e. refl; free = λ e. e })
  free_part false false true q h = within_of (without_free q) all_quals (record { null = λ e. refl; committed = λ e. refl; free = λ e. refl })
  free_part flat false false q h = within_refl (without_free q)

  abbrev from_part : ℕ → Qualifier → Qualifier
  from_part f k = cond k.free (cond (flat_field P f) null_or_committed all_quals) (without_free (field_qual P s f))

  read_part_above : (f : ℕ) (p q : Qualifier) → IsTrue (within p q) → IsTrue (within (read_part P s f p) (read_part P s f q))
  read_part_above f p q w = new_part (is_none p) (is_none q) (from_part f p) (from_part f q) (is_none_within p q w) (free_part (flat_field P f) p.free q.free (field_qual P s f) (included p q w).free)

  field_part : (ref : Bool) (g : ℕ) (p q : Qualifier) → IsTrue (within p q) → IsTrue (within (cond ref (read_part P s g p) no_qual) (cond ref (read_part P s g q) no_qual))
  field_part true g p q w = read_part_above g p q w
  field_part false g p q w = within_refl no_qual

  read_qual_above : (e f : Env) (r g : ℕ) → EnvWithin e f → IsTrue (within (read_qual P s b e r g) (read_qual P s b f r g))
  read_qual_above e f r g w =
      let p = without_null (qual_at e r) in
      let q = without_null (qual_at f r) in
      less_null_above (is_on (is_key r g) (fact_keys P b) e.facts) (is_on (is_key r g) (fact_keys P b) f.facts) (cond (ref_field P g) (read_part P s g p) no_qual) (cond (ref_field P g) (read_part P s g q) no_qual)
      (is_on_above (is_key r g) (fact_keys P b) e.facts f.facts w.facts)
      (field_part (ref_field P g) g p q (without_null_within (qual_at e r) (qual_at f r) (env_qual e f r w)))

  pub edge_above : (k : PointKind) (p : ℕ) (e f : Env) (x : ℕ × Env) → EnvWithin e f → IsAmong x (transfer P s b k p e) → Covered x (transfer P s b k p f)
  edge_above (Const dst v) p e f x w m = one_above _ _ _ x (put_above e f dst.0 _ _ (within_refl (literal_qual v)) w) m
  edge_above (Move dst from bound) p e f x w m = one_above _ _ _ x (put_above e f dst.0 _ _ (env_qual e f from.reg.0 w) w) m
  edge_above (Unary dst neg of) p e f x w m = one_above _ _ _ x (put_above e f dst.0 _ _ (within_refl no_qual) w) m
  edge_above (Binary dst op l r) p e f x w m = one_above _ _ _ x (put_above e f dst.0 _ _ (within_refl no_qual) w) m
  edge_above (Concat dst l r) p e f x w m = one_above _ _ _ x (put_above e f dst.0 _ _ (within_refl committed_only) w) m
  edge_above (SameRef dst eq l r) p e f x w m = one_above _ _ _ x (put_above e f dst.0 _ _ (within_refl no_qual) w) m
  edge_above (FieldRead dst r g) p e f x w m = one_above _ _ _ x (put_above e f dst.0 _ _ (read_qual_above e f r.reg.0 g.0 w) w) m
  edge_above (FieldWrite r g v) p e f x w m = one_above _ _ _ x (written_above e f r.reg.0 g.0 v.reg.0 (ref_field P g.0) w) m
  edge_above (StaticRead dst g) p e f x w m = one_above _ _ _ x (put_above e f dst.0 _ _ (within_refl no_qual) w) m
  edge_above (StaticWrite g v) p e f x w m = one_above _ e f x w m
  edge_above (ElemRead dst r i) p e f x w m = one_above _ _ _ x (put_above e f dst.0 _ _ (elem_read_above e f r.reg.0 w) w) m
  edge_above (ElemWrite r i v) p e f x w m = one_above _ e f x w m
  edge_above (ArrayLen dst r) p e f x w m = one_above _ _ _ x (put_above e f dst.0 _ _ (within_refl no_qual) w) m
  edge_above (NewArray dst base n) p e f x w m = one_above _ _ _ x (put_above e f dst.0 _ _ (within_refl committed_only) w) m
  edge_above (ArrayOf dst base xs) p e f x w m = one_above _ _ _ x (put_above e f dst.0 _ _ (within_refl committed_only) w) m
  edge_above (New dst ctor args) p e f x w m =
      let slots = slots_of (method_at P ctor.0) in
      one_above _ _ _ x (put_above (drop_facts P b e) (drop_facts P b f) dst.0 _ _ (new_above (ref_quals e slots args) (ref_quals f slots args) (ref_quals_above e f slots args w)) (drop_above e f w)) m
  edge_above (CtorCall ctor args own) p e f x w m = one_above _ _ _ x (ctor_called_above e f own w) m
  edge_above (Call dst method r direct args) p e f x w m = one_above _ _ _ x (put_to_above (drop_facts P b e) (drop_facts P b f) dst (result_of s (method_at P method.0)) (drop_above e f w)) m
  edge_above (StrOp dst op of other) p e f x w m = one_above _ _ _ x (put_above e f dst.0 _ _ (within_refl no_qual) w) m
  edge_above (Print of) p e f x w m = one_above _ e f x w m
  edge_above (Cast dst of c) p e f x w m = one_above _ _ _ x (put_above e f dst.0 _ _ (env_qual e f of.reg.0 w) w) m
  edge_above (TestInst of c og at_yes at_no) p e f x w m =
      let ev = without_null (qual_at e of.reg.0) in
      let fv = without_null (qual_at f of.reg.0) in
      let v = without_null_within (qual_at e of.reg.0) (qual_at f of.reg.0) (env_qual e f of.reg.0 w) in
      both_above x (side (is_none ev) at_yes.0 (learn P b og (refine e of.reg.0 ev))) ((at_no.0, e) ∷ []) (side (is_none fv) at_yes.0 (learn P b og (refine f of.reg.0 fv))) ((at_no.0, f) ∷ [])
      (λ h. side_above (is_none ev) (is_none fv) at_yes.0 _ _ x (is_none_within ev fv v) (learn_above _ _ og (refine_above e f of.reg.0 ev fv v w)) h)
      (λ h. one_above at_no.0 e f x w h)
      m
  edge_above (TestNull of og at_null at_value) p e f x w m =
      let q = env_qual e f of.reg.0 w in
      let en = null_part (qual_at e of.reg.0) in
      let fn' = null_part (qual_at f of.reg.0) in
      let ev = without_null (qual_at e of.reg.0) in
      let fv = without_null (qual_at f of.reg.0) in
      let n = null_part_within (qual_at e of.reg.0) (qual_at f of.reg.0) q in
      let v = without_null_within (qual_at e of.reg.0) (qual_at f of.reg.0) q in
      both_above x (side (is_none en) at_null.0 (refine e of.reg.0 en)) (side (is_none ev) at_value.0 (learn P b og (refine e of.reg.0 ev))) (side (is_none fn') at_null.0 (refine f of.reg.0 fn')) (side (is_none fv) at_value.0 (learn P b og (refine f of.reg.0 fv)))
      (λ h. side_above (is_none en) (is_none fn') at_null.0 _ _ x (is_none_within en fn' n) (refine_above e f of.reg.0 en fn' n w) h)
      (λ h. side_above (is_none ev) (is_none fv) at_value.0 _ _ x (is_none_within ev fv v) (learn_above _ _ og (refine_above e f of.reg.0 ev fv v w)) h)
      m
  edge_above (Branch of at_yes at_no) p e f x w m = both_above x ((at_yes.0, e) ∷ []) ((at_no.0, e) ∷ []) ((at_yes.0, f) ∷ []) ((at_no.0, f) ∷ []) (λ h. one_above at_yes.0 e f x w h) (λ h. one_above at_no.0 e f x w h) m
  edge_above (Goto to) p e f x w m = one_above _ e f x w m
  edge_above (Return v) p e f x w m = absurd m
