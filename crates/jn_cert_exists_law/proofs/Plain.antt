-- Where registers are of primitive type nothing is known of them: at the entry, by each edge, and so in the least table.
use Rattle.std.proofs.Common.{◌≡◌, ℕ, zero, suc, ◌+◌, ◌<◌, Bool, true, false, cond, inl, inr, ⊎_elim, List, [], ◌∷◌, length, Option, Some, None, refl, sym, ap, ◌∙◌, subst}
use Rattle.std.specs.Prelude.{slice_get, slice_index_or, slice_set, replicate}
use Rattle.jn_base.specs.declared.number.SlotNo.{SlotNo}
use Rattle.jn_quals.specs.Qualifier.{Qualifier}
use Rattle.jn_quals.specs.Order.{join, no_qual, null_part, without_null, is_none}
use Rattle.jn_points.specs.declared.point.BaseType.{BaseType}
use Rattle.jn_points.specs.declared.point.BaseType.TheVariants.{Int, Bool as BoolBase, Void, Null as NullBase, Ref, Array}
use Rattle.jn_points.specs.declared.point.Elem.TheVariants.{Int as IntElem, Bool as BoolElem, Ref as RefElem}
use Rattle.jn_points.specs.declared.point.Literal.{Literal}
use Rattle.jn_points.specs.declared.point.Literal.TheVariants.{Int as IntOf, Truth, Str, Null}
use Rattle.jn_points.specs.declared.point.Origin.{Origin}
use Rattle.jn_points.specs.declared.point.Point.{Point}
use Rattle.jn_points.specs.declared.point.PointKind.{PointKind}
use Rattle.jn_points.specs.declared.point.PointKind.TheVariants.{Const, Move, Unary, Binary, Concat, SameRef, FieldRead, FieldWrite, StaticRead, StaticWrite, ElemRead, ElemWrite, ArrayLen, NewArray, ArrayOf, New, CtorCall, Call, StrOp, Print, Cast, TestInst, TestNull, Branch, Goto, Return}
use Rattle.jn_points.specs.declared.program.Body.{Body}
use Rattle.jn_points.specs.declared.program.Field.{Field}
use Rattle.jn_points.specs.declared.program.Method.{Method}
use Rattle.jn_points.specs.declared.program.Program.{Program}
use Rattle.jn_points.specs.BaseTyping.{PointTyped, given_bases}
use Rattle.jn_points.specs.Lookup.{elem_base, base_in, class_of, field_base_of, has_slot, is_array, is_ref_base, points_of, ref_of, regs_of, params_of, result_base_of, slots_of, static_of, body_at, reg_base, field_info, field_base, ref_field, method_at, method_of_body, point_at}
use Rattle.jn_points.specs.Members.{sub, type_within}
use Rattle.jn_points.specs.Regular.{FrontOf, Regular, Typed, literal_base}
use Rattle.jn_points.specs.Shaped.{SlotsMatch}
use Rattle.jn_sigs.specs.Signature.{result_of, slot_qual, slot_quals}
use Rattle.jn_env.specs.Environment.{Env}
use Rattle.jn_env.specs.Order.{Table, env_in, join_env, join_quals, join_slot, qual_at}
use Rattle.jn_transfer.specs.Least.{IsLeastTable, all_edges, edges_from, flow_all, flow_in, round, rounds, start_table}
use Rattle.jn_transfer.specs.Transfer.{IsAmong, ctor_called, drop_facts, elem_qual, elem_read, entry_env, given_quals, learn, less_null, literal_qual, pad_quals, put, read_qual, refine, side, this_qual, transfer, written}
use Rattle.jn_transfer.proofs.Monotone.{among_cases}
use Rattle.jn_regular_law.proofs.Bodies.{there_at}
use Rattle.jn_cert_form.specs.Form.{ArePlain, IsPlain}

-- lists of qualifiers
set_keeps : (qs : List Qualifier) (dst r : ℕ) (q : Qualifier) → slice_index_or qs r no_qual ≡ no_qual → (dst ≡ r → q ≡ no_qual) → slice_index_or (slice_set qs dst q) r no_qual ≡ no_qual
set_keeps [] zero r q h f = h
set_keeps [] (suc dst) r q h f = h
set_keeps (x ∷ qs) zero zero q h f = f refl
set_keeps (x ∷ qs) zero (suc r) q h f = h
set_keeps (x ∷ qs) (suc dst) zero q h f = h
set_keeps (x ∷ qs) (suc dst) (suc r) q h f = set_keeps qs dst r q h (λ e. f (ap suc e))

join_keeps : (ps qs : List Qualifier) (r : ℕ) → slice_index_or ps r no_qual ≡ no_qual → slice_index_or qs r no_qual ≡ no_qual → slice_index_or (join_quals ps qs) r no_qual ≡ no_qual
join_keeps [] qs r f g = g
join_keeps (p ∷ ps) [] r f g = f
join_keeps (p ∷ ps) (q ∷ qs) zero f g = λ i. join (f i) (g i)
join_keeps (p ∷ ps) (q ∷ qs) (suc r) f g = join_keeps ps qs r f g

-- types
array_is_ref : (t : BaseType) → is_array t ≡ true → is_ref_base t ≡ true
array_is_ref (Array e n) h = refl
array_is_ref (Ref c) h = refl
array_is_ref NullBase h = refl
array_is_ref Int h = h
array_is_ref BoolBase h = h
array_is_ref Void h = h

elems_plain : (t : BaseType) → is_ref_base (elem_base t) ≡ false → elem_qual t ≡ no_qual
elems_plain (Array (RefElem c) n) h = cc
elems_plain (Array IntElem n) h = refl
elems_plain (Array BoolElem n) h = refl
elems_plain (Ref c) h = refl
elems_plain NullBase h = refl
elems_plain Int h = refl
elems_plain BoolBase h = refl
elems_plain Void h = refl

-- only what is of primitive type is within a primitive type
from_plain : (below : ℕ → ℕ → Bool) (a b : BaseType) → type_within below a b ≡ true → is_ref_base b ≡ false → is_ref_base a ≡ false
from_plain below Int b h f = refl
from_plain below BoolBase b h f = refl
from_plain below Void b h f = refl
from_plain below NullBase Int h f = cc
from_plain below NullBase BoolBase h f = cc
from_plain below NullBase Void h f = cc
from_plain below NullBase NullBase h f = f
from_plain below NullBase (Ref c) h f = f
from_plain below NullBase (Array e n) h f = f
from_plain below (Ref c) Int h f = cc
from_plain below (Ref c) BoolBase h f = cc
from_plain below (Ref c) Void h f = cc
from_plain below (Ref c) NullBase h f = f
from_plain below (Ref c) (Ref d) h f = f
from_plain below (Ref c) (Array e n) h f = f
from_plain below (Array e n) Int h f = cc
from_plain below (Array e n) BoolBase h f = cc
from_plain below (Array e n) Void h f = cc
from_plain below (Array e n) NullBase h f = f
from_plain below (Array e n) (Ref c) h f = f
from_plain below (Array e n) (Array d m) h f = f

no_slot : (s : List Qualifier) (o : Option SlotNo) → has_slot o ≡ false → slot_qual s o ≡ no_qual
no_slot s None h = refl
no_slot s (Some n) h = cc

less_plain : (known : Bool) (q : Qualifier) → q ≡ no_qual → less_null known q ≡ no_qual
less_plain true q e = ap without_null e
less_plain false q e = e

cond_plain : (c : Bool) (q : Qualifier) → q ≡ no_qual → cond c no_qual q ≡ no_qual
cond_plain true q e = refl
cond_plain false q e = e

unread_plain : (c : Bool) (q : Qualifier) → c ≡ false → cond c q no_qual ≡ no_qual
unread_plain true q e = cc
unread_plain false q e = refl

module _ (P : Program) (R : Regular P) (s : List Qualifier) where
  fields_plain : (f : ℕ) → is_ref_base (field_base P f) ≡ false → ref_field P f ≡ false
  fields_plain f h = by (field_info P f) refl
    where
      by : (o : Option Field) → field_info P f ≡ o → ref_field P f ≡ false
      by None e = ap ref_of e
      by (Some x) e = ap ref_of e ∙ (R.fields f x e).slot ∙ ap is_ref_base (sym (ap field_base_of e)) ∙ h

  results_plain : (m : ℕ) → is_ref_base (result_base_of (method_at P m)) ≡ false → result_of s (method_at P m) ≡ no_qual
  results_plain m h = by (method_at P m) refl
    where
      by : (o : Option Method) → method_at P m ≡ o → result_of s (method_at P m) ≡ no_qual
      by None e = ap (result_of s) e
      by (Some x) e = ap (result_of s) e ∙ no_slot s x.result_slot ((R.methods m x e).result ∙ ap is_ref_base (sym (ap result_base_of e)) ∙ h)

  module _ (b : ℕ) where
    put_plain : (e : Env) (dst : ℕ) (q : Qualifier) → IsPlain P b e → (is_ref_base (reg_base P b dst) ≡ false → q ≡ no_qual) → IsPlain P b (put P b e dst q)
    put_plain e dst q l h r plain = set_keeps e.quals dst r q (l r plain) (λ same. h (ap (λ n. is_ref_base (reg_base P b n)) same ∙ plain))

    refine_plain : (e : Env) (dst : ℕ) (q : Qualifier) → IsPlain P b e → (is_ref_base (reg_base P b dst) ≡ false → q ≡ no_qual) → IsPlain P b (refine e dst q)
    refine_plain e dst q l h r plain = set_keeps e.quals dst r q (l r plain) (λ same. h (ap (λ n. is_ref_base (reg_base P b n)) same ∙ plain))

    learn_plain : (e : Env) (og : Option Origin) → IsPlain P b e → IsPlain P b (learn P b og e)
    learn_plain e None l = l
    learn_plain e (Some og) l = l

    written_plain : (e : Env) (r f v : ℕ) (ref : Bool) → IsPlain P b e → IsPlain P b (written P b e r f v ref)
    written_plain e r f v false l = l
    written_plain e r f v true l = l

    ctor_plain : (e : Env) (own : Bool) → IsPlain P b e → IsPlain P b (ctor_called P b e own)
    ctor_plain e false l = l
    ctor_plain e true l = l

    -- a register of reference type may have any qualifier
    of_ref : (dst : ℕ) (t : BaseType) (q : Qualifier) → reg_base P b dst ≡ t → is_ref_base t ≡ true → is_ref_base (reg_base P b dst) ≡ false → q ≡ no_qual
    of_ref dst t q e h f = absurd (let clash : false ≡ true = sym f ∙ ap is_ref_base e ∙ h in cc)

    literals_plain : (dst : ℕ) (v : Literal) → reg_base P b dst ≡ literal_base v → is_ref_base (reg_base P b dst) ≡ false → literal_qual v ≡ no_qual
    literals_plain dst (IntOf i) t f = refl
    literals_plain dst (Truth x) t f = refl
    literals_plain dst (Str n) t f = of_ref dst (literal_base (Str n)) _ t refl f
    literals_plain dst Null t f = of_ref dst NullBase _ t refl f

    one_plain : (to : ℕ) (f : Env) (x : ℕ × Env) → IsPlain P b f → IsAmong x ((to, f) ∷ []) → IsPlain P b x.1
    one_plain to f x l (inl i) = subst (λ (y : ℕ × Env). IsPlain P b y.1) (sym i) l
    one_plain to f x l (inr m) = absurd m

    side_plain : (c : Bool) (to : ℕ) (f : Env) (x : ℕ × Env) → IsPlain P b f → IsAmong x (side c to f) → IsPlain P b x.1
    side_plain true to f x l m = absurd m
    side_plain false to f x l m = one_plain to f x l m

    edge_plain : (k : PointKind) (p : ℕ) (e : Env) (x : ℕ × Env) → Typed P b k → PointTyped P b k → IsPlain P b e → IsAmong x (transfer P s b k p e) → IsPlain P b x.1
    edge_plain (Const dst v) p e x t u l m = one_plain _ _ x (put_plain e dst.0 (literal_qual v) l (literals_plain dst.0 v t)) m
    edge_plain (Move dst from bound) p e x t u l m = one_plain _ _ x (put_plain e dst.0 (qual_at e from.reg.0) l (λ f. l from.reg.0 (from_plain (sub P) (reg_base P b from.reg.0) (reg_base P b dst.0) u f))) m
    edge_plain (Unary dst neg of) p e x t u l m = one_plain _ _ x (put_plain e dst.0 no_qual l (λ f. refl)) m
    edge_plain (Binary dst op l' r) p e x t u l m = one_plain _ _ x (put_plain e dst.0 no_qual l (λ f. refl)) m
    edge_plain (Concat dst l' r) p e x t u l m = one_plain _ _ x (put_plain e dst.0 _ l (of_ref dst.0 _ _ t refl)) m
    edge_plain (SameRef dst eq l' r) p e x t u l m = one_plain _ _ x (put_plain e dst.0 no_qual l (λ f. refl)) m
    edge_plain (FieldRead dst r g) p e x t u l m =
        one_plain _ _ x (put_plain e dst.0 (read_qual P s b e r.reg.0 g.0) l (λ f. less_plain _ _ (unread_plain (ref_field P g.0) _ (fields_plain g.0 (ap is_ref_base (sym t) ∙ f))))) m
    edge_plain (FieldWrite r g v) p e x t u l m = one_plain _ _ x (written_plain e r.reg.0 g.0 v.reg.0 (ref_field P g.0) l) m
    edge_plain (StaticRead dst g) p e x t u l m = one_plain _ _ x (put_plain e dst.0 no_qual l (λ f. refl)) m
    edge_plain (StaticWrite g v) p e x t u l m = one_plain _ e x l m
    edge_plain (ElemRead dst r i) p e x t u l m =
        one_plain _ _ x (put_plain e dst.0 (elem_read P b e r.reg.0) l (λ f. cond_plain _ (elem_qual (reg_base P b r.reg.0)) (elems_plain (reg_base P b r.reg.0) (ap is_ref_base (sym t) ∙ f)))) m
    edge_plain (ElemWrite r i v) p e x t u l m = one_plain _ e x l m
    edge_plain (ArrayLen dst r) p e x t u l m = one_plain _ _ x (put_plain e dst.0 no_qual l (λ f. refl)) m
    edge_plain (NewArray dst base k) p e x t u l m = one_plain _ _ x (put_plain e dst.0 _ l (of_ref dst.0 base _ t.1 (array_is_ref base t.0))) m
    edge_plain (ArrayOf dst base xs) p e x t u l m = one_plain _ _ x (put_plain e dst.0 _ l (of_ref dst.0 base _ t.1 (array_is_ref base t.0))) m
    edge_plain (New dst ctor args) p e x t u l m = one_plain _ _ x (put_plain (drop_facts P b e) dst.0 _ l (of_ref dst.0 _ _ t refl)) m
    edge_plain (CtorCall ctor args own) p e x t u l m = one_plain _ _ x (ctor_plain e own l) m
    edge_plain (Call None method r direct args) p e x t u l m = one_plain _ _ x l m
    edge_plain (Call (Some d) method r direct args) p e x t u l m = one_plain _ _ x (put_plain (drop_facts P b e) d.0 (result_of s (method_at P method.0)) l (λ f. results_plain method.0 (ap is_ref_base (sym t.1) ∙ f))) m
    edge_plain (StrOp dst op of other) p e x t u l m = one_plain _ _ x (put_plain e dst.0 no_qual l (λ f. refl)) m
    edge_plain (Print of) p e x t u l m = one_plain _ e x l m
    edge_plain (Cast dst of c) p e x t u l m = one_plain _ _ x (put_plain e dst.0 _ l (of_ref dst.0 _ _ t refl)) m
    edge_plain (TestInst of c og at_yes at_no) p e x t u l m =
        let v = without_null (qual_at e of.reg.0) in
        ⊎_elim
        (λ k. side_plain (is_none v) at_yes.0 _ x (learn_plain (refine e of.reg.0 v) og (refine_plain e of.reg.0 v l (λ f. ap without_null (l of.reg.0 f)))) k)
        (λ k. one_plain at_no.0 e x l k)
        (among_cases x (side (is_none v) at_yes.0 (learn P b og (refine e of.reg.0 v))) ((at_no.0, e) ∷ []) m)
    edge_plain (TestNull of og at_null at_value) p e x t u l m =
        let z = null_part (qual_at e of.reg.0) in
        let v = without_null (qual_at e of.reg.0) in
        ⊎_elim
        (λ k. side_plain (is_none z) at_null.0 _ x (refine_plain e of.reg.0 z l (λ f. ap null_part (l of.reg.0 f))) k)
        (λ k. side_plain (is_none v) at_value.0 _ x (learn_plain (refine e of.reg.0 v) og (refine_plain e of.reg.0 v l (λ f. ap without_null (l of.reg.0 f)))) k)
        (among_cases x (side (is_none z) at_null.0 (refine e of.reg.0 z)) (side (is_none v) at_value.0 (learn P b og (refine e of.reg.0 v))) m)
    edge_plain (Branch of at_yes at_no) p e x t u l m =
        ⊎_elim
        (λ k. one_plain at_yes.0 e x l k)
        (λ k. one_plain at_no.0 e x l k)
        (among_cases x ((at_yes.0, e) ∷ []) ((at_no.0, e) ∷ []) m)
    edge_plain (Goto to) p e x t u l m = one_plain _ e x l m
    edge_plain (Return v) p e x t u l m = absurd m

    -- tables
    plain_at : (t : Table) (p : ℕ) (e : Env) → ArePlain P b t → env_in t p ≡ Some e → IsPlain P b e
    plain_at [] p e l is = cc
    plain_at (None ∷ t) zero e l is = cc
    plain_at (None ∷ t) (suc p) e l is = plain_at t p e l is
    plain_at (Some f ∷ t) zero e l is = let same : f ≡ e = cc in subst (λ g. IsPlain P b g) same l.0
    plain_at (Some f ∷ t) (suc p) e l is = plain_at t p e l.1 is

    plain_set : (t : Table) (p : ℕ) (e : Env) → ArePlain P b t → IsPlain P b e → ArePlain P b (slice_set t p (Some e))
    plain_set [] p e l h = tt
    plain_set (None ∷ t) zero e l h = (h, l)
    plain_set (None ∷ t) (suc p) e l h = plain_set t p e l h
    plain_set (Some f ∷ t) zero e l h = (h, l.1)
    plain_set (Some f ∷ t) (suc p) e l h = (l.0, plain_set t p e l.1 h)

    flow_plain : (x : ℕ × Env) (t : Table) → ArePlain P b t → IsPlain P b x.1 → ArePlain P b (flow_in x t)
    flow_plain x t l h = by (env_in t x.0) refl
      where
        by : (o : Option Env) → env_in t x.0 ≡ o → ArePlain P b (slice_set t x.0 (join_slot o x.1))
        by None is = plain_set t x.0 x.1 l h
        by (Some e) is = plain_set t x.0 (join_env e x.1) l (λ r plain. join_keeps e.quals x.1.quals r (plain_at t x.0 e l is r plain) (h r plain))

    all_plain : (xs : List (ℕ × Env)) (t : Table) → ArePlain P b t → ((x : ℕ × Env) → IsAmong x xs → IsPlain P b x.1) → ArePlain P b (flow_all xs t)
    all_plain [] t l h = l
    all_plain (x ∷ xs) t l h = all_plain xs (flow_in x t) (flow_plain x t l (h x (inl refl))) (λ y m. h y (inr m))

    edges_plain : (pts : List Point) (p : ℕ) (t : Table) (x : ℕ × Env) → ((k : ℕ) (pt : Point) → slice_get pts k ≡ Some pt → Typed P b pt.kind × PointTyped P b pt.kind) → ArePlain P b t → IsAmong x (all_edges P s b pts p t) → IsPlain P b x.1
    edges_plain [] p t x ty l m = absurd m
    edges_plain (pt ∷ pts) p t x ty l m =
        ⊎_elim
        (λ k. here (env_in t p) refl k)
        (λ k. edges_plain pts (p + 1) t x (λ j q at. ty (suc j) q at) l k)
        (among_cases x (edges_from P s b pt p (env_in t p)) (all_edges P s b pts (p + 1) t) m)
      where
        here : (o : Option Env) → env_in t p ≡ o → IsAmong x (edges_from P s b pt p o) → IsPlain P b x.1
        here None is k = absurd k
        here (Some e) is k = let y = ty 0 pt refl in edge_plain pt.kind p e x y.0 y.1 (plain_at t p e l is) k

    module _ (typed : (p : ℕ) (pt : Point) → point_at P b p ≡ Some pt → Typed P b pt.kind × PointTyped P b pt.kind) where
      round_plain : (t : Table) → ArePlain P b t → ArePlain P b (round P s b t)
      round_plain t l = all_plain (all_edges P s b (points_of (body_at P b)) 0 t) t l (λ x m. edges_plain (points_of (body_at P b)) 0 t x typed l m)

      rounds_plain : (n : ℕ) (t : Table) → ArePlain P b t → ArePlain P b (rounds P s b n t)
      rounds_plain zero t l = l
      rounds_plain (suc n) t l = round_plain (rounds P s b n t) (rounds_plain n t l)

      unreached_plain : (n : ℕ) → ArePlain P b (replicate n None)
      unreached_plain zero = tt
      unreached_plain (suc n) = unreached_plain n

      pub least_plain : IsPlain P b (entry_env P s b) → (t : Table) → IsLeastTable P s b t → ArePlain P b t
      least_plain entry t is = subst (λ u. ArePlain P b u) (sym is.made) (rounds_plain is.turns (start_table P s b) (plain_set (replicate (length (points_of (body_at P b))) None) 0 (entry_env P s b) (unreached_plain (length (points_of (body_at P b)))) entry))

    -- the entry
    pad_none : (n r : ℕ) → slice_index_or (pad_quals [] n) r no_qual ≡ no_qual
    pad_none zero r = refl
    pad_none (suc n) zero = refl
    pad_none (suc n) (suc r) = pad_none n r

    slots_padded : (xs : List (Option SlotNo)) (ts regs : List BaseType) (r : ℕ) → SlotsMatch xs ts → FrontOf ts regs → is_ref_base (slice_index_or regs r Void) ≡ false → slice_index_or (pad_quals (slot_quals s xs) (length regs)) r no_qual ≡ no_qual
    slots_padded [] [] regs r m f h = pad_none (length regs) r
    slots_padded [] (t ∷ ts) regs r m f h = absurd m
    slots_padded (x ∷ xs) [] regs r m f h = absurd m
    slots_padded (x ∷ xs) (t ∷ ts) [] r m f h = absurd f
    slots_padded (x ∷ xs) (t ∷ ts) (g ∷ regs) zero m f h = no_slot s x (m.0 ∙ ap is_ref_base (sym f.0) ∙ h)
    slots_padded (x ∷ xs) (t ∷ ts) (g ∷ regs) (suc r) m f h = slots_padded xs ts regs r m.1 f.1 h

    given_padded : (m : ℕ) (x : Method) (regs : List BaseType) (r : ℕ) → method_at P m ≡ Some x → FrontOf (given_bases P m) regs → is_ref_base (slice_index_or regs r Void) ≡ false → slice_index_or (pad_quals (given_quals s (method_at P m)) (length regs)) r no_qual ≡ no_qual
    given_padded m x regs r at front h = by (static_of (method_at P m)) refl regs r front' h
      where
        match : SlotsMatch (slots_of (method_at P m)) (params_of (method_at P m))
        match = subst (λ o. SlotsMatch (slots_of o) (params_of o)) (sym at) (R.methods m x at).params

        front' : FrontOf (cond (static_of (method_at P m)) (params_of (method_at P m)) (Ref (record { 0 = class_of (method_at P m) }) ∷ params_of (method_at P m))) regs
        front' = front

        by : (c : Bool) → static_of (method_at P m) ≡ c → (regs : List BaseType) (r : ℕ) → FrontOf (cond (static_of (method_at P m)) (params_of (method_at P m)) (Ref (record { 0 = class_of (method_at P m) }) ∷ params_of (method_at P m))) regs → is_ref_base (slice_index_or regs r Void) ≡ false → slice_index_or (pad_quals (given_quals s (method_at P m)) (length regs)) r no_qual ≡ no_qual
        by true e regs r f h =
            let f' = subst (λ (c : Bool). FrontOf (cond c (params_of (method_at P m)) (Ref (record { 0 = class_of (method_at P m) }) ∷ params_of (method_at P m))) regs) e f in
            subst (λ (c : Bool). slice_index_or (pad_quals (cond c (slot_quals s (slots_of (method_at P m))) (this_qual s (method_at P m) ∷ slot_quals s (slots_of (method_at P m)))) (length regs)) r no_qual ≡ no_qual) (sym e) (slots_padded (slots_of (method_at P m)) (params_of (method_at P m)) regs r match f' h)
        by false e regs r f h =
            let f' = subst (λ (c : Bool). FrontOf (cond c (params_of (method_at P m)) (Ref (record { 0 = class_of (method_at P m) }) ∷ params_of (method_at P m))) regs) e f in
            subst (λ (c : Bool). slice_index_or (pad_quals (cond c (slot_quals s (slots_of (method_at P m))) (this_qual s (method_at P m) ∷ slot_quals s (slots_of (method_at P m)))) (length regs)) r no_qual ≡ no_qual) (sym e) (instance_padded regs r f' h)
          where
            instance_padded : (regs : List BaseType) (r : ℕ) → FrontOf (Ref (record { 0 = class_of (method_at P m) }) ∷ params_of (method_at P m)) regs → is_ref_base (slice_index_or regs r Void) ≡ false → slice_index_or (pad_quals (this_qual s (method_at P m) ∷ slot_quals s (slots_of (method_at P m))) (length regs)) r no_qual ≡ no_qual
            instance_padded [] r f h = absurd f
            instance_padded (g ∷ regs) zero f h = absurd (let clash : false ≡ true = sym h ∙ ap is_ref_base f.0 in cc)
            instance_padded (g ∷ regs) (suc r) f h = slots_padded (slots_of (method_at P m)) (params_of (method_at P m)) regs r match f.1 h

    pub entry_plain : b < length P.bodies → IsPlain P b (entry_env P s b)
    entry_plain lt = by (there_at P.bodies b lt)
      where
        by : (y : Body) × (body_at P b ≡ Some y) → IsPlain P b (entry_env P s b)
        by y r plain =
            let info = y.0 in
            let body = R.bodies b info y.1 in
            let meth = there_at P.methods info.method.0 body.method in
            let plain' : is_ref_base (slice_index_or info.regs r Void) ≡ false = sym (ap (λ o. is_ref_base (base_in o r)) y.1) ∙ plain in
            ap (λ o. slice_index_or (pad_quals (given_quals s (method_of_body P o)) (regs_of o)) r no_qual) y.1 ∙ given_padded info.method.0 meth.0 info.regs r meth.1 body.front plain'
