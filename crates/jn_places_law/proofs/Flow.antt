-- Bare programs have the same edges, rounds and least tables.
use Rattle.std.proofs.Common.{◌≡◌, ℕ, zero, suc, ◌+◌, Bool, true, false, not, cond, ◌&&◌, List, [], ◌∷◌, ◌++◌, length, Option, Some, None, refl, sym, ap, ◌∙◌}
use Rattle.std.specs.Prelude.{eqb, ltb, filter, flat_map, option_map, slice_set, replicate}
use Rattle.std.proofs.Math.Path.{fun_ext}
use Rattle.std.proofs.lemmas.List.{length-map}
use Rattle.jn_base.specs.declared.number.RegNo.{RegNo}
use Rattle.jn_base.specs.declared.number.SlotNo.{SlotNo}
use Rattle.jn_quals.specs.Qualifier.{Qualifier}
use Rattle.jn_quals.specs.Order.{no_qual, committed_only, null_or_committed, all_quals, without_null, without_free, null_part, is_none}
use Rattle.jn_points.specs.declared.point.Operand.{Operand}
use Rattle.jn_points.specs.declared.point.Origin.{Origin}
use Rattle.jn_points.specs.declared.point.Point.{Point}
use Rattle.jn_points.specs.declared.point.PointKind.{PointKind}
use Rattle.jn_points.specs.declared.point.PointKind.TheVariants.{Const, Move, Unary, Binary, Concat, SameRef, FieldRead, FieldWrite, StaticRead, StaticWrite, ElemRead, ElemWrite, ArrayLen, NewArray, ArrayOf, New, CtorCall, Call, StrOp, Print, Cast, TestInst, TestNull, Branch, Goto, Return}
use Rattle.jn_points.specs.declared.program.Field.{Field}
use Rattle.jn_points.specs.declared.program.Method.{Method}
use Rattle.jn_points.specs.declared.program.Program.{Program}
use Rattle.jn_points.specs.Lookup.{points_of, regs_of, class_of, ctor_of, slots_of, body_at, locals, monotonic, owner, field_info, ref_field, flat_field, method_at, method_in}
use Rattle.jn_points.specs.Members.{below}
use Rattle.jn_sigs.specs.Signature.{result_of, receiver_of, field_qual, field_qual_of}
use Rattle.jn_env.specs.Environment.{Env}
use Rattle.jn_env.specs.Order.{Table, env_in, qual_at}
use Rattle.jn_env.specs.Keys.{Key, kind_keys, distinct, fact_keys, is_own, own_keys, has_reg, has_key_field, is_key, is_kept, mask, also, is_on, no_bits}
use Rattle.jn_transfer.specs.Transfer.{literal_qual, elem_qual, refine, side, ref_quals, new_qual, less_null, pad_quals, given_quals, put, drop_facts, put_to, learn, facts_but, write_facts, write_assigned, written, ctor_called, elem_read, read_part, read_qual, transfer, entry_env}
use Rattle.jn_transfer.specs.Least.{flow_all, edges_from, all_edges, round, rounds, start_table, IsLeastTable}
use Rattle.jn_places_law.specs.Bare.{bare, bare_field, bare_method, bare_kind, bare_operands, bare_points, bare_point}
use Rattle.jn_places_law.proofs.Lookups.{filter_same, points_is, regs_is, locals_is, reg_base_is, owner_is, field_info_is, ref_field_is, monotonic_is, flat_field_is, method_at_is, method_in_is, ctor_in_is, class_in_is, slots_at_is}

-- ---- what a point's kind is without its places

kind_keys_is : (k : PointKind) → kind_keys (bare_kind k) ≡ kind_keys k
kind_keys_is (Const dst value) = refl
kind_keys_is (Move dst from bound) = refl
kind_keys_is (Unary dst negate of) = refl
kind_keys_is (Binary dst op l r) = refl
kind_keys_is (Concat dst l r) = refl
kind_keys_is (SameRef dst eq l r) = refl
kind_keys_is (FieldRead dst r f) = refl
kind_keys_is (FieldWrite r f v) = refl
kind_keys_is (StaticRead dst f) = refl
kind_keys_is (StaticWrite f v) = refl
kind_keys_is (ElemRead dst r i) = refl
kind_keys_is (ElemWrite r i v) = refl
kind_keys_is (ArrayLen dst r) = refl
kind_keys_is (NewArray dst base n) = refl
kind_keys_is (ArrayOf dst base xs) = refl
kind_keys_is (New dst m args) = refl
kind_keys_is (CtorCall m args own) = refl
kind_keys_is (Call dst m r direct args) = refl
kind_keys_is (StrOp dst op of other) = refl
kind_keys_is (Print of) = refl
kind_keys_is (Cast dst of c) = refl
kind_keys_is (TestInst of c og at_yes at_no) = refl
kind_keys_is (TestNull of og at_null at_value) = refl
kind_keys_is (Branch of at_yes at_no) = refl
kind_keys_is (Goto to) = refl
kind_keys_is (Return v) = refl

pub points_keys : (pts : List Point) → flat_map (λ (pt : Point). kind_keys pt.kind) (bare_points pts) ≡ flat_map (λ (pt : Point). kind_keys pt.kind) pts
points_keys [] = refl
points_keys (pt ∷ pts) = ap (λ x. x ++ flat_map (λ (q : Point). kind_keys q.kind) (bare_points pts)) (kind_keys_is pt.kind) ∙ ap (λ x. kind_keys pt.kind ++ x) (points_keys pts)

pub ref_quals_is : (e : Env) (xs : List (Option SlotNo)) (args : List Operand) → ref_quals e xs (bare_operands args) ≡ ref_quals e xs args
ref_quals_is e [] args = refl
ref_quals_is e (x ∷ xs) [] = refl
ref_quals_is e (None ∷ xs) (a ∷ args) = ref_quals_is e xs args
ref_quals_is e (Some s ∷ xs) (a ∷ args) = ap (λ x. qual_at e a.reg.0 ∷ x) (ref_quals_is e xs args)

pub result_bare : (s : List Qualifier) (m : Option Method) → result_of s (option_map bare_method m) ≡ result_of s m
result_bare s None = refl
result_bare s (Some m) = refl

pub receiver_bare : (s : List Qualifier) (m : Option Method) → receiver_of s (option_map bare_method m) ≡ receiver_of s m
receiver_bare s None = refl
receiver_bare s (Some m) = refl

field_bare : (s : List Qualifier) (f : Option Field) → field_qual_of s (option_map bare_field f) ≡ field_qual_of s f
field_bare s None = refl
field_bare s (Some f) = refl

given_bare : (s : List Qualifier) (m : Option Method) → given_quals s (option_map bare_method m) ≡ given_quals s m
given_bare s None = refl
given_bare s (Some m) = refl

module _ (P : Program) where
  pub fact_keys_is : (b : ℕ) → fact_keys (bare P) b ≡ fact_keys P b
  fact_keys_is b =
      ap (λ pts. distinct (filter (λ (k : Key). ltb k.reg (locals (bare P) b) && ref_field (bare P) k.field) (flat_map (λ (pt : Point). kind_keys pt.kind) pts))) (points_is P b)
      ∙ ap (λ ks. distinct (filter (λ (k : Key). ltb k.reg (locals (bare P) b) && ref_field (bare P) k.field) ks)) (points_keys (points_of (body_at P b)))
      ∙ ap distinct (filter_same (λ (k : Key). ltb k.reg (locals (bare P) b) && ref_field (bare P) k.field) (λ (k : Key). ltb k.reg (locals P b) && ref_field P k.field) (flat_map (λ (pt : Point). kind_keys pt.kind) (points_of (body_at P b)))
      (λ k. ap (λ n. ltb k.reg n && ref_field (bare P) k.field) (locals_is P b) ∙ ap (λ x. ltb k.reg (locals P b) && x) (ref_field_is P k.field)))

  own_test : (b f : ℕ) → is_own (bare P) (method_in (bare P) b) f ≡ is_own P (method_in P b) f
  own_test b f =
      ap (λ x. x && eqb (owner (bare P) f) (class_of (method_in (bare P) b)) && ref_field (bare P) f) (ctor_in_is P b)
      ∙ ap (λ x. ctor_of (method_in P b) && eqb x (class_of (method_in (bare P) b)) && ref_field (bare P) f) (owner_is P f)
      ∙ ap (λ x. ctor_of (method_in P b) && eqb (owner P f) x && ref_field (bare P) f) (class_in_is P b)
      ∙ ap (λ x. ctor_of (method_in P b) && eqb (owner P f) (class_of (method_in P b)) && x) (ref_field_is P f)

  pub own_keys_is : (b : ℕ) → own_keys (bare P) b ≡ own_keys P b
  own_keys_is b =
      ap (λ n. filter (is_own (bare P) (method_in (bare P) b)) (below n)) (length-map P.fields bare_field)
      ∙ filter_same (is_own (bare P) (method_in (bare P) b)) (is_own P (method_in P b)) (below (length P.fields)) (own_test b)

  pub field_qual_is : (s : List Qualifier) (f : ℕ) → field_qual (bare P) s f ≡ field_qual P s f
  field_qual_is s f = ap (field_qual_of s) (field_info_is P f) ∙ field_bare s (field_info P f)

  pub result_is : (s : List Qualifier) (m : ℕ) → result_of s (method_at (bare P) m) ≡ result_of s (method_at P m)
  result_is s m = ap (result_of s) (method_at_is P m) ∙ result_bare s (method_at P m)

  -- ---- writes

  put_is : (b : ℕ) (e : Env) (dst : ℕ) (q : Qualifier) → put (bare P) b e dst q ≡ put P b e dst q
  put_is b e dst q = ap (λ ks. record { quals = slice_set e.quals dst q; facts = mask (λ k. not (has_reg dst k)) ks e.facts; assigned = e.assigned }) (fact_keys_is b)

  kept_is : (b : ℕ) (e : Env) → mask (is_kept (bare P)) (fact_keys (bare P) b) e.facts ≡ mask (is_kept P) (fact_keys P b) e.facts
  kept_is b e = ap (λ ks. mask (is_kept (bare P)) ks e.facts) (fact_keys_is b) ∙ ap (λ (t : Key → Bool). mask t (fact_keys P b) e.facts) (fun_ext (λ (k : Key). monotonic_is P k.field))

  drop_is : (b : ℕ) (e : Env) → drop_facts (bare P) b e ≡ drop_facts P b e
  drop_is b e = ap (λ x. record { quals = e.quals; facts = x; assigned = e.assigned }) (kept_is b e)

  put_to_is : (b : ℕ) (e : Env) (dst : Option RegNo) (q : Qualifier) → put_to (bare P) b e dst q ≡ put_to P b e dst q
  put_to_is b e None q = refl
  put_to_is b e (Some dst) q = put_is b e dst.0 q

  learn_is : (b : ℕ) (og : Option Origin) (e : Env) → learn (bare P) b og e ≡ learn P b og e
  learn_is b None e = refl
  learn_is b (Some og) e = ap (λ ks. record { quals = e.quals; facts = also (is_key og.reg.0 og.field.0) ks e.facts; assigned = e.assigned }) (fact_keys_is b)

  facts_but_is : (b : ℕ) (e : Env) (f : ℕ) → facts_but (bare P) b e f ≡ facts_but P b e f
  facts_but_is b e f =
      ap (λ x. cond x e.facts (mask (λ k. not (has_key_field f k)) (fact_keys (bare P) b) e.facts)) (monotonic_is P f)
      ∙ ap (λ ks. cond (monotonic P f) e.facts (mask (λ k. not (has_key_field f k)) ks e.facts)) (fact_keys_is b)

  write_facts_is : (b : ℕ) (e : Env) (r f s : ℕ) → write_facts (bare P) b e r f s ≡ write_facts P b e r f s
  write_facts_is b e r f s =
      ap (λ n. cond (ltb r n && not (qual_at e s).null) (also (is_key r f) (fact_keys (bare P) b) (facts_but (bare P) b e f)) (facts_but (bare P) b e f)) (locals_is P b)
      ∙ ap (λ ks. cond (ltb r (locals P b) && not (qual_at e s).null) (also (is_key r f) ks (facts_but (bare P) b e f)) (facts_but (bare P) b e f)) (fact_keys_is b)
      ∙ ap (λ x. cond (ltb r (locals P b) && not (qual_at e s).null) (also (is_key r f) (fact_keys P b) x) x) (facts_but_is b e f)

  write_assigned_is : (b : ℕ) (e : Env) (r f : ℕ) → write_assigned (bare P) b e r f ≡ write_assigned P b e r f
  write_assigned_is b e r f =
      ap (λ x. cond (x && eqb r 0 && eqb (owner (bare P) f) (class_of (method_in (bare P) b))) (also (λ k. eqb k f) (own_keys (bare P) b) e.assigned) e.assigned) (ctor_in_is P b)
      ∙ ap (λ x. cond (ctor_of (method_in P b) && eqb r 0 && eqb x (class_of (method_in (bare P) b))) (also (λ k. eqb k f) (own_keys (bare P) b) e.assigned) e.assigned) (owner_is P f)
      ∙ ap (λ x. cond (ctor_of (method_in P b) && eqb r 0 && eqb (owner P f) x) (also (λ k. eqb k f) (own_keys (bare P) b) e.assigned) e.assigned) (class_in_is P b)
      ∙ ap (λ x. cond (ctor_of (method_in P b) && eqb r 0 && eqb (owner P f) (class_of (method_in P b))) (also (λ k. eqb k f) x e.assigned) e.assigned) (own_keys_is b)

  written_is : (b : ℕ) (e : Env) (r f s : ℕ) (ref : Bool) → written (bare P) b e r f s ref ≡ written P b e r f s ref
  written_is b e r f s false = refl
  written_is b e r f s true = ap (λ x. record { quals = e.quals; facts = x; assigned = write_assigned (bare P) b e r f }) (write_facts_is b e r f s) ∙ ap (λ x. record { quals = e.quals; facts = write_facts P b e r f s; assigned = x }) (write_assigned_is b e r f)

  ctor_called_is : (b : ℕ) (e : Env) (own : Bool) → ctor_called (bare P) b e own ≡ ctor_called P b e own
  ctor_called_is b e false = drop_is b e
  ctor_called_is b e true =
      ap (λ x. record { quals = e.quals; facts = x; assigned = also (λ k. true) (own_keys (bare P) b) e.assigned }) (kept_is b e)
      ∙ ap (λ ks. record { quals = e.quals; facts = mask (is_kept P) (fact_keys P b) e.facts; assigned = also (λ k. true) ks e.assigned }) (own_keys_is b)

  elem_read_is : (b : ℕ) (e : Env) (r : ℕ) → elem_read (bare P) b e r ≡ elem_read P b e r
  elem_read_is b e r = ap (λ t. cond (is_none (without_null (qual_at e r))) no_qual (elem_qual t)) (reg_base_is P b r)

  module _ (s : List Qualifier) where
    read_part_is : (f : ℕ) (k : Qualifier) → read_part (bare P) s f k ≡ read_part P s f k
    read_part_is f k =
        ap (λ x. cond (is_none k) no_qual (cond k.free (cond x null_or_committed all_quals) (without_free (field_qual (bare P) s f)))) (flat_field_is P f)
        ∙ ap (λ x. cond (is_none k) no_qual (cond k.free (cond (flat_field P f) null_or_committed all_quals) (without_free x))) (field_qual_is s f)

    read_qual_is : (b : ℕ) (e : Env) (r f : ℕ) → read_qual (bare P) s b e r f ≡ read_qual P s b e r f
    read_qual_is b e r f =
        ap (λ ks. less_null (is_on (is_key r f) ks e.facts) (cond (ref_field (bare P) f) (read_part (bare P) s f (without_null (qual_at e r))) no_qual)) (fact_keys_is b)
        ∙ ap (λ x. less_null (is_on (is_key r f) (fact_keys P b) e.facts) (cond x (read_part (bare P) s f (without_null (qual_at e r))) no_qual)) (ref_field_is P f)
        ∙ ap (λ x. less_null (is_on (is_key r f) (fact_keys P b) e.facts) (cond (ref_field P f) x no_qual)) (read_part_is f (without_null (qual_at e r)))

    one : (p : ℕ) (d e : Env) → d ≡ e → ◌≡◌ {A = List (ℕ × Env)} ((p, d) ∷ []) ((p, e) ∷ [])
    one p d e h = ap (λ x. (p, x) ∷ []) h

    -- ---- edges

    pub transfer_is : (b : ℕ) (k : PointKind) (p : ℕ) (e : Env) → transfer (bare P) s b (bare_kind k) p e ≡ transfer P s b k p e
    transfer_is b (Const dst value) p e = one (p + 1) _ _ (put_is b e dst.0 (literal_qual value))
    transfer_is b (Move dst from bound) p e = one (p + 1) _ _ (put_is b e dst.0 (qual_at e from.reg.0))
    transfer_is b (Unary dst negate of) p e = one (p + 1) _ _ (put_is b e dst.0 no_qual)
    transfer_is b (Binary dst op l r) p e = one (p + 1) _ _ (put_is b e dst.0 no_qual)
    transfer_is b (Concat dst l r) p e = one (p + 1) _ _ (put_is b e dst.0 committed_only)
    transfer_is b (SameRef dst eq l r) p e = one (p + 1) _ _ (put_is b e dst.0 no_qual)
    transfer_is b (FieldRead dst r f) p e = one (p + 1) _ _ (put_is b e dst.0 (read_qual (bare P) s b e r.reg.0 f.0) ∙ ap (put P b e dst.0) (read_qual_is b e r.reg.0 f.0))
    transfer_is b (FieldWrite r f v) p e = one (p + 1) _ _ (written_is b e r.reg.0 f.0 v.reg.0 (ref_field (bare P) f.0) ∙ ap (written P b e r.reg.0 f.0 v.reg.0) (ref_field_is P f.0))
    transfer_is b (StaticRead dst f) p e = one (p + 1) _ _ (put_is b e dst.0 no_qual)
    transfer_is b (StaticWrite f v) p e = refl
    transfer_is b (ElemRead dst r i) p e = one (p + 1) _ _ (put_is b e dst.0 (elem_read (bare P) b e r.reg.0) ∙ ap (put P b e dst.0) (elem_read_is b e r.reg.0))
    transfer_is b (ElemWrite r i v) p e = refl
    transfer_is b (ArrayLen dst r) p e = one (p + 1) _ _ (put_is b e dst.0 no_qual)
    transfer_is b (NewArray dst base n) p e = one (p + 1) _ _ (put_is b e dst.0 committed_only)
    transfer_is b (ArrayOf dst base xs) p e = one (p + 1) _ _ (put_is b e dst.0 committed_only)
    transfer_is b (New dst m args) p e = one (p + 1) _ _
        (put_is b (drop_facts (bare P) b e) dst.0 (new_qual (ref_quals e (slots_of (method_at (bare P) m.0)) (bare_operands args)))
        ∙ ap (λ x. put P b x dst.0 (new_qual (ref_quals e (slots_of (method_at (bare P) m.0)) (bare_operands args)))) (drop_is b e)
        ∙ ap (λ x. put P b (drop_facts P b e) dst.0 (new_qual (ref_quals e x (bare_operands args)))) (slots_at_is P m.0)
        ∙ ap (λ x. put P b (drop_facts P b e) dst.0 (new_qual x)) (ref_quals_is e (slots_of (method_at P m.0)) args))
    transfer_is b (CtorCall m args own) p e = one (p + 1) _ _ (ctor_called_is b e own)
    transfer_is b (Call dst m r direct args) p e = one (p + 1) _ _
        (put_to_is b (drop_facts (bare P) b e) dst (result_of s (method_at (bare P) m.0))
        ∙ ap (λ x. put_to P b x dst (result_of s (method_at (bare P) m.0))) (drop_is b e)
        ∙ ap (put_to P b (drop_facts P b e) dst) (result_is s m.0))
    transfer_is b (StrOp dst op of other) p e = one (p + 1) _ _ (put_is b e dst.0 no_qual)
    transfer_is b (Print of) p e = refl
    transfer_is b (Cast dst of c) p e = one (p + 1) _ _ (put_is b e dst.0 (qual_at e of.reg.0))
    transfer_is b (TestInst of c og at_yes at_no) p e =
        let v : Qualifier = without_null (qual_at e of.reg.0) in
        ap (λ x. side (is_none v) at_yes.0 x ++ (at_no.0, e) ∷ []) (learn_is b og (refine e of.reg.0 v))
    transfer_is b (TestNull of og at_null at_value) p e =
        let n : Qualifier = null_part (qual_at e of.reg.0) in
        let v : Qualifier = without_null (qual_at e of.reg.0) in
        ap (λ x. side (is_none n) at_null.0 (refine e of.reg.0 n) ++ side (is_none v) at_value.0 x) (learn_is b og (refine e of.reg.0 v))
    transfer_is b (Branch of at_yes at_no) p e = refl
    transfer_is b (Goto to) p e = refl
    transfer_is b (Return v) p e = refl

    entry_is : (b : ℕ) → entry_env (bare P) s b ≡ entry_env P s b
    entry_is b =
        ap (λ x. record { quals = pad_quals x (regs_of (body_at (bare P) b)); facts = no_bits (fact_keys (bare P) b); assigned = no_bits (own_keys (bare P) b) }) (ap (given_quals s) (method_in_is P b) ∙ given_bare s (method_in P b))
        ∙ ap (λ x. record { quals = pad_quals (given_quals s (method_in P b)) x; facts = no_bits (fact_keys (bare P) b); assigned = no_bits (own_keys (bare P) b) }) (regs_is P b)
        ∙ ap (λ x. record { quals = pad_quals (given_quals s (method_in P b)) (regs_of (body_at P b)); facts = no_bits x; assigned = no_bits (own_keys (bare P) b) }) (fact_keys_is b)
        ∙ ap (λ x. record { quals = pad_quals (given_quals s (method_in P b)) (regs_of (body_at P b)); facts = no_bits (fact_keys P b); assigned = no_bits x }) (own_keys_is b)

    -- ---- rounds

    edges_from_is : (b : ℕ) (pt : Point) (p : ℕ) (e : Option Env) → edges_from (bare P) s b (bare_point pt) p e ≡ edges_from P s b pt p e
    edges_from_is b pt p None = refl
    edges_from_is b pt p (Some e) = transfer_is b pt.kind p e

    all_edges_is : (b : ℕ) (pts : List Point) (p : ℕ) (t : Table) → all_edges (bare P) s b (bare_points pts) p t ≡ all_edges P s b pts p t
    all_edges_is b [] p t = refl
    all_edges_is b (pt ∷ pts) p t = ap (λ x. x ++ all_edges (bare P) s b (bare_points pts) (p + 1) t) (edges_from_is b pt p (env_in t p)) ∙ ap (λ x. edges_from P s b pt p (env_in t p) ++ x) (all_edges_is b pts (p + 1) t)

    round_is : (b : ℕ) (t : Table) → round (bare P) s b t ≡ round P s b t
    round_is b t = ap (λ x. flow_all (all_edges (bare P) s b x 0 t) t) (points_is P b) ∙ ap (λ x. flow_all x t) (all_edges_is b (points_of (body_at P b)) 0 t)

    rounds_is : (b n : ℕ) (t : Table) → rounds (bare P) s b n t ≡ rounds P s b n t
    rounds_is b zero t = refl
    rounds_is b (suc n) t = round_is b (rounds (bare P) s b n t) ∙ ap (round P s b) (rounds_is b n t)

    points_long : (pts : List Point) → length (bare_points pts) ≡ length pts
    points_long [] = refl
    points_long (pt ∷ pts) = ap suc (points_long pts)

    start_is : (b : ℕ) → start_table (bare P) s b ≡ start_table P s b
    start_is b =
        ap (λ x. slice_set (replicate (length x) None) 0 (Some (entry_env (bare P) s b))) (points_is P b)
        ∙ ap (λ n. slice_set (replicate n None) 0 (Some (entry_env (bare P) s b))) (points_long (points_of (body_at P b)))
        ∙ ap (λ e. slice_set (replicate (length (points_of (body_at P b))) None) 0 (Some e)) (entry_is b)

    -- ---- least tables

    pub least_bare : (b : ℕ) (t : Table) → IsLeastTable P s b t → IsLeastTable (bare P) s b t
    least_bare b t h = record {
      turns = h.turns;
      made = h.made ∙ sym (ap (rounds (bare P) s b h.turns) (start_is b) ∙ rounds_is b h.turns (start_table P s b));
      stable = round_is b t ∙ h.stable;
    }

    pub least_full : (b : ℕ) (t : Table) → IsLeastTable (bare P) s b t → IsLeastTable P s b t
    least_full b t h = record {
      turns = h.turns;
      made = h.made ∙ ap (rounds (bare P) s b h.turns) (start_is b) ∙ rounds_is b h.turns (start_table P s b);
      stable = sym (round_is b t) ∙ h.stable;
    }
