-- A body that does the same has the least table that it had, where what it reads of signatures is the same.
use Rattle.std.proofs.Common.{◌≡◌, ℕ, zero, suc, ◌+◌, Bool, true, false, cond, not, ◌&&◌, eqb, ltb, List, [], ◌∷◌, ◌++◌, Option, Some, None, refl, sym, ap, ◌∙◌}
use Rattle.std.specs.Prelude.{slice_set, replicate}
use Rattle.jn_base.specs.declared.number.RegNo.{RegNo}
use Rattle.jn_base.specs.declared.number.SlotNo.{SlotNo}
use Rattle.jn_quals.specs.Qualifier.{Qualifier}
use Rattle.jn_quals.specs.Order.{no_qual, free_only, null_or_committed, all_quals, committed_only, without_null, without_free, null_part, is_none}
use Rattle.jn_points.specs.declared.point.Literal.TheVariants.{Int, Truth, Str, Null}
use Rattle.jn_points.specs.declared.point.Origin.{Origin}
use Rattle.jn_points.specs.declared.point.Point.{Point}
use Rattle.jn_points.specs.declared.point.PointKind.{PointKind}
use Rattle.jn_points.specs.declared.point.PointKind.TheVariants.{Const, Move, Unary, Binary, Concat, SameRef, FieldRead, FieldWrite, StaticRead, StaticWrite, ElemRead, ElemWrite, ArrayLen, NewArray, ArrayOf, New, CtorCall, Call, StrOp, Print, Cast, TestInst, TestNull, Branch, Goto, Return}
use Rattle.jn_points.specs.declared.program.Program.{Program}
use Rattle.jn_points.specs.Lookup.{body_at, method_at, method_in, points_of, ref_field, slots_of}
use Rattle.jn_sigs.specs.Signature.{field_qual, receiver_of, result_of, slot_quals}
use Rattle.jn_env.specs.Environment.{Env}
use Rattle.jn_env.specs.Keys.{Key, also, fact_keys, has_key_field, has_reg, is_key, is_on, mask, no_bits, own_keys}
use Rattle.jn_env.specs.Order.{Table, env_in, qual_at}
use Rattle.jn_transfer.specs.Least.{IsLeastTable, all_edges, edges_from, flow_all, round, rounds, start_table}
use Rattle.jn_transfer.specs.Transfer.{ctor_called, drop_facts, elem_qual, elem_read, given_quals, learn, less_null, literal_qual, new_qual, pad_quals, put, put_to, read_qual, ref_quals, refine, side, transfer, written}
use Rattle.jn_recheck_law.specs.Alike.{AllAlike, SameDeclarations, SameKind, acting_kind, bare_kind}
use Rattle.jn_recheck_law.specs.Reusable.{ActAlike}
use Rattle.jn_places_law.specs.Bare.{bare_kind as placeless}
use Rattle.jn_places_law.proofs.Flow.{ref_quals_is}
use Rattle.jn_recheck_law.proofs.Seeing as see

module _ (P Q : Program) (s t : List Qualifier) where
  -- what a point reads of signatures is the same: of a field that it reads, and of the result of a method that it calls
  abbrev pub ReadsSame : PointKind → Type 0
  ReadsSame (FieldRead dst r f) = field_qual P s f.0 ≡ field_qual Q t f.0
  ReadsSame (Call dst m r direct args) = result_of s (method_at P m.0) ≡ result_of t (method_at Q m.0)
  ReadsSame kind = Unit {0}

  abbrev pub AllRead : List Point → Type 0
  AllRead [] = Unit {0}
  AllRead (y ∷ ys) = ReadsSame y.kind × AllRead ys

module _ (names more : List (List ℕ)) (P Q : Program) (s t : List Qualifier) (d : SameDeclarations names more P Q) where
  module _ (b : ℕ) (same : ActAlike (body_at P b) (body_at Q b)) where
    facts : fact_keys P b ≡ fact_keys Q b
    facts = see.facts_seen names more P Q d b same

    owns : own_keys P b ≡ own_keys Q b
    owns = see.own_seen names more P Q d b same

    put_same : (e : Env) (dst : ℕ) (q : Qualifier) → put P b e dst q ≡ put Q b e dst q
    put_same e dst q = ap (λ (keys : List Key). record { quals = slice_set e.quals dst q; facts = mask (λ k. not (has_reg dst k)) keys e.facts; assigned = e.assigned }) facts

    drop_same : (e : Env) → drop_facts P b e ≡ drop_facts Q b e
    drop_same e = (λ i. record { quals = e.quals; facts = mask (λ (k : Key). see.monotonic_seen names more P Q d k.field i) (facts i) e.facts; assigned = e.assigned })

    put_to_same : (e : Env) (dst : Option RegNo) (q : Qualifier) → put_to P b e dst q ≡ put_to Q b e dst q
    put_to_same e None q = refl
    put_to_same e (Some dst) q = put_same e dst.0 q

    learn_same : (og : Option Origin) (e : Env) → learn P b og e ≡ learn Q b og e
    learn_same None e = refl
    learn_same (Some og) e = ap (λ (keys : List Key). record { quals = e.quals; facts = also (is_key og.reg.0 og.field.0) keys e.facts; assigned = e.assigned }) facts

    written_same : (e : Env) (r f v : ℕ) (ref : Bool) → written P b e r f v ref ≡ written Q b e r f v ref
    written_same e r f v false = refl
    written_same e r f v true = (λ i.
        let dropped = cond (see.monotonic_seen names more P Q d f i) e.facts (mask (λ k. not (has_key_field f k)) (facts i) e.facts) in
        record {
          quals = e.quals;
          facts = cond (ltb r (see.locals_seen names more P Q d b same i) && not (qual_at e v).null) (also (is_key r f) (facts i) dropped) dropped;
          assigned = cond ((see.ctor_seen names more P Q d b same i && eqb r 0) && eqb (see.owner_seen names more P Q d f i) (see.class_seen names more P Q d b same i)) (also (λ k. eqb k f) (owns i) e.assigned) e.assigned;
        })

    called_same : (e : Env) (own : Bool) → ctor_called P b e own ≡ ctor_called Q b e own
    called_same e false = drop_same e
    called_same e true = (λ i. record { quals = e.quals; facts = mask (λ (k : Key). see.monotonic_seen names more P Q d k.field i) (facts i) e.facts; assigned = also (λ k. true) (owns i) e.assigned })

    elem_same : (e : Env) (r : ℕ) → elem_read P b e r ≡ elem_read Q b e r
    elem_same e r = (λ i. cond (is_none (without_null (qual_at e r))) no_qual (elem_qual (see.base_seen names more P Q d b same r i)))

    read_same : (e : Env) (r f : ℕ) → field_qual P s f ≡ field_qual Q t f → read_qual P s b e r f ≡ read_qual Q t b e r f
    read_same e r f q =
        let k : Qualifier = without_null (qual_at e r) in
        (λ i. less_null (is_on (is_key r f) (facts i) e.facts) (cond (see.ref_seen names more P Q d f i) (cond (is_none k) no_qual (cond k.free (cond (see.flat_seen names more P Q d f i) null_or_committed all_quals) (without_free (q i)))) no_qual))

    edge_same : (k : PointKind) (p : ℕ) (e : Env) → ReadsSame P Q s t k → transfer P s b k p e ≡ transfer Q t b k p e
    edge_same (Const dst value) p e h = ap (λ (x : Env). (p + 1, x) ∷ []) (put_same e dst.0 (literal_qual value))
    edge_same (Move dst from bound) p e h = ap (λ (x : Env). (p + 1, x) ∷ []) (put_same e dst.0 (qual_at e from.reg.0))
    edge_same (Unary dst neg of) p e h = ap (λ (x : Env). (p + 1, x) ∷ []) (put_same e dst.0 no_qual)
    edge_same (Binary dst op l r) p e h = ap (λ (x : Env). (p + 1, x) ∷ []) (put_same e dst.0 no_qual)
    edge_same (Concat dst l r) p e h = ap (λ (x : Env). (p + 1, x) ∷ []) (put_same e dst.0 committed_only)
    edge_same (SameRef dst eq l r) p e h = ap (λ (x : Env). (p + 1, x) ∷ []) (put_same e dst.0 no_qual)
    edge_same (FieldRead dst r f) p e h = ap (λ (x : Env). (p + 1, x) ∷ []) (put_same e dst.0 (read_qual P s b e r.reg.0 f.0) ∙ ap (put Q b e dst.0) (read_same e r.reg.0 f.0 h))
    edge_same (FieldWrite r f v) p e h = ap (λ (x : Env). (p + 1, x) ∷ []) (written_same e r.reg.0 f.0 v.reg.0 (ref_field P f.0) ∙ ap (written Q b e r.reg.0 f.0 v.reg.0) (see.ref_seen names more P Q d f.0))
    edge_same (StaticRead dst f) p e h = ap (λ (x : Env). (p + 1, x) ∷ []) (put_same e dst.0 no_qual)
    edge_same (StaticWrite f v) p e h = refl
    edge_same (ElemRead dst r i) p e h = ap (λ (x : Env). (p + 1, x) ∷ []) (put_same e dst.0 (elem_read P b e r.reg.0) ∙ ap (put Q b e dst.0) (elem_same e r.reg.0))
    edge_same (ElemWrite r i v) p e h = refl
    edge_same (ArrayLen dst r) p e h = ap (λ (x : Env). (p + 1, x) ∷ []) (put_same e dst.0 no_qual)
    edge_same (NewArray dst base n) p e h = ap (λ (x : Env). (p + 1, x) ∷ []) (put_same e dst.0 committed_only)
    edge_same (ArrayOf dst base xs) p e h = ap (λ (x : Env). (p + 1, x) ∷ []) (put_same e dst.0 committed_only)
    edge_same (New dst m args) p e h =
        let q = λ (slots : List (Option SlotNo)). new_qual (ref_quals e slots args) in
        ap (λ (x : Env). (p + 1, x) ∷ []) (put_same (drop_facts P b e) dst.0 (q (slots_of (method_at P m.0))) ∙ ap (λ (x : Env). put Q b x dst.0 (q (slots_of (method_at P m.0)))) (drop_same e) ∙ ap (λ (slots : List (Option SlotNo)). put Q b (drop_facts Q b e) dst.0 (q slots)) (see.slots_seen names more P Q d m.0))
    edge_same (CtorCall m args own) p e h = ap (λ (x : Env). (p + 1, x) ∷ []) (called_same e own)
    edge_same (Call dst m r direct args) p e h =
        ap (λ (x : Env). (p + 1, x) ∷ []) (put_to_same (drop_facts P b e) dst (result_of s (method_at P m.0)) ∙ ap (λ (x : Env). put_to Q b x dst (result_of s (method_at P m.0))) (drop_same e) ∙ ap (put_to Q b (drop_facts Q b e) dst) h)
    edge_same (StrOp dst op of other) p e h = ap (λ (x : Env). (p + 1, x) ∷ []) (put_same e dst.0 no_qual)
    edge_same (Print of) p e h = refl
    edge_same (Cast dst of c) p e h = ap (λ (x : Env). (p + 1, x) ∷ []) (put_same e dst.0 (qual_at e of.reg.0))
    edge_same (TestInst of c og at_yes at_no) p e h =
        let v : Qualifier = without_null (qual_at e of.reg.0) in
        ap (λ (x : Env). side (is_none v) at_yes.0 x ++ (at_no.0, e) ∷ []) (learn_same og (refine e of.reg.0 v))
    edge_same (TestNull of og at_null at_value) p e h =
        let n : Qualifier = null_part (qual_at e of.reg.0) in
        let v : Qualifier = without_null (qual_at e of.reg.0) in
        ap (λ (x : Env). side (is_none n) at_null.0 (refine e of.reg.0 n) ++ side (is_none v) at_value.0 x) (learn_same og (refine e of.reg.0 v))
    edge_same (Branch of at_yes at_no) p e h = refl
    edge_same (Goto to) p e h = refl
    edge_same (Return v) p e h = refl

    edges_blind : (p : ℕ) (e : Env) (k : PointKind) → transfer P s b k p e ≡ transfer P s b (bare_kind k) p e
    edges_blind p e (Const dst (Int n)) = refl
    edges_blind p e (Const dst (Truth n)) = refl
    edges_blind p e (Const dst (Str n)) = refl
    edges_blind p e (Const dst Null) = refl
    edges_blind p e k = refl

    edges_placed : (p : ℕ) (e : Env) (k : PointKind) → transfer P s b k p e ≡ transfer P s b (placeless k) p e
    edges_placed p e (New dst m args) = ap (λ (qs : List Qualifier). (p + 1, put P b (drop_facts P b e) dst.0 (new_qual qs)) ∷ []) (sym (ref_quals_is e (slots_of (method_at P m.0)) args))
    edges_placed p e k = refl

    from_same : (x y : Point) (p : ℕ) (o : Option Env) → acting_kind x.kind ≡ acting_kind y.kind → ReadsSame P Q s t y.kind → edges_from P s b x p o ≡ edges_from Q t b y p o
    from_same x y p None k h = refl
    from_same x y p (Some e) k h = see.by_act (λ kind. transfer P s b kind p e) (edges_blind p e) (edges_placed p e) x.kind y.kind k ∙ edge_same y.kind p e h

    edges_same : (i : ℕ) (xs ys : List Point) (p : ℕ) (T : Table) → AllAlike SameKind i xs ys → AllRead P Q s t ys → all_edges P s b xs p T ≡ all_edges Q t b ys p T
    edges_same i [] [] p T a h = refl
    edges_same i [] (y ∷ ys) p T a h = absurd a
    edges_same i (x ∷ xs) [] p T a h = absurd a
    edges_same i (x ∷ xs) (y ∷ ys) p T a h =
        let one = from_same x y p (env_in T p) a.0.kind h.0 in
        let rest = edges_same (i + 1) xs ys (p + 1) T a.1 h.1 in
        (λ j. one j ++ rest j)

    -- the entry and the points read the same
    module _ (receiver : receiver_of s (method_in P b) ≡ receiver_of t (method_in Q b)) (params : slot_quals s (slots_of (method_in P b)) ≡ slot_quals t (slots_of (method_in Q b))) (reads : AllRead P Q s t (points_of (body_at Q b))) where
      round_same : (T : Table) → round P s b T ≡ round Q t b T
      round_same T = ap (λ (es : List (ℕ × Env)). flow_all es T) (edges_same 0 (points_of (body_at P b)) (points_of (body_at Q b)) 0 T (see.points_alike names more P Q d b same) reads)

      rounds_same : (n : ℕ) (T : Table) → rounds P s b n T ≡ rounds Q t b n T
      rounds_same zero T = refl
      rounds_same (suc n) T = ap (round P s b) (rounds_same n T) ∙ round_same (rounds Q t b n T)

      given_same : given_quals s (method_in P b) ≡ given_quals t (method_in Q b)
      given_same = (λ i. cond (see.static_seen names more P Q d b same i) (params i) (cond (see.ctor_seen names more P Q d b same i) free_only (receiver i) ∷ params i))

      start_same : start_table P s b ≡ start_table Q t b
      start_same = (λ i. slice_set (replicate (see.points_long names more P Q d b same i) None) 0 (Some (record { quals = pad_quals (given_same i) (see.regs_seen names more P Q d b same i); facts = no_bits (facts i); assigned = no_bits (owns i) })))

      pub least_same : (T : Table) → IsLeastTable P s b T → IsLeastTable Q t b T
      least_same T l = record {
        turns = l.turns;
        made = l.made ∙ ap (rounds P s b l.turns) start_same ∙ rounds_same l.turns (start_table Q t b);
        stable = sym (round_same T) ∙ l.stable;
      }
