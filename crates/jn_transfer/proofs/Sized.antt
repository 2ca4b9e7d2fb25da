-- Edges keep the size of an environment, and stay inside the body.
use Rattle.std.proofs.Common.{◌≡◌, ℕ, zero, suc, ◌<◌, Bool, true, false, not, ◌&&◌, cond, inl, inr, ⊎_elim, List, [], ◌∷◌, length, Option, Some, None, refl, sym, ap, ◌∙◌, subst, length-set}
use Rattle.std.specs.Prelude.{ltb, eqb}
use Rattle.jn_base.specs.declared.number.RegNo.{RegNo}
use Rattle.jn_quals.specs.Qualifier.{Qualifier}
use Rattle.jn_quals.specs.Order.{without_null, null_part, is_none}
use Rattle.jn_points.specs.declared.point.Origin.{Origin}
use Rattle.jn_points.specs.declared.point.PointKind.{PointKind}
use Rattle.jn_points.specs.declared.point.PointKind.TheVariants.{Const, Move, Unary, Binary, Concat, SameRef, FieldRead, FieldWrite, StaticRead, StaticWrite, ElemRead, ElemWrite, ArrayLen, NewArray, ArrayOf, New, CtorCall, Call, StrOp, Print, Cast, TestInst, TestNull, Branch, Goto, Return}
use Rattle.jn_points.specs.declared.program.Program.{Program}
use Rattle.jn_points.specs.Edges.{edges_of}
use Rattle.jn_points.specs.Lookup.{regs_of, body_at, class_of, ctor_of, locals, monotonic, owner, ref_field, method_in}
use Rattle.jn_env.specs.Environment.{Env}
use Rattle.jn_env.specs.Order.{qual_at}
use Rattle.jn_env.specs.Keys.{is_key, has_key_field, mask, also, fact_keys, own_keys}
use Rattle.jn_transfer.specs.Transfer.{refine, side, pad_quals, given_quals, put, drop_facts, put_to, learn, facts_but, written, ctor_called, transfer, entry_env, IsAmong}
use Rattle.jn_env.specs.Sized.{EnvSized}
use Rattle.jn_transfer.specs.Sized.{Below}
use Rattle.jn_env.proofs.BitOrder.{length-mask, length-also, length-no_bits}
use Rattle.jn_transfer.proofs.Monotone.{among_cases}

pub record Fine (P : Program) (b n : ℕ) (x : ℕ × Env) : Type 0 where
  pub size : EnvSized P b x.1
  pub target : x.0 < n

module _ (P : Program) (s : List Qualifier) (b n : ℕ) where
  one_fine : (to : ℕ) (f : Env) (x : ℕ × Env) → to < n → EnvSized P b f → IsAmong x ((to, f) ∷ []) → Fine P b n x
  one_fine to f x h l (inl i) = subst (λ y. Fine P b n y) (sym i) (record { size = l; target = h })
  one_fine to f x h l (inr m) = absurd m

  side_fine : (c : Bool) (to : ℕ) (f : Env) (x : ℕ × Env) → to < n → EnvSized P b f → IsAmong x (side c to f) → Fine P b n x
  side_fine true to f x h l m = absurd m
  side_fine false to f x h l m = one_fine to f x h l m

  refine_sized : (e : Env) (r : ℕ) (q : Qualifier) → EnvSized P b e → EnvSized P b (refine e r q)
  refine_sized e r q l = record { quals = length-set e.quals r q ∙ l.quals; facts = l.facts; assigned = l.assigned }

  put_sized : (e : Env) (r : ℕ) (q : Qualifier) → EnvSized P b e → EnvSized P b (put P b e r q)
  put_sized e r q l = record { quals = length-set e.quals r q ∙ l.quals; facts = length-mask _ (fact_keys P b) e.facts ∙ l.facts; assigned = l.assigned }

  pub drop_sized : (e : Env) → EnvSized P b e → EnvSized P b (drop_facts P b e)
  drop_sized e l = record { quals = l.quals; facts = length-mask _ (fact_keys P b) e.facts ∙ l.facts; assigned = l.assigned }

  put_to_sized : (e : Env) (dst : Option RegNo) (q : Qualifier) → EnvSized P b e → EnvSized P b (put_to P b e dst q)
  put_to_sized e None q l = l
  put_to_sized e (Some dst) q l = put_sized e dst.0 q l

  learn_sized : (e : Env) (og : Option Origin) → EnvSized P b e → EnvSized P b (learn P b og e)
  learn_sized e None l = l
  learn_sized e (Some og) l = record { quals = l.quals; facts = length-also _ (fact_keys P b) e.facts ∙ l.facts; assigned = l.assigned }

  length-cond : (c : Bool) (as' bs : List Bool) → length as' ≡ length bs → length (cond c as' bs) ≡ length bs
  length-cond true as' bs e = e
  length-cond false as' bs e = refl

  pub length-facts_but : (e : Env) (f : ℕ) → length (facts_but P b e f) ≡ length e.facts
  length-facts_but e f = by (monotonic P f)
    where
      by : (kept : Bool) → length (cond kept e.facts (mask (λ k. not (has_key_field f k)) (fact_keys P b) e.facts)) ≡ length e.facts
      by true = refl
      by false = length-mask _ (fact_keys P b) e.facts

  written_sized : (e : Env) (r f v : ℕ) (ref : Bool) → EnvSized P b e → EnvSized P b (written P b e r f v ref)
  written_sized e r f v false l = l
  written_sized e r f v true l =
      let dropped = facts_but P b e f in
      record {
        quals = l.quals;
        facts = length-cond (ltb r (locals P b) && not (qual_at e v).null) (also (is_key r f) (fact_keys P b) dropped) dropped (length-also (is_key r f) (fact_keys P b) dropped) ∙ length-facts_but e f ∙ l.facts;
        assigned = length-cond (ctor_of (method_in P b) && eqb r 0 && eqb (owner P f) (class_of (method_in P b))) (also (λ k. eqb k f) (own_keys P b) e.assigned) e.assigned (length-also _ (own_keys P b) e.assigned) ∙ l.assigned;
      }

  ctor_called_sized : (e : Env) (own : Bool) → EnvSized P b e → EnvSized P b (ctor_called P b e own)
  ctor_called_sized e false l = drop_sized e l
  ctor_called_sized e true l = record { quals = l.quals; facts = length-mask _ (fact_keys P b) e.facts ∙ l.facts; assigned = length-also _ (own_keys P b) e.assigned ∙ l.assigned }

  length-pad : (qs : List Qualifier) (k : ℕ) → length (pad_quals qs k) ≡ k
  length-pad qs zero = refl
  length-pad [] (suc k) = ap suc (length-pad [] k)
  length-pad (q ∷ qs) (suc k) = ap suc (length-pad qs k)

  pub entry_sized : EnvSized P b (entry_env P s b)
  entry_sized = record { quals = length-pad (given_quals s (method_in P b)) (regs_of (body_at P b)); facts = length-no_bits (fact_keys P b); assigned = length-no_bits (own_keys P b) }

  abbrev Inside : PointKind → ℕ → Type 0
  Inside k p = Below n (edges_of k p).first × Below n (edges_of k p).second

  pub edge_fine : (k : PointKind) (p : ℕ) (e : Env) (x : ℕ × Env) → Below n (edges_of k p).first × Below n (edges_of k p).second → EnvSized P b e → IsAmong x (transfer P s b k p e) → Fine P b n x
  edge_fine (Const dst v) p e x h l m = one_fine _ _ x h.0 (put_sized e dst.0 _ l) m
  edge_fine (Move dst from bound) p e x h l m = one_fine _ _ x h.0 (put_sized e dst.0 _ l) m
  edge_fine (Unary dst neg of) p e x h l m = one_fine _ _ x h.0 (put_sized e dst.0 _ l) m
  edge_fine (Binary dst op l' r) p e x h l m = one_fine _ _ x h.0 (put_sized e dst.0 _ l) m
  edge_fine (Concat dst l' r) p e x h l m = one_fine _ _ x h.0 (put_sized e dst.0 _ l) m
  edge_fine (SameRef dst eq l' r) p e x h l m = one_fine _ _ x h.0 (put_sized e dst.0 _ l) m
  edge_fine (FieldRead dst r g) p e x h l m = one_fine _ _ x h.0 (put_sized e dst.0 _ l) m
  edge_fine (FieldWrite r g v) p e x h l m = one_fine _ _ x h.0 (written_sized e r.reg.0 g.0 v.reg.0 (ref_field P g.0) l) m
  edge_fine (StaticRead dst g) p e x h l m = one_fine _ _ x h.0 (put_sized e dst.0 _ l) m
  edge_fine (StaticWrite g v) p e x h l m = one_fine _ e x h.0 l m
  edge_fine (ElemRead dst r i) p e x h l m = one_fine _ _ x h.0 (put_sized e dst.0 _ l) m
  edge_fine (ElemWrite r i v) p e x h l m = one_fine _ e x h.0 l m
  edge_fine (ArrayLen dst r) p e x h l m = one_fine _ _ x h.0 (put_sized e dst.0 _ l) m
  edge_fine (NewArray dst base k) p e x h l m = one_fine _ _ x h.0 (put_sized e dst.0 _ l) m
  edge_fine (ArrayOf dst base xs) p e x h l m = one_fine _ _ x h.0 (put_sized e dst.0 _ l) m
  edge_fine (New dst ctor args) p e x h l m = one_fine _ _ x h.0 (put_sized (drop_facts P b e) dst.0 _ (drop_sized e l)) m
  edge_fine (CtorCall ctor args own) p e x h l m = one_fine _ _ x h.0 (ctor_called_sized e own l) m
  edge_fine (Call dst method r direct args) p e x h l m = one_fine _ _ x h.0 (put_to_sized (drop_facts P b e) dst _ (drop_sized e l)) m
  edge_fine (StrOp dst op of other) p e x h l m = one_fine _ _ x h.0 (put_sized e dst.0 _ l) m
  edge_fine (Print of) p e x h l m = one_fine _ e x h.0 l m
  edge_fine (Cast dst of c) p e x h l m = one_fine _ _ x h.0 (put_sized e dst.0 _ l) m
  edge_fine (TestInst of c og at_yes at_no) p e x h l m =
      let v = without_null (qual_at e of.reg.0) in
      ⊎_elim
      (λ k. side_fine (is_none v) at_yes.0 _ x h.0 (learn_sized _ og (refine_sized e of.reg.0 v l)) k)
      (λ k. one_fine at_no.0 e x h.1 l k)
      (among_cases x (side (is_none v) at_yes.0 (learn P b og (refine e of.reg.0 v))) ((at_no.0, e) ∷ []) m)
  edge_fine (TestNull of og at_null at_value) p e x h l m =
      let z = null_part (qual_at e of.reg.0) in
      let v = without_null (qual_at e of.reg.0) in
      ⊎_elim
      (λ k. side_fine (is_none z) at_null.0 _ x h.0 (refine_sized e of.reg.0 z l) k)
      (λ k. side_fine (is_none v) at_value.0 _ x h.1 (learn_sized _ og (refine_sized e of.reg.0 v l)) k)
      (among_cases x (side (is_none z) at_null.0 (refine e of.reg.0 z)) (side (is_none v) at_value.0 (learn P b og (refine e of.reg.0 v))) m)
  edge_fine (Branch of at_yes at_no) p e x h l m =
      ⊎_elim
      (λ k. one_fine at_yes.0 e x h.0 l k)
      (λ k. one_fine at_no.0 e x h.1 l k)
      (among_cases x ((at_yes.0, e) ∷ []) ((at_no.0, e) ∷ []) m)
  edge_fine (Goto to) p e x h l m = one_fine _ e x h.0 l m
  edge_fine (Return v) p e x h l m = absurd m
