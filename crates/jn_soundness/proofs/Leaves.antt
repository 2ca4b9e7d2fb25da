-- A Return leaves a good state.
use Rattle.std.proofs.Common.{◌≡◌, ℕ, ◌+◌, ◌<◌, Bool, true, false, ◌⊎◌, inl, inr, List, [], ◌∷◌, Option, Some, None, refl, sym, ap, ◌∙◌, subst, arith, cond}
use Rattle.std.specs.Prelude.{slice_set}
use Rattle.std.proofs.lemmas.Bool.{eq-eqb}
use Rattle.jn_points.specs.Shaped.{Early, FromRead, Test, test_at}
use Rattle.jn_base.specs.declared.number.RegNo.{RegNo}
use Rattle.jn_base.specs.declared.number.MethodNo.{MethodNo}
use Rattle.jn_quals.specs.Qualifier.{Qualifier}
use Rattle.jn_points.specs.declared.point.Operand.{Operand}
use Rattle.jn_points.specs.declared.point.PointKind.{PointKind}
use Rattle.jn_points.specs.declared.point.PointKind.TheVariants.{New, CtorCall, Call, Return}
use Rattle.jn_soundness.specs.Checked.{AllOwn, Checked, PointOk, ResultPasses}
use Rattle.jn_heap.specs.Values.{At, Thing, Value, same}
use Rattle.jn_env.specs.Environment.{Env}
use Rattle.jn_heap.specs.State.{Frame, State, holds_at, moves_to, value_at, value_of}
use Rattle.jn_heap.specs.Calls.{gives, gives_to, resumes, returns, takes, takes_at}
use Rattle.jn_heap.specs.Runs.{step}
use Rattle.jn_soundness.specs.World.{World}
use Rattle.jn_points.specs.Lookup.{class_of, ctor_of, method_at, method_in, owner, point_at, slots_of}
use Rattle.jn_transfer.specs.Transfer.{ctor_called, drop_facts, new_qual, put, ref_quals}
use Rattle.jn_env.specs.Keys.{fact_keys, is_kept, mask, own_keys}
use Rattle.jn_points.specs.Members.{has_field}
use Rattle.jn_env.specs.Order.{qual_at}
use Rattle.jn_sigs.specs.Signature.{result_of}
use Rattle.jn_soundness.proofs.Keys.{keys_own}
use Rattle.jn_soundness.proofs.Basics.{true_false, describes_within, described_at, described_set, value_zero, on_mask}
use Rattle.jn_soundness.proofs.Tops.{Step, plain_step, goes_top, facts_set, some_zero, arrives, no_test}
use Rattle.jn_soundness.proofs.Laters.{Later, stands_later, waiting_later, all_later, AllLater}
use Rattle.jn_soundness.proofs.Grows.{mark_same}
use Rattle.jn_soundness.proofs.Enters.{heap_frames}
use Rattle.jn_soundness.proofs.Commits.{ended_marks, ended_later, ended_heap, committed_marks, commit_later, committed_heap, AllBelow, era_below, all_below, not_building, class_set}
use Rattle.jn_soundness.specs.Frames.{AllOn, AssignedOk, Ctor, CtorOk, Described, FactOk, FieldSet, GoodTop, KeptOk, Stands, SupersEnded}
use Rattle.jn_soundness.specs.Heaps.{Building, Describes, HeapOk, IsMember, MarkFits, IsEra}
use Rattle.jn_soundness.specs.Calls.{CallWaits, CtorWaits, NewWaits, Waiting, WaitingFrame, Waits}
use Rattle.jn_soundness.specs.Marks.{Committed, FrameMark, Free, Marking, Marks, commit_mark, with_mark, ended_mark, end_on, close_era, resumes_with, mark_by}
use Rattle.jn_soundness.specs.Marked.{Marked, MarkedNext}
use Rattle.jn_soundness.proofs.Eras.{grown_eras, left_eras}

module _ (W : World) (checked : Checked W) where
  -- facts that survive the call hold after it
  kept_facts : (heap : List Thing) (w : Frame) (bits : List Bool) → AllOn (KeptOk W heap w.regs) (fact_keys W.program w.body) bits → AllOn (FactOk W heap w.regs) (fact_keys W.program w.body) (mask (is_kept W.program) (fact_keys W.program w.body) bits)
  kept_facts heap w bits h = on_mask (KeptOk W heap w.regs) (FactOk W heap w.regs) (is_kept W.program) (fact_keys W.program w.body) bits h (λ k x y. y x)

  -- a waiting frame goes on
  module _ (m : Marks) (heap : List Thing) (w : Frame) (h : FrameMark) (e : Env) (s : Stands W m heap w h e) (k : AllOn (KeptOk W heap w.regs) (fact_keys W.program w.body) e.facts) where
    drop_top : Step W w.body w.at (w.at + 1, drop_facts W.program w.body e) → GoodTop W m heap (moves_to w (w.at + 1)) h
    drop_top step = goes_top W m heap w h (w.at + 1) w.regs (drop_facts W.program w.body e) s.ctor step s.quals s.assigned (kept_facts heap w e.facts k) (λ c. refl)

    give_top : (dst : ℕ) (q : Qualifier) (v : Value) → Step W w.body w.at (w.at + 1, put W.program w.body (drop_facts W.program w.body e) dst q) → (ctor_of (method_in W.program w.body) ≡ true → Some dst ≡ Some 0 → ⊥) → Describes m h.era q (Some v) → GoodTop W m heap (holds_at w dst v) h
    give_top dst q v step kept d = goes_top W m heap w h (w.at + 1) (slice_set w.regs dst (Some v)) (put W.program w.body (drop_facts W.program w.body e) dst q) s.ctor step
        (described_set m h.era e.quals w.regs dst q v d s.quals) s.assigned
        (facts_set W m heap w.body w.regs dst (Some v) (mask (is_kept W.program) (fact_keys W.program w.body) e.facts) (kept_facts heap w e.facts k))
        (λ c. value_zero w.regs dst (Some v) (some_zero W m heap dst (kept c)))

  all_own : (heap : List Thing) (o c : ℕ) (keys : List ℕ) (bits : List Bool) → AllOwn W c keys → ((f : ℕ) → owner W.program f ≡ c → FieldSet W heap o f) → AllOn (FieldSet W heap o) keys bits
  all_own heap o c [] bits a h = tt
  all_own heap o c (k ∷ keys) [] a h = tt
  all_own heap o c (k ∷ keys) (b ∷ bits) a h = (λ x. h k a.0, all_own heap o c keys bits a.1 h)

  module _ (st : State) (mk : Marking) (good : Marked W st mk) (vo : Option Operand) (ok : PointOk W st.top.body st.top.at good.top.env (Return vo)) where
    abbrev this : Option Value
    this = value_at st.top.regs 0

    abbrev result : Option Value
    result = value_of st.top.regs vo

    result_fits : (vo : Option Operand) → ResultPasses W good.top.env st.top.body vo → Describes mk.marks mk.top.era (result_of W.sig (method_in W.program st.top.body)) (value_of st.top.regs vo)
    result_fits None p = tt
    result_fits (Some v) p = describes_within mk.marks mk.top.era (qual_at good.top.env v.reg.0) (result_of W.sig (method_in W.program st.top.body)) (value_at st.top.regs v.reg.0) p (described_at mk.marks mk.top.era good.top.env.quals st.top.regs v.reg.0 good.top.stands.quals)

    module _ (w : Frame) (ws : List Frame) (h : FrameMark) (hs : List FrameMark) (x : WaitingFrame W mk.marks st.heap st.top.body mk.top w h) (rest : Waiting W mk.marks st.heap w.body h ws hs) (heap_ok : HeapOk W mk.marks (mk.top ∷ h ∷ hs) st.heap) (eras_ok : (o a : ℕ) (ended : List ℕ) → mk.marks o ≡ Free a ended → IsEra a (mk.top ∷ h ∷ hs)) where
      -- what the marks come to, where this frame returns
      abbrev left : Marks
      left = close_era (end_on mk.marks mk.top.built (class_of (method_in W.program st.top.body))) mk.top.era mk.top.opened

      abbrev after : Marks → Marking
      after m = record { marks = m; top = h; waiting = hs; next = mk.next }

      abbrev Resumed : Marks → Frame → Type 0
      Resumed m f = Marked W (record st { top = f; waiting = ws }) (after m)

      -- an era of the frames is one of those below, where the frame that returns has no other
      below_era : {a : ℕ} → mk.top.era ≡ h.era → IsEra a (mk.top ∷ h ∷ hs) → IsEra a (h ∷ hs)
      below_era s (inl e) = inl (e ∙ s)
      below_era s (inr e) = e

      below : h.era < mk.next
      below = era_below W mk.marks st.heap mk.top h mk.next x.era good.below

      -- no constructor's frame
      not_built : (c : Option ℕ) → CtorOk W mk.marks st.heap st.top mk.top c → ctor_of (method_in W.program st.top.body) ≡ false → c ≡ None
      not_built None c n = refl
      not_built (Some o) c n = true_false (ctor_of (method_in W.program st.top.body)) c.inside n

      left_same : ctor_of (method_in W.program st.top.body) ≡ false → mk.top.opened ≡ false → mk.marks ≡ left
      left_same n shared =
          let d = class_of (method_in W.program st.top.body) in
          ap (λ y. close_era mk.marks mk.top.era y) (sym shared) ∙ ap (λ y. close_era (end_on mk.marks y d) mk.top.era mk.top.opened) (sym (not_built mk.top.built good.top.stands.ctor n))

      not_building_top : ctor_of (method_in W.program st.top.body) ≡ false → (o a : ℕ) → Building (mk.top ∷ h ∷ hs) o a → Building (h ∷ hs) o a
      not_building_top n o a (inr y) = y
      not_building_top n o a (inl y) = let bad : Some o ≡ None = sym y.1 ∙ not_built mk.top.built good.top.stands.ctor n in cc

      plain_resumed : ctor_of (method_in W.program st.top.body) ≡ false → (f : Frame) → f.body ≡ w.body → mk.top.opened ≡ false → GoodTop W mk.marks st.heap f h → Resumed mk.marks f
      plain_resumed n f same shared t = record {
        heap = heap_frames W mk.marks (mk.top ∷ h ∷ hs) (h ∷ hs) st.heap (not_building_top n) heap_ok;
        top = t;
        waiting = subst (λ b. Waiting W mk.marks st.heap b h ws hs) (sym same) rest;
        below = below;
        eras = λ o a l e. below_era (x.era.same shared) (eras_ok o a l e);
      }

      call_value : (dst m : ℕ) → CallWaits W st.top.body mk.top h (method_at W.program m) → Step W w.body w.at (w.at + 1, put W.program w.body (drop_facts W.program w.body x.frame.env) dst (result_of W.sig (method_at W.program m))) → (ctor_of (method_in W.program w.body) ≡ true → Some dst ≡ Some 0 → ⊥) → (v : Option Value) → Describes mk.marks mk.top.era (result_of W.sig (method_in W.program st.top.body)) v → MarkedNext W (after mk.marks) (gives st w ws dst v)
      call_value dst m c step kept None d = tt
      call_value dst m c step kept (Some v) d =
          let q = result_of W.sig (method_at W.program m) in
          let here : Describes mk.marks mk.top.era q (Some v) = describes_within mk.marks mk.top.era (result_of W.sig (method_in W.program st.top.body)) q (Some v) c.result d in
          let there : Describes mk.marks h.era q (Some v) = subst (λ a. Describes mk.marks a q (Some v)) (x.era.same c.shared) here in
          plain_resumed c.method (holds_at w dst v) refl c.shared (give_top mk.marks st.heap w h x.frame.env x.frame.stands x.frame.kept dst q v step kept there)

      call_return : (dst : Option RegNo) (m : MethodNo) (r : Option Operand) (direct : Bool) (args : List Operand) → CallWaits W st.top.body mk.top h (method_at W.program m.0) → PointOk W w.body w.at x.frame.env (Call dst m r direct args) → MarkedNext W (after mk.marks) (gives_to st w ws dst result)
      call_return None m r direct args c p = plain_resumed c.method (moves_to w (w.at + 1)) refl c.shared (drop_top mk.marks st.heap w h x.frame.env x.frame.stands x.frame.kept (plain_step W _ _ _ _ tt tt (p.edges _ (inl refl))))
      call_return (Some dst) m r direct args c p = call_value dst.0 m.0 c (plain_step W _ _ _ _ tt tt (p.edges _ (inl refl))) p.this_kept result (result_fits vo ok.rules.0)

      -- a constructor's frame
      module _ (o : ℕ) (built : mk.top.built ≡ Some o) (c : Ctor W mk.marks st.heap st.top mk.top o) where
        abbrev d : ℕ
        d = class_of (method_in W.program st.top.body)

        abbrev m1 : Marks
        m1 = ended_marks W mk.marks st.heap o mk.top.era d c.ended c.free

        supers : SupersEnded W d c.ended
        supers = by c.supers
          where
            by : Early W.program st.top.body st.top.at ⊎ SupersEnded W d c.ended → SupersEnded W d c.ended
            by (inl e) = absurd (ok.end c.inside e)
            by (inr s) = s

        set : (bits : AllOn (FieldSet W st.heap o) (own_keys W.program st.top.body) good.top.env.assigned) → (f : ℕ) → owner W.program f ≡ d → FieldSet W st.heap o f
        set bits = class_set W st.top.body good.top.env mk.marks (mk.top ∷ h ∷ hs) st.heap o mk.top.era d c.ended heap_ok c.free c.inside refl ok.rules.1 bits

        assigned : AllOn (FieldSet W st.heap o) (own_keys W.program st.top.body) good.top.env.assigned
        assigned = subst (λ y. AssignedOk W st.heap y st.top.body good.top.env.assigned) built good.top.stands.assigned

        heap1 : HeapOk W m1 (h ∷ hs) st.heap
        heap1 = ended_heap W mk.marks st.heap o mk.top.era d c.ended c.free mk.top (h ∷ hs) built c.class supers (set assigned) heap_ok

        later1 : (a : ℕ) → Later W a mk.marks st.heap m1 st.heap
        later1 = ended_later W mk.marks st.heap o mk.top.era d c.ended c.free

        stands1 : Stands W m1 st.heap w h x.frame.env
        stands1 = stands_later W mk.marks st.heap m1 st.heap w h x.frame.env (later1 h.era) x.frame.stands

        rest1 : Waiting W m1 st.heap w.body h ws hs
        rest1 = waiting_later W mk.marks st.heap m1 st.heap w.body h ws hs (all_later W mk.marks st.heap m1 st.heap later1 hs) rest

        mark1 : m1 o ≡ Free mk.top.era (d ∷ c.ended)
        mark1 = mark_same mk.marks o (Free mk.top.era (d ∷ c.ended))

        eras1 : (p a : ℕ) (l : List ℕ) → m1 p ≡ Free a l → IsEra a (mk.top ∷ h ∷ hs)
        eras1 = grown_eras mk.marks o mk.top.era (d ∷ c.ended) (mk.top ∷ h ∷ hs) (mk.top ∷ h ∷ hs) (λ b y. y) (inl refl) eras_ok

        ended_resumed : (f : Frame) → f.body ≡ w.body → mk.top.opened ≡ false → GoodTop W m1 st.heap f h → Resumed m1 f
        ended_resumed f same shared t = record {
          heap = heap1;
          top = t;
          waiting = subst (λ b. Waiting W m1 st.heap b h ws hs) (sym same) rest1;
          below = below;
          eras = λ p a l e. below_era (x.era.same shared) (eras1 p a l e);
        }

        -- the callee opened an era
        abbrev m2 : Marks
        m2 = committed_marks W m1 st.heap mk.top.era

        lesser : (hs : List FrameMark) → AllBelow mk.top.era hs → AllLater W m1 st.heap m2 st.heap hs
        lesser [] b = tt
        lesser (g ∷ gs) b = (commit_later W m1 st.heap mk.top.era g.era (λ e. let y = b.0 in absurd (omega arith)), lesser gs b.1)

        opened_resumed : mk.top.opened ≡ true → (dst : ℕ) (q : Qualifier) → q.committed ≡ true → Step W w.body w.at (w.at + 1, put W.program w.body (drop_facts W.program w.body x.frame.env) dst q) → (ctor_of (method_in W.program w.body) ≡ true → Some dst ≡ Some 0 → ⊥) → Resumed m2 (holds_at w dst (At o))
        opened_resumed op dst q qc step kept =
            let less : h.era < mk.top.era = x.era.opened op in
            let all : AllBelow mk.top.era hs = all_below W mk.marks st.heap w.body h ws hs mk.top.era less rest in
            let stands2 : Stands W m2 st.heap w h x.frame.env = stands_later W m1 st.heap m2 st.heap w h x.frame.env (commit_later W m1 st.heap mk.top.era h.era (λ e. absurd (omega arith))) stands1 in
            let now : m2 o ≡ Committed = ap (λ k. commit_mark mk.top.era k) mark1 ∙ era_same mk.top.era (d ∷ c.ended) in
            record {
              heap = committed_heap W m1 st.heap mk.top.era (h ∷ hs) (not_building W mk.marks st.heap mk.top.era (h ∷ hs) (less, all)) heap1;
              top = give_top m2 st.heap w h x.frame.env stands2 x.frame.kept dst q (At o) step kept (subst (λ k. MarkFits h.era q k) (sym now) qc);
              waiting = waiting_later W m1 st.heap m2 st.heap w.body h ws hs (lesser hs all) rest1;
              below = below;
              eras = left_eras m1 mk.top (h ∷ hs) eras1;
            }
          where
            era_same : (e : ℕ) (l : List ℕ) → commit_mark e (Free e l) ≡ Committed
            era_same e l = ap (λ t. cond t Committed (Free e l)) (eq-eqb e e refl)

        new_by : (dst : ℕ) (q : Qualifier) (t : Bool) → mk.top.opened ≡ t → (mk.top.opened ≡ true → q.committed ≡ true) → (mk.top.opened ≡ false → q.free ≡ true) → Step W w.body w.at (w.at + 1, put W.program w.body (drop_facts W.program w.body x.frame.env) dst q) → (ctor_of (method_in W.program w.body) ≡ true → Some dst ≡ Some 0 → ⊥) → Resumed (close_era m1 mk.top.era t) (holds_at w dst (At o))
        new_by dst q true op y n step kept = opened_resumed op dst q (y op) step kept
        new_by dst q false op y n step kept =
            let here : MarkFits h.era q (m1 o) = subst (λ k. MarkFits h.era q k) (sym mark1) (n op, x.era.same op) in
            ended_resumed (holds_at w dst (At o)) refl op (give_top m1 st.heap w h x.frame.env stands1 x.frame.kept dst q (At o) step kept here)

        ends : end_on mk.marks mk.top.built d ≡ m1
        ends = ap (λ y. end_on mk.marks y d) built ∙ ap (λ k. with_mark mk.marks o (ended_mark d k)) c.free

        left_ended : (t : Bool) → mk.top.opened ≡ t → close_era m1 mk.top.era t ≡ left
        left_ended t s = ap (λ y. close_era m1 mk.top.era y) (sym s) ∙ ap (λ y. close_era y mk.top.era mk.top.opened) (sym ends)

        new_return : (dst : RegNo) (m : MethodNo) (args : List Operand) → NewWaits W st.top.body mk.top h (ref_quals x.frame.env (slots_of (method_at W.program m.0)) args) → PointOk W w.body w.at x.frame.env (New dst m args) → MarkedNext W (after left) (gives st w ws dst.0 this)
        new_return dst m args n p =
            subst (λ v. MarkedNext W (after left) (gives st w ws dst.0 v)) (sym c.this)
            (subst (λ y. Resumed y (holds_at w dst.0 (At o))) (left_ended mk.top.opened refl)
            (new_by dst.0 (new_qual (ref_quals x.frame.env (slots_of (method_at W.program m.0)) args)) mk.top.opened refl n.opened n.shared (plain_step W _ _ _ _ tt tt (p.edges _ (inl refl))) p.this_kept))

        -- this(..) or super(..) has returned
        module _ (m : MethodNo) (args : List Operand) (own : Bool) (n : CtorWaits W st.top.body mk.top h (method_at W.program m.0)) (p : PointOk W w.body w.at x.frame.env (CtorCall m args own)) where
          same_built : h.built ≡ Some o
          same_built = sym n.built ∙ built

          caller_supers : SupersEnded W (class_of (method_in W.program w.body)) (d ∷ c.ended)
          caller_supers f k = by (p.names.fields f k)
            where
              callee : (owner W.program f ≡ d) ⊎ IsMember (owner W.program f) c.ended → (owner W.program f ≡ class_of (method_in W.program w.body)) ⊎ IsMember (owner W.program f) (d ∷ c.ended)
              callee (inl y) = inr (inl y)
              callee (inr y) = inr (inr y)

              by : (owner W.program f ≡ class_of (method_in W.program w.body)) ⊎ (has_field W.program (class_of (method_at W.program m.0)) f ≡ true) → (owner W.program f ≡ class_of (method_in W.program w.body)) ⊎ IsMember (owner W.program f) (d ∷ c.ended)
              by (inl y) = inl y
              by (inr y) = callee (supers f (subst (λ z. has_field W.program z f ≡ true) (sym n.class) y))

          caller_ctor : (y : Option ℕ) → y ≡ Some o → CtorOk W m1 st.heap w h y → CtorOk W m1 st.heap (moves_to w (w.at + 1)) h y
          caller_ctor None s k = cc
          caller_ctor (Some z) s k =
              let same : o ≡ z = cc in
              record {
                inside = k.inside;
                this = k.this;
                ended = d ∷ c.ended;
                free = subst (λ y. m1 y ≡ Free h.era (d ∷ c.ended)) same (subst (λ a. m1 o ≡ Free a (d ∷ c.ended)) (x.era.same n.shared) mark1);
                supers = inr caller_supers;
                class = k.class;
              }

          caller_assigned : (t : Bool) → own ≡ t → AllOn (FieldSet W st.heap o) (own_keys W.program w.body) (ctor_called W.program w.body x.frame.env t).assigned
          caller_assigned false s = subst (λ y. AssignedOk W st.heap y w.body x.frame.env.assigned) same_built stands1.assigned
          caller_assigned true s = all_own st.heap o (class_of (method_in W.program w.body)) (own_keys W.program w.body) (ctor_called W.program w.body x.frame.env true).assigned (keys_own W w.body) (λ f y. set assigned f (y ∙ (sym (p.names.same s) ∙ sym n.class)))

          caller_facts : (t : Bool) → AllOn (FactOk W st.heap w.regs) (fact_keys W.program w.body) (ctor_called W.program w.body x.frame.env t).facts
          caller_facts false = kept_facts st.heap w x.frame.env.facts x.frame.kept
          caller_facts true = kept_facts st.heap w x.frame.env.facts x.frame.kept

          caller_quals : (t : Bool) → Described m1 h.era (ctor_called W.program w.body x.frame.env t).quals w.regs
          caller_quals false = stands1.quals
          caller_quals true = stands1.quals

          ctor_return : MarkedNext W (after left) (resumes st (moves_to w (w.at + 1)) ws)
          ctor_return =
              let edge = p.edges (w.at + 1, ctor_called W.program w.body x.frame.env own) (inl refl) in
              subst (λ y. Resumed y (moves_to w (w.at + 1))) (left_ended false n.shared)
              (ended_resumed (moves_to w (w.at + 1)) refl n.shared
              (arrives W m1 st.heap (moves_to w (w.at + 1)) h (ctor_called W.program w.body x.frame.env own) edge.within
              (record {
                quals = caller_quals own;
                assigned = subst (λ y. AssignedOk W st.heap y w.body (ctor_called W.program w.body x.frame.env own).assigned) (sym same_built) (caller_assigned own refl);
                ctor = caller_ctor h.built same_built stands1.ctor;
              })
              (caller_facts own)
              (no_test W m1 st.heap w.regs (test_at W.program w.body (w.at + 1)) (untested (test_at W.program w.body (w.at + 1)) edge.test))))
            where
              untested : (t : Option Test) → FromRead (CtorCall m args own) t → t ≡ None
              untested None h = refl
              untested (Some t) h = absurd h

      is_ctor : (y : Option ℕ) → CtorOk W mk.marks st.heap st.top mk.top y → mk.top.built ≡ y → ctor_of (method_in W.program st.top.body) ≡ true → {X : Type 0} → ((o : ℕ) → mk.top.built ≡ Some o → Ctor W mk.marks st.heap st.top mk.top o → X) → X
      is_ctor None k b t f = true_false (ctor_of (method_in W.program st.top.body)) t k
      is_ctor (Some o) k b t f = f o b k

      kind_return : (k : PointKind) → Waits W st.top.body mk.top h x.frame.env k → PointOk W w.body w.at x.frame.env k → MarkedNext W (after left) (takes st w ws this result k)
      kind_return (New dst m args) n p = is_ctor mk.top.built good.top.stands.ctor refl n.ctor (λ o b c. new_return o b c dst m args n p)
      kind_return (CtorCall m args own) n p = is_ctor mk.top.built good.top.stands.ctor refl n.ctor (λ o b c. ctor_return o b c m args own n p)
      kind_return (Call dst m r direct args) n p = subst (λ y. MarkedNext W (after y) (gives_to st w ws dst result)) (left_same n.method n.shared) (call_return dst m r direct args n p)
      kind_return k n p = absurd n

      frame_return : MarkedNext W (after left) (takes_at st w ws this result (point_at W.program w.body w.at))
      frame_return = subst (λ y. MarkedNext W (after left) (takes_at st w ws this result y)) (sym x.point) (kind_return x.pt.kind x.waits (checked.points w.body w.at x.pt x.frame.env x.point x.frame.reached))

    waiting_return : (ws : List Frame) (hs : List FrameMark) → Waiting W mk.marks st.heap st.top.body mk.top ws hs → HeapOk W mk.marks (mk.top ∷ hs) st.heap → ((o a : ℕ) (ended : List ℕ) → mk.marks o ≡ Free a ended → IsEra a (mk.top ∷ hs)) →
        MarkedNext W (resumes_with mk (close_era (end_on mk.marks mk.top.built (class_of (method_in W.program st.top.body))) mk.top.era mk.top.opened) hs) (returns W.program st ws this result)
    waiting_return [] hs w h e = tt
    waiting_return (f ∷ ws) [] w h e = absurd w
    waiting_return (f ∷ ws) (g ∷ hs) w h e = frame_return f ws g hs w.0 w.1 h e

    pub return_kind : MarkedNext W (mark_by W st mk (Return vo)) (returns W.program st st.waiting (value_at st.top.regs 0) (value_of st.top.regs vo))
    return_kind = waiting_return st.waiting mk.waiting good.waiting good.heap good.eras
