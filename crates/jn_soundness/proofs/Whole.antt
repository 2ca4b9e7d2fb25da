-- The start of a main is marked and typed, each step keeps both, and so a checked program never dereferences null.
use Rattle.std.proofs.Common.{◌≡◌, ℕ, zero, suc, false, List, [], ◌∷◌, Option, Some, None, refl, subst, ap, ◌∙◌, cond, sym, true}
use Rattle.std.specs.Prelude.{slice_get}
use Rattle.jn_points.specs.BaseTyping.{Ordered}
use Rattle.jn_transfer.specs.Transfer.{given_quals, this_qual}
use Rattle.jn_sigs.specs.Signature.{slot_qual, slot_quals}
use Rattle.jn_soundness.proofs.Fits.{fits_self}
use Rattle.jn_points.specs.declared.point.BaseType.{BaseType}
use Rattle.jn_points.specs.declared.point.BaseType.TheVariants.{Ref, Array}
use Rattle.jn_points.specs.declared.point.Elem.TheVariants.{Ref as RefElem}
use Rattle.jn_points.specs.declared.point.Point.{Point}
use Rattle.jn_heap.specs.Values.{At, Elems, Limits, Text, Thing, Value}
use Rattle.jn_soundness.specs.Checked.{Checked}
use Rattle.jn_soundness.specs.Types.{HasType, MainTyped, ProgramTyped, StateTyped, ThingTyped, MainsTyped}
use Rattle.jn_heap.specs.State.{Goes, Next, State, Ends, Stuck}
use Rattle.jn_heap.specs.Runs.{start_state, texts, MainForm, NeverNull, run, step, then_step}
use Rattle.jn_soundness.specs.World.{World}
use Rattle.jn_points.specs.Lookup.{body_at, point_at, reg_base, regs_of, body_of, method_at, method_in, ctor_of, static_of}
use Rattle.jn_soundness.proofs.TypedValues.{typed_kind}
use Rattle.jn_soundness.proofs.TypedHeaps.{NextOk, padded}
use Rattle.jn_soundness.proofs.TypedSteps.{step_typed}
use Rattle.jn_soundness.specs.Asked.{IsMain, TypedAt, MainsOk}
use Rattle.jn_soundness.specs.Marks.{Marking, mark_after, start_marking}
use Rattle.jn_soundness.specs.Marked.{Marked, MarkedNext}
use Rattle.jn_soundness.proofs.Sound.{step_marked, start_marked, no_fault}

module _ (W : World) (T : Ordered W.program) (P : ProgramTyped W) where
  pub words_typed : (heap : List Thing) (words : List (List ℕ)) (i : ℕ) (v : Value) → slice_get (texts words) i ≡ Some v → HasType W heap (Ref (record { 0 = 1 })) v
  words_typed heap [] i v h = cc
  words_typed heap (w ∷ words) zero v h = let same : Text w ≡ v = cc in subst (λ v. HasType W heap (Ref (record { 0 = 1 })) v) same (fits_self W.program (Ref (record { 0 = 1 })))
  words_typed heap (w ∷ words) (suc i) v h = words_typed heap words i v h

  pub start_typed : (b : ℕ) → MainTyped W b → (limits : Limits) (words : List (List ℕ)) → StateTyped W (start_state W.program limits b words)
  start_typed b main limits words =
      let t : BaseType = Array (RefElem (record { 0 = 1 })) false in
      let heap : List Thing = Elems (Array (RefElem (record { 0 = 1 })) false) (texts words) ∷ [] in
      record {
        heap = λ o. things o;
        top = λ r v is. padded W T P heap (reg_base W.program b) (t ∷ []) (At 0 ∷ []) (regs_of (body_at W.program b)) r v main (fits_self W.program t, tt) is;
        waiting = tt;
      }
    where
      things : (o : ℕ) → ThingTyped W (Elems (Array (RefElem (record { 0 = 1 })) false) (texts words) ∷ []) (slice_get (Elems (Array (RefElem (record { 0 = 1 })) false) (texts words) ∷ []) o)
      things zero = (refl, words_typed (Elems (Array (RefElem (record { 0 = 1 })) false) (texts words) ∷ []) words)
      things (suc o) = tt

  typed_at : (st : State) → StateTyped W st → (o : Option Point) → point_at W.program st.top.body st.top.at ≡ o → TypedAt W st o
  typed_at st h None is = tt
  typed_at st h (Some pt) is = typed_kind W T P st h pt is pt.kind refl (P.points st.top.body st.top.at pt is)

  -- a step keeps marks and types
  pub step_kept : Checked W → (names : List (List ℕ)) (st next : State) (mk : Marking) → Marked W st mk → StateTyped W st → step W.program names st ≡ Goes next → Marked W next (mark_after W st mk)
  step_kept checked names st next mk good typed is =
      let at = point_at W.program st.top.body st.top.at in
      subst (λ x. MarkedNext W (mark_after W st mk) x) is (step_marked W checked names st mk good at refl (typed_at st typed at refl))

  -- some marking describes the state, and its values are of their base types
  record Kept (st : State) : Type 0 where
    pub mark : Marking
    pub marked : Marked W st mark
    pub typed : StateTyped W st

  abbrev KeptNext : Next → Type 0
  KeptNext (Goes st) = Kept st
  KeptNext (Ends e st) = Unit {0}
  KeptNext Stuck = Unit {0}

  pub step_types : (names : List (List ℕ)) (st next : State) → StateTyped W st → step W.program names st ≡ Goes next → StateTyped W next
  step_types names st next typed is = subst (λ x. NextOk W T P x) is (step_typed W T P st typed names (point_at W.program st.top.body st.top.at) refl)

  module _ (checked : Checked W) (names : List (List ℕ)) where
    next_kept : (x : Next) → KeptNext x → KeptNext (then_step W.program names x)
    next_kept (Goes st) k = by (step W.program names st) refl
      where
        by : (x : Next) → step W.program names st ≡ x → KeptNext x
        by (Goes next) is = record { mark = mark_after W st k.mark; marked = step_kept checked names st next k.mark k.marked k.typed is; typed = step_types names st next k.typed is }
        by (Ends e end) is = tt
        by Stuck is = tt
    next_kept (Ends e st) k = tt
    next_kept Stuck k = tt

    run_kept : (start : Next) → KeptNext start → (n : ℕ) → KeptNext (run W.program names start n)
    run_kept start k zero = k
    run_kept start k (suc n) = next_kept (run W.program names start n) (run_kept start k n)

module _ (W : World) (checked : Checked W) (mains : MainsOk W) where
  pub is_main : (m b : ℕ) → MainForm W.program m b → IsMain W b
  is_main m b main =
      let is_body : body_of (method_at W.program m) ≡ Some b = ap body_of main.there ∙ main.body in
      let here = checked.there m b is_body in
      let same : method_in W.program b ≡ Some main.method = checked.bodies m b is_body ∙ main.there in
      record {
        body = here.0;
        there = here.1;
        method = ap ctor_of (checked.bodies m b is_body) ∙ mains.method m b main;
        qual = slot_qual W.sig (Some main.slot);
        given = ap (given_quals W.sig) same ∙ given (sym (ap static_of main.there) ∙ mains.static m b main);
        committed = mains.slot m b main;
      }
    where
      given : static_of (Some main.method) ≡ true → given_quals W.sig (Some main.method) ≡ slot_qual W.sig (Some main.slot) ∷ []
      given s = subst (λ t. cond t (slot_quals W.sig main.method.param_slots) (this_qual W.sig (Some main.method) ∷ slot_quals W.sig main.method.param_slots) ≡ slot_qual W.sig (Some main.slot) ∷ []) (sym s) (ap (slot_quals W.sig) main.param)

  pub typed_never_null : Ordered W.program → ProgramTyped W → MainsTyped W → NeverNull W.program
  typed_never_null T P typed m b main limits names words n st goes fault =
      let start : Kept W T P (start_state W.program limits b words) = record { mark = start_marking; marked = start_marked W checked b (is_main m b main) limits words; typed = start_typed W T P b (typed m b main) limits words } in
      let kept : Kept W T P st = subst (λ x. KeptNext W T P x) goes (run_kept W T P checked names (Goes (start_state W.program limits b words)) start n) in
      no_fault W checked st kept.mark kept.marked fault
