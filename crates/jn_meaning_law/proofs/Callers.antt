-- An allowed call from outside over a whole heap agrees, by its trees, with the run of it, so it is as safe.
use Rattle.std.proofs.Common.{◌≡◌, ◌+◌, ◌<◌, ℕ, suc, List, Option, Some, refl, sym, ap, ◌∙◌, subst}
use Rattle.jn_base.specs.declared.place.Span.{Span}
use Rattle.jn_quals.specs.Qualifier.{Qualifier}
use Rattle.jn_points.specs.declared.program.Program.{Program}
use Rattle.jn_points.specs.Lookup.{body_of, method_at}
use Rattle.jn_lowering.specs.Bodies.{Source}
use Rattle.jn_heap.specs.Values.{Limits, Prim, Thing, Value}
use Rattle.jn_heap.specs.State.{State}
use Rattle.jn_heap.specs.Runs.{NullFault, derefs_null, fault_at, then_step}
use Rattle.jn_meaning.specs.Worlds.{Result, Has, Stops, then_do}
use Rattle.jn_meaning.specs.Agreement.{Agree, NullAt, Sticks, Tells, outer_state}
use Rattle.jn_meaning.specs.Bodies.{TreeEnd, Null, Deep, Stuck, Told, called, entered, outer_world, told}
use Rattle.jn_caller_law.specs.Entries.{Allowed, Call, StaticCall, InstanceCall, ConstructorCall, begin, body_run, given_values, heap_with}
use Rattle.jn_caller_law.specs.Safe.{SafeForCallers}
use Rattle.jn_caller_law.specs.Whole.{IsWhole}
use Rattle.jn_meaning_law.specs.Calls.{SafeForCallersByTrees, call_tree}
use Rattle.jn_meaning_law.proofs.Safe.{any_frames}

-- the method whose body runs
abbrev pub method_run : Call → ℕ
method_run (StaticCall m b args) = m
method_run (InstanceCall m o k b args) = k
method_run (ConstructorCall m b args) = m

-- what a call gives changes neither end nor text
same_told : (v : Option Value) (r : Result (Option Value)) → told (then_do r (λ x w. Has v w)) ≡ told r
same_told v (Has x w) = refl
same_told v (Stops stop out) = refl

-- what agrees with a run agrees with it by another name
agree_same : (P : Program) (names : List (List ℕ)) (st : State) (f g : ℕ → Told) → ((n : ℕ) → g n ≡ f n) → Agree P names st f → Agree P names st g
agree_same P names st f g same a = record {
  forward = λ n. subst (λ (t : Told). Tells P names st n t.end t.text) (sym (same n)) (a.forward n);
  returned = λ k u is. same (k + 1) ∙ a.returned k u is;
  faulted = λ k kind u span is n l d sp. same (k + 1) ∙ a.faulted k kind u span is n l d sp;
  long = λ k u is. same (k + 1) ∙ a.long k u is;
  deep = λ k u is. same (k + 1) ∙ a.deep k u is;
  null = λ k u span is null. same (k + 1) ∙ a.null k u span is null;
}

module _ (P : Program) (sources : List Source) (names : List (List ℕ)) (limits : Limits) (heap : List Thing) (statics : List Prim) (out : List ℕ) where
  -- the body of the call with its values, over the heap that it finds
  abbrev body_called : Call → ℕ → Told
  body_called c n = called P sources names limits (method_run c) (given_values heap c) (outer_world (heap_with P heap c) statics out n)

  pub is_body : (c : Call) (n : ℕ) → call_tree P sources names limits heap statics out c n ≡ body_called c n
  is_body (StaticCall m b args) n = refl
  is_body (InstanceCall m o k b args) n = refl
  is_body (ConstructorCall m b args) n = same_told _ (entered P sources names limits.longest limits.deepest n 0 m (given_values heap (ConstructorCall m b args)) (outer_world (heap_with P heap (ConstructorCall m b args)) statics out n))

-- what is proved of calls from outside whose run doesn't get stuck
abbrev pub CallsAgree : Program → List Source → Type 0
CallsAgree P sources = (names : List (List ℕ)) (m b : ℕ) (limits : Limits) (vs : List Value) (heap : List Thing) (statics : List Prim) (printed : List ℕ) → body_of (method_at P m) ≡ Some b → 0 < limits.deepest → (Sticks P names (outer_state P limits b vs heap statics printed) → ⊥) → Agree P names (outer_state P limits b vs heap statics printed) (λ n. called P sources names limits m vs (outer_world heap statics printed n))

module _ (P : Program) (sources : List Source) (s : List Qualifier) (agree : CallsAgree P sources) (safe : SafeForCallers P s) (heap : List Thing) (statics : List Prim) (c : Call) (whole : IsWhole P s heap statics) (allowed : Allowed P s heap c) (names : List (List ℕ)) (limits : Limits) (out : List ℕ) where
  abbrev start : State
  start = begin P limits statics out heap c

  bodied : (c : Call) → Allowed P s heap c → body_of (method_at P (method_run c)) ≡ Some (body_run c)
  bodied (StaticCall m b args) a = a.1
  bodied (InstanceCall m o k b args) a = a.4
  bodied (ConstructorCall m b args) a = a.2

  unstuck : Sticks P names start → ⊥
  unstuck h = safe.never_stuck heap statics c whole allowed limits out names (suc h.0) (ap (then_step P names) h.2 ∙ h.3)

  pub call_agrees : 0 < limits.deepest → Agree P names start (call_tree P sources names limits heap statics out c)
  call_agrees deep = agree_same P names start (body_called P sources names limits heap statics out c) (call_tree P sources names limits heap statics out c) (is_body P sources names limits heap statics out c) (agree names (method_run c) (body_run c) limits (given_values heap c) (heap_with P heap c) statics out (bodied c allowed) deep unstuck)

  module _ (n : ℕ) where
    abbrev meant : Told
    meant = call_tree P sources names limits heap statics out c n

    some_frames : (end : TreeEnd) → (Deep ≡ end → ⊥) → (0 < limits.deepest → meant.end ≡ end → ⊥) → meant.end ≡ end → ⊥
    some_frames end other = subst (λ (t : Told). (0 < limits.deepest → t.end ≡ end → ⊥) → t.end ≡ end → ⊥) (sym (is_body P sources names limits heap statics out c n)) (any_frames P sources names limits (method_run c) (given_values heap c) (outer_world (heap_with P heap c) statics out n) end other)

    told_end : 0 < limits.deepest → (end : TreeEnd) → meant.end ≡ end → Tells P names start n end meant.text
    told_end deep end e = subst (λ x. Tells P names start n x meant.text) e ((call_agrees deep).forward n)

    null_called : (span : Span) → 0 < limits.deepest → meant.end ≡ Null span → ⊥
    null_called span deep e = safe.never_null heap statics c whole allowed limits out names h.0 h.1 h.2 fault
      where
        h : Tells P names start n (Null span) meant.text
        h = told_end deep (Null span) e

        at : NullAt P names h.1 span
        at = h.4

        fault : NullFault P h.1
        fault = subst (fault_at h.1.top.regs) (sym at.2) (subst (derefs_null h.1.top.regs) (sym at.3) at.4)

    pub never_null_called : (span : Span) → meant.end ≡ Null span → ⊥
    never_null_called span e = some_frames (Null span) (λ d. cc) (null_called span) e

    pub never_stuck_called : meant.end ≡ Stuck → ⊥
    never_stuck_called e = some_frames Stuck (λ d. cc) (λ deep e. told_end deep Stuck e) e

pub safe_called : (P : Program) (sources : List Source) (s : List Qualifier) → CallsAgree P sources → SafeForCallers P s → SafeForCallersByTrees P sources s
safe_called P sources s agree safe = record {
  never_null = λ heap statics c whole allowed names limits out n span e. never_null_called P sources s agree safe heap statics c whole allowed names limits out n span e;
  never_stuck = λ heap statics c whole allowed names limits out n e. never_stuck_called P sources s agree safe heap statics c whole allowed names limits out n e;
}
