-- Trees that come to a null have a run with a null fault, and what has no meaning is told by no run.
use Rattle.std.proofs.Common.{◌≡◌, ◌≤◌, ◌<◌, ◌⊎◌, inl, inr, ℕ, zero, suc, List, [], ◌∷◌, refl, sym, ap, ◌∙◌, subst, arith}
use Rattle.std.proofs.lemmas.Bool.{cases_lt}
use Rattle.jn_base.specs.declared.place.Span.{Span}
use Rattle.jn_points.specs.declared.program.Program.{Program}
use Rattle.jn_lowering.specs.Bodies.{Source}
use Rattle.jn_heap.specs.Values.{At, Limits, Value}
use Rattle.jn_heap.specs.Runs.{MainForm, NeverNull, NullFault, derefs_null, fault_at, start_state}
use Rattle.jn_meaning.specs.Agreement.{Agrees, NullAt, Tells}
use Rattle.jn_meaning.specs.Worlds.{World, Stops, TooDeep}
use Rattle.jn_meaning.specs.Bodies.{TreeEnd, Null, Deep, Stuck, Told, called, entered, start_world, told, tree}
use Rattle.jn_meaning_law.specs.Safety.{NeverNullByTrees, NeverStuckByTrees}

-- one main
module _ (P : Program) (sources : List Source) (names : List (List ℕ)) (m b : ℕ) (limits : Limits) (words : List (List ℕ)) (agrees : Agrees P names sources m b limits words) (n : ℕ) where
  abbrev meant : Told
  meant = tree P sources names limits m words n

  null_excluded : NeverNull P → MainForm P m b → (span : Span) → meant.end ≡ Null span → ⊥
  null_excluded never main span e = never m b main limits names words h.0 h.1 h.2 fault
    where
      h : Tells P names (start_state P limits b words) n (Null span) meant.text
      h = subst (λ x. Tells P names (start_state P limits b words) n x meant.text) e (agrees.forward n)

      at : NullAt P names h.1 span
      at = h.4

      fault : NullFault P h.1
      fault = subst (fault_at h.1.top.regs) (sym at.2) (subst (derefs_null h.1.top.regs) (sym at.3) at.4)

  stuck_excluded : meant.end ≡ Stuck → ⊥
  stuck_excluded e = subst (λ x. Tells P names (start_state P limits b words) n x meant.text) e (agrees.forward n)

-- each main's trees agree with its run
abbrev pub AllAgree : Program → List Source → Type 0
AllAgree P sources = (names : List (List ℕ)) (m b : ℕ) (limits : Limits) (words : List (List ℕ)) → MainForm P m b → 0 < limits.deepest → Agrees P names sources m b limits words

-- no frame: the call is one too many
no_frames : (P : Program) (sources : List Source) (names : List (List ℕ)) (longest n m : ℕ) (vs : List Value) (w : World) → entered P sources names longest 0 n 0 m vs w ≡ Stops TooDeep w.out
no_frames P sources names longest zero m vs w = refl
no_frames P sources names longest (suc n) m vs w = refl

-- so no end comes but `Deep`, where there are no frames
frameless : (P : Program) (sources : List Source) (names : List (List ℕ)) (limits : Limits) (m : ℕ) (vs : List Value) (w : World) → limits.deepest ≡ 0 → (called P sources names limits m vs w).end ≡ Deep
frameless P sources names limits m vs w none = ap (λ d. (told (entered P sources names limits.longest d w.fuel 0 m vs w)).end) none ∙ ap (λ r. (told r).end) (no_frames P sources names limits.longest w.fuel m vs w)

-- there are frames, or none
pub any_frames : (P : Program) (sources : List Source) (names : List (List ℕ)) (limits : Limits) (m : ℕ) (vs : List Value) (w : World) (end : TreeEnd) → (Deep ≡ end → ⊥) → (0 < limits.deepest → (called P sources names limits m vs w).end ≡ end → ⊥) → (called P sources names limits m vs w).end ≡ end → ⊥
any_frames P sources names limits m vs w end other some e = by (cases_lt 0 limits.deepest)
  where
    by : (0 < limits.deepest) ⊎ (limits.deepest ≤ 0) → ⊥
    by (inl l) = some l e
    by (inr l) = other (sym (frameless P sources names limits m vs w (omega (l, arith))) ∙ e)

module _ (P : Program) (sources : List Source) (agree : AllAgree P sources) where
  pub safe_trees : NeverNull P → NeverNullByTrees P sources
  safe_trees never m b main names limits words n span e =
      any_frames P sources names limits m (At 0 ∷ []) (start_world P sources names words n) (Null span) (λ d. cc) (λ l e. null_excluded P sources names m b limits words (agree names m b limits words main l) n never main span e) e

  pub meaningful_trees : NeverStuckByTrees P sources
  meaningful_trees m b main names limits words n e =
      any_frames P sources names limits m (At 0 ∷ []) (start_world P sources names words n) Stuck (λ d. cc) (λ l e. stuck_excluded P sources names m b limits words (agree names m b limits words main l) n e) e
