-- What a run of the one main writes is what its trees mean.
use Rattle.std.proofs.Common.{◌≡◌, ◌+◌, ◌-◌, ◌≤◌, ℕ, zero, suc, List, ◌++◌, Some, inl, inr, refl, sym, ap, ◌∙◌, subst, arith}
use Rattle.jn_points.specs.declared.point.Point.{Point}
use Rattle.jn_points.specs.declared.program.Program.{Program}
use Rattle.jn_points.specs.Lookup.{body_of, method_at}
use Rattle.jn_lowering.specs.Bodies.{Source}
use Rattle.jn_heap.specs.Values.{End, Done, Arithmetic, Index, NegativeSize, ClassCast, ArrayStore, Deep as DeepEnd, Long, usual_limits}
use Rattle.jn_heap.specs.State.{State, Next, Goes, Ends, Stuck as StuckNext}
use Rattle.jn_heap.specs.Runs.{MainForm, run, start_state, then_step}
use Rattle.jn_accept.specs.Mains.{IsOnlyMain}
use Rattle.jn_front.specs.declared.source.SourceFile.{SourceFile}
use Rattle.jn_command.specs.declared.status.Status.{Status}
use Rattle.jn_run.specs.Line.{end_line, end_status}
use Rattle.jn_run.specs.Main.{IsToldBy, RunsTo}
use Rattle.jn_meaning.specs.Agreement.{Agrees, Tells}
use Rattle.jn_meaning.specs.Bodies.{TreeEnd, Returned, Fault, TooLong, Deep, Told, tree}
use Rattle.jn_meaning.proofs.Running.{run_on}
use Rattle.jn_meaning_run.specs.Written.{IsOver, IsRunOver, IsWritten, RunsWrite}

same_number : (a b : ℕ) → Some a ≡ Some b → a ≡ b
same_number a b e = cc

same_point : (x y : Point) → Some x ≡ Some y → x ≡ y
same_point x y e = cc

-- an exception of Java is neither the end of main nor a limit
not_done : (e : End) → end_status e ≡ end_status Arithmetic → e ≡ Done → ⊥
not_done e faulted is = (let z : end_status Done ≡ end_status Arithmetic = subst (λ e. end_status e ≡ end_status Arithmetic) is faulted in cc)

not_long : (e : End) → end_status e ≡ end_status Arithmetic → e ≡ Long → ⊥
not_long e faulted is = (let z : end_status Long ≡ end_status Arithmetic = subst (λ e. end_status e ≡ end_status Arithmetic) is faulted in cc)

not_deep : (e : End) → end_status e ≡ end_status Arithmetic → e ≡ DeepEnd → ⊥
not_deep e faulted is = (let z : end_status DeepEnd ≡ end_status Arithmetic = subst (λ e. end_status e ≡ end_status Arithmetic) is faulted in cc)

module _ (P : Program) (names : List (List ℕ)) where
  over_stays : (e : End) (u : State) (j : ℕ) → run P names (Ends e u) j ≡ Ends e u
  over_stays e u zero = refl
  over_stays e u (suc j) = ap (then_step P names) (over_stays e u j)

  over_later : (s : Next) (e : End) (u : State) (k j : ℕ) → k ≤ j → run P names s k ≡ Ends e u → run P names s j ≡ Ends e u
  over_later s e u k j l h = let z : j ≡ k + (j - k) = omega (l, arith) in ap (run P names s) z ∙ (sym (run_on P names s k (j - k)) ∙ (ap (λ n. run P names n (j - k)) h ∙ over_stays e u (j - k)))

-- a method has one body
module _ (P : Program) (m b : ℕ) (main : MainForm P m b) where
  bodied : body_of (method_at P m) ≡ Some b
  bodied = ap body_of main.there ∙ main.body

one_body : (P : Program) (m k b c : ℕ) → MainForm P m b → MainForm P k c → k ≡ m → c ≡ b
one_body P m k b c main other same = same_number c b (sym (bodied P k c other) ∙ (ap (λ n. body_of (method_at P n)) same ∙ bodied P m b main))

module _ (files : List SourceFile) (P : Program) (names words : List (List ℕ)) (m b : ℕ) (only : IsOnlyMain P m) (main : MainForm P m b) where
  abbrev start : State
  start = start_state P usual_limits b words

  -- what is written is the end of the one run
  told_of : (steps : ℕ) (status : Status) (bytes : List ℕ) → RunsTo files P names words steps status bytes → IsToldBy files P (run P names (Goes start) steps) status bytes
  told_of steps status bytes (inl h) =
      let same : h.body ≡ b = one_body P m h.method b h.body main h.main (only.1 h.method (h.body, h.main)) in
      subst (λ c. IsToldBy files P (run P names (Goes (start_state P usual_limits c words)) steps) status bytes) same h.told
  told_of steps status bytes (inr h) = absurd (h.none m only)

  ended : (e : End) (u : State) (k steps : ℕ) (status : Status) (bytes : List ℕ) → run P names (Goes start) k ≡ Ends e u → k ≤ steps → RunsTo files P names words steps status bytes → IsToldBy files P (Ends e u) status bytes
  ended e u k steps status bytes is l r = subst (λ s. IsToldBy files P s status bytes) (over_later P names (Goes start) e u k steps l is) (told_of steps status bytes r)

  -- where the trees are over, so is each run of enough steps
  pub runs_over : (n : ℕ) (end : TreeEnd) (text : List ℕ) → Tells P names start n end text → IsOver end → RunsWrite files P names words end text
  runs_over n Returned text h over = (h.0, λ steps status bytes l r. (let t = ended Done h.1 h.0 steps status bytes h.2 l r in (t.2, t.3 ∙ ap (λ o. o ++ end_line files Done t.0.span) h.3)))
  runs_over n (Fault kind span) text h over = (
    h.0,
    λ steps status bytes l r. (let t = ended kind h.1 h.0 steps status bytes h.2 l r in
        let same : t.0 ≡ h.4.0 = same_point t.0 h.4.0 (sym t.1 ∙ h.4.1) in
        (t.2, t.3 ∙ (ap (λ o. o ++ end_line files kind t.0.span) h.3 ∙ ap (λ s. text ++ end_line files kind s) (ap (λ (x : Point). x.span) same ∙ h.4.2)))),
  )
  runs_over n TooLong text h over = (h.0, λ steps status bytes l r. (let t = ended Long h.1 h.0 steps status bytes h.2 l r in (t.2, t.3 ∙ ap (λ o. o ++ end_line files Long t.0.span) h.3)))
  runs_over n Deep text h over = (h.0, λ steps status bytes l r. (let t = ended DeepEnd h.1 h.0 steps status bytes h.2 l r in (t.2, t.3 ∙ ap (λ o. o ++ end_line files DeepEnd t.0.span) h.3)))
  runs_over n end text h over = absurd over

  -- where a run is over, so are the trees
  module _ (sources : List Source) (agrees : Agrees P names sources m b usual_limits words) (steps : ℕ) (status : Status) (bytes : List ℕ) (over : IsRunOver status bytes) where
    abbrev Says : Told → Type 0
    Says t = IsWritten files t.end t.text status bytes

    abbrev meant : Told
    meant = tree P sources names usual_limits m words (steps + 1)

    faulted : (e : End) (u : State) → end_status e ≡ end_status Arithmetic → run P names (Goes start) steps ≡ Ends e u → IsToldBy files P (Ends e u) status bytes → Says meant
    faulted e u f is t = subst Says (sym (agrees.faulted steps e u t.0.span is (not_done e f) (not_long e f) (not_deep e f) (t.0, t.1, refl))) (t.2, t.3)

    come : (x : Next) → run P names (Goes start) steps ≡ x → IsToldBy files P x status bytes → Says meant
    come (Goes st) is t = absurd (over t.0 st.out t.1)
    come (Ends Done u) is t = subst Says (sym (agrees.returned steps u is)) (t.2, t.3)
    come (Ends Arithmetic u) is t = faulted Arithmetic u refl is t
    come (Ends Index u) is t = faulted Index u refl is t
    come (Ends NegativeSize u) is t = faulted NegativeSize u refl is t
    come (Ends ClassCast u) is t = faulted ClassCast u refl is t
    come (Ends ArrayStore u) is t = faulted ArrayStore u refl is t
    come (Ends DeepEnd u) is t = subst Says (sym (agrees.deep steps u is)) (t.2, t.3)
    come (Ends Long u) is t = subst Says (sym (agrees.long steps u is)) (t.2, t.3)
    come StuckNext is t = absurd t

    pub trees_over : RunsTo files P names words steps status bytes → Says meant
    trees_over r = come (run P names (Goes start) steps) refl (told_of steps status bytes r)
