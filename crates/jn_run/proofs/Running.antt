-- What was run and what was told of it, as what the status means.
use Rattle.std.proofs.Common.{◌≡◌, ◌≤◌, ◌+◌, ◌-◌, ◌++◌, ℕ, List, [], Option, Some, inl, inr, refl, sym, subst, append_assoc, length-append, ap, ◌∙◌, arith}
use Rattle.std.specs.Prelude.{◌⊎◌, codes}
use Rattle.std.proofs.lemmas.List.{take-append-le}
use Rattle.jn_base.specs.declared.place.Span.{Span}
use Rattle.jn_outside.specs.Sink.{Appends, AppendsPrefix}
use Rattle.jn_points.specs.declared.point.Point.{Point}
use Rattle.jn_points.specs.declared.program.Program.{Program}
use Rattle.jn_points.specs.Lookup.{point_at}
use Rattle.jn_heap.specs.Values.{End, usual_limits, Done, Arithmetic, Index, NegativeSize, ClassCast, ArrayStore, Deep, Long}
use Rattle.jn_heap.specs.State.{Ends, Goes, Next, State, Stuck}
use Rattle.jn_heap.specs.Runs.{MainForm, run, start_state}
use Rattle.jn_machine.proofs.Printing.{appends_both, appends_none, prefix_both}
use Rattle.jn_accept.specs.Mains.{IsOnlyMain}
use Rattle.jn_progress_law.specs.Progress.{NeverStuck}
use Rattle.jn_progress_law.proofs.Kept.{run_last, run_prints, run_split, run_stands}
use Rattle.jn_front.specs.declared.source.SourceFile.{SourceFile}
use Rattle.jn_command.specs.declared.status.Status.{Status}
use Rattle.jn_command.specs.declared.status.Status.TheVariants.{Ok, Rejected, Refused, RunFault, Stopped, ReadFault, WriteFault, OutOfMemory, Usage}
use Rattle.jn_command.specs.Answer.{Finished}
use Rattle.jn_running.specs.declared.ended.Ended.{Ended}
use Rattle.jn_running.specs.declared.ended.Ended.TheVariants.{Done as IsDone, Fault as HasFault, Steps as HasSteps, Deep as IsDeep, Long as IsLong, WriteFault as HasWriteFault, OutOfMemory as HasNoMemory}
use Rattle.jn_running.specs.declared.ended.FaultKind.{FaultKind}
use Rattle.jn_running.specs.declared.ended.FaultKind.TheVariants.{Arithmetic as IsArithmetic, Index as IsIndex, NegativeSize as IsNegativeSize, ClassCast as IsClassCast, ArrayStore as IsArrayStore}
use Rattle.jn_running.specs.Going.{Comes, EndsAs, FaultsAt, GoesOn, Running, RunsMain, StopsAtSink, fault_end, printed, starting}
use Rattle.jn_run.specs.Line.{end_line, end_status, fault_line}
use Rattle.jn_run.specs.Main as spec
use Rattle.jn_run.specs.Main.{HasPrinted, IsToldBy, Prints, RunsTo, WritesRun}
use Rattle.jn_run.specs.Telling.{Tells, WritesNothing, class_name}

-- a prefix of a text is one of more text
prefix_more : (old new : Option (List ℕ)) (text more : List ℕ) → AppendsPrefix old new text → AppendsPrefix old new (text ++ more)
prefix_more old new text more p = let within = p.within in record {
  count = p.count;
  within = rw length-append (omega (arith, within));
  taken = subst (λ bytes. Appends old new bytes) (sym (take-append-le p.count text more within)) p.taken;
}

-- a line after a text that is this one and more
longer : (text more line all : List ℕ) → all ≡ text ++ more → text ++ (more ++ line) ≡ all ++ line
longer text more line all is = sym (append_assoc text more line) ∙ ap (λ bytes. bytes ++ line) (sym is)

-- the statuses after which all was written
abbrev IsWhole : Status → Type 0
IsWhole Ok = Unit {0}
IsWhole Rejected = ⊥
IsWhole Refused = Unit {0}
IsWhole RunFault = Unit {0}
IsWhole Stopped = Unit {0}
IsWhole ReadFault = ⊥
IsWhole WriteFault = ⊥
IsWhole OutOfMemory = ⊥
IsWhole Usage = ⊥

module _ (files : List SourceFile) (P : Program) (names words : List (List ℕ)) (steps : ℕ) (old new : Option (List ℕ)) where
  whole : (status : Status) → IsWhole status → WritesRun files P names words steps old new status → spec.Answers files P names words steps old new status
  whole Ok is w = w
  whole Rejected is w = absurd is
  whole Refused is w = w
  whole RunFault is w = w
  whole Stopped is w = w
  whole ReadFault is w = absurd is
  whole WriteFault is w = absurd is
  whole OutOfMemory is w = absurd is
  whole Usage is w = absurd is

  -- after a text that the sink took its line was written, or a prefix of it
  pub finished : (mid : Option (List ℕ)) (text line : List ℕ) (status result : Status) (before now : ℕ) → IsWhole status → RunsTo files P names words steps status (text ++ line) → Appends old mid text → Finished mid new line status before now result → spec.Answers files P names words steps old new result
  finished mid text line status result before now is runs taken (inl (same, more, stays)) = subst (spec.Answers files P names words steps old new) (sym same) (whole status is (text ++ line, runs, appends_both old mid new text line taken more))
  finished mid text line status result before now is runs taken (inr (same, more, rose, later)) = subst (spec.Answers files P names words steps old new) (sym same) (status, text ++ line, runs, prefix_both old mid new text line taken more)

  -- there is no single main
  pub without_main : (status : Status) (before now : ℕ) → ((m : ℕ) → IsOnlyMain P m → ⊥) → Finished old new (codes "no single main\n") Refused before now status → spec.Answers files P names words steps old new status
  without_main status before now no_main told = finished old [] (codes "no single main\n") Refused status before now tt (inr (record { none = no_main; refused = refl; line = refl })) (appends_none old) told

-- after each end all was written
end_whole : (e : End) → IsWhole (end_status e)
end_whole Done = tt
end_whole Arithmetic = tt
end_whole Index = tt
end_whole NegativeSize = tt
end_whole ClassCast = tt
end_whole ArrayStore = tt
end_whole Deep = tt
end_whole Long = tt

fault_status : (kind : FaultKind) → end_status (fault_end kind) ≡ RunFault
fault_status IsArithmetic = refl
fault_status IsIndex = refl
fault_status IsNegativeSize = refl
fault_status IsClassCast = refl
fault_status IsArrayStore = refl

fault_is : (files : List SourceFile) (kind : FaultKind) (span : Span) → end_line files (fault_end kind) span ≡ fault_line files (class_name kind) span
fault_is files IsArithmetic span = refl
fault_is files IsIndex span = refl
fault_is files IsNegativeSize span = refl
fault_is files IsClassCast span = refl
fault_is files IsArrayStore span = refl

module _ (files : List SourceFile) (P : Program) (names words : List (List ℕ)) (steps m b : ℕ) (only : IsOnlyMain P m) (main : MainForm P m b) where
  abbrev first : State
  first = start_state P usual_limits b words

  abbrev machine : Running
  machine = starting P names b words

  -- what tells of the steps tells of a run of the one main
  ran : (status : Status) (bytes : List ℕ) (x : Next) → run P names (Goes first) steps ≡ x → IsToldBy files P x status bytes → RunsTo files P names words steps status bytes
  ran status bytes x is told = inl (record { method = m; body = b; only = only; main = main; told = subst (λ x. IsToldBy files P x status bytes) (sym is) told })

  printed_by : (n : ℕ) (text : List ℕ) (x : Next) → run P names (Goes first) n ≡ x → HasPrinted x text → Prints P names words n text
  printed_by n text x is has = record { method = m; body = b; only = only; main = main; printed = subst (λ x. HasPrinted x text) (sym is) has }

  -- a run that came to a state goes on, or ends, with a text that begins with what that state has printed
  goes_on : NeverStuck P → (n : ℕ) → n ≤ steps → (mid : State) → run P names (Goes first) n ≡ Goes mid → (status : Status) × (rest : List ℕ) × RunsTo files P names words steps status (mid.out ++ rest)
  goes_on never n le mid comes = by (run P names (Goes first) steps) refl
    where
      behind : run P names (Goes first) steps ≡ run P names (Goes mid) (steps - n)
      behind = let all : steps ≡ n + (steps - n) = omega (arith, le) in ap (run P names (Goes first)) all ∙ run_split P names first mid n (steps - n) comes

      by : (x : Next) → run P names (Goes first) steps ≡ x → (status : Status) × (rest : List ℕ) × RunsTo files P names words steps status (mid.out ++ rest)
      by (Goes st) is =
          let more = run_prints P names mid (steps - n) st (sym behind ∙ is) in
          (Stopped, more.0 ++ codes "steps\n", ran Stopped (mid.out ++ (more.0 ++ codes "steps\n")) (Goes st) is (refl, longer mid.out more.0 (codes "steps\n") st.out more.1))
      by (Ends e last) is =
          let ended = run_last P names mid (steps - n) e last (sym behind ∙ is) in
          let more = run_prints P names mid ended.0 last ended.2 in
          let at = run_stands P names first steps e last is in
          (end_status e, more.0 ++ end_line files e at.0.span, ran (end_status e) (mid.out ++ (more.0 ++ end_line files e at.0.span)) (Ends e last) is (at.0, at.1, refl, longer mid.out more.0 (end_line files e at.0.span) last.out more.1))
      by Stuck is = absurd (never m b main usual_limits names words steps is)

  module _ (old mid new : Option (List ℕ)) (before now : ℕ) (result : Status) where
    abbrev Answered : Status → Type 0
    Answered status = spec.Answers files P names words steps old new status

    ended : (e : End) (state : State) → Comes machine steps (Ends e) state old mid → (point : Point) → point_at P state.top.body state.top.at ≡ Some point → Finished mid new (end_line files e point.span) (end_status e) before now result → Answered result
    ended e state c point there told =
        finished files P names words steps old new mid c.text (end_line files e point.span) (end_status e) result before now (end_whole e)
        (ran (end_status e) (c.text ++ end_line files e point.span) (Ends e (printed state c.text)) (c.gives []) (point, there, refl, refl)) c.taken told

    -- an end whose line tells no place
    ended_anywhere : (e : End) (line : List ℕ) → ((span : Span) → end_line files e span ≡ line) → EndsAs machine steps old mid e → Finished mid new line (end_status e) before now result → Answered result
    ended_anywhere e line is (state, c) told =
        let at = run_stands P names first steps e (printed state c.text) (c.gives []) in
        ended e state c at.0 at.1 (subst (λ line. Finished mid new line (end_status e) before now result) (sym (is at.0.span)) told)

    went_on : GoesOn machine steps old mid → Finished mid new (codes "steps\n") Stopped before now result → Answered result
    went_on (state, c) told =
        finished files P names words steps old new mid c.text (codes "steps\n") Stopped result before now tt
        (ran Stopped (c.text ++ codes "steps\n") (Goes (printed state c.text)) (c.gives []) (refl, refl)) c.taken told

    -- no memory was found after so many steps
    no_memory : (n : ℕ) → n ≤ steps → (to : State → Next) (state : State) → ((text : List ℕ) → HasPrinted (to (printed state text)) text) → Comes machine n to state old mid → WritesNothing mid new before now OutOfMemory result → Answered result
    no_memory n le to state has c (same, stays, count) =
        subst Answered (sym same) (n, c.text, le, printed_by n c.text (to (printed state c.text)) (c.gives []) (has c.text), subst (λ w. Appends old w c.text) (sym stays) c.taken)

    faulted : (kind : FaultKind) (span : Span) → FaultsAt machine steps old mid kind span → Finished mid new (fault_line files (class_name kind) span) RunFault before now result ⊎ WritesNothing mid new before now OutOfMemory result → Answered result
    faulted kind span f (inl told) =
        let line : fault_line files (class_name kind) span ≡ end_line files (fault_end kind) f.point.span = sym (ap (end_line files (fault_end kind)) f.is ∙ fault_is files kind span) in
        ended (fault_end kind) f.state f.comes f.point f.there
        (subst (λ status. Finished mid new (end_line files (fault_end kind) f.point.span) status before now result) (sym (fault_status kind)) (subst (λ line. Finished mid new line RunFault before now result) line told))
    faulted kind span f (inr nothing) = no_memory steps (omega arith) (Ends (fault_end kind)) f.state (λ text. refl) f.comes nothing

    failed : NeverStuck P → StopsAtSink machine steps old mid → WritesNothing mid new before now WriteFault result → Answered result
    failed never (n, le, state, c) (same, stays, count) =
        let all = goes_on never n le (printed state c.text) (c.gives []) in
        subst Answered (sym same) (all.0, c.text ++ all.1, all.2, prefix_more old new c.text all.1 (subst (λ w. AppendsPrefix old w c.text) (sym stays) c.taken))

-- what was told of a run of the one main
pub told : (files : List SourceFile) (P : Program) (names words : List (List ℕ)) (steps : ℕ) (old mid new : Option (List ℕ)) (before now : ℕ) (result : Status) → NeverStuck P → (e : Ended) → RunsMain P names words steps old mid e → Tells mid new before now files e result → spec.Answers files P names words steps old new result
told files P names words steps old mid new before now result never IsDone r t = ended_anywhere files P names words steps r.method r.body r.only r.main old mid new before now result Done (codes "done\n") (λ span. refl) r.answer t
told files P names words steps old mid new before now result never (HasFault kind span) r t = faulted files P names words steps r.method r.body r.only r.main old mid new before now result kind span r.answer t
told files P names words steps old mid new before now result never HasSteps r t = went_on files P names words steps r.method r.body r.only r.main old mid new before now result r.answer t
told files P names words steps old mid new before now result never IsDeep r t = ended_anywhere files P names words steps r.method r.body r.only r.main old mid new before now result Deep (codes "deep\n") (λ span. refl) r.answer t
told files P names words steps old mid new before now result never IsLong r t = ended_anywhere files P names words steps r.method r.body r.only r.main old mid new before now result Long (codes "long\n") (λ span. refl) r.answer t
told files P names words steps old mid new before now result never HasWriteFault r t = failed files P names words steps r.method r.body r.only r.main old mid new before now result never r.answer t
told files P names words steps old mid new before now result never HasNoMemory r t = let a = r.answer in no_memory files P names words steps r.method r.body r.only r.main old mid new before now result a.0 a.1 Goes a.2 (λ text. refl) a.3 t
