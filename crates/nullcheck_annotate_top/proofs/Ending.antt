-- What each status means.
use Rattle.std.proofs.Common.{◌≡◌, ℕ, Bool, ◌<◌, List, [], ◌∷◌, Option, inl, inr, refl, sym, ap, ◌∙◌, subst, arith}
use Rattle.std.specs.Prelude.{◌⊎◌, length, take}
use Rattle.jn_outside.specs.Sink.{Appends, AppendsPrefix}
use Rattle.jn_outside.specs.Causes.{Rose}
use Rattle.jn_base.specs.declared.infer.Infer.{Infer}
use Rattle.jn_front.specs.declared.source.SourceFile.{SourceFile}
use Rattle.jn_cli.specs.declared.annotate.Mode.{Mode}
use Rattle.jn_cli.specs.declared.annotate.Mode.TheVariants.{Show, Check, Write}
use Rattle.jn_command.specs.declared.status.Status.{Status}
use Rattle.jn_command.specs.declared.status.Status.TheVariants.{Ok, Rejected, Refused as RefusedStatus, RunFault, Stopped, ReadFault, WriteFault, OutOfMemory, Usage}
use Rattle.nullcheck_annotate_top.specs.declared.changes.Change.{Change}
use Rattle.nullcheck_annotate_top.specs.declared.output.Output.{Output}
use Rattle.nullcheck_annotate_top.specs.declared.study.Left.{Left}
use Rattle.nullcheck_annotate_top.specs.declared.study.Study.{Study}
use Rattle.nullcheck_annotate_top.specs.declared.study.Study.TheVariants.{Refused, Unannotated, Annotated}
use Rattle.nullcheck_annotate_top.specs.Answer.{AnswersBy, DoesAll, Effects, Ends}
use Rattle.nullcheck_annotate_top.specs.Changes.{changes}
use Rattle.nullcheck_annotate_top.specs.Output.{IsOutput, changed_output, output_of, status_of_changes, told_after}

-- statuses after which all was done
abbrev pub Done : Status → Type 0
Done Ok = Unit {0}
Done Rejected = Unit {0}
Done RefusedStatus = Unit {0}
Done Usage = Unit {0}
Done RunFault = ⊥
Done Stopped = ⊥
Done ReadFault = ⊥
Done WriteFault = ⊥
Done OutOfMemory = ⊥

changes_done : (cs : List Change) → Done (status_of_changes cs)
changes_done [] = tt
changes_done (c ∷ cs) = tt

changed_done : (mode : Mode) (cs : List Change) → Done (changed_output mode cs).status
changed_done Show cs = tt
changed_done Check cs = changes_done cs
changed_done Write cs = tt

study_done : (mode : Mode) (files : List SourceFile) (study : Study) → Done (output_of mode files study).status
study_done mode files (Refused rows) = tt
study_done mode files (Unannotated fault span) = tt
study_done mode files (Annotated new left) = told_done left (changed_output mode (changes files new)) (changed_done mode (changes files new))
  where
    told_done : (left : List Left) (output : Output) → Done output.status → Done (told_after files left output).status
    told_done [] output d = d
    told_done (l ∷ left) output d = tt

pub output_done : (infer : Infer) (terse imports : Bool) (mode : Mode) (files : List SourceFile) (output : Output) → IsOutput infer terse imports mode files output → Done output.status
output_done infer terse imports mode files output is = subst (λ (o : Output). Done o.status) (sym is.comes) (study_done mode files is.study)

module _ (Defined : Output → Type 0) (output : Output) (e : Effects) (defined : Defined output) (done : Done output.status) where
  whole : (status : Status) → Done status → output.status ≡ status → DoesAll output e → AnswersBy Defined e status
  whole Ok d is all = (output, defined, is, all)
  whole Rejected d is all = (output, defined, is, all)
  whole RefusedStatus d is all = (output, defined, is, all)
  whole Usage d is all = (output, defined, is, all)
  whole RunFault d is all = absurd d
  whole Stopped d is all = absurd d
  whole ReadFault d is all = absurd d
  whole WriteFault d is all = absurd d
  whole OutOfMemory d is all = absurd d

  -- a command that came to its end answers what is defined
  pub answers : (sink sinks targets target : ℕ) (status : Status) → Ends output e sink sinks targets target status → AnswersBy Defined e status
  answers sink sinks targets target status (inl w) = whole status (subst Done (sym w.ends) done) (sym w.ends) w.all
  answers sink sinks targets target status (inr s) = subst (AnswersBy Defined e) (sym s.ends) (output, defined, s.some)

  -- a write fault has its cause
  pub fault_rose : (sink sinks targets target : ℕ) (status : Status) → Ends output e sink sinks targets target status → status ≡ WriteFault → Rose sink sinks ⊎ Rose targets target
  fault_rose sink sinks targets target status (inl w) is = absurd (subst Done (sym w.ends ∙ is) done)
  fault_rose sink sinks targets target status (inr s) is = s.cause

  -- it is no read fault
  pub never_read : (sink sinks targets target : ℕ) (status : Status) → Ends output e sink sinks targets target status → status ≡ ReadFault → ⊥
  never_read sink sinks targets target status (inl w) is = subst Done (sym w.ends ∙ is) done
  never_read sink sinks targets target status (inr s) is = let x : WriteFault ≡ ReadFault = sym s.ends ∙ is in cc

pub sink_always : (output : Output) (e : Effects) (sink sinks targets target : ℕ) (status : Status) → Ends output e sink sinks targets target status → sink < sinks → status ≡ WriteFault
sink_always output e sink sinks targets target status (inl w) lt = let k = w.sink_kept in absurd (omega (arith, lt, k))
sink_always output e sink sinks targets target status (inr s) lt = s.ends

pub targets_always : (output : Output) (e : Effects) (sink sinks targets target : ℕ) (status : Status) → Ends output e sink sinks targets target status → targets < target → status ≡ WriteFault
targets_always output e sink sinks targets target status (inl w) lt = let k = w.targets_kept in absurd (omega (arith, lt, k))
targets_always output e sink sinks targets target status (inr s) lt = s.ends

take_long : (xs : List ℕ) → take (length xs) xs ≡ xs
take_long [] = refl
take_long (x ∷ xs) = ap (λ ys. x ∷ ys) (take_long xs)

-- all of it is a prefix
pub whole_prefix : (old new : Option (List ℕ)) (bytes : List ℕ) → Appends old new bytes → AppendsPrefix old new bytes
whole_prefix old new bytes all = record { count = length bytes; within = omega arith; taken = subst (Appends old new) (sym (take_long bytes)) all }
