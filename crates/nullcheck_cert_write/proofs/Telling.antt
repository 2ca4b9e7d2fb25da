-- What is told answers the words.
use Rattle.std.proofs.Common.{◌≡◌, ℕ, ◌<◌, inl, inr, List, [], ◌∷◌, ◌++◌, length, Option, Some, None, Result, Ok as MadeOk, Err, refl, sym, ◌∙◌, subst, arith}
use Rattle.std.specs.Prelude.{IfOk, codes}
use Rattle.jn_base.specs.declared.infer.Infer.{Infer}
use Rattle.jn_base.specs.declared.refusal.OutOfMemory.{OutOfMemory as NoMemory}
use Rattle.jn_base.specs.declared.place.Row.{Row}
use Rattle.jn_outside.specs.Sink.{Appends, AppendsPrefix}
use Rattle.jn_front.specs.declared.source.SourceFile.{SourceFile}
use Rattle.jn_front.specs.declared.source.SourceRead.{SourceRead}
use Rattle.jn_front.specs.Files.{AreReads, most_files}
use Rattle.jn_reporters.specs.Reports.{plain_shown}
use Rattle.jn_command.specs.declared.output.Output.{Output}
use Rattle.jn_command.specs.declared.report.Report.TheVariants.{Refused as RefusedReport, Checked}
use Rattle.jn_command.specs.declared.status.Status.{Status}
use Rattle.jn_command.specs.declared.status.Status.TheVariants.{Rejected as RejectedStatus, OutOfMemory, Usage}
use Rattle.jn_command.specs.Answer.{Finished, Reading}
use Rattle.jn_command.specs.Reports.{status_of}
use Rattle.jn_command.specs.Shown.{shown}
use Rattle.nullcheck_cert_write.specs.declared.made.CertMade.{CertMade}
use Rattle.nullcheck_cert_write.specs.declared.made.CertMade.TheVariants.{Refused, Rejected, TooLarge, Made}
use Rattle.nullcheck_cert_check.specs.Told.{IsRefusalOf}
use Rattle.jn_command.proofs.Ending.{Ends}
use Rattle.nullcheck_cert_check.proofs.Answering.{IsMany, files_named, named_are}
use Rattle.jn_cli.specs.Cert.{Command, command, usage_line}
use Rattle.nullcheck_cert_write.specs.Answer.{Answers, AnswersFiles, IsTold, Outcome, Tells}
use Rattle.nullcheck_cert_write.specs.Verdicts.{IsVerdict}

module _ (infer : Infer) (name : List ℕ) (files : List SourceFile) (o : Outcome) where
  -- it was written whole
  whole : (made : CertMade) (status : Status) (bytes : List ℕ) → IsVerdict infer files made → IsTold name files made status bytes → o.now ≡ o.before → Tells infer name files o status → AnswersFiles infer name files o status
  whole (Refused rows) status bytes is t s w = subst (AnswersFiles infer name files o) (sym t.0) (subst (Tells infer name files o) t.0 w)
  whole (Rejected rows) status bytes is t s w = subst (AnswersFiles infer name files o) (sym t.0) (subst (Tells infer name files o) t.0 w)
  whole TooLarge status bytes is t s w = subst (AnswersFiles infer name files o) (sym t.0) (subst (Tells infer name files o) t.0 w)
  whole (Made cert) status bytes is t s w = subst (AnswersFiles infer name files o) (sym t.1) (inl (subst (Tells infer name files o) t.1 w))

  pub finished : (made : CertMade) (status : Status) (bytes : List ℕ) (kb kn : ℕ) (result : Status) → IsVerdict infer files made → IsTold name files made status bytes → o.now ≡ o.before → Finished o.old o.new bytes status kb kn result → AnswersFiles infer name files o result
  finished made status bytes kb kn result is t s (inl p) = subst (AnswersFiles infer name files o) (sym p.0) (whole made status bytes is t s (record { made = made; is = is; bytes = bytes; told = t; written = p.1; stored = s }))
  finished made status bytes kb kn result is t s (inr p) = subst (AnswersFiles infer name files o) (sym p.0) (inl (record { made = made; is = is; status = status; bytes = bytes; told = t; written = p.1; stored = s }))

  pub by_made : (made : CertMade) (kb kn : ℕ) (result : Status) (output : Result Output NoMemory) → IsVerdict infer files made → IfOk output (λ r. IsTold name files made r.status r.bytes) → o.now ≡ o.before → Ends o.old o.new kb kn result output → AnswersFiles infer name files o result
  by_made made kb kn result (MadeOk r) is t s f = finished made r.status r.bytes kb kn result is t s f
  by_made made kb kn result (Err e) is t s f = subst (AnswersFiles infer name files o) (sym f.0) (f.1, s)

-- ---- outputs

some_status : (rows : List Row) → (rows ≡ [] → ⊥) → status_of (Checked rows) ≡ RejectedStatus
some_status [] some = absurd (some refl)
some_status (row ∷ rows) some = refl

pub told_refused : (name : List ℕ) (reads : List SourceRead) (files : List SourceFile) (rows : List Row) (output : Result Output NoMemory) → IfOk output (λ o. o.status ≡ status_of (RefusedReport rows)) → IfOk output (λ o. (fs : List SourceFile) → AreReads reads fs → o.bytes ≡ shown plain_shown fs (RefusedReport rows)) → AreReads reads files → IfOk output (λ r. IsTold name files (Refused rows) r.status r.bytes)
told_refused name reads files rows (MadeOk o) status bytes are = (status, bytes files are)
told_refused name reads files rows (Err e) status bytes are = tt

pub told_rejected : (infer : Infer) (name : List ℕ) (reads : List SourceRead) (files : List SourceFile) (rows : List Row) (output : Result Output NoMemory) → IsVerdict infer files (Rejected rows) → IfOk output (λ o. o.status ≡ status_of (Checked rows)) → IfOk output (λ o. (fs : List SourceFile) → AreReads reads fs → o.bytes ≡ shown plain_shown fs (Checked rows)) → AreReads reads files → IfOk output (λ r. IsTold name files (Rejected rows) r.status r.bytes)
told_rejected infer name reads files rows (MadeOk o) is status bytes are = (status ∙ some_status rows is.gives.1, bytes files are)
told_rejected infer name reads files rows (Err e) is status bytes are = tt

pub told_large : (name : List ℕ) (files : List SourceFile) (output : Result Output NoMemory) → IfOk output (λ o. o.status ≡ RejectedStatus) → IfOk output (λ o. o.bytes ≡ name ++ codes ": too large\n") → IfOk output (λ r. IsTold name files TooLarge r.status r.bytes)
told_large name files (MadeOk o) status bytes = (status, bytes)
told_large name files (Err e) status bytes = tt

-- ---- more files than there may be

refusal_finished : (infer : Infer) (name : List ℕ) (files : List SourceFile) (o : Outcome) (status : Status) (bytes : List ℕ) (kb kn : ℕ) (result : Status) → IsRefusalOf infer files status bytes → o.now ≡ o.before → Finished o.old o.new bytes status kb kn result → AnswersFiles infer name files o result
refusal_finished infer name files o status bytes kb kn result r s f = finished infer name files o (Refused r.rows) status bytes kb kn result r.are (r.ends, r.shows) s f

many_files : (infer : Infer) (name : List ℕ) (names : List (List ℕ)) (o : Outcome) (kb kn : ℕ) (result : Status) (output : Result Output NoMemory) → IsMany names output → o.now ≡ o.before → Ends o.old o.new kb kn result output → AnswersFiles infer name (files_named names) o result
many_files infer name names o kb kn result (MadeOk r) many s f = refusal_finished infer name (files_named names) o r.status r.bytes kb kn result (many infer (files_named names) (named_are names)) s f
many_files infer name names o kb kn result (Err e) many s f = subst (AnswersFiles infer name (files_named names) o) (sym f.0) (f.1, s)

pub many_answers : (read : Reading) (infer : Infer) (name : List ℕ) (names : List (List ℕ)) (o : Outcome) (kb kn : ℕ) (result : Status) (output : Result Output NoMemory) → most_files < length names → IsMany names output → o.now ≡ o.before → Ends o.old o.new kb kn result output → Answers read (Some (command infer name names)) o result
many_answers read infer name names o kb kn result output lt many s f = inl (record {
  files = files_named names;
  are = record { named = named_are names; told = λ few. absurd (omega (arith, few, lt)); given = λ few. absurd (omega (arith, few, lt)) };
  answer = many_files infer name names o kb kn result output many s f;
})

-- ---- words that are no command's

pub usage : (read : Reading) (asked : Option Command) (o : Outcome) (bytes : List ℕ) (kb kn : ℕ) (result : Status) → asked ≡ None → bytes ≡ usage_line → o.now ≡ o.before → Finished o.old o.new bytes Usage kb kn result → Answers read asked o result
usage read asked o bytes kb kn result e b s (inl p) = subst (λ x. Answers read x o result) (sym e) (inl (p.0, subst (Appends o.old o.new) b p.1, s))
usage read asked o bytes kb kn result e b s (inr p) = subst (λ x. Answers read x o result) (sym e) (inr (inl (p.0, subst (AppendsPrefix o.old o.new) b p.1, s)))

-- no memory was found to read the words
pub unread : (read : Reading) (asked : Option Command) (o : Outcome) → o.new ≡ o.old → o.now ≡ o.before → Answers read asked o OutOfMemory
unread read None o n s = inr (inr (refl, (n, s)))
unread read (Some c) o n s = inr (inr refl, (n, s))
