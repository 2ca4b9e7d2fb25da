-- What is written answers the words.
use Rattle.std.proofs.Common.{◌≡◌, ℕ, ◌<◌, inl, inr, List, [], ◌∷◌, length, Option, Some, None, Result, Ok as Made, Err, refl, sym, ap, subst, arith}
use Rattle.std.specs.Prelude.{IfOk}
use Rattle.jn_base.specs.declared.infer.Infer.{Infer}
use Rattle.jn_base.specs.declared.refusal.OutOfMemory.{OutOfMemory as NoMemory}
use Rattle.jn_outside.specs.declared.given.Given.{Given}
use Rattle.jn_outside.specs.Files.{Holding}
use Rattle.jn_outside.specs.Sink.{Appends}
use Rattle.jn_points.specs.declared.program.Program.{Program}
use Rattle.jn_front.specs.declared.source.SourceFile.{SourceFile}
use Rattle.jn_front.specs.declared.source.SourceRead.{SourceRead}
use Rattle.jn_front.specs.Files.{names_of, most_files}
use Rattle.jn_command.specs.declared.output.Output.{Output}
use Rattle.jn_command.specs.declared.status.Status.{Status}
use Rattle.jn_command.specs.declared.status.Status.TheVariants.{Ok, Rejected, Refused as RefusedStatus, RunFault, Stopped, ReadFault, WriteFault, OutOfMemory, Usage}
use Rattle.jn_command.specs.Answer.{AnswersBy, Finished, Reading, reading}
use Rattle.jn_command.specs.Outputs.{IfMade}
use Rattle.jn_command.proofs.Ending.{Written, Ends}
use Rattle.nullcheck_cert_check.specs.declared.certificate.CertRead.{CertRead}
use Rattle.nullcheck_cert_check.specs.declared.verdict.CertVerdict.{CertVerdict}
use Rattle.nullcheck_cert_check.specs.declared.verdict.CertVerdict.TheVariants.{Refused, TooLarge, Faulty, Certified as CertifiedVerdict}
use Rattle.nullcheck_cert_check.specs.Answer.{Answers, AnswersInputs, Certified, Completes, Defines, IsOutputOf, IsToldOf, ReadsSome, Uncertified}
use Rattle.nullcheck_cert_check.specs.Inputs.{AreInputs, InputsFrom}
use Rattle.nullcheck_cert_check.specs.Lines.{status_of, verdict_text}
use Rattle.nullcheck_cert_check.specs.Told.{IsRefusalOf}
use Rattle.nullcheck_cert_check.specs.Verdicts.{HasNoCertificate, IsCertifiedBy, IsVerdict}
use Rattle.jn_cli.specs.Cert.{Command, command, usage_line}

-- ---- statuses that differ, each over nothing else

ok_refused : Ok ≡ RefusedStatus → ⊥
ok_refused e = cc

ok_rejected : Ok ≡ Rejected → ⊥
ok_rejected e = cc

ok_usage_status : Ok ≡ Usage → ⊥
ok_usage_status e = cc

rejected_refused : Rejected ≡ RefusedStatus → ⊥
rejected_refused e = cc

rejected_ok : Rejected ≡ Ok → ⊥
rejected_ok e = cc

rejected_usage_status : Rejected ≡ Usage → ⊥
rejected_usage_status e = cc

fault_refused : RunFault ≡ RefusedStatus → ⊥
fault_refused e = cc

fault_rejected : RunFault ≡ Rejected → ⊥
fault_rejected e = cc

fault_ok : RunFault ≡ Ok → ⊥
fault_ok e = cc

fault_usage_status : RunFault ≡ Usage → ⊥
fault_usage_status e = cc

stopped_refused : Stopped ≡ RefusedStatus → ⊥
stopped_refused e = cc

stopped_rejected : Stopped ≡ Rejected → ⊥
stopped_rejected e = cc

stopped_ok : Stopped ≡ Ok → ⊥
stopped_ok e = cc

stopped_usage_status : Stopped ≡ Usage → ⊥
stopped_usage_status e = cc

verdict_written : (v : CertVerdict) → Written (status_of v)
verdict_written (Refused rows) = tt
verdict_written TooLarge = tt
verdict_written (Faulty P fault) = tt
verdict_written (CertifiedVerdict accepted) = tt

-- ---- by what is defined

module _ (Defined : Status → List ℕ → Type 0) (Unread : Type 0) (old new : Option (List ℕ)) where
  whole : (bytes : List ℕ) (status : Status) → Written status → Defined status bytes → Appends old new bytes → AnswersBy Defined ⊥ Unread old new status
  whole bytes Ok w s t = (bytes, s, t)
  whole bytes Rejected w s t = (bytes, s, t)
  whole bytes RefusedStatus w s t = (bytes, s, t)
  whole bytes Usage w s t = (bytes, s, t)
  whole bytes RunFault w s t = absurd w
  whole bytes Stopped w s t = absurd w
  whole bytes ReadFault w s t = absurd w
  whole bytes WriteFault w s t = absurd w
  whole bytes OutOfMemory w s t = absurd w

  finished : (bytes : List ℕ) (status : Status) (before now : ℕ) (result : Status) → Written status → Defined status bytes → Finished old new bytes status before now result → AnswersBy Defined ⊥ Unread old new result
  finished bytes status before now result w s (inl p) = subst (λ r. AnswersBy Defined ⊥ Unread old new r) (sym p.0) (whole bytes status w s p.1)
  finished bytes status before now result w s (inr p) = subst (λ r. AnswersBy Defined ⊥ Unread old new r) (sym p.0) (status, bytes, s, p.1)

  by_made : (before now : ℕ) (result : Status) (made : Result Output NoMemory) → IfMade made (λ status bytes. Written status × Defined status bytes) (Unit {0}) → Ends old new before now result made → AnswersBy Defined ⊥ Unread old new result
  by_made before now result (Made o) m f = finished o.bytes o.status before now result m.0 m.1 f
  by_made before now result (Err e) m f = subst (λ r. AnswersBy Defined ⊥ Unread old new r) (sym f.0) (inl f.1)

-- ---- a verdict that is told

told : (infer : Infer) (name cert : List ℕ) (files : List SourceFile) (verdict : CertVerdict) (made : Result Output NoMemory) → IsVerdict infer files cert verdict → IfOk made (λ o. o.status ≡ status_of verdict) → IfOk made (λ o. o.bytes ≡ verdict_text name files verdict) → IfMade made (λ status bytes. Written status × IsToldOf infer name cert files status bytes) (Unit {0})
told infer name cert files verdict (Made o) is ends shows = (subst Written (sym ends) (verdict_written verdict), record { verdict = verdict; is = is; ends = ends; shows = shows })
told infer name cert files verdict (Err e) is ends shows = tt

pub answers_inputs : (infer : Infer) (name cert : List ℕ) (files : List SourceFile) (verdict : CertVerdict) (made : Result Output NoMemory) (old new : Option (List ℕ)) (before now : ℕ) (result : Status) → IsVerdict infer files cert verdict → IfOk made (λ o. o.status ≡ status_of verdict) → IfOk made (λ o. o.bytes ≡ verdict_text name files verdict) → Ends old new before now result made → AnswersInputs infer name cert files old new result
answers_inputs infer name cert files verdict made old new before now result is ends shows f = by_made (IsToldOf infer name cert files) ⊥ old new before now result made (told infer name cert files verdict made is ends shows) f

-- of what was made, one of these files
pub of_files : (P : List SourceFile → Type 0) (Q : Output → List SourceFile → Type 0) (made : Result Output NoMemory) (files : List SourceFile) → IfOk made (λ o. (fs : List SourceFile) → P fs → Q o fs) → P files → IfOk made (λ o. Q o files)
of_files P Q (Made o) files all is = all files is
of_files P Q (Err e) files all is = tt

pub verdict_made : (verdict : CertVerdict) (made : Result Output NoMemory) → IfOk made (λ o. o.status ≡ status_of verdict) → IfMade made (λ status bytes. Written status) (Unit {0})
verdict_made verdict (Made o) ends = subst Written (sym ends) (verdict_written verdict)
verdict_made verdict (Err e) ends = tt

-- ---- of what was read

abbrev Answer : Reading → Option Command → Option (List ℕ) → Option (List ℕ) → Status → Type 0
Answer = Answers

pub of_inputs : (read : Reading) (c : Command) (cert : List ℕ) (files : List SourceFile) (old new : Option (List ℕ)) (result : Status) → AreInputs read c cert files → AnswersInputs c.infer c.cert cert files old new result → Answer read (Some c) old new result
of_inputs read c cert files old new Ok are w = (w.0, record { cert = cert; files = files; are = are; told = w.1 }, w.2)
of_inputs read c cert files old new Rejected are w = (w.0, record { cert = cert; files = files; are = are; told = w.1 }, w.2)
of_inputs read c cert files old new RefusedStatus are w = (w.0, record { cert = cert; files = files; are = are; told = w.1 }, w.2)
of_inputs read c cert files old new RunFault are w = (w.0, record { cert = cert; files = files; are = are; told = w.1 }, w.2)
of_inputs read c cert files old new Stopped are w = (w.0, record { cert = cert; files = files; are = are; told = w.1 }, w.2)
of_inputs read c cert files old new Usage are w = (w.0, record { cert = cert; files = files; are = are; told = w.1 }, w.2)
of_inputs read c cert files old new ReadFault are w = absurd w
of_inputs read c cert files old new WriteFault are w = (w.0, w.1, record { cert = cert; files = files; are = are; told = w.2 }, w.3)
of_inputs read c cert files old new OutOfMemory are (inl same) = inl same
of_inputs read c cert files old new OutOfMemory are (inr none) = absurd none

-- the inputs' answer is no read fault
pub never_read : (infer : Infer) (name cert : List ℕ) (files : List SourceFile) (old new : Option (List ℕ)) (result : Status) → AnswersInputs infer name cert files old new result → result ≡ ReadFault → ⊥
never_read infer name cert files old new result w e = subst (λ r. AnswersInputs infer name cert files old new r) e w

pub are_inputs : (infer : Infer) (held : Option Holding) (name : List ℕ) (names : List (List ℕ)) (old new : List Given) (read : CertRead) (reads : List SourceRead) → (from : InputsFrom held name names old new read reads) → AreInputs (reading held old new) (command infer name names) from.cert from.files
are_inputs infer held name names old new read reads from = record { named = from.named; told_cert = λ few. from.told_cert; told = λ few. from.told; given = λ few. from.given }

-- ---- more files than there may be

pub files_named : List (List ℕ) → List SourceFile
files_named [] = []
files_named (name ∷ names) = record { name = name; bytes = [] } ∷ files_named names

pub named_are : (names : List (List ℕ)) → names_of (files_named names) ≡ names
unfolding files_named
named_are [] = refl
named_are (name ∷ names) = ap (λ ns. name ∷ ns) (named_are names)

-- whatever the certificate is
refusal_told : (infer : Infer) (name : List ℕ) (files : List SourceFile) (status : Status) (bytes : List ℕ) → IsRefusalOf infer files status bytes → IsToldOf infer name [] files status bytes
refusal_told infer name files status bytes r = record { verdict = Refused r.rows; is = r.are; ends = r.ends; shows = r.shows }

abbrev pub IsMany : List (List ℕ) → Result Output NoMemory → Type 0
IsMany names made = IfOk made (λ o. (infer : Infer) (files : List SourceFile) → names_of files ≡ names → IsRefusalOf infer files o.status o.bytes)

many_told : (infer : Infer) (name : List ℕ) (names : List (List ℕ)) (made : Result Output NoMemory) → IsMany names made → IfMade made (λ status bytes. Written status × IsToldOf infer name [] (files_named names) status bytes) (Unit {0})
many_told infer name names (Made o) many =
    let r = many infer (files_named names) (named_are names) in
    (subst Written (sym r.ends) tt, refusal_told infer name (files_named names) o.status o.bytes r)
many_told infer name names (Err e) many = tt

pub many_written : (infer : Infer) (names : List (List ℕ)) (made : Result Output NoMemory) → IsMany names made → IfMade made (λ status bytes. Written status) (Unit {0})
many_written infer names (Made o) many = subst Written (sym (many infer (files_named names) (named_are names)).ends) tt
many_written infer names (Err e) many = tt

are_many : (read : Reading) (infer : Infer) (name : List ℕ) (names : List (List ℕ)) → most_files < length names → AreInputs read (command infer name names) [] (files_named names)
are_many read infer name names many = record {
  named = named_are names;
  told_cert = λ few. absurd (omega (arith, few, many));
  told = λ few. absurd (omega (arith, few, many));
  given = λ few. absurd (omega (arith, few, many));
}

pub many_answers : (read : Reading) (infer : Infer) (name : List ℕ) (names : List (List ℕ)) (made : Result Output NoMemory) (old new : Option (List ℕ)) (before now : ℕ) (result : Status) → most_files < length names → IsMany names made → Ends old new before now result made → Answer read (Some (command infer name names)) old new result
many_answers read infer name names made old new before now result lt many f =
    of_inputs read (command infer name names) [] (files_named names) old new result (are_many read infer name names lt) (by_made (IsToldOf infer name [] (files_named names)) ⊥ old new before now result made (many_told infer name names made many) f)

pub many_unread : (infer : Infer) (name : List ℕ) (names : List (List ℕ)) (made : Result Output NoMemory) (old new : Option (List ℕ)) (before now : ℕ) (result : Status) → IsMany names made → Ends old new before now result made → result ≡ ReadFault → ⊥
many_unread infer name names made old new before now result many f e =
    never_read infer name [] (files_named names) old new result (by_made (IsToldOf infer name [] (files_named names)) ⊥ old new before now result made (many_told infer name names made many) f) e

-- ---- words that are no command's

pub usage : (read : Reading) (asked : Option Command) (old new : Option (List ℕ)) (bytes : List ℕ) (before now : ℕ) (result : Status) → asked ≡ None → bytes ≡ usage_line → Finished old new bytes Usage before now result → Answer read asked old new result
usage read asked old new bytes before now result e b f = subst (λ x. Answer read x old new result) (sym e) (finished (Defines read None) (ReadsSome None × (new ≡ old)) old new bytes Usage before now result tt (refl, b) f)

-- ---- what an answer says

module _ (read : Reading) where
  pub completes : (asked : Option Command) (old new : Option (List ℕ)) (result : Status) → Answer read asked old new result → (result ≡ ReadFault → ⊥) → (result ≡ WriteFault → ⊥) → Completes read asked old new result
  completes None old new result w reads writes = tt
  completes (Some c) old new Ok w reads writes = inr w
  completes (Some c) old new Rejected w reads writes = inr w
  completes (Some c) old new RefusedStatus w reads writes = inr w
  completes (Some c) old new RunFault w reads writes = inr w
  completes (Some c) old new Stopped w reads writes = inr w
  completes (Some c) old new Usage w reads writes = inr w
  completes (Some c) old new ReadFault w reads writes = absurd (reads refl)
  completes (Some c) old new WriteFault w reads writes = absurd (writes refl)
  completes (Some c) old new OutOfMemory w reads writes = inl refl

  -- nothing was written after want of memory
  pub nothing : (asked : Option Command) (old new : Option (List ℕ)) (result : Status) → Answer read asked old new result → result ≡ OutOfMemory → new ≡ old
  nothing asked old new result w e = by (subst (λ r. Answer read asked old new r) e w)
    where
      by : Answer read asked old new OutOfMemory → new ≡ old
      by (inl same) = same
      by (inr none) = absurd none

  -- status 0 has a verdict that certifies
  certified_by : (infer : Infer) (cert : List ℕ) (files : List SourceFile) (v : CertVerdict) → Ok ≡ status_of v → IsVerdict infer files cert v → (P : Program) × IsCertifiedBy infer files cert P
  certified_by infer cert files (Refused rows) e is = absurd (ok_refused e)
  certified_by infer cert files TooLarge e is = absurd (ok_rejected e)
  certified_by infer cert files (Faulty P fault) e is = absurd (ok_rejected e)
  certified_by infer cert files (CertifiedVerdict accepted) e is = (accepted.0, is)

  certified_told : (c : Command) (bytes : List ℕ) → IsOutputOf read c Ok bytes → Certified read (Some c)
  certified_told c bytes o = let v = certified_by c.infer o.cert o.files o.told.verdict o.told.ends o.told.is in record { cert = o.cert; files = o.files; are = o.are; P = v.0; certified = v.1 }

  pub certified : (asked : Option Command) (old new : Option (List ℕ)) (result : Status) → Answer read asked old new result → result ≡ Ok → Certified read asked
  certified asked old new result w e = by asked (subst (λ r. Answer read asked old new r) e w)
    where
      by : (asked : Option Command) → Answer read asked old new Ok → Certified read asked
      by None w = absurd (ok_usage_status w.1.0)
      by (Some c) w = certified_told c w.0 w.1

  -- status 1 has one by which there is no certificate
  uncertified_by : (infer : Infer) (cert : List ℕ) (files : List SourceFile) (v : CertVerdict) → Rejected ≡ status_of v → IsVerdict infer files cert v → HasNoCertificate infer files cert
  uncertified_by infer cert files (Refused rows) e is = absurd (rejected_refused e)
  uncertified_by infer cert files TooLarge e is = record { P = is.P; of_files = is.of_files; never = λ held. (let small = held.small in let large = is.large in omega (arith, small, large)) }
  uncertified_by infer cert files (Faulty P fault) e is = record { P = P; of_files = is.of_files; never = λ held. is.never held.holds }
  uncertified_by infer cert files (CertifiedVerdict accepted) e is = absurd (rejected_ok e)

  uncertified_told : (c : Command) (bytes : List ℕ) → IsOutputOf read c Rejected bytes → Uncertified read (Some c)
  uncertified_told c bytes o = record { cert = o.cert; files = o.files; are = o.are; none = uncertified_by c.infer o.cert o.files o.told.verdict o.told.ends o.told.is }

  pub uncertified : (asked : Option Command) (old new : Option (List ℕ)) (result : Status) → Answer read asked old new result → result ≡ Rejected → Uncertified read asked
  uncertified asked old new result w e = by asked (subst (λ r. Answer read asked old new r) e w)
    where
      by : (asked : Option Command) → Answer read asked old new Rejected → Uncertified read asked
      by None w = absurd (rejected_usage_status w.1.0)
      by (Some c) w = uncertified_told c w.0 w.1

  -- no verdict has the status of a run
  no_run : (v : CertVerdict) → (RunFault ≡ status_of v → ⊥) × (Stopped ≡ status_of v → ⊥)
  no_run (Refused rows) = (fault_refused, stopped_refused)
  no_run TooLarge = (fault_rejected, stopped_rejected)
  no_run (Faulty P fault) = (fault_rejected, stopped_rejected)
  no_run (CertifiedVerdict accepted) = (fault_ok, stopped_ok)

  pub never_fault : (asked : Option Command) (old new : Option (List ℕ)) (result : Status) → Answer read asked old new result → result ≡ RunFault → ⊥
  never_fault asked old new result w e = by asked (subst (λ r. Answer read asked old new r) e w)
    where
      by : (asked : Option Command) → Answer read asked old new RunFault → ⊥
      by None w = fault_usage_status w.1.0
      by (Some c) w = (no_run w.1.told.verdict).0 w.1.told.ends

  pub never_stops : (asked : Option Command) (old new : Option (List ℕ)) (result : Status) → Answer read asked old new result → result ≡ Stopped → ⊥
  never_stops asked old new result w e = by asked (subst (λ r. Answer read asked old new r) e w)
    where
      by : (asked : Option Command) → Answer read asked old new Stopped → ⊥
      by None w = stopped_usage_status w.1.0
      by (Some c) w = (no_run w.1.told.verdict).1 w.1.told.ends
