-- Scripts that are carried out step by step.
use Rattle.std.proofs.Common.{◌≡◌, ℕ, zero, suc, ◌+◌, ◌<◌, List, [], ◌∷◌, ◌++◌, length, map, take, drop, get_or, Option, Some, None, refl, sym, ap, ◌∙◌, subst, arith, append_assoc, append-nil}
use Rattle.std.proofs.lemmas.List.{take_more}
use Rattle.jn_base.specs.declared.infer.Infer.{Infer}
use Rattle.jn_outside.specs.Causes.{Rose}
use Rattle.jn_outside.specs.Files.{Holding}
use Rattle.jn_outside.specs.Sink.{Appends}
use Rattle.jn_command.specs.declared.status.Status.{Status}
use Rattle.jn_command.specs.declared.status.Status.TheVariants.{Ok, Rejected, Refused, RunFault, Stopped, ReadFault, WriteFault, OutOfMemory, Usage}
use Rattle.jn_diag.specs.declared.shown.Verdict.{Verdict}
use Rattle.jn_diag.specs.declared.shown.Verdict.TheVariants.{Accepted, Rejected as RejectedVerdict, Refused as RefusedVerdict}
use Rattle.jn_front.specs.declared.source.SourceFile.{SourceFile}
use Rattle.jn_front.specs.Files.{AllHeld, AreHeld, given_of}
use Rattle.jn_recheck.specs.Sessions.{SessionOf}
use Rattle.jn_script.specs.declared.step.Step.{Step}
use Rattle.jn_script.specs.declared.step.Step.TheVariants.{Empty, Set, Remove, Check}
use Rattle.nullcheck_recheck_top.specs.Carrying.{Does, DoAll, file_of, files_of, new_session, status_of}
use Rattle.nullcheck_recheck_top.specs.Stepping.{CarriesOut, DidAll, EndsAt, EndsBy, GoesOn, Moves, World}

held_both : (held : Option Holding) (xs ys : List SourceFile) → AreHeld held xs → AreHeld held ys → AreHeld held (xs ++ ys)
held_both None xs ys a b = tt
held_both (Some h) [] ys a b = b
held_both (Some h) (x ∷ xs) ys a b = (a.0, held_both (Some h) xs ys a.1 b)

-- ---- one step more

do_more : (s : SessionOf) (last : Status) (front : List Step) (read : List SourceFile) (bytes : List ℕ) (mid : Status) (u : SessionOf) (step : Step) (one : List SourceFile) (text : List ℕ) (end : Status) (t : SessionOf) → DoAll s last front read bytes mid u → Does u mid step one text end t → DoAll s last (front ++ step ∷ []) (read ++ one) (bytes ++ text) end t
do_more s last [] read bytes mid u step one text end t (no_read, no_bytes, same, stays) does = (
  one,
  [],
  text,
  [],
  end,
  t,
  ap (λ r. r ++ one) no_read ∙ sym (append-nil one),
  ap (λ b. b ++ text) no_bytes ∙ sym (append-nil text),
  subst (λ (x : SessionOf). Does x last step one text end t) stays (subst (λ (x : Status). Does u x step one text end t) same does),
  (refl, refl, refl, refl),
)
do_more s last (first ∷ front) read bytes mid u step one text end t (a, others, b, back, status, v, read_are, bytes_are, starts, goes) does = (
  a,
  others ++ one,
  b,
  back ++ text,
  status,
  v,
  ap (λ r. r ++ one) read_are ∙ append_assoc a others one,
  ap (λ x. x ++ text) bytes_are ∙ append_assoc b back text,
  starts,
  do_more v status front others back mid u step one text end t goes does,
)

-- ---- what is taken

pub taken_more : (old mid new : Option (List ℕ)) (front back : List ℕ) → Appends old mid front → Appends mid new back → Appends old new (front ++ back)
taken_more None mid new front back a b = subst (λ (m : Option (List ℕ)). Appends m new back) a b
taken_more (Some bytes) mid new front back a b = subst (λ (m : Option (List ℕ)). Appends m new back) a b ∙ ap Some (append_assoc bytes front back)

map_both : (xs ys : List SourceFile) → map given_of (xs ++ ys) ≡ map given_of xs ++ map given_of ys
map_both [] ys = refl
map_both (x ∷ xs) ys = ap (λ zs. given_of x ∷ zs) (map_both xs ys)

moves_more : (held : Option Holding) (old mid new : World) (read one : List SourceFile) (bytes text : List ℕ) → Moves held old mid read bytes → Moves held mid new one text → Moves held old new (read ++ one) (bytes ++ text)
moves_more held old mid new read one bytes text a b = record {
  told = held_both held read one a.told b.told;
  given = b.given ∙ ap (λ g. g ++ map given_of one) a.given ∙ append_assoc old.gave (map given_of read) (map given_of one) ∙ ap (λ g. old.gave ++ g) (sym (map_both read one));
  taken = taken_more old.written mid.written new.written bytes text a.taken b.taken;
  reads = b.reads ∙ a.reads;
  writes = b.writes ∙ a.writes;
}

-- ---- the loop

none_held : (held : Option Holding) → AreHeld held []
none_held None = tt
none_held (Some h) = tt

none_taken : (written : Option (List ℕ)) → Appends written written []
none_taken None = refl
none_taken (Some bytes) = ap Some (sym (append-nil bytes))

pub did_none : (infer : Infer) (held : Option Holding) (at : World) (s : SessionOf) → s ≡ new_session infer → DidAll infer held at at [] Ok s
did_none infer held at s new = record { files = []; bytes = []; does = (refl, refl, refl, new); moves = record { told = none_held held; given = sym (append-nil at.gave); taken = none_taken at.written; reads = refl; writes = refl } }

module _ (infer : Infer) (held : Option Holding) (old mid : World) (steps : List Step) (i : ℕ) (step : Step) (lt : i < length steps) (is : step ≡ get_or steps i step) (last : Status) (u : SessionOf) (did : DidAll infer held old mid (take i steps) last u) where
  more : take (i + 1) steps ≡ take i steps ++ step ∷ []
  more = take_more steps i step lt ∙ ap (λ s. take i steps ++ s ∷ []) (sym is)

  pub did_more : (new : World) (end : Status) (t : SessionOf) → GoesOn held mid new u last step end t → DidAll infer held old new (take (i + 1) steps) end t
  did_more new end t goes = subst (λ ss. DidAll infer held old new ss end t) (sym more) (record {
    files = did.files ++ goes.read;
    bytes = did.bytes ++ goes.bytes;
    does = do_more (new_session infer) Ok (take i steps) did.files did.bytes last u step goes.read goes.bytes end t did.does goes.does;
    moves = moves_more held old mid new did.files goes.read did.bytes goes.bytes did.moves goes.moves;
  })

  split : (ss : List Step) (n : ℕ) → ss ≡ take n ss ++ drop n ss
  split [] zero = refl
  split [] (suc n) = refl
  split (x ∷ xs) zero = refl
  split (x ∷ xs) (suc n) = ap (λ ys. x ∷ ys) (split xs n)

  -- the steps before it were carried out, and it ended the script
  ends_here : (new : World) (status : Status) → EndsBy held mid new u step status → EndsAt infer held old new steps status
  ends_here new status end = record {
    front = take i steps;
    step = step;
    back = drop (i + 1) steps;
    split = split steps (i + 1) ∙ ap (λ ss. ss ++ drop (i + 1) steps) more ∙ append_assoc (take i steps) (step ∷ []) (drop (i + 1) steps);
    mid = mid;
    last = last;
    session = u;
    did = did;
    ends = end;
  }

  rose_on : (a b c : ℕ) → b ≡ a → Rose b c → Rose a c
  rose_on a b c e r = subst (λ n. Rose n c) e r

  pub did_end : (new : World) (status : Status) → EndsBy held mid new u step status → CarriesOut infer held old new steps status
  did_end new ReadFault end = (ends_here new ReadFault end, rose_on old.reads mid.reads new.reads did.moves.reads end.rose, end.writes ∙ did.moves.writes)
  did_end new OutOfMemory end = (ends_here new OutOfMemory end, end.reads ∙ did.moves.reads, end.writes ∙ did.moves.writes)
  did_end new WriteFault end = (ends_here new WriteFault end, end.reads ∙ did.moves.reads, rose_on old.writes mid.writes new.writes did.moves.writes end.rose)
  did_end new Ok end = absurd end
  did_end new Rejected end = absurd end
  did_end new Refused end = absurd end
  did_end new RunFault end = absurd end
  did_end new Stopped end = absurd end
  did_end new Usage end = absurd end

-- the status of the last check
abbrev pub IsVerdictStatus : Status → Type 0
IsVerdictStatus Ok = Unit {0}
IsVerdictStatus Rejected = Unit {0}
IsVerdictStatus Refused = Unit {0}
IsVerdictStatus RunFault = ⊥
IsVerdictStatus Stopped = ⊥
IsVerdictStatus ReadFault = ⊥
IsVerdictStatus WriteFault = ⊥
IsVerdictStatus OutOfMemory = ⊥
IsVerdictStatus Usage = ⊥

verdict_status : (verdict : Verdict) → IsVerdictStatus (status_of verdict)
verdict_status Accepted = tt
verdict_status (RejectedVerdict rows) = tt
verdict_status (RefusedVerdict rows) = tt

step_status : (s : SessionOf) (last : Status) (step : Step) (read : List SourceFile) (bytes : List ℕ) (end : Status) (t : SessionOf) → IsVerdictStatus last → Does s last step read bytes end t → IsVerdictStatus end
step_status s last Empty read bytes end t v d = subst IsVerdictStatus (sym d.2) v
step_status s last (Set name file) read bytes end t v d = subst IsVerdictStatus (sym d.2) v
step_status s last (Remove name) read bytes end t v d = subst IsVerdictStatus (sym d.2) v
step_status s last Check read bytes end t v d = subst IsVerdictStatus (sym d.1.ends) (verdict_status d.1.verdict)

all_status : (s : SessionOf) (last : Status) (steps : List Step) (read : List SourceFile) (bytes : List ℕ) (end : Status) (t : SessionOf) → IsVerdictStatus last → DoAll s last steps read bytes end t → IsVerdictStatus end
all_status s last [] read bytes end t v d = subst IsVerdictStatus (sym d.2) v
all_status s last (step ∷ steps) read bytes end t v (one, others, front, back, status, mid, read_are, bytes_are, does, goes) = all_status mid status steps others back end t (step_status s last step one front status mid v does) goes

carried : (infer : Infer) (held : Option Holding) (old new : World) (steps : List Step) (status : Status) (t : SessionOf) → IsVerdictStatus status → DidAll infer held old new steps status t → CarriesOut infer held old new steps status
carried infer held old new steps Ok t v did = (t, did)
carried infer held old new steps Rejected t v did = (t, did)
carried infer held old new steps Refused t v did = (t, did)
carried infer held old new steps RunFault t v did = absurd v
carried infer held old new steps Stopped t v did = absurd v
carried infer held old new steps ReadFault t v did = absurd v
carried infer held old new steps WriteFault t v did = absurd v
carried infer held old new steps OutOfMemory t v did = absurd v
carried infer held old new steps Usage t v did = absurd v

pub did_whole : (infer : Infer) (held : Option Holding) (old new : World) (steps done : List Step) (status : Status) (t : SessionOf) → done ≡ steps → DidAll infer held old new done status t → CarriesOut infer held old new steps status
did_whole infer held old new steps done status t same did = carried infer held old new steps status t (all_status (new_session infer) Ok done did.files did.bytes status t tt did.does) (subst (λ ss. DidAll infer held old new ss status t) same did)

-- it is no read fault
pub never_read : (infer : Infer) (held : Option Holding) (old new : World) (done : List Step) (status : Status) (t : SessionOf) → DidAll infer held old new done status t → status ≡ ReadFault → ⊥
never_read infer held old new done status t did e = subst IsVerdictStatus e (all_status (new_session infer) Ok done did.files did.bytes status t tt did.does)

-- but for a read fault the count of these stands still
pub unmoved : (infer : Infer) (held : Option Holding) (old new : World) (steps : List Step) (status : Status) → CarriesOut infer held old new steps status → (status ≡ ReadFault → ⊥) → new.reads ≡ old.reads
unmoved infer held old new steps Ok did other = did.1.moves.reads
unmoved infer held old new steps Rejected did other = did.1.moves.reads
unmoved infer held old new steps Refused did other = did.1.moves.reads
unmoved infer held old new steps ReadFault did other = absurd (other refl)
unmoved infer held old new steps WriteFault did other = did.1
unmoved infer held old new steps OutOfMemory did other = did.1
unmoved infer held old new steps RunFault did other = absurd did
unmoved infer held old new steps Stopped did other = absurd did
unmoved infer held old new steps Usage did other = absurd did

-- ---- a source that holds all files

held_front : (held : Option Holding) (xs ys : List (List ℕ)) → AllHeld held (xs ++ ys) → AllHeld held xs
held_front held [] ys h = tt
held_front held (x ∷ xs) ys h = (h.0, held_front held xs ys h.1)

held_back : (held : Option Holding) (xs ys : List (List ℕ)) → AllHeld held (xs ++ ys) → AllHeld held ys
held_back held [] ys h = h
held_back held (x ∷ xs) ys h = held_back held xs ys h.1

-- the files of one step among them
pub held_at : (held : Option Holding) (steps : List Step) (i : ℕ) (step : Step) → i < length steps → step ≡ get_or steps i step → AllHeld held (files_of steps) → AllHeld held (file_of step)
held_at held [] i step lt is h = absurd (omega (arith, lt))
held_at held (x ∷ xs) zero step lt is h = subst (λ (s : Step). AllHeld held (file_of s)) (sym is) (held_front held (file_of x) (files_of xs) h)
held_at held (x ∷ xs) (suc i) step lt is h = held_at held xs i step (omega (arith, lt)) is (held_back held (file_of x) (files_of xs) h)
