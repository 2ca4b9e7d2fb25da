-- What is written answers the script.
use Rattle.std.proofs.Common.{◌≡◌, ℕ, zero, suc, ◌+◌, ◌≤◌, List, [], ◌∷◌, ◌++◌, length, map, take, Option, Result, Ok as Made, Err, inl, inr, refl, sym, ap, ◌∙◌, subst, arith, append_assoc}
use Rattle.std.specs.Prelude.{IfOk}
use Rattle.std.proofs.lemmas.List.{take_all}
use Rattle.jn_base.specs.declared.infer.Infer.{Infer}
use Rattle.jn_base.specs.declared.refusal.OutOfMemory.{OutOfMemory as NoMemory}
use Rattle.jn_outside.specs.declared.given.Given.{Given}
use Rattle.jn_outside.specs.Files.{Holding, Gives}
use Rattle.jn_outside.specs.Gave.{GivesLittle, given}
use Rattle.jn_outside.specs.Sink.{Appends}
use Rattle.jn_command.specs.declared.output.Output.{Output}
use Rattle.jn_command.specs.declared.status.Status.{Status}
use Rattle.jn_command.specs.declared.status.Status.TheVariants.{Ok, Rejected, Refused, RunFault, Stopped, ReadFault, WriteFault, OutOfMemory, Usage}
use Rattle.jn_command.specs.Answer.{Finished, Reading, reading}
use Rattle.jn_command.specs.Outputs.{IfMade}
use Rattle.jn_front.specs.declared.source.SourceFile.{SourceFile}
use Rattle.jn_front.specs.Files.{given_of}
use Rattle.jn_recheck.specs.Sessions.{SessionOf}
use Rattle.jn_script.specs.declared.step.Step.{Step}
use Rattle.jn_script.specs.Script.{IsScript}
use Rattle.nullcheck_recheck_top.specs.Answer.{AnswersScript, BreaksAt, IsBadAt, IsBefore, IsCarried, IsGood, StopsAt, bad_line, given_script, script_limit}
use Rattle.nullcheck_recheck_top.specs.Carrying.{LacksAt, MissesAt}
use Rattle.nullcheck_recheck_top.specs.Stepping.{CarriesOut, DidAll, EndsAt, World}
use Rattle.nullcheck_recheck_top.proofs.Looping.{taken_more}

-- ---- a bad script

-- of a script at most one byte more than the limit is given
pub script_little : (name script : List ℕ) (old new : List Given) → new ≡ old ++ given_script name script ∷ [] → GivesLittle name (script_limit + 1) old new
script_little name script old new gave = inr (record { bytes = take (script_limit + 1) script; few = few (script_limit + 1) script; gave = gave })
  where
    few : (n : ℕ) (xs : List ℕ) → length (take n xs) ≤ n
    few zero xs = omega arith
    few (suc n) [] = omega arith
    few (suc n) (x ∷ xs) = let r = few n xs in omega (arith, r)

pub bad_answers : (infer : Infer) (read : Reading) (name script : List ℕ) (old new : Option (List ℕ)) (made : Result Output NoMemory) (before now : ℕ) (result : Status) (line : ℕ) → Gives read.held name script → read.now ≡ read.before ++ given_script name script ∷ [] → IsBadAt script line → IfOk made (λ o. o.status ≡ Refused) → IfOk made (λ o. o.bytes ≡ bad_line name line) → IfMade made (λ status bytes. Finished old new bytes status before now result) ((result ≡ OutOfMemory) × (new ≡ old) × (now ≡ before)) → AnswersScript infer read name old new result
bad_answers infer read name script old new (Made o) before now result line told gave bad ends text (inl f) =
    subst (AnswersScript infer read name old new) (sym (f.0 ∙ ends)) (inr (o.bytes, record { script = script; told = told; given = gave; line = line; bad = bad; text = text }, f.1))
bad_answers infer read name script old new (Made o) before now result line told gave bad ends text (inr f) =
    subst (AnswersScript infer read name old new) (sym f.0) (inl (o.bytes, record { script = script; told = told; given = gave; line = line; bad = bad; text = text }, f.1))
bad_answers infer read name script old new (Err e) before now result line told gave bad ends text f = subst (AnswersScript infer read name old new) (sym f.0) (inl (f.1, script_little name script read.before read.now gave))

-- no more than the limit was given
pub small_given : (name script : List ℕ) (old new : List Given) → length script ≤ script_limit → new ≡ old ++ given name script ∷ [] → new ≡ old ++ given_script name script ∷ []
small_given name script old new le gave = gave ∙ ap (λ front. old ++ given name front ∷ []) (sym (take_all (script_limit + 1) script (omega (arith, le))))

-- ---- a good one

module _ (infer : Infer) (held : Option Holding) (before : List Given) (name script : List ℕ) (steps : List Step) (old new : World) (told : Gives held name script) (small : length script ≤ script_limit) (gave : old.gave ≡ before ++ given name script ∷ []) (are : IsScript script steps) where
  good : IsGood held name script steps
  good = record { told = told; small = small; are = are }

  -- what was given with the files of steps
  given_with : (w : World) (files : List SourceFile) → w.gave ≡ old.gave ++ map given_of files → w.gave ≡ before ++ given_script name script ∷ map given_of files
  given_with w files more = more ∙ ap (λ g. g ++ map given_of files) (small_given name script before old.gave small gave) ∙ append_assoc before (given_script name script ∷ []) (map given_of files)

  whole : (status : Status) (t : SessionOf) (did : DidAll infer held old new steps status t) → IsCarried infer (reading held before new.gave) name status did.bytes
  whole status t did = record {
    script = script;
    steps = steps;
    good = good;
    files = did.files;
    told = did.moves.told;
    given = given_with new did.files did.moves.given;
    session = t;
    does = did.does;
  }

  is_before : (status : Status) (e : EndsAt infer held old new steps status) (gave : List Given) → gave ≡ e.mid.gave → IsBefore infer (reading held before new.gave) name e.step gave e.did.bytes e.session
  is_before status e gave same = record {
    script = script;
    front = e.front;
    back = e.back;
    good = subst (IsGood held name script) e.split good;
    files = e.did.files;
    told = e.did.moves.told;
    given = same ∙ given_with e.mid e.did.files e.did.moves.given;
    status = e.last;
    does = e.did.does;
  }

  stops : (At : Step → List Given → List Given → Type 0) (status : Status) (e : EndsAt infer held old new steps status) → At e.step e.mid.gave new.gave → new.written ≡ e.mid.written → StopsAt infer (reading held before new.gave) name old.written new.written At
  stops At status e at same = record {
    step = e.step;
    gave = e.mid.gave;
    bytes = e.did.bytes;
    session = e.session;
    before = is_before status e e.mid.gave refl;
    at = at;
    written = subst (λ (w : Option (List ℕ)). Appends old.written w e.did.bytes) (sym same) e.did.moves.taken;
  }

  breaks : (e : EndsAt infer held old new steps WriteFault) → BreaksAt infer (reading held before new.gave) name old.written new.written
  breaks e = record {
    bytes = e.did.bytes;
    session = e.session;
    before = subst (λ (step : Step). IsBefore infer (reading held before new.gave) name step new.gave e.did.bytes e.session) e.ends.asked (is_before WriteFault e new.gave e.ends.given);
    text = e.ends.bytes;
    end = e.ends.end;
    after = e.ends.session;
    check = e.ends.check;
    count = e.ends.taken.count;
    within = e.ends.taken.within;
    written = taken_more old.written e.mid.written new.written e.did.bytes (take e.ends.taken.count e.ends.bytes) e.did.moves.taken e.ends.taken.taken;
  }

  pub script_answers : (status : Status) → CarriesOut infer held old new steps status → AnswersScript infer (reading held before new.gave) name old.written new.written status
  script_answers Ok (t, did) = (did.bytes, whole Ok t did, did.moves.taken)
  script_answers Rejected (t, did) = (did.bytes, whole Rejected t did, did.moves.taken)
  script_answers Refused (t, did) = inl (did.bytes, whole Refused t did, did.moves.taken)
  script_answers ReadFault did = inr (stops MissesAt ReadFault did.0 did.0.ends.given did.0.ends.taken)
  script_answers OutOfMemory did = inr (stops LacksAt OutOfMemory did.0 did.0.ends.given did.0.ends.taken)
  script_answers WriteFault did = inr (breaks did.0)
  script_answers RunFault did = absurd did
  script_answers Stopped did = absurd did
  script_answers Usage did = absurd did
