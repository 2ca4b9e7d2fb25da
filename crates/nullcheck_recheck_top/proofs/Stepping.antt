-- Steps that are carried out one after the other.
use Rattle.std.proofs.Common.{◌≡◌, ℕ, ◌+◌, ◌<◌, ◌≤◌, true, false, List, [], ◌∷◌, ◌++◌, length, map, take, Option, Some, None, Ok as Made, Err, inl, inr, refl, sym, ap, ◌∙◌, subst, arith, append-nil}
use Rattle.std.specs.Prelude.{Bool, IfOk, Result, cond, replicate}
use Rattle.jn_outside.specs.declared.given.Given.{Given}
use Rattle.jn_outside.specs.Files.{Holding}
use Rattle.jn_outside.specs.Gave.{given, GivesTooMany}
use Rattle.jn_outside.specs.Sink.{Appends}
use Rattle.jn_outside.specs.Files.{Gives}
use Rattle.jn_base.specs.declared.place.Row.{Row}
use Rattle.jn_command.specs.declared.status.Status.{Status}
use Rattle.jn_command.specs.declared.status.Status.TheVariants.{ReadFault}
use Rattle.jn_diag.specs.declared.shown.RowText.{RowText}
use Rattle.jn_diag.specs.declared.shown.Verdict.{Verdict}
use Rattle.jn_front.specs.declared.source.SourceFile.{SourceFile}
use Rattle.jn_front.specs.declared.source.SourceRead.{SourceRead}
use Rattle.jn_front.specs.Files.{AreHeld, AreReads, file_limit, given_of, names_of}
use Rattle.jn_front.proofs.Reading.{read_large_from, read_whole_from}
use Rattle.jn_recheck.specs.Sessions.{Reports, SessionOf}
use Rattle.jn_script.specs.declared.step.Step.TheVariants.{Empty, Set, Remove, Check}
use Rattle.nullcheck_recheck_top.specs.Carrying.{check_text, spaces, status_of, with_text, without_name}
use Rattle.nullcheck_recheck_top.specs.declared.step.Taken.{Taken}
use Rattle.nullcheck_recheck_top.specs.declared.step.Taken.TheVariants.{Goes, Ends}
use Rattle.nullcheck_recheck_top.specs.Stepping.{IsTaken, IsWritten, Moves, TextFrom, world}

-- ---- the text of a file

pub spaces_are : (n : ℕ) (text : List ℕ) → text ≡ replicate n 32 → text ≡ spaces n
unfolding spaces
spaces_are n text e = e

whole_text : (held : Option Holding) (name text : List ℕ) (old new : List Given) (read : SourceRead) (files : List SourceFile) → read.whole ≡ true → read.file.bytes ≡ text → names_of files ≡ name ∷ [] → AreHeld held files → new ≡ old ++ map given_of files → AreReads (read ∷ []) files → TextFrom held name old new text
whole_text held name text old new read [] whole bytes named told gave are = absurd are
whole_text held name text old new read (file ∷ []) whole bytes named told gave (inl w, are) =
    let same : file ≡ record { name = name; bytes = text } = λ i. record { name = one named i; bytes = (sym (ap (λ (f : SourceFile). f.bytes) w.1) ∙ bytes) i } in
    record {
      bytes = text;
      told = subst (λ (f : SourceFile). AreHeld held (f ∷ [])) same told;
      given = gave ∙ ap (λ (f : SourceFile). old ++ given_of f ∷ []) same;
      is = inl ((let l = ap (λ (f : SourceFile). length f.bytes) same in let le = w.2 in omega (arith, l, le)), refl);
    }
  where
    one : file.name ∷ [] ≡ name ∷ [] → file.name ≡ name
    one e = cc
whole_text held name text old new read (file ∷ []) whole bytes named told gave (inr l, are) = absurd (both (sym whole ∙ l.0))
  where
    both : true ≡ false → ⊥
    both e = cc
whole_text held name text old new read (file ∷ (other ∷ files)) whole bytes named told gave are = absurd are.1

large_text : (held : Option Holding) (name text : List ℕ) (old new : List Given) (read : SourceRead) (files : List SourceFile) → read.whole ≡ false → text ≡ spaces (file_limit + 1) → names_of files ≡ name ∷ [] → AreHeld held files → new ≡ old ++ map given_of files → AreReads (read ∷ []) files → TextFrom held name old new text
large_text held name text old new read [] whole is named told gave are = absurd are
large_text held name text old new read (file ∷ []) whole is named told gave (inl w, are) = absurd (both (sym w.0 ∙ whole))
  where
    both : true ≡ false → ⊥
    both e = cc
large_text held name text old new read (file ∷ []) whole is named told gave (inr l, are) =
    let same : file ≡ record { name = name; bytes = file.bytes } = λ i. record { name = one named i; bytes = file.bytes } in
    record {
      bytes = file.bytes;
      told = subst (λ (f : SourceFile). AreHeld held (f ∷ [])) same told;
      given = gave ∙ ap (λ (f : SourceFile). old ++ given_of f ∷ []) same;
      is = inr (l.2, is);
    }
  where
    one : file.name ∷ [] ≡ name ∷ [] → file.name ≡ name
    one e = cc
large_text held name text old new read (file ∷ (other ∷ files)) whole is named told gave are = absurd are.1

abbrev read_as : (name bytes : List ℕ) (whole : Bool) → length bytes ≤ cond whole 1048576 0 → SourceRead
read_as name bytes whole le = record { file = record { name = name; bytes = bytes }; whole = whole; kept = le }

-- the name alone
abbrev passed : List ℕ → SourceRead
passed name = read_as name [] false (omega arith)

-- a file that was read whole
pub text_whole : (held : Option Holding) (name text : List ℕ) (old new : List Given) → Gives held name text → length text ≤ file_limit → new ≡ old ++ given name text ∷ [] → TextFrom held name old new text
text_whole held name text old new told le gave =
    let from = read_whole_from {E = Unit {0}} held old new name text (Made (read_as name text true le)) (refl, refl) told le gave in
    whole_text held name text old new (read_as name text true le) from.files refl refl from.named from.told from.given from.are

-- one that is too large
pub text_large : (held : Option Holding) (name text : List ℕ) (old new : List Given) → GivesTooMany held name file_limit old new → text ≡ spaces (file_limit + 1) → TextFrom held name old new text
text_large held name text old new many is =
    let from = read_large_from {E = Unit {0}} held old new name [] (Made (passed name)) refl (refl, refl) many in
    large_text held name text old new (passed name) from.files refl is from.named from.told from.given from.are

pub text_spaces : {V E : Type 0} (items : V → List ℕ) (r : Result V E) (held : Option Holding) (name : List ℕ) (old new : List Given) → GivesTooMany held name file_limit old new → IfOk r (λ v. items v ≡ spaces (file_limit + 1)) → IfOk r (λ v. TextFrom held name old new (items v))
text_spaces items (Made v) held name old new many is = text_large held name (items v) old new many is
text_spaces items (Err e) held name old new many is = tt

-- a script that was read whole, and one that is too large
one_told : (held : Option Holding) (name bytes : List ℕ) → AreHeld held (record { name = name; bytes = bytes } ∷ []) → Gives held name bytes
one_told None name bytes told = tt
one_told (Some h) name bytes told = told.0

pub record ScriptFrom (held : Option Holding) (name : List ℕ) (old new : List Given) : Type 0 where
  pub script : List ℕ
  pub told : Gives held name script
  pub given : new ≡ old ++ given name (take (file_limit + 1) script) ∷ []
  pub long : file_limit < length script

large_script : (held : Option Holding) (name : List ℕ) (old new : List Given) (files : List SourceFile) → names_of files ≡ name ∷ [] → AreHeld held files → new ≡ old ++ map given_of files → AreReads (passed name ∷ []) files → ScriptFrom held name old new
large_script held name old new [] named told gave are = absurd are
large_script held name old new (file ∷ []) named told gave (inl w, are) = absurd (both w.0)
  where
    both : false ≡ true → ⊥
    both e = cc
large_script held name old new (file ∷ []) named told gave (inr l, are) =
    let same : file ≡ record { name = name; bytes = file.bytes } = λ i. record { name = one named i; bytes = file.bytes } in
    record {
      script = file.bytes;
      told = one_told held name file.bytes (subst (λ (f : SourceFile). AreHeld held (f ∷ [])) same told);
      given = gave ∙ ap (λ (f : SourceFile). old ++ given_of f ∷ []) same;
      long = l.2;
    }
  where
    one : file.name ∷ [] ≡ name ∷ [] → file.name ≡ name
    one e = cc
large_script held name old new (file ∷ (other ∷ files)) named told gave are = absurd are.1

pub script_large : (held : Option Holding) (name : List ℕ) (old new : List Given) → GivesTooMany held name file_limit old new → ScriptFrom held name old new
script_large held name old new many =
    let from = read_large_from {E = Unit {0}} held old new name [] (Made (passed name)) refl (refl, refl) many in
    large_script held name old new from.files from.named from.told from.given from.are

-- ---- one step

none_held : (held : Option Holding) → AreHeld held []
none_held None = tt
none_held (Some h) = tt

none_taken : (written : Option (List ℕ)) → Appends written written []
none_taken None = refl
none_taken (Some bytes) = ap Some (sym (append-nil bytes))

-- nothing is read or written
stays : (held : Option Holding) (gave : List Given) (written : Option (List ℕ)) (reads writes : ℕ) → Moves held (world gave written reads writes) (world gave written reads writes) [] []
stays held gave written reads writes = record { told = none_held held; given = sym (append-nil gave); taken = none_taken written; reads = refl; writes = refl }

pub empty_taken : (held : Option Holding) (gave : List Given) (written : Option (List ℕ)) (reads writes : ℕ) (s t : SessionOf) (last : Status) → t ≡ s → IsTaken held (world gave written reads writes) (world gave written reads writes) s last Empty t (Goes last)
empty_taken held gave written reads writes s t last e = record { read = []; bytes = []; does = (refl, refl, refl, e); moves = stays held gave written reads writes }

same_session : (t u : SessionOf) → t.infer ≡ u.infer → t.files ≡ u.files → t.last ≡ u.last → t.kept ≡ u.kept → t ≡ u
same_session t u chosen a b c = (λ i. record { infer = chosen i; files = a i; last = b i; kept = c i })

pub remove_taken : (held : Option Holding) (gave : List Given) (written : Option (List ℕ)) (reads writes : ℕ) (s t : SessionOf) (name : List ℕ) (last : Status) → t.infer ≡ s.infer → t.files ≡ (without_name name s).files → t.last ≡ s.last → t.kept ≡ s.kept → IsTaken held (world gave written reads writes) (world gave written reads writes) s last (Remove name) t (Goes last)
remove_taken held gave written reads writes s t name last chosen a b c = record { read = []; bytes = []; does = (refl, refl, refl, same_session t (without_name name s) chosen a b c); moves = stays held gave written reads writes }

pub set_taken : (held : Option Holding) (old new : List Given) (written : Option (List ℕ)) (reads now writes : ℕ) (s t : SessionOf) (name file text : List ℕ) (last : Status) → TextFrom held file old new text → now ≡ reads → t.infer ≡ s.infer → t.files ≡ (with_text name text s).files → t.last ≡ s.last → t.kept ≡ s.kept → IsTaken held (world old written reads writes) (world new written now writes) s last (Set name file) t (Goes last)
set_taken held old new written reads now writes s t name file text last from same chosen a b c = record {
  read = record { name = file; bytes = from.bytes } ∷ [];
  bytes = [];
  does = (record { bytes = from.bytes; text = text; are = refl; is = from.is; session = same_session t (with_text name text s) chosen a b c }, refl, refl);
  moves = record { told = from.told; given = from.given; taken = none_taken written; reads = same; writes = refl };
}

pub check_taken : (held : Option Holding) (gave : List Given) (old new : Option (List ℕ)) (reads before now : ℕ) (s t : SessionOf) (last : Status) (rows : List RowText) (places : List Row) (verdict : Verdict) (files bodies : ℕ) (bytes : List ℕ) (end : Status) (taken : Taken) → Reports s t rows places verdict files bodies → end ≡ status_of verdict → bytes ≡ check_text rows verdict files bodies → IsWritten old new bytes before now end taken → IsTaken held (world gave old reads before) (world gave new reads now) s last Check t taken
check_taken held gave old new reads before now s t last rows places verdict files bodies bytes end taken reports ends text (inl w) =
    subst (λ (x : Taken). IsTaken held (world gave old reads before) (world gave new reads now) s last Check t x) (sym w.0) (record {
      read = [];
      bytes = bytes;
      does = (refl, record { rows = rows; places = places; verdict = verdict; files = files; bodies = bodies; reports = reports; text = text; ends = ends });
      moves = record { told = none_held held; given = sym (append-nil gave); taken = w.1; reads = refl; writes = w.2 };
    })
check_taken held gave old new reads before now s t last rows places verdict files bodies bytes end taken reports ends text (inr w) =
    subst (λ (x : Taken). IsTaken held (world gave old reads before) (world gave new reads now) s last Check t x) (sym w.0) (record {
      asked = refl;
      bytes = bytes;
      end = end;
      session = t;
      check = record { rows = rows; places = places; verdict = verdict; files = files; bodies = bodies; reports = reports; text = text; ends = ends };
      given = refl;
      taken = w.1;
      reads = refl;
      rose = w.2;
    })

-- a step that goes on doesn't end
pub goes_on : (taken : Taken) (last : Status) → taken ≡ Goes last → taken ≡ Ends ReadFault → ⊥
goes_on taken last a b = cc
