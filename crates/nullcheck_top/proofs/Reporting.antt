-- Reports of files that were read.
use Rattle.std.proofs.Common.{◌≡◌, ℕ, List, [], ◌∷◌, Option, None, Some, Result, Ok, Err, refl, sym, ap, ◌∙◌, subst}
use Rattle.std.specs.Prelude.{IfOk, IfErr}
use Rattle.jn_base.specs.declared.infer.Infer.{Infer}
use Rattle.jn_base.specs.declared.refusal.OutOfMemory.{OutOfMemory}
use Rattle.jn_base.specs.declared.place.Row.{Row}
use Rattle.jn_places.specs.Placed.{PlacedFile}
use Rattle.jn_points.specs.declared.program.Program.{Program}
use Rattle.jn_quals.specs.Qualifier.{Qualifier}
use Rattle.jn_accept.specs.Accepting.{AreRowsOf}
use Rattle.jn_inference_law.specs.Solution.{IsLeastSignature}
use Rattle.jn_system.specs.Rows.{AreBroken}
use Rattle.jn_front.specs.declared.source.SourceFile.{SourceFile}
use Rattle.jn_front.specs.declared.source.SourceRead.{SourceRead}
use Rattle.jn_front.specs.Files.{files_of_reads, AreReads}
use Rattle.jn_command.specs.declared.report.Report.{Report}
use Rattle.jn_command.specs.declared.report.Report.TheVariants.{Refused, Checked}
use Rattle.jn_command.specs.Reports.{rows_of}
use Rattle.jn_command.specs.Stands.{StandIn}
use Rattle.jn_command.proofs.Standing.{all_stand}
use Rattle.nullcheck_top.specs.declared.found.Found.{Found}
use Rattle.nullcheck_top.specs.Found.{AreWhole, IsBroken, IsFinding, found_of}
use Rattle.jn_phases.specs.Phases.{IsPhase, IsTypedOr, TypedProgramOf}
use Rattle.jn_report.specs.Report.{IsReport}
use Rattle.jn_safe_files.specs.Safe.{BreaksNone, IsSafe}
use Rattle.nullcheck_top.proofs.Laws.{breaks_none}

never_checked : (rows others : List Row) → Refused rows ≡ Checked others → ⊥
never_checked rows others e = cc

abbrev refused_found : List Row → Found
refused_found rows = record { report = Refused rows; accepted = None; rejected = None }

-- files that a phase refuses
refused_finding : (infer : Infer) → (files : List SourceFile) (names : List (List ℕ)) (rows : List Row) (found : Found) → IsPhase infer files rows → found ≡ refused_found rows → IsFinding infer files names found
refused_finding infer files names rows found phase is = subst (IsFinding infer files names) (sym is) (record { report = phase; accepted = never_checked rows []; rejected = λ broken. broken })

unbroken : (rows : List Row) → rows ≡ [] → IsBroken (Checked rows) → ⊥
unbroken rows none broken = subst (λ rs. IsBroken (Checked rs)) none broken

broken_rows : (rows : List Row) → (rows ≡ [] → ⊥) → IsBroken (Checked rows)
broken_rows [] some = some refl
broken_rows (row ∷ rows) some = tt

-- files that are checked by the rules
module _ (infer : Infer) (files : List SourceFile) (names : List (List ℕ)) (P : Program) (s : List Qualifier) (rows : List Row) (of_files : TypedProgramOf infer files names P) (least : IsLeastSignature P s) (broken : AreBroken P s rows) where
  checked_report : IsReport infer files (Checked rows)
  checked_report = record { names = names; P = P; of_files = of_files; rules = record { signature = s; least = least; broken = broken.all; breaks = broken.broken; order = broken.ordered } }

  -- accepted exactly where there is no row
  pub checked_finding : (made : Result (Program × List Qualifier) (Program × List Qualifier)) → IfOk made (λ a. (rows ≡ []) × (a ≡ (P, s))) → IfErr made (λ r. (rows ≡ [] → ⊥) × (r.0 ≡ P) × (r.1 ≡ s)) → IsFinding infer files names (found_of rows made)
  checked_finding (Ok a) taken refused = record { report = checked_report; accepted = (ap Checked taken.0, subst (λ (x : Program × List Qualifier). TypedProgramOf infer files names x.0) (sym taken.1) of_files); rejected = unbroken rows taken.0 }
  checked_finding (Err left) taken refused = record {
    report = checked_report;
    accepted = λ none. refused.0 (no_rows none);
    rejected = record {
      broken = broken_rows rows refused.0;
      of_files = subst (TypedProgramOf infer files names) (sym refused.1) of_files;
      least = subst (λ P. IsLeastSignature P left.1) (sym refused.1) (subst (IsLeastSignature P) (sym refused.2) least);
    };
  }
    where
      no_rows : Checked rows ≡ Checked [] → rows ≡ []
      no_rows e = cc

-- the rows of a program's rules are those that the rules give, in order
pub rows_of_rules : (P : Program) (s : List Qualifier) (rows : List Row) → AreBroken P s rows → AreRowsOf P s rows
rows_of_rules P s rows broken = record { broken = broken.all; breaks = broken.broken; each = λ row h. (broken.ordered.same row).0 h; all = λ row h. (broken.ordered.same row).1 h }

-- ---- files by what they came to before their rules

abbrev pub Made : Type 0
Made = Result Found OutOfMemory

abbrev pub FindsAll : Infer → List SourceRead → List (List ℕ) → Found → Type 0
FindsAll infer reads names found = (files : List SourceFile) → AreReads reads files → IsFinding infer files names found

abbrev pub IsTypedAll : Infer → List SourceRead → List (List ℕ) → List PlacedFile → List Row → Option Program → Type 0
IsTypedAll infer reads names trees rows base = (files : List SourceFile) → AreReads reads files → IsTypedOr infer files names trees rows base

abbrev pub AreFiles : List SourceRead → Type 0
AreFiles reads = (files : List SourceFile) → AreReads reads files → files_of_reads reads ≡ files

pub refused_all : (infer : Infer) (reads : List SourceRead) (names : List (List ℕ)) (trees : List PlacedFile) (rows : List Row) (found : Found) → IsTypedAll infer reads names trees rows None → found ≡ refused_found rows → FindsAll infer reads names found
refused_all infer reads names trees rows found typed is = λ files are. refused_finding infer files names rows found (typed files are) is

pub refused_whole : (reads : List SourceRead) (rows : List Row) (found : Found) → found ≡ refused_found rows → AreWhole found.report reads
refused_whole reads rows found by = λ others is files are. absurd (never_checked rows others (sym (ap (λ (found : Found). found.report) by) ∙ is))

pub refused_stand : (reads : List SourceRead) (rows : List Row) (found : Found) → found ≡ refused_found rows → StandIn reads rows → StandIn reads (rows_of found.report)
refused_stand reads rows found by stand = subst (λ (found : Found). StandIn reads (rows_of found.report)) (sym by) stand

module _ (infer : Infer) (reads : List SourceRead) (names : List (List ℕ)) (trees : List PlacedFile) (rows : List Row) (P : Program) (some : (files : List SourceFile) × AreReads reads files) (typed : IsTypedAll infer reads names trees rows (Some P)) (whole : AreFiles reads) where
  -- what was read has the program
  pub typed_here : TypedProgramOf infer (files_of_reads reads) names P
  typed_here = subst (λ fs. TypedProgramOf infer fs names P) (sym (whole some.0 some.1)) (typed some.0 some.1).1.0

  pub checked_all : (made : Made) → IfOk made (λ found. IsFinding infer (files_of_reads reads) names found) → IfOk made (λ found. FindsAll infer reads names found)
  checked_all (Ok found) finding = λ files are. subst (λ fs. IsFinding infer fs names found) (whole files are) finding
  checked_all (Err e) finding = tt

  pub checked_whole : (made : Made) → IfOk made (λ found. AreWhole found.report reads)
  checked_whole (Ok found) = λ others is. whole
  checked_whole (Err e) = tt

-- no limit is passed, where what was read has a program
pub checked_stand : (infer : Infer) (reads : List SourceRead) (names : List (List ℕ)) (trees : List PlacedFile) (rows : List Row) (P : Program) → ((files : List SourceFile) × AreReads reads files) → IsTypedAll infer reads names trees rows (Some P) → (made : Made) → IfOk made (λ found. StandIn reads (rows_of found.report))
checked_stand infer reads names trees rows P some typed (Ok found) = all_stand reads [] (rows_of found.report) (λ files are. sym (typed files are).1.0.of_files.lowered.declared.parsed.within) refl some
checked_stand infer reads names trees rows P some typed (Err e) = tt

-- ---- accepted files are safe

module _ (infer : Infer) (law : (files : List SourceFile) (names : List (List ℕ)) (P : Program) → TypedProgramOf infer files names P → BreaksNone P → IsSafe infer files) where
  safe_report : (files : List SourceFile) (report : Report) → report ≡ Checked [] → IsReport infer files report → IsSafe infer files
  safe_report files report none is = accepted (subst (IsReport infer files) none is)
    where
      accepted : IsReport infer files (Checked []) → IsSafe infer files
      accepted by = law files by.names by.P by.of_files (breaks_none by.P by.rules)

  pub safe_found : (reads : List SourceRead) (names : List (List ℕ)) (found : Found) → FindsAll infer reads names found → found.report ≡ Checked [] → (files : List SourceFile) → AreReads reads files → IsSafe infer files
  safe_found reads names found all none files are = safe_report files found.report none (all files are).report
