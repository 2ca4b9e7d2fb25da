-- Files that stay have the report that they had, and each body of their program is reusable.
use Rattle.std.proofs.Common.{◌≡◌, ℕ, zero, suc, ◌+◌, ◌<◌, Bool, false, true, List, [], ◌∷◌, length, map, get_or, Option, Some, None, refl, sym, ap, ◌∙◌, subst, arith}
use Rattle.std.specs.Prelude.{slice_get}
use Rattle.jn_base.specs.declared.infer.Infer.{Infer}
use Rattle.jn_base.specs.declared.place.Row.{Row}
use Rattle.jn_quals.specs.Qualifier.{Qualifier}
use Rattle.jn_points.specs.declared.point.Point.{Point}
use Rattle.jn_points.specs.declared.program.Body.{Body}
use Rattle.jn_points.specs.declared.program.Class.{Class}
use Rattle.jn_points.specs.declared.program.Field.{Field}
use Rattle.jn_points.specs.declared.program.Method.{Method}
use Rattle.jn_points.specs.declared.program.Program.{Program}
use Rattle.jn_points.specs.declared.program.SlotInfo.{SlotInfo}
use Rattle.jn_command.specs.declared.report.Report.{Report}
use Rattle.jn_command.specs.declared.report.Report.TheVariants.{Checked, Refused}
use Rattle.jn_diag.specs.declared.shown.RowText.{RowText}
use Rattle.jn_diag.specs.declared.shown.Verdict.{Verdict}
use Rattle.jn_front.specs.declared.source.SourceFile.{SourceFile}
use Rattle.jn_recheck_law.specs.Alike.{AllAlike, SameBody, SameClass, SameDeclarations, SameField, SameMethod, SamePoint, SameSlot}
use Rattle.jn_recheck_law.specs.Reusable.{IsReusable, SameBodies, Solved}
use Rattle.jn_recheck_law.specs.RuleReads.{rule_reads}
use Rattle.jn_recheck_law.specs.Slots.{Agree}
use Rattle.jn_recheck.specs.Files.{changed}
use Rattle.jn_recheck.specs.KeptRows.{AreMadeAnew, count_false}
use Rattle.jn_recheck.specs.Sessions.{AreShown, IsRecheck, Reports, SessionOf, or_else}
use Rattle.jn_recheck.specs.Told.{IsTold}
use Rattle.jn_recheck.proofs.Rechecking.{session_reports}

all_alike : {A : Type 0} (R : ℕ → A → A → Type 0) → ((i : ℕ) (x : A) → R i x x) → (i : ℕ) (xs : List A) → AllAlike R i xs xs
all_alike R same i [] = tt
all_alike R same i (x ∷ xs) = (same i x, all_alike R same (i + 1) xs)

same_class : (names : List (List ℕ)) (i : ℕ) (x : Class) → SameClass names names i x x
same_class names i x = record { name = λ le. refl; interface = refl; is_abstract = refl; is_final = refl; parent = refl; supers = refl }

same_field : (names : List (List ℕ)) (i : ℕ) (x : Field) → SameField names names i x x
same_field names i x = record { name = refl; owner = refl; base = refl; is_static = refl; is_final = refl; is_private = refl; is_monotonic = refl; first = refl; slot = refl }

same_method : (names : List (List ℕ)) (i : ℕ) (x : Method) → SameMethod names names i x x
same_method names i x = record { name = λ le. refl; owner = refl; params = refl; result = refl; ctor = refl; is_static = refl; is_private = refl; is_abstract = refl; is_final = refl; is_main = refl; body = refl; receiver = refl; param_slots = refl; result_slot = refl }

same_slot : (names : List (List ℕ)) (i : ℕ) (x : SlotInfo) → SameSlot names names i x x
same_slot names i x = record { start = refl; inferred = refl }

same_point : (names : List (List ℕ)) (i : ℕ) (x : Point) → SamePoint names names i x x
same_point names i x = record { span = refl; kind = refl; string = refl }

same_declarations : (names : List (List ℕ)) (P : Program) → SameDeclarations names names P P
same_declarations names P = record {
  classes = all_alike (SameClass names names) (same_class names) 0 P.classes;
  fields = all_alike (SameField names names) (same_field names) 0 P.fields;
  methods = all_alike (SameMethod names names) (same_method names) 0 P.methods;
  slots = all_alike (SameSlot names names) (same_slot names) 0 P.slots;
}

same_body : (names : List (List ℕ)) (x : Body) → SameBody names names x x
same_body names x = record { method = refl; regs = refl; locals = refl; points = all_alike (SamePoint names names) (same_point names) 0 x.points }

same_bodies : (names : List (List ℕ)) (bodies : List Body) (b : ℕ) → b < length bodies → SameBodies names names (slice_get bodies b) (slice_get bodies b)
same_bodies names [] b lt = absurd (omega (arith, lt))
same_bodies names (x ∷ bodies) zero lt = same_body names x
same_bodies names (x ∷ bodies) (suc b) lt = same_bodies names bodies b (omega (arith, lt))

agree : (s : List Qualifier) (slots : List ℕ) → Agree s s slots
agree s [] = tt
agree s (i ∷ slots) = (refl, agree s slots)

-- a body is reusable from its own program
unchanged_reusable : (s : Solved) (b : ℕ) → b < length s.program.bodies → IsReusable s s b
unchanged_reusable s b lt = record {
  declarations = same_declarations s.names s.program;
  body = same_bodies s.names s.program.bodies b lt;
  span = refl;
  slots = agree s.signature (rule_reads s.program b);
}

abbrev all_true : List Body → List Bool
all_true bodies = map (λ (x : Body). true) bodies

true_long : (bodies : List Body) → length (all_true bodies) ≡ length bodies
true_long [] = refl
true_long (x ∷ bodies) = ap suc (true_long bodies)

true_at : (bodies : List Body) (b : ℕ) → b < length bodies → get_or (all_true bodies) b false ≡ true
true_at [] b lt = absurd (omega (arith, lt))
true_at (x ∷ bodies) zero lt = refl
true_at (x ∷ bodies) (suc b) lt = true_at bodies b (omega (arith, lt))

none_false : (bodies : List Body) → 0 ≡ count_false (all_true bodies)
none_false [] = refl
none_false (x ∷ bodies) = let e = none_false bodies in omega (arith, e)

none_made : (s : Solved) → AreMadeAnew (Some s) s 0
none_made s = record {
  reused = all_true s.program.bodies;
  long = true_long s.program.bodies;
  tells = λ b lt. ((λ h. unchanged_reusable s b lt), (λ h. true_at s.program.bodies b lt));
  count = none_false s.program.bodies;
}

-- what a recheck of the files that stayed finds
abbrev found_of : Option Solved → Report → Option Solved
found_of kept (Refused rows) = None
found_of kept (Checked rows) = kept

told_is : (infer : Infer) (files : List SourceFile) (kept : Option Solved) (report : Report) → IsTold infer files kept report → IsRecheck infer kept files report (found_of kept report) 0
told_is infer files kept (Refused rows) is = (is, refl, refl)
told_is infer files kept (Checked rows) (is, (solved, same, of_files)) = (is, (solved, same, of_files, subst (λ (k : Option Solved). AreMadeAnew k solved 0) (sym same) (none_made solved)))

told_keeps : (kept : Option Solved) (report : Report) → kept ≡ or_else (found_of kept report) kept
told_keeps kept (Refused rows) = refl
told_keeps None (Checked rows) = refl
told_keeps (Some solved) (Checked rows) = refl

-- files that stayed have the report that they had
pub told_again : (session : SessionOf) (files last : List SourceFile) (report : Report) (count : ℕ) (rows : List RowText) (places : List Row) (verdict : Verdict)
    → files ≡ session.files → last ≡ session.last → last ≡ files → IsTold session.infer last session.kept report
    → AreShown files report rows places verdict → count ≡ changed last files
    → Reports session session rows places verdict count 0
told_again session files last report count rows places verdict now was same told shown counted =
    session_reports session session files files last report (found_of session.kept report) 0 0 count rows places verdict
    now now was
    (told_is session.infer files session.kept report (subst (λ (fs : List SourceFile). IsTold session.infer fs session.kept report) same told))
    shown counted refl refl refl (sym was ∙ same) (told_keeps session.kept report)

-- a recheck's report is the last one then
pub settled : (infer : Infer) (old : Option Solved) (files : List SourceFile) (report : Report) (found : Option Solved) (made : ℕ) → IsRecheck infer old files report found made → IsTold infer files (or_else found old) report
settled infer old files (Refused rows) found made is = is.0
settled infer old files (Checked rows) None made (is, (solved, same, of_files, anew)) = absurd (let k : None ≡ Some solved = same in cc)
settled infer old files (Checked rows) (Some found) made (is, (solved, same, of_files, anew)) = (is, (solved, same, of_files))
