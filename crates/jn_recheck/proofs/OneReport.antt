-- A session reports in one way.
use Rattle.std.proofs.Common.{◌≡◌, ◌↔◌, ℕ, suc, ◌+◌, ◌<◌, Bool, true, false, List, [], ◌∷◌, length, map, Option, Some, refl, sym, ap, ◌∙◌, subst, arith}
use Rattle.std.specs.Prelude.{cond, slice_index_or}
use Rattle.jn_base.specs.declared.infer.Infer.{Infer}
use Rattle.jn_base.specs.declared.place.Row.{Row}
use Rattle.jn_quals.specs.Qualifier.{Qualifier}
use Rattle.jn_points.specs.declared.program.Program.{Program}
use Rattle.jn_inference_law.specs.Solution.{IsLeastSignature}
use Rattle.jn_diag.specs.declared.shown.RowText.{RowText}
use Rattle.jn_diag.specs.declared.shown.Verdict.{Verdict}
use Rattle.jn_front.specs.declared.source.SourceFile.{SourceFile}
use Rattle.jn_command.specs.declared.report.Report.{Report}
use Rattle.jn_command.specs.declared.report.Report.TheVariants.{Refused, Checked}
use Rattle.jn_command.specs.Reports.{rows_of, verdict_of}
use Rattle.jn_phases.specs.Phases.{ProgramOf}
use Rattle.jn_recheck_law.specs.Reusable.{Solved}
use Rattle.jn_recheck.specs.KeptRows.{AreMadeAnew, count_false}
use Rattle.jn_report.specs.Report.{IsReport}
use Rattle.jn_recheck.specs.Sessions.{IsRecheck, IsSolutionOf, Reports, SessionOf, or_else, text_of_row}

-- ---- numbers

same_flag : {X : Type 0} (a b : Bool) → (a ≡ true) ↔ X → (b ≡ true) ↔ X → a ≡ b
same_flag true true x y = refl
same_flag true false x y = sym (y.1 (x.0 refl))
same_flag false true x y = x.1 (y.0 refl)
same_flag false false x y = refl

count_same : (xs ys : List Bool) → length xs ≡ length ys → ((b : ℕ) → b < length xs → slice_index_or xs b false ≡ slice_index_or ys b false) → count_false xs ≡ count_false ys
count_same [] [] long each = refl
count_same [] (y ∷ ys) long each = absurd (omega (arith, long))
count_same (x ∷ xs) [] long each = absurd (omega (arith, long))
count_same (x ∷ xs) (y ∷ ys) long each =
    let first : x ≡ y = each 0 (omega arith) in
    let rest = count_same xs ys (omega (arith, long)) (λ b lt. each (suc b) (omega (arith, lt))) in
    (λ i. cond (first i) 0 1 + rest i)

made_same : (old : Option Solved) (new : Solved) (made bodies : ℕ) → AreMadeAnew old new made → AreMadeAnew old new bodies → made ≡ bodies
made_same old new made bodies x y =
    x.count
    ∙ count_same x.reused y.reused (x.long ∙ sym y.long) (λ b lt. (let inside = subst (λ n. b < n) x.long lt in same_flag (slice_index_or x.reused b false) (slice_index_or y.reused b false) (x.tells b inside) (y.tells b inside)))
    ∙ sym y.count

module _ (report : (infer : Infer) (files : List SourceFile) (one other : Report) → IsReport infer files one → IsReport infer files other → one ≡ other) (program : (infer : Infer) (files : List SourceFile) (names others : List (List ℕ)) (P Q : Program) → ProgramOf infer files names P → ProgramOf infer files others Q → (names ≡ others) × (P ≡ Q)) (least : (P : Program) (s t : List Qualifier) → IsLeastSignature P s → IsLeastSignature P t → s ≡ t) where
  one_solution : (infer : Infer) (files : List SourceFile) (one other : Solved) → IsSolutionOf infer files one → IsSolutionOf infer files other → one ≡ other
  one_solution infer files one other x y =
      let same = program infer files one.names other.names one.program other.program x.typed.of_files y.typed.of_files in
      let signature = least other.program one.signature other.signature (subst (λ (P : Program). IsLeastSignature P one.signature) same.1 x.least) y.least in
      (λ i. record { names = same.0 i; program = same.1 i; signature = signature i })

  -- what is kept of a report, and how many bodies were made anew
  one_recheck : (infer : Infer) (old : Option Solved) (files : List SourceFile) (report : Report) (new other : Option Solved) (made bodies : ℕ) → IsRecheck infer old files report new made → IsRecheck infer old files report other bodies → (new ≡ other) × (made ≡ bodies)
  one_recheck infer old files (Refused rows) new other made bodies x y = (x.1 ∙ sym y.1, x.2 ∙ sym y.2)
  one_recheck infer old files (Checked rows) new other made bodies (xr, (xs, xe, xl, xm)) (yr, (ys, ye, yl, ym)) =
      let same = one_solution infer files xs ys xl yl in
      (xe ∙ ap Some same ∙ sym ye, made_same old ys made bodies (subst (λ (s : Solved). AreMadeAnew old s made) same xm) ym)

  pub one_outcome : (before one other : SessionOf) (rows others : List RowText) (places seconds : List Row) (verdict second : Verdict) (files count made bodies : ℕ) → Reports before one rows places verdict files made → Reports before other others seconds second count bodies → (rows ≡ others) × (places ≡ seconds) × (verdict ≡ second) × (files ≡ count) × (made ≡ bodies) × (one ≡ other)
  one_outcome before one other rows others places seconds verdict second files count made bodies x y =
      let same = report before.infer before.files x.report y.report x.is y.is in
      let again = one_recheck before.infer before.kept before.files y.report x.found y.found made bodies (subst (λ (r : Report). IsRecheck before.infer before.kept before.files r x.found made) same x.recheck) y.recheck in
      let kept = x.keeps ∙ ap (λ (f : Option Solved). or_else f before.kept) again.0 ∙ sym y.keeps in
      let chosen = x.chosen ∙ sym y.chosen in
      let stays = x.stays ∙ sym y.stays in
      let last = x.last ∙ sym y.last in (
        x.shown.0 ∙ ap (λ (r : Report). map (text_of_row before.files) (rows_of r)) same ∙ sym y.shown.0,
        x.shown.1 ∙ ap rows_of same ∙ sym y.shown.1,
        x.shown.2 ∙ ap verdict_of same ∙ sym y.shown.2,
        x.changes ∙ sym y.changes,
        again.1,
        (λ i. record { infer = chosen i; files = stays i; last = last i; kept = kept i }),
      )
