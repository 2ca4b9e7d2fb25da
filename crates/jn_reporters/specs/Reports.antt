-- The texts of reports.
use Rattle.std.specs.Prelude.{ℕ, ◌==◌, ◌++◌, List, [], ◌∷◌, Option, Some, None, codes, decimal, count_by, if◌then◌else◌}
use Rattle.std.specs.List.{flat_map}
use Rattle.jn_base.specs.Codes.{code_name, code_text}
use Rattle.jn_base.specs.declared.code.Code.{Code}
use Rattle.jn_base.specs.declared.code.Code.TheVariants.{B1, B2, B3, L1, L2, L3, L4, L5, L6, L7, S1, S2, T1, T2, T3, T4, T5, T6, T7, T8, T9, T10, J1, J2, J3, J4, J5, J6, J7, J8, J9, J10, Deref, Field, FieldInit, Arg, ArgInit, RecvInit, Return, ReturnInit, Local, LocalInit, Elem, ElemInit, NewArray, CtorFields, OvrParam, OvrReceiver, OvrResult}
use Rattle.jn_diag.specs.Order.{code_place}
use Rattle.jn_diag.specs.declared.shown.RowText.{RowText}
use Rattle.jn_diag.specs.declared.shown.Verdict.{Verdict}
use Rattle.jn_diag.specs.declared.shown.Verdict.TheVariants.{Accepted, Rejected, Refused}
use Rattle.jn_reporters.specs.declared.shown.ShownRow.{ShownRow}

-- ---- the verdict

abbrev pub verdict_line : Verdict → List ℕ
verdict_line Accepted = codes "accepted\n"
verdict_line (Rejected rows) = codes "rejected " ++ decimal rows ++ codes "\n"
verdict_line (Refused rows) = codes "refused " ++ decimal rows ++ codes "\n"

-- nothing stands for a verdict that was not given
abbrev pub end_line : Option Verdict → List ℕ
end_line None = []
end_line (Some verdict) = verdict_line verdict

-- ---- a line for each row

-- FILE:LINE:COL: CODE
abbrev pub plain_line : RowText → List ℕ
plain_line row = row.name ++ codes ":" ++ decimal row.line ++ codes ":" ++ decimal row.col ++ codes ": " ++ code_name row.code ++ codes "\n"

-- file, line, column, code and the code's text, with a tab between
abbrev pub tabbed_line : RowText → List ℕ
tabbed_line row = row.name ++ codes "\t" ++ decimal row.line ++ codes "\t" ++ decimal row.col ++ codes "\t" ++ code_name row.code ++ codes "\t" ++ code_text row.code ++ codes "\n"

abbrev pub plain_row : ShownRow → List ℕ
plain_row row = plain_line row.text

abbrev pub tabbed_row : ShownRow → List ℕ
tabbed_row row = tabbed_line row.text

-- each row's text, and the verdict's line after them
abbrev pub rows_shown : (ShownRow → List ℕ) → List ShownRow → Option Verdict → List ℕ
rows_shown written rows verdict = flat_map written rows ++ end_line verdict

abbrev pub plain_shown : List ShownRow → Option Verdict → List ℕ
plain_shown = rows_shown plain_row

abbrev pub tabbed_shown : List ShownRow → Option Verdict → List ℕ
tabbed_shown = rows_shown tabbed_row

-- ---- a line for each code

-- the codes in the order of reports
unfoldable pub all_codes : List Code
all_codes =
    B1 ∷ B2 ∷ B3 ∷ L1 ∷ L2 ∷ L3 ∷ L4 ∷ L5 ∷ L6 ∷ L7 ∷ S1 ∷ S2
    ∷ T1 ∷ T2 ∷ T3 ∷ T4 ∷ T5 ∷ T6 ∷ T7 ∷ T8 ∷ T9 ∷ T10
    ∷ J1 ∷ J2 ∷ J3 ∷ J4 ∷ J5 ∷ J6 ∷ J7 ∷ J8 ∷ J9 ∷ J10
    ∷ Deref ∷ Field ∷ FieldInit ∷ Arg ∷ ArgInit ∷ RecvInit ∷ Return ∷ ReturnInit ∷ Local ∷ LocalInit
    ∷ Elem ∷ ElemInit ∷ NewArray ∷ CtorFields ∷ OvrParam ∷ OvrReceiver ∷ OvrResult ∷ []

-- how many rows have the code
abbrev pub count_of : List ShownRow → Code → ℕ
count_of rows code = count_by (λ row. code_place row.text.code == code_place code) rows

-- CODE COUNT, and nothing for a code that does not occur
abbrev pub count_line : Code → ℕ → List ℕ
count_line code count = if count == 0 then [] else code_name code ++ codes " " ++ decimal count ++ codes "\n"

unfoldable pub summary_lines : List ShownRow → List ℕ
summary_lines rows = flat_map (λ code. count_line code (count_of rows code)) all_codes

abbrev pub summary_shown : List ShownRow → Option Verdict → List ℕ
summary_shown rows verdict = summary_lines rows ++ end_line verdict
