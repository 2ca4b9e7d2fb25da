-- Rows as the plain reporter shows them.
use Rattle.std.proofs.Common.{◌≡◌, ℕ, false, List, [], ◌∷◌, ◌++◌, Option, Some, Result, Ok, Err, codes, refl, ap, ◌∙◌}
use Rattle.std.specs.Prelude.{OnOk}
use Rattle.std.specs.List.{flat_map}
use Rattle.jn_diag.specs.declared.shown.RowText.{RowText}
use Rattle.jn_diag.specs.declared.shown.Verdict.{Verdict}
use Rattle.jn_reporters.specs.Forms.{Form, with_rows}
use Rattle.jn_reporters.specs.Reports.{plain_line, plain_row, plain_shown, verdict_line}
use Rattle.jn_reporters.specs.declared.shown.ShownRow.{ShownRow}
use Rattle.nullcheck_recheck_top.specs.Carrying.{plain_text, texts_of}

texts_last : (rows : List ShownRow) (row : ShownRow) → texts_of (rows ++ row ∷ []) ≡ texts_of rows ++ row.text ∷ []
texts_last [] row = refl
texts_last (r ∷ rs) row = ap (λ ts. r.text ∷ ts) (texts_last rs row)

-- the plain reporter with these rows
abbrev plain_form : List ShownRow → Form
plain_form rows = record { title = codes "plain"; document = false; notes = false; rows = rows; shown = plain_shown; linked = λ address. plain_shown }

pub text_more : {T E : Type 0} (r : Result T E) (old new : List ShownRow) (view : ShownRow) (row : RowText) → OnOk r (plain_form new ≡ with_rows (plain_form old) (view ∷ [])) → view.text ≡ row → OnOk r (texts_of new ≡ texts_of old ++ row ∷ [])
text_more (Ok t) old new view row is same = ap (λ (f : Form). texts_of f.rows) is ∙ texts_last old view ∙ ap (λ text. texts_of old ++ text ∷ []) same
text_more (Err e) old new view row is same = tt

lines_same : (rows : List ShownRow) → flat_map plain_row rows ≡ flat_map plain_line (texts_of rows)
lines_same [] = refl
lines_same (r ∷ rs) = ap (λ ls. plain_line r.text ++ ls) (lines_same rs)

pub plain_is : (shown : List ShownRow) (given : Option Verdict) (rows : List RowText) (verdict : Verdict) (bytes : List ℕ) → texts_of shown ≡ rows → given ≡ Some verdict → bytes ≡ plain_shown shown given → bytes ≡ plain_text rows verdict
plain_is shown given rows verdict bytes texts last is =
    is ∙ ap (λ v. plain_shown shown v) last ∙ ap (λ ls. ls ++ verdict_line verdict) (lines_same shown ∙ ap (flat_map plain_line) texts)
