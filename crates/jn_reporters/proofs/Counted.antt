-- Counts of rows by their code, and the lines of a summary.
use Rattle.std.proofs.Common.{◌≡◌, ℕ, zero, suc, ◌+◌, ◌<◌, ◌≤◌, ◌==◌, Bool, List, [], ◌∷◌, ◌++◌, length, set, slice_index, sym, ap, ◌∙◌, refl, subst, arith, eq-eqb, ⊎_elim}
use Rattle.std.specs.Prelude.{count_by, if◌then◌else◌}
use Rattle.std.specs.List.{flat_map}
use Rattle.std.proofs.lemmas.Bool.{cases_eq}
use Rattle.std.proofs.lemmas.Bool.Decides.{nat_tests}
use Rattle.std.proofs.lemmas.Grind.{common_steps}
use Rattle.std.proofs.lemmas.List.Sums.{count_by-le-length}
use Rattle.std.proofs.lemmas.List.{get_or-set_same, get_or-set_other, length_push}
use Rattle.jn_base.specs.declared.code.Code.{Code}
use Rattle.jn_diag.specs.Order.{code_place}
use Rattle.jn_reporters.specs.Counts.{Counts, IsCounted, lines_of}
use Rattle.jn_reporters.specs.Reports.{all_codes, count_line, count_of, summary_lines}
use Rattle.jn_reporters.specs.Sheet.{Lined, nothing_lined, with_lines}
use Rattle.jn_reporters.specs.declared.shown.ShownRow.{ShownRow}

same_lines : (f g : Code → List ℕ) → ((code : Code) → f code ≡ g code) → (codes : List Code) → flat_map f codes ≡ flat_map g codes
same_lines f g h [] = refl
same_lines f g h (code ∷ codes) = ap (λ xs. xs ++ flat_map f codes) (h code) ∙ ap (λ xs. g code ++ xs) (same_lines f g h codes)

pub counted_lines : (rows : List ShownRow) (counts : List ℕ) → Counts rows counts → lines_of all_codes counts ≡ summary_lines rows
unfolding summary_lines
counted_lines rows counts h = same_lines (λ code. count_line code (slice_index counts (code_place code))) (λ code. count_line code (count_of rows code)) (λ code. ap (count_line code) (h code)) all_codes

no_lines : [] ≡ summary_lines []
unfolding summary_lines all_codes
no_lines = refl

abbrev zeros : ℕ → List ℕ
zeros zero = []
zeros (suc n) = 0 ∷ zeros n

zero_at : (n k : ℕ) → slice_index (zeros n) k ≡ 0
zero_at zero k = refl
zero_at (suc n) zero = refl
zero_at (suc n) (suc k) = zero_at n k

abbrev tell : Bool → ℕ
tell b = if b then 1 else 0

count_more : (p : ShownRow → Bool) (rows : List ShownRow) (row : ShownRow) → count_by p (rows ++ row ∷ []) ≡ count_by p rows + tell (p row)
count_more p rows row = grind (arith, common_steps)

-- one more at p, seen at k
more_at : (counts : List ℕ) (p k before : ℕ) → p < length counts → slice_index counts k ≡ before
    → slice_index (set counts p (slice_index counts p + 1)) k ≡ before + tell (p == k)
more_at counts p k before within h =
    ⊎_elim
    (λ e. let same = get_or-set_same counts p (slice_index counts p + 1) 0 within in
    let one : tell (p == k) ≡ 1 = ap tell (eq-eqb p k e) in
    let at : slice_index counts p ≡ before = ap (λ n. slice_index counts n) e ∙ h in
    ap (λ n. slice_index (set counts p (slice_index counts p + 1)) n) (sym e) ∙ same ∙ ap (λ n. n + 1) at ∙ ap (λ n. before + n) (sym one))
    (λ other. let none : tell (p == k) ≡ 0 = grind (arith, nat_tests) in
    let kept = get_or-set_other counts p k (slice_index counts p + 1) 0 (λ e. other (sym e)) in
    let zero_more : before ≡ before + tell (p == k) = omega (arith, none) in
    kept ∙ h ∙ zero_more)
    (cases_eq p k)

pub one_more : (rows : List ShownRow) (row : ShownRow) (counts : List ℕ) → code_place row.text.code < length counts → Counts rows counts
    → Counts (rows ++ row ∷ []) (set counts (code_place row.text.code) (slice_index counts (code_place row.text.code) + 1))
one_more rows row counts within h code =
    more_at counts (code_place row.text.code) (code_place code) (count_of rows code) within (h code)
    ∙ sym (count_more (λ other. code_place other.text.code == code_place code) rows row)

pub fresh : (sheet : Lined) (codes : List Code) → sheet ≡ nothing_lined → IsCounted sheet codes (zeros 49)
fresh sheet codes is =
    subst (λ (s : Lined). IsCounted s codes (zeros 49)) (sym is) (record { lines = no_lines; counted = λ code. zero_at 49 (code_place code); few = omega arith })

-- a code more
pub code_more : (sheet : Lined) (codes all : List Code) (counts : List ℕ) (code : Code) → all ≡ codes ++ code ∷ [] → IsCounted sheet codes counts → IsCounted sheet all counts
code_more sheet codes all counts code is h =
    record { lines = h.lines; counted = h.counted; few = let long : length all ≡ length codes + 1 = ap length is ∙ length_push codes code in omega (arith, h.few, long) }

-- so another row has a number
pub few_more : (sheet : Lined) (codes all : List Code) (counts : List ℕ) (code : Code) → all ≡ codes ++ code ∷ [] → IsCounted sheet codes counts → slice_index counts (code_place code) < length all
few_more sheet codes all counts code is h =
    let long : length all ≡ length codes + 1 = ap length is ∙ length_push codes code in
    let below : count_of sheet.rows code ≤ length sheet.rows = count_by-le-length (λ row. code_place row.text.code == code_place code) sheet.rows in
    let here : slice_index counts (code_place code) ≡ count_of sheet.rows code = h.counted code in
    omega (arith, h.few, long, below, here)

-- and stands on the sheet
pub row_more : (sheet new : Lined) (codes all : List Code) (counts : List ℕ) (row : ShownRow) (lines : List ℕ) → all ≡ codes ++ row.text.code ∷ [] → code_place row.text.code < length counts
    → IsCounted sheet codes counts → lines ≡ lines_of all_codes (set counts (code_place row.text.code) (slice_index counts (code_place row.text.code) + 1)) → new ≡ with_lines sheet row lines
    → IsCounted new all (set counts (code_place row.text.code) (slice_index counts (code_place row.text.code) + 1))
row_more sheet new codes all counts row lines is within h written taken =
    let long : length all ≡ length codes + 1 = ap length is ∙ length_push codes row.text.code in
    let more : List ℕ = set counts (code_place row.text.code) (slice_index counts (code_place row.text.code) + 1) in
    let right = one_more sheet.rows row counts within h.counted in
    let rows : length (sheet.rows ++ row ∷ []) ≡ length sheet.rows + 1 = length_push sheet.rows row in
    subst (λ (s : Lined). IsCounted s all more) (sym taken) (record {
      lines = written ∙ counted_lines (sheet.rows ++ row ∷ []) more right;
      counted = right;
      few = omega (arith, h.few, long, rows);
    })
