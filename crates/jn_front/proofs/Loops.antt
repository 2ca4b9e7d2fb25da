-- One file more of those that were read.
use Rattle.std.proofs.Common.{◌≡◌, ℕ, suc, ◌+◌, ◌<◌, ◌≤◌, List, [], ◌∷◌, ◌++◌, length, drop, get_or, refl, sym, ap, ◌∙◌, arith, inl, inr, append_assoc, append-nil, Bool, true, false}
use Rattle.std.specs.Prelude.{cond, map}
use Rattle.std.proofs.Math.Nat.{min-eq_left, min-eq_right}
use Rattle.std.proofs.lemmas.Bool.{le-ltb}
use Rattle.std.proofs.Math.ListN.{drop_of_length-le}
use Rattle.std.proofs.lemmas.List.{drop_more}
use Rattle.jn_base.specs.declared.place.Row.{Row}
use Rattle.jn_front.specs.declared.source.SourceFile.{SourceFile}
use Rattle.jn_front.specs.declared.source.SourceRead.{SourceRead}
use Rattle.jn_base.specs.declared.code.Code.TheVariants.{B1}
use Rattle.jn_front.specs.Counted.{counted_read}
use Rattle.jn_front.specs.Limits.{row_at, counted, large_row, passing_row, size_rows, limit_rows}
use Rattle.jn_front.specs.Files.{files_of_reads, IsReadOf, AreReads, most_files}

-- ---- what was read

pub files_behind : (reads : List SourceRead) (i : ℕ) (read : SourceRead) → i < length reads → files_of_reads (drop i reads) ≡ (get_or reads i read).file ∷ files_of_reads (drop (i + 1) reads)
files_behind reads i read lt = ap files_of_reads (drop_more reads i read lt)

pub none_behind : (reads : List SourceRead) (i : ℕ) → length reads ≤ i → files_of_reads (drop i reads) ≡ []
none_behind reads i le = ap files_of_reads (drop_of_length-le reads le)

-- ---- sizes

pub sizes_more : (reads : List SourceRead) (i before : ℕ) (read : SourceRead) → i < length reads → size_rows i before (map counted_read (drop i reads)) ≡ large_row i (counted_read (get_or reads i read)) ++ (passing_row i before (counted_read (get_or reads i read)) ++ size_rows (i + 1) (before + counted_read (get_or reads i read)) (map counted_read (drop (i + 1) reads)))
sizes_more reads i before read lt = ap (λ rs. size_rows i before (map counted_read rs)) (drop_more reads i read lt)

counted_is : (read : SourceRead) (file : SourceFile) → IsReadOf read file → counted_read read ≡ counted file
counted_is read file (inl w) =
    ap (λ b. cond b (length read.file.bytes) 1048577) w.0 ∙ ap (λ (f : SourceFile). length f.bytes) w.1 ∙ sym (min-eq_left (omega (arith, w.2)))
counted_is read file (inr l) = ap (λ b. cond b (length read.file.bytes) 1048577) l.0 ∙ sym (min-eq_right (omega (arith, l.2)))

sizes_are : (reads : List SourceRead) (files : List SourceFile) → AreReads reads files → map counted_read reads ≡ map counted files
sizes_are [] [] are = refl
sizes_are [] (file ∷ files) are = absurd are
sizes_are (read ∷ reads) [] are = absurd are
sizes_are (read ∷ reads) (file ∷ files) are = ap (λ n. n ∷ map counted_read reads) (counted_is read file are.0) ∙ ap (λ ns. counted file ∷ ns) (sizes_are reads files are.1)

same_many : (reads : List SourceRead) (files : List SourceFile) → AreReads reads files → length files ≡ length reads
same_many [] [] are = refl
same_many [] (file ∷ files) are = absurd are
same_many (read ∷ reads) [] are = absurd are
same_many (read ∷ reads) (file ∷ files) are = ap suc (same_many reads files are.1)

pub limits_end : (reads : List SourceRead) (files : List SourceFile) (i before : ℕ) (rows : List Row) → length reads ≤ 64 → length reads ≤ i → AreReads reads files → size_rows 0 0 (map counted_read reads) ≡ rows ++ size_rows i before (map counted_read (drop i reads)) → rows ≡ limit_rows files
limits_end reads files i before rows few le are h =
    let many = same_many reads files are in
    let last : size_rows i before (map counted_read (drop i reads)) ≡ [] = ap (λ rs. size_rows i before (map counted_read rs)) (drop_of_length-le reads le) in
    let whole : size_rows 0 0 (map counted_read reads) ≡ rows = h ∙ ap (λ rs. rows ++ rs) last ∙ append-nil rows in
    sym whole ∙ ap (size_rows 0 0) (sizes_are reads files are)
    ∙ sym (ap (λ b. cond b (row_at most_files B1 ∷ []) (size_rows 0 0 (map counted files))) (le-ltb most_files (length files) (omega (arith, many, few))))

counted_small_if : (b : Bool) (n : ℕ) → n ≤ 1048576 → cond b n 1048577 ≤ 1048577
counted_small_if true n le = omega (arith, le)
counted_small_if false n le = omega arith

pub counted_small : (read : SourceRead) → length read.file.bytes ≤ 1048576 → counted_read read ≤ 1048577
counted_small read le = counted_small_if read.whole (length read.file.bytes) le

pub rows_step : (reads : List SourceRead) (i file before size : ℕ) (read : SourceRead) (whole rows one two : List Row) → whole ≡ rows ++ size_rows i before (map counted_read (drop i reads)) → file ≡ i → i < length reads → size ≡ counted_read (get_or reads i read) → one ≡ rows ++ large_row file size → two ≡ one ++ passing_row file before size → whole ≡ two ++ size_rows (i + 1) (before + size) (map counted_read (drop (i + 1) reads))
rows_step reads i file before size read whole rows one two h number lt is first second =
    let rest = size_rows (i + 1) (before + size) (map counted_read (drop (i + 1) reads)) in
    let here : size_rows i before (map counted_read (drop i reads)) ≡ large_row i size ++ (passing_row i before size ++ rest) =
    sizes_more reads i before read lt ∙ ap (λ n. large_row i n ++ (passing_row i before n ++ size_rows (i + 1) (before + n) (map counted_read (drop (i + 1) reads)))) (sym is) in
    let now : two ≡ (rows ++ large_row i size) ++ passing_row i before size = second ∙ ap (λ xs. xs ++ passing_row file before size) first ∙ ap (λ n. (rows ++ large_row n size) ++ passing_row n before size) number in
    h ∙ ap (λ xs. rows ++ xs) here ∙ sym (append_assoc rows (large_row i size) (passing_row i before size ++ rest)) ∙ sym (append_assoc (rows ++ large_row i size) (passing_row i before size) rest) ∙ ap (λ xs. xs ++ rest) (sym now)
