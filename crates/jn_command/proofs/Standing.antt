-- Files that were read, and rows at the places where they stand.
use Rattle.std.proofs.Common.{◌≡◌, ℕ, zero, suc, ◌+◌, ◌<◌, Bool, true, false, List, [], ◌∷◌, ◌++◌, length, map, get_or, Option, Some, None, inl, inr, ⊎_elim, refl, sym, ap, ◌∙◌, subst, arith}
use Rattle.std.specs.Prelude.{◌⊎◌, ◌&&◌, cond, nat_lt, nat_le, Contains, slice_get}
use Rattle.std.specs.List.Sorted.{IsStrictlySortedBy}
use Rattle.std.proofs.Math.Nat.{min-eq_right}
use Rattle.std.proofs.lemmas.Bool.{lt-ltb}
use Rattle.jn_base.specs.declared.place.Row.{Row}
use Rattle.jn_base.specs.declared.code.Code.{Code}
use Rattle.jn_base.specs.declared.code.Code.TheVariants.{B1, B2, B3}
use Rattle.jn_diag.specs.Order.{IsOrderOf, row_cmp}
use Rattle.jn_front.specs.declared.source.SourceFile.{SourceFile}
use Rattle.jn_front.specs.declared.source.SourceRead.{SourceRead}
use Rattle.jn_front.specs.Files.{files_of_reads, AllWhole, AreReads, most_files, file_limit}
use Rattle.jn_front.specs.Limits.{row_at, counted, large_row, passing_row, size_rows, limit_rows, all_limit}
use Rattle.jn_reporters.specs.Excerpts.{is_limit}
use Rattle.jn_reporters.proofs.Limits.{b1_is_limit, b2_is_limit, b3_is_limit}
use Rattle.jn_command.specs.Stands.{StandsIn, StandIn}

-- ---- where no limit is passed, what was read are the files

front_none : (xs ys : List Row) → xs ++ ys ≡ [] → xs ≡ []
front_none [] ys e = refl
front_none (x ∷ xs) ys e = cc

back_none : (xs ys : List Row) → xs ++ ys ≡ [] → ys ≡ []
back_none [] ys e = e
back_none (x ∷ xs) ys e = cc

small_if : (b : Bool) (row : Row) → cond b (row ∷ []) [] ≡ [] → b ≡ false
small_if true row e = cc
small_if false row e = refl

never_both : (b : Bool) → b ≡ true → b ≡ false → ⊥
never_both true e f = cc
never_both false e f = cc

not_large : (k : ℕ) (file : SourceFile) → large_row k (counted file) ≡ [] → file_limit < length file.bytes → ⊥
not_large k file none long =
    let most : counted file ≡ file_limit + 1 = min-eq_right (omega (arith, long)) in
    never_both (nat_lt file_limit (counted file)) (lt-ltb file_limit (counted file) (omega (arith, most))) (small_if (nat_lt file_limit (counted file)) (row_at k B2) none)

whole_by_size : (k before : ℕ) (reads : List SourceRead) (files : List SourceFile) → AreReads reads files → size_rows k before (map counted files) ≡ [] → files_of_reads reads ≡ files
whole_by_size k before [] [] are none = refl
whole_by_size k before [] (file ∷ files) are none = absurd are
whole_by_size k before (read ∷ reads) [] are none = absurd are
whole_by_size k before (read ∷ reads) (file ∷ files) (inl w, are) none =
    let rest = back_none (passing_row k before (counted file)) (size_rows (k + 1) (before + counted file) (map counted files)) (back_none (large_row k (counted file)) _ none) in
    ap (λ f. f ∷ files_of_reads reads) w.1 ∙ ap (λ fs. file ∷ fs) (whole_by_size (k + 1) (before + counted file) reads files are rest)
whole_by_size k before (read ∷ reads) (file ∷ files) (inr l, are) none =
    absurd (not_large k file (front_none (large_row k (counted file)) _ none) l.2)

none_of_sizes : (b : Bool) (row : Row) (rows : List Row) → cond b (row ∷ []) rows ≡ [] → rows ≡ []
none_of_sizes true row rows e = cc
none_of_sizes false row rows e = e

pub whole_files : (reads : List SourceRead) (files : List SourceFile) → AreReads reads files → limit_rows files ≡ [] → files_of_reads reads ≡ files
whole_files reads files are none =
    whole_by_size 0 0 reads files are (none_of_sizes (nat_lt most_files (length files)) (row_at most_files B1) (size_rows 0 0 (map counted files)) none)

all_whole_by_size : (k before : ℕ) (reads : List SourceRead) (files : List SourceFile) → AreReads reads files → size_rows k before (map counted files) ≡ [] → AllWhole reads
all_whole_by_size k before [] [] are none = tt
all_whole_by_size k before [] (file ∷ files) are none = absurd are
all_whole_by_size k before (read ∷ reads) [] are none = absurd are
all_whole_by_size k before (read ∷ reads) (file ∷ files) (inl w, are) none =
    let rest = back_none (passing_row k before (counted file)) (size_rows (k + 1) (before + counted file) (map counted files)) (back_none (large_row k (counted file)) _ none) in
    let same = ap (λ (f : SourceFile). length f.bytes) w.1 in
    (w.0, omega (arith, same, w.2), all_whole_by_size (k + 1) (before + counted file) reads files are rest)
all_whole_by_size k before (read ∷ reads) (file ∷ files) (inr l, are) none =
    absurd (not_large k file (front_none (large_row k (counted file)) _ none) l.2)

all_whole : (reads : List SourceRead) (files : List SourceFile) → AreReads reads files → limit_rows files ≡ [] → AllWhole reads
all_whole reads files are none = all_whole_by_size 0 0 reads files are (none_of_sizes (nat_lt most_files (length files)) (row_at most_files B1) (size_rows 0 0 (map counted files)) none)

stands_whole : (reads : List SourceRead) (k : ℕ) (row : Row) → AllWhole reads → StandsIn (slice_get reads k) row
stands_whole [] k row whole = tt
stands_whole (read ∷ reads) zero row whole = inl whole.0
stands_whole (read ∷ reads) (suc k) row whole = stands_whole reads k row whole.2

stand_whole : (reads : List SourceRead) (rows : List Row) → AllWhole reads → StandIn reads rows
stand_whole reads [] whole = tt
stand_whole reads (row ∷ rows) whole = (stands_whole reads row.span.file.0 row whole, stand_whole reads rows whole)

-- ---- rows of the limits stand at the first byte of their files, and have their codes

abbrev pub IsAtStart : Row → Type 0
IsAtStart row = (k : ℕ) × (code : Code) × (is_limit code ≡ true) × (row ≡ row_at k code)

abbrev pub AllAtStart : List Row → Type 0
AllAtStart [] = Unit {0}
AllAtStart (row ∷ rows) = IsAtStart row × AllAtStart rows

at_start_both : (xs ys : List Row) → AllAtStart xs → AllAtStart ys → AllAtStart (xs ++ ys)
at_start_both [] ys a b = b
at_start_both (x ∷ xs) ys a b = (a.0, at_start_both xs ys a.1 b)

some_at_start : (k : ℕ) (code : Code) (b : Bool) → is_limit code ≡ true → AllAtStart (cond b (row_at k code ∷ []) [])
some_at_start k code true limit = ((k, code, limit, refl), tt)
some_at_start k code false limit = tt

sizes_at_start : (k before : ℕ) (sizes : List ℕ) → AllAtStart (size_rows k before sizes)
sizes_at_start k before [] = tt
sizes_at_start k before (size ∷ sizes) =
    at_start_both (large_row k size) (passing_row k before size ++ size_rows (k + 1) (before + size) sizes) (some_at_start k B2 (nat_lt file_limit size) b2_is_limit)
    (at_start_both (passing_row k before size) (size_rows (k + 1) (before + size) sizes) (some_at_start k B3 (nat_le before all_limit && nat_lt all_limit (before + size)) b3_is_limit) (sizes_at_start (k + 1) (before + size) sizes))

one_or : (b : Bool) (xs ys : List Row) → AllAtStart xs → AllAtStart ys → AllAtStart (cond b xs ys)
one_or true xs ys a b = a
one_or false xs ys a b = b

limits_at_start : (files : List SourceFile) → AllAtStart (limit_rows files)
limits_at_start files = one_or (nat_lt most_files (length files)) (row_at most_files B1 ∷ []) (size_rows 0 0 (map counted files)) ((most_files, B1, b1_is_limit, refl), tt) (sizes_at_start 0 0 (map counted files))

in_cases : (x y : Row) (xs : List Row) (k : ℕ) → k < length (x ∷ xs) → get_or (x ∷ xs) k y ≡ y → (x ≡ y) ⊎ Contains xs y
in_cases x y xs zero below at = inl at
in_cases x y xs (suc k) below at = inr (k, omega arith, at)

at_start_in : (rows : List Row) (row : Row) → AllAtStart rows → Contains rows row → IsAtStart row
at_start_in [] row all h = let below = h.1 in absurd (omega arith)
at_start_in (x ∷ xs) row all h = ⊎_elim (λ e. subst IsAtStart e all.0) (λ c. at_start_in xs row all.1 c) (in_cases x row xs h.0 h.1 h.2)

in_more : (x y : Row) (xs : List Row) → Contains xs y → Contains (x ∷ xs) y
in_more x y xs h = (suc h.0, (let below = h.1 in omega arith), h.2)

each_at_start : (rows : List Row) → ((row : Row) → Contains rows row → IsAtStart row) → AllAtStart rows
each_at_start [] each = tt
each_at_start (x ∷ xs) each = (each x (0, omega arith, refl), each_at_start xs (λ row h. each row (in_more x row xs h)))

pub sorted_at_start : (files : List SourceFile) (broken sorted : List Row) → broken ≡ limit_rows files → IsOrderOf broken sorted → AllAtStart sorted
sorted_at_start files broken sorted are order =
    each_at_start sorted (λ row h. at_start_in broken row (subst AllAtStart (sym are) (limits_at_start files)) ((order.same row).0 h))

stands_at_start : (read : Option SourceRead) (row : Row) → IsAtStart row → StandsIn read row
stands_at_start None row start = tt
stands_at_start (Some read) row (k, code, limit, is) = inr (ap (λ (r : Row). r.span.from) is, ap (λ (r : Row). is_limit r.code) is ∙ limit)

stand_at_start : (reads : List SourceRead) (rows : List Row) → AllAtStart rows → StandIn reads rows
stand_at_start reads [] all = tt
stand_at_start reads (row ∷ rows) all = (stands_at_start (slice_get reads row.span.file.0) row all.0, stand_at_start reads rows all.1)

-- ---- limits

-- the rows of the limits are there, whatever files were read so
abbrev pub Limited : List SourceRead → List Row → Type 0
Limited reads rows = (files : List SourceFile) → AreReads reads files → rows ≡ limit_rows files

-- no limit is passed
pub within_limits : (reads : List SourceRead) (limits : List Row) → Limited reads limits → limits ≡ [] → (files : List SourceFile) → AreReads reads files → (files_of_reads reads ≡ files) × (limit_rows files ≡ [])
within_limits reads limits limited none files are =
    let no_rows : limit_rows files ≡ [] = sym (limited files are) ∙ none in
    (whole_files reads files are no_rows, no_rows)

-- rows of the limits stand at the first bytes
pub limited_stand : (reads : List SourceRead) (limits sorted : List Row) → Limited reads limits → ((files : List SourceFile) × AreReads reads files) → IsOrderOf limits sorted → StandIn reads sorted
limited_stand reads limits sorted limited some order = stand_at_start reads sorted (sorted_at_start some.0 limits sorted (limited some.0 some.1) order)

-- where no limit is passed, rows stand anywhere
pub all_stand : (reads : List SourceRead) (limits rows : List Row) → Limited reads limits → limits ≡ [] → ((files : List SourceFile) × AreReads reads files) → StandIn reads rows
all_stand reads limits rows limited none some = stand_whole reads rows (all_whole reads some.0 some.1 (within_limits reads limits limited none some.0 some.1).1)

-- ---- more files than there may be

one_sorted : (row : Row) → IsStrictlySortedBy row_cmp (row ∷ [])
unfolding IsStrictlySortedBy
one_sorted row = (tt, tt)

pub many_limit : (files : List SourceFile) → most_files < length files → row_at most_files B1 ∷ [] ≡ limit_rows files
many_limit files many = ap (λ b. cond b (row_at most_files B1 ∷ []) (size_rows 0 0 (map counted files))) (sym (lt-ltb most_files (length files) many))

pub one_ordered : (row : Row) → IsOrderOf (row ∷ []) (row ∷ [])
one_ordered row = record { sorted = one_sorted row; same = λ other. (λ h. h, λ h. h) }
