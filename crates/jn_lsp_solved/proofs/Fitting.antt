-- The text of a file among files that fit.
use Rattle.std.proofs.Common.{◌≡◌, ℕ, zero, suc, ◌≤◌, ◌<◌, ◌^◌, List, [], ◌∷◌, length, get_or, Some, refl, ap, subst, arith}
use Rattle.std.specs.Prelude.{slice_get}
use Rattle.std.proofs.lemmas.Option.{slice_get_read}
use Rattle.jn_front.specs.declared.source.SourceFile.{SourceFile}
use Rattle.jn_recheck.specs.Files.{AllFit}

fit_at : (files : List SourceFile) (at : ℕ) (file : SourceFile) → AllFit files → slice_get files at ≡ Some file → length file.bytes ≤ 1048577
fit_at [] at file fit e = absurd (cc)
fit_at (x ∷ xs) zero file fit e = let same : x ≡ file = cc in subst (λ (f : SourceFile). length f.bytes ≤ 1048577) same fit.0
fit_at (x ∷ xs) (suc at) file fit e = fit_at xs at file fit.1 e

-- its bytes are counted
pub small_at : (files : List SourceFile) (at : ℕ) (file : SourceFile) (text : List ℕ) → AllFit files → at < length files → file ≡ get_or files at file → text ≡ file.bytes → length text < 2 ^ 30
small_at files at file text fit lt is e =
    let h = fit_at files at file fit (slice_get_read files (length files) at file refl lt is) in
    let same = ap (λ (t : List ℕ). length t) e in
    omega (arith, h, same)
