-- Lists of files that are gone through.
use Rattle.std.proofs.Common.{◌≡◌, ℕ, ◌+◌, ◌<◌, ◌≤◌, Bool, true, false, List, [], ◌∷◌, length, drop, get_or, Some, sym, ap, ◌∙◌, arith}
use Rattle.std.specs.Prelude.{cond}
use Rattle.std.specs.List.{position_from}
use Rattle.std.proofs.lemmas.List.{drop_more}
use Rattle.jn_front.specs.declared.source.SourceFile.{SourceFile}
use Rattle.jn_recheck.specs.Files.{changed, is_as_before}

module _ {A : Type 0} (test : A → Bool) (xs : List A) (d : A) (i : ℕ) (lt : i < length xs) (left : position_from test 0 xs ≡ position_from test i (drop i xs)) where
  opened : position_from test 0 xs ≡ cond (test (get_or xs i d)) (Some i) (position_from test (i + 1) (drop (i + 1) xs))
  opened = left ∙ ap (position_from test i) (drop_more xs i d lt)

  pub place_found : test (get_or xs i d) ≡ true → Some i ≡ position_from test 0 xs
  place_found e = sym (opened ∙ ap (λ b. cond b (Some i) (position_from test (i + 1) (drop (i + 1) xs))) e)

  pub place_later : test (get_or xs i d) ≡ false → position_from test 0 xs ≡ position_from test (i + 1) (drop (i + 1) xs)
  place_later e = opened ∙ ap (λ b. cond b (Some i) (position_from test (i + 1) (drop (i + 1) xs))) e

pub changed_more : (earlier files : List SourceFile) (d : SourceFile) (i : ℕ) → i < length files → changed earlier (drop i files) ≡ cond (is_as_before earlier (get_or files i d)) 0 1 + changed earlier (drop (i + 1) files)
changed_more earlier files d i lt = ap (changed earlier) (drop_more files i d lt)

pub changed_few : (earlier files : List SourceFile) → changed earlier files ≤ length files
changed_few earlier [] = omega arith
changed_few earlier (file ∷ files) = let h = changed_few earlier files in let k = one_most (is_as_before earlier file) in omega (arith, h, k)
  where
    one_most : (b : Bool) → cond b 0 1 ≤ 1
    one_most true = omega arith
    one_most false = omega arith
