-- Files that were read, and what is put of them one by one.
use Rattle.std.proofs.Common.{◌≡◌, ℕ, zero, suc, ◌+◌, ◌<◌, ◌⊎◌, inl, inr, List, [], ◌∷◌, ◌++◌, length, Some, refl, sym, ap, ◌∙◌, subst, length-append}
use Rattle.std.specs.Prelude.{get_or, slice_get}
use Rattle.std.proofs.lemmas.List.{get_or_append_left, get_or_push}
use Rattle.jn_front.specs.declared.source.SourceFile.{SourceFile}
use Rattle.jn_front.specs.declared.source.SourceRead.{SourceRead}
use Rattle.jn_front.specs.Files.{files_of_reads}
use Rattle.jn_kept_trees.proofs.Placing.{before_or_at}
use Rattle.jn_kept_trees.proofs.Ways.{below_length, none_is_some, same_some}

pub read_file : (reads : List SourceRead) (n : ℕ) (read : SourceRead) → slice_get reads n ≡ Some read → slice_get (files_of_reads reads) n ≡ Some read.file
read_file [] n read e = absurd (none_is_some read e)
read_file (first ∷ reads) zero read e = ap (λ (r : SourceRead). Some r.file) (same_some first read e)
read_file (first ∷ reads) (suc n) read e = read_file reads n read e

pub as_many : (reads : List SourceRead) → length (files_of_reads reads) ≡ length reads
as_many [] = refl
as_many (read ∷ reads) = ap suc (as_many reads)

pub inside : (reads : List SourceRead) (n : ℕ) (file : SourceFile) → slice_get (files_of_reads reads) n ≡ Some file → n < length reads
inside reads n file e = subst (λ m. n < m) (as_many reads) (below_length (files_of_reads reads) n file e)

-- what holds of each that was put so far, and of one more
pub one_more : {A : Type 0} (d : A) (P : ℕ → A → Type 0) (items after : List A) (one : A) (at : ℕ) → length items ≡ at → after ≡ items ++ one ∷ [] → ((n : ℕ) → n < at → P n (get_or items n d)) → P at one → (n : ℕ) → n < at + 1 → P n (get_or after n d)
one_more d P items after one at long put so here n lt = go (before_or_at n at lt)
  where
    go : (n < at) ⊎ (n ≡ at) → P n (get_or after n d)
    go (inl below) = subst (P n) (sym (ap (λ ks. get_or ks n d) put ∙ get_or_append_left items (one ∷ []) d n (subst (λ m. n < m) (sym long) below))) (so n below)
    go (inr same) = subst (λ m. P m (get_or after m d)) (sym same) (subst (P at) (sym (ap (λ ks. get_or ks at d) put ∙ get_or_push items one d at long)) here)

pub more_long : {A : Type 0} (items after : List A) (one : A) (at : ℕ) → length items ≡ at → after ≡ items ++ one ∷ [] → length after ≡ at + 1
more_long items after one at long put = ap length put ∙ length-append items (one ∷ []) ∙ ap (λ n. n + 1) long
