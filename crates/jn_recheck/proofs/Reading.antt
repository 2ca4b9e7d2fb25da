-- Files that are read one after the other.
use Rattle.std.proofs.Common.{◌≡◌, ℕ, suc, ◌+◌, ◌<◌, List, [], ◌∷◌, ◌++◌, length, take, get_or, refl, sym, ap, subst}
use Rattle.std.proofs.lemmas.List.{take_more}
use Rattle.jn_front.specs.declared.source.SourceFile.{SourceFile}
use Rattle.jn_front.specs.declared.source.SourceRead.{SourceRead}
use Rattle.jn_front.specs.Files.{AreReads, IsReadOf}

reads_last : (reads : List SourceRead) (files : List SourceFile) (read : SourceRead) (file : SourceFile) → AreReads reads files → IsReadOf read file → AreReads (reads ++ read ∷ []) (files ++ file ∷ [])
reads_last [] [] read file are is = (is, tt)
reads_last [] (f ∷ fs) read file are is = absurd are
reads_last (r ∷ rs) [] read file are is = absurd are
reads_last (r ∷ rs) (f ∷ fs) read file are is = (are.0, reads_last rs fs read file are.1 is)

pub reads_more : (reads more : List SourceRead) (files : List SourceFile) (read : SourceRead) (d : SourceFile) (i : ℕ) → i < length files → AreReads reads (take i files) → IsReadOf read (get_or files i d) → more ≡ reads ++ read ∷ [] → AreReads more (take (i + 1) files)
reads_more reads more files read d i lt are is e =
    subst (λ fs. AreReads more fs) (sym (take_more files i d lt))
    (subst (λ rs. AreReads rs (take i files ++ get_or files i d ∷ [])) (sym e) (reads_last reads (take i files) read (get_or files i d) are is))

pub reads_long : (reads : List SourceRead) (files : List SourceFile) → AreReads reads files → length reads ≡ length files
reads_long [] [] are = refl
reads_long [] (f ∷ fs) are = absurd are
reads_long (r ∷ rs) [] are = absurd are
reads_long (r ∷ rs) (f ∷ fs) are = ap suc (reads_long rs fs are.1)
