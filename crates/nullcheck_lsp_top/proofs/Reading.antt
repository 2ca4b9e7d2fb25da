-- Files that are read one after the other, and warnings.
use Rattle.std.proofs.Common.{◌≡◌, ℕ, ◌+◌, ◌<◌, take, get_or, ◌++◌, List, [], ◌∷◌, length, map, Option, Some, None, inl, inr, refl, sym, ap, ◌∙◌, subst, append_assoc, append-nil}
use Rattle.std.specs.Prelude.{filter, not, replicate}
use Rattle.std.proofs.lemmas.List.{map-append, map_more}
use Rattle.std.proofs.lemmas.List.Elements.{filter-append}
use Rattle.jn_outside.specs.Files.{Holding}
use Rattle.jn_front.specs.declared.source.SourceFile.{SourceFile}
use Rattle.jn_lsp.specs.Stand.{spaces}
use Rattle.jn_lsp_text.specs.declared.reply.Reply.TheVariants.{Show}
use Rattle.nullcheck_lsp_top.specs.Reading.{AreRead, IsText, ReadsMore, Source, file_of, is_among, shows, warnings_of}

pub spaces_are : (n : ℕ) (text : List ℕ) → text ≡ replicate n 32 → text ≡ spaces n
unfolding spaces
spaces_are n text e = e

-- ---- files

pub read_none : (held : Option Holding) (s : Source) → AreRead held [] s s [] []
read_none held s = (refl, refl, refl)

read_both : (held : Option Holding) (xs ys : List (List ℕ)) (s t u : Source) (f g : List SourceFile) (l m : List (List ℕ)) → AreRead held xs s t f l → AreRead held ys t u g m → AreRead held (xs ++ ys) s u (f ++ g) (l ++ m)
read_both held [] ys s t u f g l m (same, no_files, none_lost) b =
    subst (λ (fs : List SourceFile). AreRead held ys s u (fs ++ g) (l ++ m)) (sym no_files)
    (subst (λ (ls : List (List ℕ)). AreRead held ys s u g (ls ++ m)) (sym none_lost)
    (subst (λ (v : Source). AreRead held ys v u g m) same b))
read_both held (x ∷ xs) ys s t u f g l m (inl (mid, text, others, is, files, rest)) b =
    inl (mid, text, others ++ g, is, ap (λ (fs : List SourceFile). fs ++ g) files, read_both held xs ys mid t u others g l m rest b)
read_both held (x ∷ xs) ys s t u f g l m (inr (mid, others, is, lost, rest)) b =
    inr (mid, others ++ m, is, ap (λ (ls : List (List ℕ)). ls ++ m) lost, read_both held xs ys mid t u f g others m rest b)

pub read_more : (held : Option Holding) (xs ys : List (List ℕ)) (s t u : Source) (f g : List SourceFile) (l m : List (List ℕ)) → AreRead held xs s t f l → ReadsMore held ys t u f g l m → AreRead held (xs ++ ys) s u g m
read_more held xs ys s t u f g l m a b =
    subst (λ (fs : List SourceFile). AreRead held (xs ++ ys) s u fs m) (sym b.files)
    (subst (λ (ls : List (List ℕ)). AreRead held (xs ++ ys) s u (f ++ b.added) ls) (sym b.missed)
    (read_both held xs ys s t u f b.added l b.lost a b.read))

-- a file more was read
pub reads_text : (held : Option Holding) (name text : List ℕ) (s t : Source) (f g : List SourceFile) (l : List (List ℕ)) → IsText held name s t (Some text) → g ≡ f ++ file_of name text ∷ [] → ReadsMore held (name ∷ []) s t f g l l
reads_text held name text s t f g l is files = record {
  added = file_of name text ∷ [];
  lost = [];
  read = inl (t, text, [], is, refl, (refl, refl, refl));
  files = files;
  missed = sym (append-nil l);
}

-- it was lost
pub reads_lost : (held : Option Holding) (name : List ℕ) (s t : Source) (f : List SourceFile) (l m : List (List ℕ)) → IsText held name s t None → m ≡ l ++ name ∷ [] → ReadsMore held (name ∷ []) s t f f l m
reads_lost held name s t f l m is lost = record {
  added = [];
  lost = name ∷ [];
  read = inr (t, [], is, refl, (refl, refl, refl));
  files = sym (append-nil f);
  missed = lost;
}

-- ---- warnings

pub shows_both : (shown xs ys : List (List ℕ)) → shows shown (xs ++ ys) ≡ shows shown xs ++ shows shown ys
shows_both shown xs ys = ap (map Show) (filter-append (λ words. not (is_among shown words)) xs ys) ∙ map-append Show (filter (λ words. not (is_among shown words)) xs) (filter (λ words. not (is_among shown words)) ys)

-- a warning more
pub warned_more : (f : List ℕ → List ℕ) (paths : List (List ℕ)) (i : ℕ) (path words : List ℕ) (start before after : List (List ℕ)) → i < length paths → path ≡ get_or paths i path → before ≡ start ++ map f (take i paths) → after ≡ before ++ words ∷ [] → words ≡ f path → after ≡ start ++ map f (take (i + 1) paths)
warned_more f paths i path words start before after lt item so pushed is =
    pushed
    ∙ ap (λ l. l ++ words ∷ []) so
    ∙ append_assoc start (map f (take i paths)) (words ∷ [])
    ∙ ap (λ w. start ++ (map f (take i paths) ++ w ∷ [])) (is ∙ ap f item)
    ∙ ap (λ l. start ++ l) (sym (map_more f paths i path lt))

pub warned_by : (words : List (List ℕ)) (count many : ℕ) (listed missed strange unnamed read lost : List (List ℕ)) → words ≡ warnings_of count listed strange read → count ≡ many → listed ≡ missed → strange ≡ unnamed → read ≡ lost → words ≡ warnings_of many missed unnamed lost
warned_by words count many listed missed strange unnamed read lost is e f s h =
    is ∙ ap (λ n. warnings_of n listed strange read) e ∙ ap (λ l. warnings_of many l strange read) f ∙ ap (λ l. warnings_of many missed l read) s ∙ ap (warnings_of many missed unnamed) h
