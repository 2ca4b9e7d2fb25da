-- The sources of files, cut at a file.
use Rattle.std.proofs.Common.{◌≡◌, ℕ, zero, suc, ◌+◌, ◌-◌, ◌<◌, ◌≤◌, List, [], ◌∷◌, ◌++◌, length, take, drop, Option, Some, None, slice_get, flat_map, refl, sym, ap, ◌∙◌, arith, append-nil}
use Rattle.std.proofs.lemmas.List.{length-append}
use Rattle.std.proofs.lemmas.Grind.{flat_map-append}
use Rattle.std.proofs.lemmas.Option.{none-some, same_Some}
use Rattle.jn_places.specs.Placed.{PlacedFile}
use Rattle.jn_lowering.specs.Bodies.{Source}
use Rattle.jn_program_law.specs.FileSources.{BodyTree, body_trees, numbered, sources, type_trees, types_of, unwritten_tree}
use Rattle.jn_program.specs.declared.sources.Start.{Start}
use Rattle.jn_program.specs.Starts.{IsStart}

-- ---- lists

module _ {A : Type 0} where
  cut_at : (xs : List A) (n : ℕ) (x : A) → slice_get xs n ≡ Some x → xs ≡ take n xs ++ x ∷ drop (suc n) xs
  cut_at [] n x e = absurd (none-some x e)
  cut_at (y ∷ xs) zero x e = λ i. same_Some y x e i ∷ xs
  cut_at (y ∷ xs) (suc n) x e = ap (λ l. y ∷ l) (cut_at xs n x e)

  taken_more : (xs : List A) (n : ℕ) (x : A) → slice_get xs n ≡ Some x → take (suc n) xs ≡ take n xs ++ x ∷ []
  taken_more [] n x e = absurd (none-some x e)
  taken_more (y ∷ xs) zero x e = λ i. same_Some y x e i ∷ []
  taken_more (y ∷ xs) (suc n) x e = ap (λ l. y ∷ l) (taken_more xs n x e)

  within : (ys zs : List A) (k : ℕ) → k < length ys → slice_get (ys ++ zs) k ≡ slice_get ys k
  within [] zs k l = absurd (omega arith)
  within (y ∷ ys) zs zero l = refl
  within (y ∷ ys) zs (suc k) l = within ys zs k (omega arith)

  -- what stands in the middle of a list
  in_middle : (xs ys zs : List A) (k : ℕ) → length xs ≤ k → k < length xs + length ys → slice_get (xs ++ (ys ++ zs)) k ≡ slice_get ys (k - length xs)
  in_middle [] ys zs k above below = within ys zs k (omega arith) ∙ ap (slice_get ys) (let same : k ≡ k - 0 = omega arith in same)
  in_middle (x ∷ xs) ys zs zero above below = absurd (omega arith)
  in_middle (x ∷ xs) ys zs (suc k) above below = in_middle xs ys zs k (omega arith) (omega arith) ∙ ap (slice_get ys) (let same : k - length xs ≡ suc k - suc (length xs) = omega arith in same)

-- ---- sources

numbered_append : (m : ℕ) (xs ys : List (Option BodyTree)) → numbered m (xs ++ ys) ≡ numbered m xs ++ numbered (m + length xs) ys
numbered_append m [] ys = let same : m ≡ m + 0 = omega arith in ap (λ n. numbered n ys) same
numbered_append m (None ∷ xs) ys = let same : suc m + length xs ≡ m + suc (length xs) = omega arith in numbered_append (suc m) xs ys ∙ ap (λ n. numbered (suc m) xs ++ numbered n ys) same
numbered_append m (Some t ∷ xs) ys =
    let same : suc m + length xs ≡ m + suc (length xs) = omega arith in
    ap (λ (l : List Source). record { method = m; parameters = t.parameters; body = t.body; members = t.members } ∷ l) (numbered_append (suc m) xs ys ∙ ap (λ n. numbered (suc m) xs ++ numbered n ys) same)

-- the trees of the bodies of a file
file_trees : PlacedFile → List (Option BodyTree)
file_trees file = flat_map type_trees file.types

-- those of several
later : List PlacedFile → List (Option BodyTree)
later files = flat_map type_trees (types_of files)

later_more : (file : PlacedFile) (files : List PlacedFile) → later (file ∷ files) ≡ file_trees file ++ later files
unfolding later file_trees
later_more file files = flat_map-append type_trees file.types (types_of files)

later_none : later [] ≡ []
unfolding later
later_none = refl

trees_append : (fs gs : List PlacedFile) → body_trees (fs ++ gs) ≡ body_trees fs ++ later gs
unfolding later
trees_append fs gs = ap (λ l. unwritten_tree [] ∷ l) (ap (flat_map type_trees) (flat_map-append (λ (f : PlacedFile). f.types) fs gs) ∙ flat_map-append type_trees (types_of fs) (types_of gs))

-- the sources of files, and of those after them, whose methods are numbered after
sources_append : (fs gs : List PlacedFile) → sources (fs ++ gs) ≡ sources fs ++ numbered (length (body_trees fs)) (later gs)
sources_append fs gs =
    let same : 0 + length (body_trees fs) ≡ length (body_trees fs) = omega arith in
    ap (numbered 0) (trees_append fs gs) ∙ numbered_append 0 (body_trees fs) (later gs) ∙ ap (λ n. sources fs ++ numbered n (later gs)) same

module _ (files : List PlacedFile) (n : ℕ) (file : PlacedFile) (here : slice_get files n ≡ Some file) where
  before : List PlacedFile
  before = take n files

  -- the sources of the file
  middle : List Source
  middle = numbered (length (body_trees before)) (file_trees file)

  behind : List Source
  behind = numbered (length (body_trees before) + length (file_trees file)) (later (drop (suc n) files))

  cut : sources files ≡ sources before ++ (middle ++ behind)
  unfolding before middle behind
  cut = ap sources (cut_at files n file here) ∙ sources_append (take n files) (file ∷ drop (suc n) files)
      ∙ ap (λ l. sources (take n files) ++ numbered (length (body_trees (take n files))) l) (later_more file (drop (suc n) files))
      ∙ ap (λ l. sources (take n files) ++ l) (numbered_append (length (body_trees (take n files))) (file_trees file) (later (drop (suc n) files)))

  up_to : sources (take (suc n) files) ≡ sources before ++ middle
  unfolding before middle
  up_to = ap sources (taken_more files n file here) ∙ sources_append (take n files) (file ∷ [])
      ∙ ap (λ l. sources (take n files) ++ numbered (length (body_trees (take n files))) l) (later_more file [] ∙ ap (λ l. file_trees file ++ l) later_none ∙ append-nil (file_trees file))

  -- between the numbers at which the file begins and ends stand its sources, which depend on those numbers and its tree alone
  pub source_of_file : (from to : Start) (b : ℕ) → IsStart files n from → IsStart files (suc n) to → from.body ≤ b → b < to.body → slice_get (sources files) b ≡ slice_get (numbered from.method (flat_map type_trees file.types)) (b - from.body)
  unfolding before middle file_trees
  source_of_file from to b start end above below =
      let long : length (sources (take (suc n) files)) ≡ length (sources before) + length middle = ap length up_to ∙ length-append (sources before) middle in
      ap (λ l. slice_get l b) cut ∙ in_middle (sources before) middle behind b (omega (arith, start.1, above)) (omega (arith, end.1, below, long))
      ∙ (λ i. slice_get (numbered (sym start.0 i) (flat_map type_trees file.types)) (b - sym start.1 i))
