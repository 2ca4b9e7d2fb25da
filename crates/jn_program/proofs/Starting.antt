-- Where files begin.
use Rattle.std.proofs.Common.{◌≡◌, ℕ, zero, suc, ◌+◌, ◌<◌, ◌∙◌, List, [], ◌∷◌, ◌++◌, length, map, get_or, take, Some, None, Option, refl, sym, ap, subst, arith, append_assoc, append-nil}
use Rattle.std.specs.Prelude.{flat_map, slice_get}
use Rattle.std.proofs.lemmas.List.{length_push, map_more, take-map}
use Rattle.std.proofs.lemmas.Option.{none-some, same_Some}
use Rattle.jn_trees.specs.declared.declaration.FileTree.{FileTree}
use Rattle.jn_places.specs.Placed.{PlacedFile}
use Rattle.jn_places.specs.PlacedView.{placed_file, placed_type}
use Rattle.jn_lower_stmt.specs.declared.body.Source.{Source}
use Rattle.jn_lower_stmt.specs.Sources.{sources_of}
use Rattle.jn_program_law.specs.FileSources.{BodyTree, body_trees, type_trees, types_of, unwritten_tree}
use Rattle.jn_program.specs.declared.sources.Gathered.{Gathered}
use Rattle.jn_program.specs.declared.sources.Start.{Start}
use Rattle.jn_program.specs.Gathering.{Numbered, behind, gathered, numbered_of}
use Rattle.jn_program.specs.Starts.{IsStart}
use Rattle.jn_program.proofs.Numbers.{gathered_append, gathered_sources, trees_append}

-- nothing yet
abbrev pub none_yet : Numbered
none_yet = record { sources = []; next = 0 }

next_is : (n : Numbered) (ts : List (Option BodyTree)) → (gathered n ts).next ≡ n.next + length ts
next_is n [] = omega arith
next_is n (None ∷ ts) = let rest = next_is (behind n None) ts in omega (arith, rest)
next_is n (Some t ∷ ts) = let rest = next_is (behind n (Some t)) ts in omega (arith, rest)

sources_long : (ss : List Source) → length (sources_of ss) ≡ length ss
sources_long [] = refl
sources_long (s ∷ ss) = ap suc (sources_long ss)

-- what was gathered of the first n files
abbrev pub Gathers : List PlacedFile → ℕ → Gathered → Type 0
Gathers files n made = numbered_of made ≡ gathered none_yet (body_trees (take n files))

-- the next file begins after what was gathered
starts_there : (files : List PlacedFile) (n : ℕ) (made : Gathered) (start : Start) → Gathers files n made → start ≡ record { method = made.next; body = length made.sources.items } → IsStart files n start
starts_there files n made start h is =
    let ts = body_trees (take n files) in
    let method : start.method ≡ length ts = ap (λ (s : Start). s.method) is ∙ ap (λ (x : Numbered). x.next) h ∙ next_is none_yet ts ∙ omega arith in
    let body = ap (λ (s : Start). s.body) is ∙ sym (sources_long made.sources.items) ∙ ap (λ (x : Numbered). length x.sources) h ∙ ap length (gathered_sources none_yet ts) in
    (method, body)

types_append : (fs gs : List PlacedFile) → types_of (fs ++ gs) ≡ types_of fs ++ types_of gs
types_append [] gs = refl
types_append (f ∷ fs) gs = ap (λ ts. f.types ++ ts) (types_append fs gs) ∙ sym (append_assoc f.types (types_of fs) (types_of gs))

-- one file more
trees_more : (fs : List PlacedFile) (f : PlacedFile) → body_trees (fs ++ f ∷ []) ≡ body_trees fs ++ flat_map type_trees f.types
trees_more fs f =
    ap (λ ts. unwritten_tree [] ∷ flat_map type_trees ts) (types_append fs (f ∷ []))
    ∙ ap (λ ts. unwritten_tree [] ∷ ts) (trees_append (types_of fs) (f.types ++ []))
    ∙ ap (λ ts. body_trees fs ++ flat_map type_trees ts) (append-nil f.types)

pub gathers_more : (fs : List FileTree) (n : ℕ) (f : FileTree) (made next : Gathered) → n < length fs → f ≡ get_or fs n f → Gathers (map placed_file fs) n made → numbered_of next ≡ gathered (numbered_of made) (flat_map type_trees (map placed_type f.types.items)) → Gathers (map placed_file fs) (n + 1) next
gathers_more fs n f made next lt is h more =
    let files = map placed_file fs in
    let ts = flat_map type_trees (placed_file f).types in
    let front : take (n + 1) files ≡ take n files ++ placed_file f ∷ [] = take-map placed_file (n + 1) fs ∙ map_more placed_file fs n f lt ∙ ap (λ x. map placed_file (take n fs) ++ placed_file x ∷ []) (sym is) ∙ ap (λ xs. xs ++ placed_file f ∷ []) (sym (take-map placed_file n fs)) in
    more ∙ ap (λ x. gathered x ts) h ∙ sym (gathered_append none_yet (body_trees (take n files)) ts)
    ∙ ap (gathered none_yet) (sym (trees_more (take n files) (placed_file f)) ∙ ap body_trees (sym front))

-- what holds of the items, and of one after them, holds of all
each_more : (P : ℕ → Start → Type 0) (xs : List Start) (x : Start) → ((n : ℕ) (start : Start) → slice_get xs n ≡ Some start → P n start) → P (length xs) x → (n : ℕ) (start : Start) → slice_get (xs ++ x ∷ []) n ≡ Some start → P n start
each_more P [] x each last zero start there = subst (P 0) (same_Some x start there) last
each_more P [] x each last (suc n) start there = absurd (none-some start there)
each_more P (y ∷ xs) x each last zero start there = each 0 start there
each_more P (y ∷ xs) x each last (suc n) start there = each_more (λ k. P (suc k)) xs x (λ k. each (suc k)) last n start there

-- one start more
pub starts_more : (files : List PlacedFile) (n : ℕ) (made : Gathered) (starts more : List Start) (start : Start) → Gathers files n made → length starts ≡ n → ((k : ℕ) (s : Start) → slice_get starts k ≡ Some s → IsStart files k s) → start ≡ record { method = made.next; body = length made.sources.items } → more ≡ starts ++ start ∷ [] → (length more ≡ n + 1) × ((k : ℕ) (s : Start) → slice_get more k ≡ Some s → IsStart files k s)
starts_more files n made starts more start h many each is are =
    let last : IsStart files (length starts) start = subst (λ k. IsStart files k start) (sym many) (starts_there files n made start h is) in
    let long : length more ≡ n + 1 = ap length are ∙ omega (arith, many, length_push starts start) in
    let all : (k : ℕ) (s : Start) → slice_get more k ≡ Some s → IsStart files k s = λ k s there. each_more (IsStart files) starts start each last k s (ap (λ xs. slice_get xs k) (sym are) ∙ there) in
    (long, all)
