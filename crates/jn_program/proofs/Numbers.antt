-- Numbers of bodies.
use Rattle.std.proofs.Common.{◌≡◌, ◌<◌, ◌+◌, ◌∙◌, ℕ, suc, false, ◌||◌, cond, drop, get_or, length, map, List, [], ◌∷◌, ◌++◌, Option, Some, None, refl, sym, ap, append_assoc, append-nil}
use Rattle.std.specs.Prelude.{flat_map}
use Rattle.std.proofs.lemmas.List.{drop_more}
use Rattle.jn_trees.specs.declared.declaration.TypeTree.{TypeTree}
use Rattle.jn_trees.specs.declared.declaration.FileTree.{FileTree}
use Rattle.jn_places.specs.Placed.{PlacedMember, PlacedFieldMember, PlacedMethod, PlacedConstructor, PlacedType}
use Rattle.jn_places.specs.PlacedView.{placed_file, placed_type}
use Rattle.jn_heads.specs.declared.head.MethodHead.{MethodHead}
use Rattle.jn_heads.specs.Extract.{has_constructor, method_heads}
use Rattle.jn_lowering.specs.Bodies as spec
use Rattle.jn_program_law.specs.FileSources.{BodyTree, members_trees, numbered, type_trees, types_of, unwritten_tree}
use Rattle.jn_lower_stmt.specs.declared.body.Source.{Source}
use Rattle.jn_lower_stmt.specs.Sources.{source_of, sources_of}
use Rattle.jn_program.specs.Gathering.{Numbered, behind, class_trees, gathered}

-- those after the others
pub gathered_append : (n : Numbered) (ts us : List (Option BodyTree)) → gathered n (ts ++ us) ≡ gathered (gathered n ts) us
gathered_append n [] us = refl
gathered_append n (t ∷ ts) us = gathered_append (behind n t) ts us

-- they are numbered from the next number on
pub gathered_sources : (n : Numbered) (ts : List (Option BodyTree)) → (gathered n ts).sources ≡ n.sources ++ numbered n.next ts
gathered_sources n [] = sym (append-nil n.sources)
gathered_sources n (None ∷ ts) = gathered_sources (behind n None) ts
gathered_sources n (Some t ∷ ts) =
    let s : spec.Source = record { method = n.next; parameters = t.parameters; body = t.body; members = t.members } in
    gathered_sources (behind n (Some t)) ts ∙ append_assoc n.sources (s ∷ []) (numbered (suc n.next) ts)

-- one more source
pub sources_more : (ss : List Source) (s : Source) → sources_of (ss ++ s ∷ []) ≡ sources_of ss ++ source_of s ∷ []
sources_more [] s = refl
sources_more (x ∷ ss) s = ap (λ us. source_of x ∷ us) (sources_more ss s)

-- one more member
pub constructor_more : (x : PlacedMember) (ms : List MethodHead) → has_constructor (method_heads false x ++ ms) ≡ (has_constructor (method_heads false x) || has_constructor ms)
constructor_more (PlacedFieldMember marks u d ds span) ms = refl
constructor_more (PlacedMethod marks result n receiver ps body span) ms = refl
constructor_more (PlacedConstructor marks n ps body span) ms = refl

-- a constructor that isn't written stands after the members
pub unwritten_more : (n k m : Numbered) (ms : List PlacedMember) → k ≡ gathered n (members_trees false ms ms) → has_constructor (flat_map (method_heads false) ms) ≡ false → m ≡ gathered k (unwritten_tree ms ∷ []) → m ≡ gathered n (class_trees ms)
unwritten_more n k m ms first none last =
    last ∙ ap (λ x. gathered x (unwritten_tree ms ∷ [])) first
    ∙ sym (gathered_append n (members_trees false ms ms) (unwritten_tree ms ∷ []))
    ∙ sym (ap (λ b. gathered n (cond b (members_trees false ms ms) (members_trees false ms ms ++ unwritten_tree ms ∷ []))) none)

-- one more type
pub type_more : (n k m : Numbered) (ts : List TypeTree) (i : ℕ) (t : TypeTree) → i < length ts → t ≡ get_or ts i t → k ≡ gathered n (type_trees (placed_type t)) → gathered n (flat_map type_trees (map placed_type (drop i ts))) ≡ m → gathered k (flat_map type_trees (map placed_type (drop (i + 1) ts))) ≡ m
type_more n k m ts i t lt is one h =
    ap (λ x. gathered x (flat_map type_trees (map placed_type (drop (i + 1) ts)))) one
    ∙ sym (gathered_append n (type_trees (placed_type t)) (flat_map type_trees (map placed_type (drop (i + 1) ts))))
    ∙ sym (ap (λ xs. gathered n (flat_map type_trees (map placed_type xs))) (drop_more ts i t lt ∙ ap (λ x. x ∷ drop (i + 1) ts) (sym is)))
    ∙ h

-- the trees of types after others
pub trees_append : (xs ys : List PlacedType) → flat_map type_trees (xs ++ ys) ≡ flat_map type_trees xs ++ flat_map type_trees ys
trees_append [] ys = refl
trees_append (x ∷ xs) ys = ap (λ r. type_trees x ++ r) (trees_append xs ys) ∙ sym (append_assoc (type_trees x) (flat_map type_trees xs) (flat_map type_trees ys))

-- one more file
pub file_more : (n k m : Numbered) (fs : List FileTree) (i : ℕ) (f : FileTree) → i < length fs → f ≡ get_or fs i f → k ≡ gathered n (flat_map type_trees (map placed_type f.types.items)) → gathered n (flat_map type_trees (types_of (map placed_file (drop i fs)))) ≡ m → gathered k (flat_map type_trees (types_of (map placed_file (drop (i + 1) fs)))) ≡ m
file_more n k m fs i f lt is one h =
    ap (λ x. gathered x (flat_map type_trees (types_of (map placed_file (drop (i + 1) fs))))) one
    ∙ sym (gathered_append n (flat_map type_trees (map placed_type f.types.items)) (flat_map type_trees (types_of (map placed_file (drop (i + 1) fs)))))
    ∙ sym (ap (gathered n) (trees_append (map placed_type f.types.items) (types_of (map placed_file (drop (i + 1) fs)))))
    ∙ sym (ap (λ xs. gathered n (flat_map type_trees (types_of (map placed_file xs)))) (drop_more fs i f lt ∙ ap (λ x. x ∷ drop (i + 1) fs) (sym is)))
    ∙ h

-- Object's constructor is the first
pub all_sources : (n k m : Numbered) (rest : List (Option BodyTree)) → n ≡ record { sources = []; next = 0 } → k ≡ gathered n (unwritten_tree [] ∷ []) → m ≡ gathered k rest → m.sources ≡ numbered 0 (unwritten_tree [] ∷ rest)
all_sources n k m rest none first last =
    ap (λ (x : Numbered). x.sources) (last ∙ ap (λ x. gathered x rest) (first ∙ ap (λ x. gathered x (unwritten_tree [] ∷ [])) none))
    ∙ gathered_sources (gathered (record { sources = []; next = 0 }) (unwritten_tree [] ∷ [])) rest
