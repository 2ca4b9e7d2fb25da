-- Annotations where an inferred slot had none break no rule: each has a meaning there, and is the one of its kind (rows J5).
use Rattle.std.proofs.Common.{◌≡◌, ℕ, Bool, true, false, not, cond, ◌&&◌, ◌||◌, List, [], ◌∷◌, ◌++◌, Option, Some, None, refl, sym, ap, ◌∙◌, subst}
use Rattle.std.specs.Prelude.{map, eqb}
use Rattle.std.proofs.lemmas.Bool.{false≢true, true≢false, or_parts, or_from}
use Rattle.std.proofs.lemmas.List.{append-nil}
use Rattle.jn_base.specs.declared.code.Code.TheVariants.{J5}
use Rattle.jn_base.specs.declared.place.Row.{Row}
use Rattle.jn_base.specs.declared.place.Span.{Span}
use Rattle.jn_base.specs.declared.number.NameNo.{NameNo}
use Rattle.jn_quals.specs.Qualifier.{Qualifier}
use Rattle.jn_quals.specs.Order.{no_qual}
use Rattle.jn_known.specs.Known.{non_null_name, nullable_name, initialized_name, under_name, unknown_name, monotonic_name}
use Rattle.jn_points.specs.Members.{some_of}
use Rattle.jn_points.specs.declared.program.SlotInfo.{SlotInfo}
use Rattle.jn_trees.specs.declared.token.Token.{Token}
use Rattle.jn_trees.specs.declared.expression.Annotation.{Annotation}
use Rattle.jn_trees.specs.Trees.{BaseTree, ClassBase, IntBase, BooleanBase, TypeUseTree, LocalMark, FinalMark, AnnotationMark, Mark, NoteMark, PublicMark, ProtectedMark, PrivateMark, StaticMark, ConstantMark, AbstractMark}
use Rattle.jn_trees.specs.Spelling.{spell_mark}
use Rattle.jn_places.specs.Places.{behind, place_base, place_type_use, place_marks, place_local_marks, spell_local_mark, place_annotations, spell_annotation}
use Rattle.jn_heads.specs.declared.head.Notes.{Notes}
use Rattle.jn_heads.specs.Types.{is_written, slot_of}
use Rattle.jn_classtable.specs.Table.{slot_at}
use Rattle.jn_heads.specs.Extract.{notes_by}
use Rattle.jn_lowering.specs.Annotations.{Allowed, row, when, both_kinds, nullity_alone, of_field, is_of_nullity, is_initialization, is_allowed, some_named, doubled, not_allowed, annotation_rows, type_rows}
use Rattle.jn_lowering.specs.Bases.{is_class_use}
use Rattle.jn_lowering.specs.Locals.{annotations_of}
use Rattle.jn_lowering.specs.FileRows.{initialization_alone, notes_of}
use Rattle.jn_annotate.specs.Words.{initialization_name}
use Rattle.jn_annotate.specs.Insertions.{inferred_qual}
use Rattle.jn_annotate_law.specs.Trees.{nullity_names, both_names, leading, noted_use}
use Rattle.jn_places_law.proofs.Sent.{Each, each_append}
use Rattle.jn_annotate_law.proofs.Positions.{Stands, counts, stands_open}

-- ---- annotations by their numbers

pub no_rows_left : (xs ys : List Row) → xs ++ ys ≡ [] → xs ≡ []
no_rows_left [] ys e = refl
no_rows_left (x ∷ xs) ys e = absurd cc

pub no_rows_right : (xs ys : List Row) → xs ++ ys ≡ [] → ys ≡ []
no_rows_right [] ys e = e
no_rows_right (x ∷ xs) ys e = absurd cc

pub no_rows_both : (xs ys : List Row) → xs ≡ [] → ys ≡ [] → xs ++ ys ≡ []
no_rows_both xs ys e f = ap (λ z. z ++ ys) e ∙ f

abbrev pub numbers : List Annotation → List ℕ
numbers [] = []
numbers (a ∷ as') = a.name.0 ∷ numbers as'

-- no second one of the kind stands after the first
abbrev pub once : (ℕ → Bool) → List ℕ → Bool
once kind [] = true
once kind (n ∷ ns) = cond (kind n) (not (some_of kind ns)) (once kind ns)

pub record Clear (allowed : Allowed) (reference : Bool) (ns : List ℕ) : Type 0 where
  pub allow : Each (λ n. is_allowed allowed reference n ≡ true) ns
  pub nullity : once is_of_nullity ns ≡ true
  pub initialization : once is_initialization ns ≡ true

some_numbers : (kind : ℕ → Bool) (xs : List Annotation) → some_named kind xs ≡ some_of kind (numbers xs)
some_numbers kind [] = refl
some_numbers kind (a ∷ xs) = ap (λ b. kind a.name.0 || b) (some_numbers kind xs)

when_none : (b : Bool) (at : Span) → when b (row J5 at) ≡ [] → b ≡ false
when_none true at e = absurd cc
when_none false at e = refl

none_when : (b : Bool) (at : Span) → b ≡ false → when b (row J5 at) ≡ []
none_when true at e = absurd (true≢false e)
none_when false at e = refl

not_true : (b : Bool) → not b ≡ false → b ≡ true
not_true true e = refl
not_true false e = absurd (true≢false e)

not_false : (b : Bool) → b ≡ true → not b ≡ false
not_false true e = refl
not_false false e = absurd (false≢true e)

not_is_true : (b : Bool) → not b ≡ true → b ≡ false
not_is_true true e = absurd (false≢true e)
not_is_true false e = refl

false_not : (b : Bool) → b ≡ false → not b ≡ true
false_not true e = absurd (true≢false e)
false_not false e = refl

allow_of : (a : Allowed) (r : Bool) (xs : List Annotation) → not_allowed a r xs ≡ [] → Each (λ n. is_allowed a r n ≡ true) (numbers xs)
allow_of a r [] e = tt
allow_of a r (x ∷ xs) e =
    let here : List Row = when (not (is_allowed a r x.name.0)) (row J5 x.span) in
    (not_true (is_allowed a r x.name.0) (when_none (not (is_allowed a r x.name.0)) x.span (no_rows_left here (not_allowed a r xs) e)), allow_of a r xs (no_rows_right here (not_allowed a r xs) e))

of_allow : (a : Allowed) (r : Bool) (xs : List Annotation) → Each (λ n. is_allowed a r n ≡ true) (numbers xs) → not_allowed a r xs ≡ []
of_allow a r [] h = refl
of_allow a r (x ∷ xs) h = no_rows_both (when (not (is_allowed a r x.name.0)) (row J5 x.span)) (not_allowed a r xs) (none_when (not (is_allowed a r x.name.0)) x.span (not_false (is_allowed a r x.name.0) h.0)) (of_allow a r xs h.1)

once_of : (kind : ℕ → Bool) (xs : List Annotation) → doubled kind xs ≡ [] → once kind (numbers xs) ≡ true
once_of kind [] e = refl
once_of kind (x ∷ xs) e = go (kind x.name.0) (once_of kind xs) e
  where
    go : (b : Bool) → (doubled kind xs ≡ [] → once kind (numbers xs) ≡ true) → cond b (when (some_named kind xs) (row J5 x.span)) (doubled kind xs) ≡ [] → cond b (not (some_of kind (numbers xs))) (once kind (numbers xs)) ≡ true
    go true later e = false_not (some_of kind (numbers xs)) (sym (some_numbers kind xs) ∙ when_none (some_named kind xs) x.span e)
    go false later e = later e

of_once : (kind : ℕ → Bool) (xs : List Annotation) → once kind (numbers xs) ≡ true → doubled kind xs ≡ []
of_once kind [] e = refl
of_once kind (x ∷ xs) e = go (kind x.name.0) (of_once kind xs) e
  where
    go : (b : Bool) → (once kind (numbers xs) ≡ true → doubled kind xs ≡ []) → cond b (not (some_of kind (numbers xs))) (once kind (numbers xs)) ≡ true → cond b (when (some_named kind xs) (row J5 x.span)) (doubled kind xs) ≡ []
    go true later e = none_when (some_named kind xs) x.span (some_numbers kind xs ∙ not_is_true (some_of kind (numbers xs)) e)
    go false later e = later e

pub clear_of : (a : Allowed) (r : Bool) (xs : List Annotation) → annotation_rows a r xs ≡ [] → Clear a r (numbers xs)
clear_of a r xs e =
    let more : List Row = doubled is_of_nullity xs ++ doubled is_initialization xs in
    let f = no_rows_right (not_allowed a r xs) more e in
    record {
      allow = allow_of a r xs (no_rows_left (not_allowed a r xs) more e);
      nullity = once_of is_of_nullity xs (no_rows_left (doubled is_of_nullity xs) (doubled is_initialization xs) f);
      initialization = once_of is_initialization xs (no_rows_right (doubled is_of_nullity xs) (doubled is_initialization xs) f);
    }

pub of_clear : (a : Allowed) (r : Bool) (xs : List Annotation) → Clear a r (numbers xs) → annotation_rows a r xs ≡ []
of_clear a r xs h =
    no_rows_both (not_allowed a r xs) (doubled is_of_nullity xs ++ doubled is_initialization xs) (of_allow a r xs h.allow)
    (no_rows_both (doubled is_of_nullity xs) (doubled is_initialization xs) (of_once is_of_nullity xs h.nullity) (of_once is_initialization xs h.initialization))

-- ---- more annotations

once_append : (kind : ℕ → Bool) (ns ms : List ℕ) → some_of kind ns ≡ false → once kind ms ≡ true → once kind (ns ++ ms) ≡ true
once_append kind [] ms e h = h
once_append kind (n ∷ ns) ms e h =
    let p = or_parts (kind n) (some_of kind ns) e in
    ap (λ b. cond b (not (some_of kind (ns ++ ms))) (once kind (ns ++ ms))) p.0 ∙ once_append kind ns ms p.1 h

abbrev pub notes_in : List ℕ → Notes
notes_in ns = notes_by (λ n. some_of (λ m. eqb m n) ns)

some_either : (f g : ℕ → Bool) (ns : List ℕ) → some_of f ns ≡ false → some_of g ns ≡ false → some_of (λ n. f n || g n) ns ≡ false
some_either f g [] a b = refl
some_either f g (n ∷ ns) a b =
    let p = or_parts (f n) (some_of f ns) a in
    let q = or_parts (g n) (some_of g ns) b in
    or_from (f n || g n) (some_of (λ n. f n || g n) ns) (or_from (f n) (g n) p.0 q.0) (some_either f g ns p.1 q.1)

-- where none of the six stands, no one is of a kind
pub none_of_a_kind : (ns : List ℕ) → is_written (notes_in ns) ≡ false → (some_of is_of_nullity ns ≡ false) × (some_of is_initialization ns ≡ false)
none_of_a_kind ns h =
    let has : ℕ → Bool = λ n. some_of (λ m. eqb m n) ns in
    let p5 = or_parts (has non_null_name || has nullable_name || has initialized_name || has under_name || has unknown_name) (has monotonic_name) h in
    let p4 = or_parts (has non_null_name || has nullable_name || has initialized_name || has under_name) (has unknown_name) p5.0 in
    let p3 = or_parts (has non_null_name || has nullable_name || has initialized_name) (has under_name) p4.0 in
    let p2 = or_parts (has non_null_name || has nullable_name) (has initialized_name) p3.0 in
    let p1 = or_parts (has non_null_name) (has nullable_name) p2.0 in (
      some_either (λ n. eqb n non_null_name || eqb n nullable_name) (λ n. eqb n monotonic_name) ns (some_either (λ n. eqb n non_null_name) (λ n. eqb n nullable_name) ns p1.0 p1.1) p5.1,
      some_either (λ n. eqb n initialized_name) (λ n. eqb n under_name || eqb n unknown_name) ns p2.1 (some_either (λ n. eqb n under_name) (λ n. eqb n unknown_name) ns p3.1 p4.1),
    )

pub clear_more : (a : Allowed) (r : Bool) (ns ms : List ℕ) → Clear a r ns → is_written (notes_in ns) ≡ false → Clear a r ms → Clear a r (ns ++ ms)
clear_more a r ns ms h w k =
    let none = none_of_a_kind ns w in
    record {
      allow = each_append (λ n. is_allowed a r n ≡ true) ns ms h.allow k.allow;
      nullity = once_append is_of_nullity ns ms none.0 k.nullity;
      initialization = once_append is_initialization ns ms none.1 k.initialization;
    }

-- ---- the names of a qualifier

abbrev pub name_numbers : List NameNo → List ℕ
name_numbers [] = []
name_numbers (n ∷ ns) = n.0 ∷ name_numbers ns

both_of : (n c f : Bool) → let q : Qualifier = record { null = n; committed = c; free = f } in Clear both_kinds true (name_numbers (both_names q))
both_of true true true = record { allow = (refl, (refl, tt)); nullity = refl; initialization = refl }
both_of true true false = record { allow = (refl, (refl, tt)); nullity = refl; initialization = refl }
both_of true false true = record { allow = (refl, (refl, tt)); nullity = refl; initialization = refl }
both_of true false false = record { allow = (refl, (refl, tt)); nullity = refl; initialization = refl }
both_of false true true = record { allow = (refl, (refl, tt)); nullity = refl; initialization = refl }
both_of false true false = record { allow = (refl, (refl, tt)); nullity = refl; initialization = refl }
both_of false false true = record { allow = (refl, (refl, tt)); nullity = refl; initialization = refl }
both_of false false false = record { allow = (refl, (refl, tt)); nullity = refl; initialization = refl }

nullity_of : (n c f : Bool) → let q : Qualifier = record { null = n; committed = c; free = f } in Clear of_field true (name_numbers (nullity_names q))
nullity_of true c f = record { allow = (refl, tt); nullity = refl; initialization = refl }
nullity_of false c f = record { allow = (refl, tt); nullity = refl; initialization = refl }

initialization_of : (n c f : Bool) → let q : Qualifier = record { null = n; committed = c; free = f } in Clear initialization_alone true (name_numbers (initialization_name q ∷ []))
initialization_of n true true = record { allow = (refl, tt); nullity = refl; initialization = refl }
initialization_of n true false = record { allow = (refl, tt); nullity = refl; initialization = refl }
initialization_of n false true = record { allow = (refl, tt); nullity = refl; initialization = refl }
initialization_of n false false = record { allow = (refl, tt); nullity = refl; initialization = refl }

pub both_clear : (q : Qualifier) → Clear both_kinds true (name_numbers (both_names q))
both_clear q = both_of q.null q.committed q.free

pub nullity_clear : (q : Qualifier) → Clear of_field true (name_numbers (nullity_names q))
nullity_clear q = nullity_of q.null q.committed q.free

pub initialization_clear : (q : Qualifier) → Clear initialization_alone true (name_numbers (initialization_name q ∷ []))
initialization_clear q = initialization_of q.null q.committed q.free

-- ---- placed annotations

pub numbers_append : (xs ys : List NameNo) → name_numbers (xs ++ ys) ≡ name_numbers xs ++ name_numbers ys
numbers_append [] ys = refl
numbers_append (x ∷ xs) ys = ap (λ z. x.0 ∷ z) (numbers_append xs ys)

pub annotations_numbers : (ts : List Token) (ns : List NameNo) → numbers (place_annotations ts ns) ≡ name_numbers ns
annotations_numbers ts [] = refl
annotations_numbers ts (n ∷ ns) = ap (λ z. n.0 ∷ z) (annotations_numbers (behind ts (spell_annotation n)) ns)

abbrev pub mark_numbers : List Mark → List ℕ
mark_numbers [] = []
mark_numbers (NoteMark n ∷ ms) = n.0 ∷ mark_numbers ms
mark_numbers (m ∷ ms) = mark_numbers ms

pub marks_numbers : (ts : List Token) (ms : List Mark) → numbers (notes_of (place_marks ts ms)) ≡ mark_numbers ms
marks_numbers ts [] = refl
marks_numbers ts (NoteMark n ∷ ms) = ap (λ z. n.0 ∷ z) (marks_numbers (behind ts (spell_mark (NoteMark n))) ms)
marks_numbers ts (PublicMark ∷ ms) = marks_numbers (behind ts (spell_mark PublicMark)) ms
marks_numbers ts (ProtectedMark ∷ ms) = marks_numbers (behind ts (spell_mark ProtectedMark)) ms
marks_numbers ts (PrivateMark ∷ ms) = marks_numbers (behind ts (spell_mark PrivateMark)) ms
marks_numbers ts (StaticMark ∷ ms) = marks_numbers (behind ts (spell_mark StaticMark)) ms
marks_numbers ts (ConstantMark ∷ ms) = marks_numbers (behind ts (spell_mark ConstantMark)) ms
marks_numbers ts (AbstractMark ∷ ms) = marks_numbers (behind ts (spell_mark AbstractMark)) ms

pub marks_more : (ms : List Mark) (names : List NameNo) → mark_numbers (ms ++ map NoteMark names) ≡ mark_numbers ms ++ name_numbers names
marks_more [] [] = refl
marks_more [] (n ∷ names) = ap (λ z. n.0 ∷ z) (marks_more [] names)
marks_more (NoteMark n ∷ ms) names = ap (λ z. n.0 ∷ z) (marks_more ms names)
marks_more (PublicMark ∷ ms) names = marks_more ms names
marks_more (ProtectedMark ∷ ms) names = marks_more ms names
marks_more (PrivateMark ∷ ms) names = marks_more ms names
marks_more (StaticMark ∷ ms) names = marks_more ms names
marks_more (ConstantMark ∷ ms) names = marks_more ms names
marks_more (AbstractMark ∷ ms) names = marks_more ms names

abbrev pub local_numbers : List LocalMark → List ℕ
local_numbers [] = []
local_numbers (AnnotationMark n ∷ ms) = n.0 ∷ local_numbers ms
local_numbers (m ∷ ms) = local_numbers ms

pub locals_numbers : (ts : List Token) (ms : List LocalMark) → numbers (annotations_of (place_local_marks ts ms)) ≡ local_numbers ms
locals_numbers ts [] = refl
locals_numbers ts (AnnotationMark n ∷ ms) = ap (λ z. n.0 ∷ z) (locals_numbers (behind ts (spell_local_mark (AnnotationMark n))) ms)
locals_numbers ts (FinalMark ∷ ms) = locals_numbers (behind ts (spell_local_mark FinalMark)) ms

pub locals_more : (ms : List LocalMark) (names : List NameNo) → local_numbers (ms ++ map AnnotationMark names) ≡ local_numbers ms ++ name_numbers names
locals_more [] [] = refl
locals_more [] (n ∷ names) = ap (λ z. n.0 ∷ z) (locals_more [] names)
locals_more (AnnotationMark n ∷ ms) names = ap (λ z. n.0 ∷ z) (locals_more ms names)
locals_more (FinalMark ∷ ms) names = locals_more ms names

-- ---- types

abbrev pub is_class_base : BaseTree → Bool
is_class_base (ClassBase n) = true
is_class_base b = false

pub class_use : (ts : List Token) (b : BaseTree) → is_class_use (place_base ts b) ≡ is_class_base b
class_use ts (ClassBase n) = refl
class_use ts IntBase = refl
class_use ts BooleanBase = refl

-- the position's own annotations, and whether it is of reference type
abbrev pub own : Option (List NameNo) → List ℕ → List ℕ
own None leading' = leading'
own (Some notes) leading' = name_numbers notes

abbrev pub is_reference : BaseTree → Option (List NameNo) → Bool
is_reference b None = is_class_base b
is_reference b (Some notes) = true

-- names stand only where nothing was written, on a reference, and have a meaning there
pub record Open (allowed : Allowed) (u : TypeUseTree) (before : List ℕ) (names : List NameNo) : Type 0 where
  pub reference : is_reference u.base u.array ≡ true
  pub unwritten : is_written (notes_in (own u.array before)) ≡ false
  pub clear : Clear allowed true (name_numbers names)

module _ (allowed : Allowed) (names : List NameNo) where
  typed : (base : BaseTree) (array : Option (List NameNo)) (ts us : List Token) (xs ys : List Annotation) → numbers ys ≡ numbers xs ++ name_numbers (leading names array) → is_reference base array ≡ true → is_written (notes_in (own array (numbers xs))) ≡ false → Clear allowed true (name_numbers names) → let u : TypeUseTree = record { base = base; array = array } in type_rows (place_type_use ts u) allowed xs ≡ [] → type_rows (place_type_use us (noted_use names u)) allowed ys ≡ []
  typed base None ts us xs ys more r w c e =
      let old = subst (λ b. Clear allowed b (numbers xs)) (class_use ts base ∙ r) (clear_of allowed (is_class_use (place_base ts base)) xs e) in
      of_clear allowed (is_class_use (place_base us base)) ys
      (subst (λ b. Clear allowed b (numbers ys)) (sym (class_use us base ∙ r)) (subst (Clear allowed true) (sym more) (clear_more allowed true (numbers xs) (name_numbers names) old w c)))
  typed base (Some notes) ts us xs ys more r w c e =
      let first : List Row = annotation_rows nullity_alone (is_class_use (place_base ts base)) xs in
      let second : List Row = annotation_rows allowed true (place_annotations _ notes) in
      let old = subst (Clear allowed true) (annotations_numbers _ notes) (clear_of allowed true (place_annotations _ notes) (no_rows_right first second e)) in
      let same = subst (λ b. Clear nullity_alone b (numbers xs)) (class_use ts base ∙ sym (class_use us base)) (clear_of nullity_alone (is_class_use (place_base ts base)) xs (no_rows_left first second e)) in
      no_rows_both (annotation_rows nullity_alone (is_class_use (place_base us base)) ys) (annotation_rows allowed true (place_annotations _ (notes ++ names)))
      (of_clear nullity_alone (is_class_use (place_base us base)) ys (subst (Clear nullity_alone (is_class_use (place_base us base))) (sym (more ∙ append-nil (numbers xs))) same))
      (of_clear allowed true (place_annotations _ (notes ++ names)) (subst (Clear allowed true) (sym (annotations_numbers _ (notes ++ names) ∙ numbers_append notes names)) (clear_more allowed true (name_numbers notes) (name_numbers names) old w c)))

  -- a type with the names of an inferred slot has no row more
  pub types_stay : (u : TypeUseTree) (ts us : List Token) (xs ys : List Annotation) → numbers ys ≡ numbers xs ++ name_numbers (leading names u.array) → Open allowed u (numbers xs) names → type_rows (place_type_use ts u) allowed xs ≡ [] → type_rows (place_type_use us (noted_use names u)) allowed ys ≡ []
  types_stay u ts us xs ys more o e = typed u.base u.array ts us xs ys more o.reference o.unwritten o.clear e

-- ---- slots

-- only a position of reference type on which nothing is written is inferred
pub opened : (slots : List SlotInfo) (s : List Qualifier) (b : Bool) (k : ℕ) (secret : Bool) (n : Notes) (w q : Qualifier) → Stands slots s k (cond b (slot_of secret n w ∷ []) []) → inferred_qual slots s (slot_at b k) ≡ Some q → (b ≡ true) × (is_written n ≡ false)
opened slots s false k secret n w q h e = absurd (let f : ◌≡◌ {A = Option Qualifier} None (Some q) = e in cc)
opened slots s true k secret n w q h e = (refl, go secret (is_written n) (stands_open slots s k (slot_of secret n w) h (counts slots s k q e).0))
  where
    go : (p x : Bool) → (cond {A = SlotInfo} (p && not x) (record { start = no_qual; inferred = true }) (record { start = w; inferred = false })).inferred ≡ true → x ≡ false
    go true true e = absurd (false≢true e)
    go true false e = refl
    go false x e = absurd (false≢true e)
