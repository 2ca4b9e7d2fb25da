-- What the walk over a file's members adds to the list of words.
use Rattle.std.proofs.Common.{◌≡◌, ℕ, suc, ◌+◌, Bool, true, false, cond, List, ◌∷◌, ◌++◌, length, ap, ◌∙◌, sym, append_assoc, arith}
use Rattle.std.specs.Prelude.{drop, take}
use Rattle.jn_points.specs.declared.program.Method.{Method}
use Rattle.std.proofs.lemmas.List.{length-map}
use Rattle.jn_trees.specs.declared.statement.Declarator.{Declarator}
use Rattle.jn_trees.specs.View.{declarator_view, declarator_views}
use Rattle.jn_points.specs.declared.program.Field.{Field}
use Rattle.jn_quals.specs.Qualifier.{Qualifier}
use Rattle.jn_points.specs.declared.program.Program.{Program}
use Rattle.jn_annotate.specs.Shared.{off_slot, off_slots}
use Rattle.jn_splice_law.specs.Inserted.{Insertion}
use Rattle.jn_annotate.specs.Insertions.{unwritten}
use Rattle.jn_annotate.proofs.Cursors.{drop_twice}

-- one part after the other
pub two_parts : (old one two a b : List Insertion) → one ≡ old ++ a → two ≡ one ++ b → two ≡ old ++ (a ++ b)
two_parts old one two a b h k = k ∙ ap (λ x. x ++ b) h ∙ append_assoc old a b

-- how many constructors are not written
abbrev pub missing : Bool → ℕ
missing b = cond b 0 1

-- a class without a written constructor has one after its methods
pub class_methods : (methods rest : List Method) (n m : ℕ) (b : Bool) → rest ≡ drop n methods → m ≡ missing b → cond b rest (drop 1 rest) ≡ drop (n + m) methods
class_methods methods rest n m true h k = h ∙ ap (λ j. drop j methods) (let e : n ≡ n + 0 = omega arith in e) ∙ ap (λ j. drop (n + j) methods) (sym k)
class_methods methods rest n m false h k = ap (drop 1) h ∙ sym (drop_twice n 1 methods) ∙ ap (λ j. drop (n + j) methods) (sym k)

-- what is left of a list is put after its next part
pub next_part : (old one a rest whole : List Insertion) → one ≡ old ++ a → old ++ (a ++ rest) ≡ whole → one ++ rest ≡ whole
next_part old one a rest whole h k = ap (λ x. x ++ rest) h ∙ append_assoc old a rest ∙ k

-- whether a constructor is among the members
pub none_more : (c n : ℕ) → c ≡ 0 → unwritten (c + n) ≡ unwritten n
none_more c n h = ap unwritten (omega (arith, h))

pub some_more : (c n : ℕ) → c ≡ 1 → unwritten (c + n) ≡ 0
some_more c n h = ap unwritten (let e : c + n ≡ suc n = omega (arith, h) in e)

-- the same of slots
pub next_slots : (old one a rest whole : List ℕ) → one ≡ old ++ a → old ++ (a ++ rest) ≡ whole → one ++ rest ≡ whole
next_slots old one a rest whole h k = ap (λ x. x ++ rest) h ∙ append_assoc old a rest ∙ k

-- the first field of a declaration and as many more
pub more_fields : (P : Program) (s : List Qualifier) (q : Qualifier) (f : Field) (fs : List Field) (n : ℕ) (old one two : List ℕ) → one ≡ old ++ off_slot P s q f.slot → two ≡ one ++ off_slots P s q (take n fs) → two ≡ old ++ off_slots P s q (take (1 + n) (f ∷ fs))
more_fields P s q f fs n old one two h k =
    k ∙ ap (λ x. x ++ off_slots P s q (take n fs)) h ∙ append_assoc old (off_slot P s q f.slot) (off_slots P s q (take n fs))
    ∙ ap (λ m. old ++ off_slots P s q (take m (f ∷ fs))) (let e : suc n ≡ 1 + n = omega arith in e)

-- four parts of a text, put one after the other
pub four_parts : (a b c d x y z w : List ℕ) → x ≡ a → y ≡ x ++ b → z ≡ y ++ c → w ≡ z ++ d → w ≡ a ++ (b ++ (c ++ d))
four_parts a b c d x y z w e f g h =
    h ∙ ap (λ t. t ++ d) (g ∙ ap (λ t. t ++ c) (f ∙ ap (λ t. t ++ b) e)) ∙ append_assoc (a ++ b) c d ∙ append_assoc a b (c ++ d)

-- a declaration's fields, by how many more of them it has
pub declared_long : (ds : List Declarator) → length (declarator_views ds) ≡ length ds
declared_long ds = length-map ds declarator_view

pub field_drop : (fields rest new : List Field) (ds : List Declarator) (n : ℕ) → rest ≡ drop 1 fields → n ≡ length ds → new ≡ drop n rest → new ≡ drop (1 + length (declarator_views ds)) fields
field_drop fields rest new ds n e f g = g ∙ ap (drop n) e ∙ sym (drop_twice 1 n fields) ∙ ap (λ m. drop (1 + m) fields) (f ∙ sym (declared_long ds))

pub same_declared : (P : Program) (s : List Qualifier) (q : Qualifier) (fs : List Field) (old new : List ℕ) (ds : List Declarator) (n : ℕ) → n ≡ length ds → new ≡ old ++ off_slots P s q (take (1 + n) fs) → new ≡ old ++ off_slots P s q (take (1 + length (declarator_views ds)) fs)
same_declared P s q fs old new ds n e f = f ∙ ap (λ m. old ++ off_slots P s q (take (1 + m) fs)) (e ∙ sym (declared_long ds))
