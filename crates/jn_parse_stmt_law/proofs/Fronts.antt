-- Annotations, marks, type uses and parameters: what is read spells the front, and what is spelled is read.
use Rattle.std.proofs.Common.{◌≡◌, List, [], ◌∷◌, ◌++◌, refl, sym, ap, ◌∙◌, append_assoc, Option, Some, None, Bool, true, false, cond}
use Rattle.jn_base.specs.declared.number.NameNo.{NameNo}
use Rattle.jn_trees.specs.declared.token.TokenKind.{TokenKind}
use Rattle.jn_trees.specs.declared.token.TokenKind.TheVariants.{Id, Final, Int, Boolean, LeftBracket, RightBracket, At}
use Rattle.jn_trees.specs.Trees.{BaseTree, ClassBase, IntBase, BooleanBase, LocalMark, AnnotationMark, FinalMark, TypeUseTree, ParameterTree}
use Rattle.jn_trees.specs.Spelling.{base_token, spell_annotations, spell_marks, spell_brackets, spell_type_use, spell_parameter}
use Rattle.jn_trees.specs.WellFormed.{final_once}
use Rattle.jn_parse_expr_law.specs.Reader.{add_annotation, base_of}
use Rattle.jn_parse_expr_law.proofs.Sound.{annotations_spell}
use Rattle.jn_parse_stmt_law.specs.Parts.{Behind, Read, then_read, put, read_annotations, read_marks, brackets_or, read_brackets, use_of, type_use_from, read_type_use, named, parameter_from, read_parameter}
use Rattle.jn_parse_stmt_law.specs.Fronts.{starts_annotation, starts_mark, starts_brackets, Spelled, SpelledIfRead, SoundParameter}

-- annotations
no_annotation : (rest : List TokenKind) → starts_annotation rest ≡ false → read_annotations rest ≡ ([], rest)
no_annotation (At ∷ ts) h = cc
no_annotation _ h = refl

pub annotations_exact : (names : List NameNo) (rest : List TokenKind) → starts_annotation rest ≡ false → read_annotations (spell_annotations names ++ rest) ≡ (names, rest)
annotations_exact [] rest h = no_annotation rest h
annotations_exact (n ∷ names) rest h = ap (λ r. add_annotation n r) (annotations_exact names rest h)

-- marks
pub marks_spell : (ts : List TokenKind) → Spelled spell_marks ts (read_marks ts)
marks_spell (At ∷ Id n ∷ ts) = ap (λ x. At ∷ Id n ∷ x) (marks_spell ts)
marks_spell (Final ∷ ts) = ap (λ x. Final ∷ x) (marks_spell ts)
marks_spell _ = refl

no_mark : (rest : List TokenKind) → starts_mark rest ≡ false → read_marks rest ≡ ([], rest)
no_mark (At ∷ ts) h = cc
no_mark (Final ∷ ts) h = cc
no_mark _ h = refl

pub marks_exact : (marks : List LocalMark) (rest : List TokenKind) → starts_mark rest ≡ false → read_marks (spell_marks marks ++ rest) ≡ (marks, rest)
marks_exact [] rest h = no_mark rest h
marks_exact (AnnotationMark n ∷ marks) rest h = ap (λ r. put (AnnotationMark n) r) (marks_exact marks rest h)
marks_exact (FinalMark ∷ marks) rest h = ap (λ r. put FinalMark r) (marks_exact marks rest h)

-- type uses
brackets_spell : (us : List TokenKind) (names : List NameNo) (ts : List TokenKind) → us ≡ spell_annotations names ++ ts → Spelled spell_brackets us (brackets_or us names ts)
brackets_spell us names (LeftBracket ∷ RightBracket ∷ ts) h = h ∙ sym (append_assoc (spell_annotations names) (LeftBracket ∷ RightBracket ∷ []) ts)
brackets_spell us names _ h = refl

base_spells : (k : TokenKind) (ts : List TokenKind) → SpelledIfRead spell_type_use (k ∷ ts) (type_use_from (base_of k) ts)
base_spells (Id n) ts = ap (λ x. Id n ∷ x) (brackets_spell ts (read_annotations ts).0 (read_annotations ts).1 (annotations_spell ts))
base_spells Int ts = ap (λ x. Int ∷ x) (brackets_spell ts (read_annotations ts).0 (read_annotations ts).1 (annotations_spell ts))
base_spells Boolean ts = ap (λ x. Boolean ∷ x) (brackets_spell ts (read_annotations ts).0 (read_annotations ts).1 (annotations_spell ts))
base_spells _ ts = tt

pub type_use_spells : (ts : List TokenKind) → SpelledIfRead spell_type_use ts (read_type_use ts)
type_use_spells [] = tt
type_use_spells (k ∷ ts) = base_spells k ts

no_brackets : (rest : List TokenKind) → starts_brackets rest ≡ false → read_brackets rest ≡ (None, rest)
no_brackets (At ∷ ts) h = cc
no_brackets (LeftBracket ∷ ts) h = cc
no_brackets _ h = refl

brackets_exact : (array : Option (List NameNo)) (rest : List TokenKind) → starts_brackets rest ≡ false → read_brackets (spell_brackets array ++ rest) ≡ (array, rest)
brackets_exact None rest h = no_brackets rest h
brackets_exact (Some names) rest h =
    let us = (spell_annotations names ++ LeftBracket ∷ RightBracket ∷ []) ++ rest in
    ap (λ (r : Behind (List NameNo)). brackets_or us r.0 r.1)
    (ap read_annotations (append_assoc (spell_annotations names) (LeftBracket ∷ RightBracket ∷ []) rest) ∙ annotations_exact names (LeftBracket ∷ RightBracket ∷ rest) refl)

base_is : (b : BaseTree) → base_of (base_token b) ≡ Some b
base_is (ClassBase n) = refl
base_is IntBase = refl
base_is BooleanBase = refl

pub type_use_exact : (u : TypeUseTree) (rest : List TokenKind) → starts_brackets rest ≡ false → read_type_use (spell_type_use u ++ rest) ≡ Some (u, rest)
type_use_exact u rest h =
    ap (λ o. type_use_from o (spell_brackets u.array ++ rest)) (base_is u.base) ∙ ap (λ r. Some (use_of u.base r)) (brackets_exact u.array rest h)

-- parameters
named_sound : (us : List TokenKind) (marks : List LocalMark) → final_once marks ≡ true → (u : TypeUseTree) (ts : List TokenKind) → us ≡ spell_marks marks ++ (spell_type_use u ++ ts) → SoundParameter us (named marks u ts)
named_sound us marks once u (Id n ∷ ts) h =
    (h ∙ sym (append_assoc (spell_marks marks) (spell_type_use u ++ Id n ∷ []) ts ∙ ap (λ x. spell_marks marks ++ x) (append_assoc (spell_type_use u) (Id n ∷ []) ts)), once)
named_sound us marks once u _ h = tt

then_named : (us : List TokenKind) (marks : List LocalMark) → final_once marks ≡ true → (ts : List TokenKind) → us ≡ spell_marks marks ++ ts → (o : Read TypeUseTree) → SpelledIfRead spell_type_use ts o → SoundParameter us (then_read o (named marks))
then_named us marks once ts h None k = tt
then_named us marks once ts h (Some r) k = named_sound us marks once r.0 r.1 (h ∙ ap (λ x. spell_marks marks ++ x) k)

checked_sound : (us : List TokenKind) (marks : List LocalMark) (ts : List TokenKind) → us ≡ spell_marks marks ++ ts → (b : Bool) → final_once marks ≡ b → SoundParameter us (cond b (then_read (read_type_use ts) (named marks)) None)
checked_sound us marks ts h true once = then_named us marks once ts h (read_type_use ts) (type_use_spells ts)
checked_sound us marks ts h false once = tt

pub parameter_sound : (ts : List TokenKind) → SoundParameter ts (read_parameter ts)
parameter_sound ts = checked_sound ts (read_marks ts).0 (read_marks ts).1 (marks_spell ts) (final_once (read_marks ts).0) refl

no_mark_before : (u : TypeUseTree) (rest : List TokenKind) → starts_mark (spell_type_use u ++ rest) ≡ false
no_mark_before u rest = base_quiet u.base (spell_brackets u.array ++ rest)
  where
    base_quiet : (b : BaseTree) (ts : List TokenKind) → starts_mark (base_token b ∷ ts) ≡ false
    base_quiet (ClassBase n) ts = refl
    base_quiet IntBase ts = refl
    base_quiet BooleanBase ts = refl

pub parameter_exact : (p : ParameterTree) (rest : List TokenKind) → final_once p.marks ≡ true → read_parameter (spell_parameter p ++ rest) ≡ Some (p, rest)
parameter_exact p rest once =
    let us = Id p.name ∷ rest in
    ap read_parameter (append_assoc (spell_marks p.marks) (spell_type_use p.type_use ++ Id p.name ∷ []) rest ∙ ap (λ x. spell_marks p.marks ++ x) (append_assoc (spell_type_use p.type_use) (Id p.name ∷ []) rest))
    ∙ ap (λ (r : Behind (List LocalMark)). parameter_from r.0 r.1) (marks_exact p.marks (spell_type_use p.type_use ++ us) (no_mark_before p.type_use us))
    ∙ ap (λ b. cond b (then_read (read_type_use (spell_type_use p.type_use ++ us)) (named p.marks)) None) once
    ∙ ap (λ o. then_read o (named p.marks)) (type_use_exact p.type_use us refl)
