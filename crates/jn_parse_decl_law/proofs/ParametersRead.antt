-- Parameters are read, and only they.
use Rattle.std.proofs.Common.{◌≡◌, ℕ, zero, suc, ◌<◌, List, [], ◌∷◌, ◌++◌, length, refl, sym, ap, ◌∙◌, subst, arith, append_assoc, length-append, Option, Some, None, false}
use Rattle.jn_base.specs.declared.number.NameNo.{NameNo}
use Rattle.jn_trees.specs.declared.token.TokenKind.{TokenKind}
use Rattle.jn_trees.specs.declared.token.TokenKind.TheVariants.{Id, This, RightParen, Comma, At}
use Rattle.jn_trees.specs.Trees.{BaseTree, ClassBase, IntBase, BooleanBase, LocalMark, AnnotationMark, FinalMark, TypeUseTree, ParameterTree, ReceiverTree}
use Rattle.jn_trees.specs.Spelling.{base_token, spell_annotations, spell_marks, spell_brackets, spell_type_use, spell_parameter, spell_more_parameters, spell_parameters}
use Rattle.jn_parse_stmt_law.specs.Parts.{read_marks, read_type_use}
use Rattle.jn_parse_decl_law.specs.PieceReader.{TryParameters, TryAllParameters, after_type, add_parameter, parameter_end, parameter_from, more_parameters_from, read_more_parameters, annotation_names_of, class_of, receiver_of, without_receiver, with_receiver, first_end, read_parameters}
use Rattle.jn_parse_stmt_law.specs.Fronts.{SpelledIfRead, starts_mark, starts_brackets}
use Rattle.jn_parse_stmt_law.proofs.Fronts.{marks_spell, marks_exact, type_use_spells, type_use_exact}

pub after_use_sound : {A : Type 0} → (P : Option A → Type 0) (f : TypeUseTree → List TokenKind → Option A) (ts : List TokenKind) (o : Option (TypeUseTree × List TokenKind)) → P None → SpelledIfRead spell_type_use ts o → ((u : TypeUseTree) (us : List TokenKind) → ts ≡ spell_type_use u ++ us → P (f u us)) → P (after_type f o)
after_use_sound P f ts None n s h = n
after_use_sound P f ts (Some r) n s h = h r.0 r.1 s

abbrev IsFrom : List TokenKind → List ParameterTree → List TokenKind → Type 0
IsFrom ts [] us = ⊥
IsFrom ts (p ∷ ps) us = ts ≡ spell_parameter p ++ (spell_more_parameters ps ++ us)

abbrev SoundMore : List TokenKind → TryParameters → Type 0
SoundMore ts None = Unit {0}
SoundMore ts (Some r) = ts ≡ spell_more_parameters r.0 ++ r.1

abbrev SoundFrom : List TokenKind → TryParameters → Type 0
SoundFrom ts None = Unit {0}
SoundFrom ts (Some r) = IsFrom ts r.0 r.1

abbrev pub SoundAll : List TokenKind → TryAllParameters → Type 0
SoundAll ts None = Unit {0}
SoundAll ts (Some r) = ts ≡ spell_parameters r.0 r.1 ++ r.2

named_regroup : (a b : List TokenKind) (k : TokenKind) (ts : List TokenKind) → a ++ (b ++ k ∷ ts) ≡ (a ++ (b ++ k ∷ [])) ++ ts
named_regroup a b k ts = simp append_assoc

parameter_end_sound : (more : List TokenKind → TryParameters) → ((ts : List TokenKind) → SoundMore ts (more ts)) → (ms : List LocalMark) (u : TypeUseTree) (ts : List TokenKind) → SoundFrom (spell_marks ms ++ (spell_type_use u ++ ts)) (parameter_end more ms u ts)
parameter_end_sound more h ms u (Id n ∷ ts) =
    (elim (more ts) as (λ o. SoundMore ts o → SoundFrom (spell_marks ms ++ (spell_type_use u ++ Id n ∷ ts)) (add_parameter (record { marks = ms; type_use = u; name = n }) o)) [
      | None ↦ λ _. tt
      | Some r ↦ λ s. named_regroup (spell_marks ms) (spell_type_use u) (Id n) ts ∙ ap (λ x. (spell_marks ms ++ (spell_type_use u ++ Id n ∷ [])) ++ x) s
    ])
    (h ts)
parameter_end_sound more h ms u _ = tt

comma_spelled : (ts : List TokenKind) (ps : List ParameterTree) (us : List TokenKind) → IsFrom ts ps us → Comma ∷ ts ≡ spell_more_parameters ps ++ us
comma_spelled ts [] us h = absurd h
comma_spelled ts (p ∷ ps) us h = ap (λ x. Comma ∷ x) (h ∙ sym (append_assoc (spell_parameter p) (spell_more_parameters ps) us))

comma_sound : (ts : List TokenKind) (o : TryParameters) → SoundFrom ts o → SoundMore (Comma ∷ ts) o
comma_sound ts None s = tt
comma_sound ts (Some r) s = comma_spelled ts r.0 r.1 s

first_spelled : (ts : List TokenKind) (ps : List ParameterTree) (us : List TokenKind) → IsFrom ts ps us → ts ≡ spell_parameters None ps ++ us
first_spelled ts [] us h = absurd h
first_spelled ts (p ∷ ps) us h = h ∙ sym (append_assoc (spell_parameter p) (spell_more_parameters ps) us)

without_sound : (ts : List TokenKind) (o : TryParameters) → SoundFrom ts o → SoundAll ts (without_receiver o)
without_sound ts None s = tt
without_sound ts (Some r) s = first_spelled ts r.0 r.1 s

-- annotations alone
abbrev AreNames : List LocalMark → Option (List NameNo) → Type 0
AreNames ms None = Unit {0}
AreNames ms (Some ns) = spell_marks ms ≡ spell_annotations ns

are_names : (ms : List LocalMark) → AreNames ms (annotation_names_of ms)
are_names [] = refl
are_names (AnnotationMark n ∷ ms) =
    (elim (annotation_names_of ms) as (λ o. AreNames ms o → AreNames (AnnotationMark n ∷ ms) (elim o as (λ _. Option (List NameNo)) [ None ↦ None | Some ns ↦ Some (n ∷ ns) ]))
    [ None ↦ λ _. tt | Some ns ↦ λ h. ap (λ x. At ∷ Id n ∷ x) h ])
    (are_names ms)
are_names (FinalMark ∷ ms) = tt

abbrev IsClass : TypeUseTree → Option NameNo → Type 0
IsClass u None = Unit {0}
IsClass u (Some c) = spell_type_use u ≡ Id c ∷ []

is_class_by : (b : BaseTree) (a : Option (List NameNo)) → IsClass (record { base = b; array = a }) (class_of (record { base = b; array = a }))
is_class_by (ClassBase n) None = refl
is_class_by (ClassBase n) (Some ns) = tt
is_class_by IntBase a = tt
is_class_by BooleanBase a = tt

receiver_sound : (ms : List LocalMark) (u : TypeUseTree) (ts : List TokenKind) (o : Option (List NameNo)) (c : Option NameNo) (m : TryParameters) → AreNames ms o → IsClass u c → SoundMore ts m → SoundAll (spell_marks ms ++ (spell_type_use u ++ This ∷ ts)) (with_receiver (receiver_of o c) m)
receiver_sound ms u ts (Some ns) (Some c) (Some q) names class s =
    ap (λ x. x ++ (spell_type_use u ++ This ∷ ts)) names ∙ ap (λ x. spell_annotations ns ++ (x ++ This ∷ ts)) class ∙ ap (λ x. spell_annotations ns ++ Id c ∷ This ∷ x) s
    ∙ sym (append_assoc (spell_annotations ns) (Id c ∷ This ∷ spell_more_parameters q.0) q.1)
receiver_sound ms u ts (Some ns) (Some c) None names class s = tt
receiver_sound ms u ts (Some ns) None m names class s = tt
receiver_sound ms u ts None c m names class s = tt

parameter_from_sound : (more : List TokenKind → TryParameters) → ((ts : List TokenKind) → SoundMore ts (more ts)) → (ts : List TokenKind) → SoundFrom ts (parameter_from more ts)
parameter_from_sound more h ts =
    let q = read_marks ts in
    after_use_sound (SoundFrom ts) (parameter_end more q.0) q.1 (read_type_use q.1) tt (type_use_spells q.1)
    (λ u us e. subst (λ x. SoundFrom x (parameter_end more q.0 u us)) (sym (marks_spell ts ∙ ap (λ x. spell_marks q.0 ++ x) e)) (parameter_end_sound more h q.0 u us))

more_sound : (n : ℕ) (ts : List TokenKind) → SoundMore ts (more_parameters_from n ts)
more_sound zero ts = tt
more_sound (suc n) (RightParen ∷ ts) = refl
more_sound (suc n) (Comma ∷ ts) = comma_sound ts (parameter_from (more_parameters_from n) ts) (parameter_from_sound (more_parameters_from n) (more_sound n) ts)
more_sound (suc n) _ = tt

read_more_sound : (ts : List TokenKind) → SoundMore ts (read_more_parameters ts)
unfolding read_more_parameters
read_more_sound ts = more_sound (suc (length ts)) ts

first_end_sound : (ms : List LocalMark) (u : TypeUseTree) (ts : List TokenKind) → SoundAll (spell_marks ms ++ (spell_type_use u ++ ts)) (first_end ms u ts)
first_end_sound ms u (This ∷ ts) = receiver_sound ms u ts (annotation_names_of ms) (class_of u) (read_more_parameters ts) (are_names ms) (is_class_by u.base u.array) (read_more_sound ts)
first_end_sound ms u ts = without_sound (spell_marks ms ++ (spell_type_use u ++ ts)) (parameter_end read_more_parameters ms u ts) (parameter_end_sound read_more_parameters read_more_sound ms u ts)

first_sound : (ts : List TokenKind) → SoundAll ts (after_type (first_end (read_marks ts).0) (read_type_use (read_marks ts).1))
first_sound ts =
    let q = read_marks ts in
    after_use_sound (SoundAll ts) (first_end q.0) q.1 (read_type_use q.1) tt (type_use_spells q.1)
    (λ u us e. subst (λ x. SoundAll x (first_end q.0 u us)) (sym (marks_spell ts ∙ ap (λ x. spell_marks q.0 ++ x) e)) (first_end_sound q.0 u us))

pub parameters_sound : (ts : List TokenKind) → SoundAll ts (read_parameters ts)
parameters_sound (RightParen ∷ ts) = refl
parameters_sound ts = first_sound ts

-- and the other way
marks_end : (b : BaseTree) (us : List TokenKind) → starts_mark (base_token b ∷ us) ≡ false
marks_end (ClassBase n) us = refl
marks_end IntBase us = refl
marks_end BooleanBase us = refl

parameter_exact : (more : List TokenKind → TryParameters) (p : ParameterTree) (us : List TokenKind) → parameter_from more (spell_parameter p ++ us) ≡ add_parameter p (more us)
parameter_exact more p us =
    ap (parameter_from more) (sym (named_regroup (spell_marks p.marks) (spell_type_use p.type_use) (Id p.name) us))
    ∙ ap (λ (q : List LocalMark × List TokenKind). after_type (parameter_end more q.0) (read_type_use q.1)) (marks_exact p.marks (spell_type_use p.type_use ++ Id p.name ∷ us) (marks_end p.type_use.base (spell_brackets p.type_use.array ++ Id p.name ∷ us)))
    ∙ ap (λ o. after_type (parameter_end more p.marks) o) (type_use_exact p.type_use (Id p.name ∷ us) refl)

more_exact : (n : ℕ) (ps : List ParameterTree) (rest : List TokenKind) → length ps < n → more_parameters_from n (spell_more_parameters ps ++ rest) ≡ Some (ps, rest)
more_exact zero ps rest lt = absurd (omega (arith, lt))
more_exact (suc n) [] rest lt = refl
more_exact (suc n) (p ∷ ps) rest lt =
    ap (λ x. parameter_from (more_parameters_from n) x) (append_assoc (spell_parameter p) (spell_more_parameters ps) rest)
    ∙ parameter_exact (more_parameters_from n) p (spell_more_parameters ps ++ rest)
    ∙ ap (λ o. add_parameter p o) (more_exact n ps rest (omega (arith, lt)))

long_enough : (ps : List ParameterTree) → length ps < length (spell_more_parameters ps)
long_enough [] = omega arith
long_enough (p ∷ ps) = let ih = long_enough ps in omega (arith, ih, length-append (spell_parameter p) (spell_more_parameters ps))

read_more_exact : (ps : List ParameterTree) (rest : List TokenKind) → read_more_parameters (spell_more_parameters ps ++ rest) ≡ Some (ps, rest)
unfolding read_more_parameters
read_more_exact ps rest = more_exact (suc (length (spell_more_parameters ps ++ rest))) ps rest (omega (arith, long_enough ps, length-append (spell_more_parameters ps) rest))

abbrev first_at : List TokenKind → TryAllParameters
first_at ts = after_type (first_end (read_marks ts).0) (read_type_use (read_marks ts).1)

no_end : (ms : List LocalMark) (b : BaseTree) (us : List TokenKind) → read_parameters (spell_marks ms ++ base_token b ∷ us) ≡ first_at (spell_marks ms ++ base_token b ∷ us)
no_end [] (ClassBase n) us = refl
no_end [] IntBase us = refl
no_end [] BooleanBase us = refl
no_end (AnnotationMark n ∷ ms) b us = refl
no_end (FinalMark ∷ ms) b us = refl

abbrev notes : List NameNo → List LocalMark
notes [] = []
notes (n ∷ ns) = AnnotationMark n ∷ notes ns

spell_notes : (ns : List NameNo) → spell_annotations ns ≡ spell_marks (notes ns)
spell_notes [] = refl
spell_notes (n ∷ ns) = ap (λ x. At ∷ Id n ∷ x) (spell_notes ns)

names_of_notes : (ns : List NameNo) → annotation_names_of (notes ns) ≡ Some ns
names_of_notes [] = refl
names_of_notes (n ∷ ns) = ap (λ o. elim o as (λ _. Option (List NameNo)) [ None ↦ None | Some ms ↦ Some (n ∷ ms) ]) (names_of_notes ns)

-- the marks and the type in front
front_exact : (ms : List LocalMark) (u : TypeUseTree) (k : TokenKind) (us : List TokenKind) → starts_brackets (k ∷ us) ≡ false → read_parameters (spell_marks ms ++ (spell_type_use u ++ k ∷ us)) ≡ first_end ms u (k ∷ us)
front_exact ms u k us e =
    no_end ms u.base (spell_brackets u.array ++ k ∷ us)
    ∙ ap (λ (q : List LocalMark × List TokenKind). after_type (first_end q.0) (read_type_use q.1)) (marks_exact ms (spell_type_use u ++ k ∷ us) (marks_end u.base (spell_brackets u.array ++ k ∷ us)))
    ∙ ap (λ o. after_type (first_end ms) o) (type_use_exact u (k ∷ us) e)

pub parameters_exact : (r : Option ReceiverTree) (ps : List ParameterTree) (rest : List TokenKind) → read_parameters (spell_parameters r ps ++ rest) ≡ Some (r, ps, rest)
parameters_exact None [] rest = refl
parameters_exact None (p ∷ ps) rest =
    let more = spell_more_parameters ps ++ rest in
    ap read_parameters (append_assoc (spell_parameter p) (spell_more_parameters ps) rest ∙ sym (named_regroup (spell_marks p.marks) (spell_type_use p.type_use) (Id p.name) more))
    ∙ front_exact p.marks p.type_use (Id p.name) more refl
    ∙ ap (λ o. without_receiver (add_parameter p o)) (read_more_exact ps rest)
parameters_exact (Some r) ps rest =
    let more = spell_more_parameters ps ++ rest in
    let u : TypeUseTree = record { base = ClassBase r.class; array = None } in
    ap read_parameters (append_assoc (spell_annotations r.annotations) (Id r.class ∷ This ∷ spell_more_parameters ps) rest ∙ ap (λ x. x ++ Id r.class ∷ This ∷ more) (spell_notes r.annotations))
    ∙ front_exact (notes r.annotations) u This more refl
    ∙ ap (λ o. with_receiver (receiver_of o (Some r.class)) (read_more_parameters more)) (names_of_notes r.annotations)
    ∙ ap (λ o. with_receiver (Some r) o) (read_more_exact ps rest)
