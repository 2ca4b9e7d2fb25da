-- Members, types and files with the words of their inferred slots.
use Rattle.std.proofs.Common.{◌≡◌, ℕ, inl, inr, true, false, List, [], ◌∷◌, ◌++◌, refl, sym, ap, ◌∙◌, subst, append_assoc}
use Rattle.std.specs.Prelude.{drop, map, Option, Some, None, codes}
use Rattle.std.proofs.lemmas.List.{append-nil}
use Rattle.jn_base.specs.declared.number.NameNo.{NameNo}
use Rattle.jn_base.specs.declared.number.SlotNo.{SlotNo}
use Rattle.jn_quals.specs.Qualifier.{Qualifier}
use Rattle.jn_points.specs.declared.program.Field.{Field}
use Rattle.jn_points.specs.declared.program.Method.{Method}
use Rattle.jn_points.specs.declared.program.SlotInfo.{SlotInfo}
use Rattle.jn_trees.specs.Pieces.{kinds}
use Rattle.jn_trees.specs.declared.token.Token.{Token}
use Rattle.jn_trees.specs.declared.token.TokenKind.{TokenKind}
use Rattle.jn_trees.specs.declared.token.TokenKind.TheVariants.{Package as PackageWord, Id, At, Final, Void, This, Comma, Semicolon, LeftParen, RightParen, LeftBrace, RightBrace, Class, Interface, Implements, Extends}
use Rattle.jn_trees.specs.Trees.{TypeUseTree, LocalMark, AnnotationMark, FinalMark, Mark, NoteMark, ParameterTree, ReceiverTree, MemberTree, FieldMember, MethodMember, ConstructorMember, TypeDeclaration, ClassType, InterfaceType, DottedName, ImportTree, SourceTree}
use Rattle.jn_trees.specs.Spelling.{spell_annotations, spell_marks, spell_mark, spell_all_marks, spell_type_use, spell_declarator, spell_more_declarators, spell_parameter, spell_more_parameters, spell_parameters, spell_result, spell_method_head, spell_constructor_head, spell_method_body, spell_body, spell_field, spell_member, spell_members, spell_parent, spell_names, spell_type, spell_types, spell_dotted, spell_package, spell_package_line, spell_import, spell_imports, spell_file}
use Rattle.jn_places.specs.Places.{behind, front, spell_receiver}
use Rattle.jn_splice_law.specs.Inserted.{Insertion}
use Rattle.jn_splice_law.specs.Woven.{piece, Receiver, ImportLine, import_kinds, Keep, Put, put, woven, IsTokenAmong}
use Rattle.jn_annotate.specs.declared.imports.Package.{Package}
use Rattle.jn_annotate.specs.Imports.{import_line, import_of, line_end, put_line}
use Rattle.jn_annotate.specs.Words.{nullity_text, initialization_text, both_texts, initialization_name}
use Rattle.jn_annotate.specs.Insertions.{fields_in, methods_in, type_fields, type_methods, at_type, at_receiver, first_slot, inferred_qual, at_parameters, at_result, at_member, at_members, in_type, in_types, in_file}
use Rattle.jn_annotate.proofs.Cursors.{behind_append}
use Rattle.jn_annotate_law.specs.Trees.{nullity_names, both_names, names_of, leading, noted_use, noted_marks, noted_parameter, noted_receiver, noted_result, noted_result_marks, both_at, noted_parameters, noted_member, noted_members, noted_type, noted_types, noted_file, with_imports}
use Rattle.jn_annotate_law.proofs.Weaves.{taken, annotations_append, behind_kinds, Spells, Weave, weave_nil, weave_same, keep_one, before_type, typed, Part, part_same, keep_part, next}
use Rattle.jn_annotate_law.proofs.Notes.{HasKnown, line_end_is, line_is, line_kinds, notes_known, org_note, rest_notes, nullity_spells, init_spells, init_note, both_spells}

-- ---- spelling with more marks

marks_append : (ms ns : List Mark) → spell_all_marks (ms ++ ns) ≡ spell_all_marks ms ++ spell_all_marks ns
marks_append [] ns = refl
marks_append (m ∷ ms) ns = ap (λ x. spell_mark m ++ x) (marks_append ms ns) ∙ sym (append_assoc (spell_mark m) (spell_all_marks ms) (spell_all_marks ns))

note_marks : (ns : List NameNo) → spell_all_marks (map NoteMark ns) ≡ spell_annotations ns
note_marks [] = refl
note_marks (n ∷ ns) = ap (λ x. At ∷ Id n ∷ x) (note_marks ns)

noted_spelled : (names : List NameNo) (ms : List Mark) → spell_all_marks (ms ++ map NoteMark names) ≡ spell_all_marks ms ++ spell_annotations names
noted_spelled names ms = marks_append ms (map NoteMark names) ∙ ap (λ x. spell_all_marks ms ++ x) (note_marks names)

local_notes : (ns : List NameNo) → spell_marks (map AnnotationMark ns) ≡ spell_annotations ns
local_notes [] = refl
local_notes (n ∷ ns) = ap (λ x. At ∷ Id n ∷ x) (local_notes ns)

local_spelled : (names : List NameNo) (ms : List LocalMark) → spell_marks (ms ++ map AnnotationMark names) ≡ spell_marks ms ++ spell_annotations names
local_spelled names [] = local_notes names
local_spelled names (AnnotationMark m ∷ ms) = ap (λ x. At ∷ Id m ∷ x) (local_spelled names ms)
local_spelled names (FinalMark ∷ ms) = ap (λ x. Final ∷ x) (local_spelled names ms)

among_on : (t : Token) (before more : List Token) → IsTokenAmong t before → IsTokenAmong t (before ++ more)
among_on t [] more h = absurd h
among_on t (u ∷ before) more (inl e) = inl e
among_on t (u ∷ before) more (inr h) = inr (among_on t before more h)

among_last : (t : Token) (before : List Token) → IsTokenAmong t (before ++ t ∷ [])
among_last t [] = inl refl
among_last t (u ∷ before) = inr (among_last t before)

module _ (text : List ℕ) (old : List (List ℕ)) (known : HasKnown old) (slots : List SlotInfo) (s : List Qualifier) where
  -- ---- inside a class whose name's token is `ct`

  module _ (ct : Token) (cn : NameNo) (kind : ct.kind ≡ Id cn) where
    abbrev C : List Token → Type 0
    C before = IsTokenAmong ct before

    abbrev P : List TokenKind → (List Token → List Insertion) → List TokenKind → Type 0
    P sp is new = Part text old C sp is new

    k : (sp : List TokenKind) → P sp (λ ts. []) sp
    k sp = keep_part text old C sp

    n : (sp tp : List TokenKind) (is js : List Token → List Insertion) (new others : List TokenKind) → P sp is new → P tp js others → P (sp ++ tp) (λ ts. is ts ++ js (behind ts sp)) (new ++ others)
    n = next text old C (among_on ct)

    same : (sp tp : List TokenKind) (is js : List Token → List Insertion) (new others : List TokenKind) → sp ≡ tp → ((ts : List Token) → is ts ≡ js ts) → new ≡ others → P sp is new → P tp js others
    same = part_same text old C

    typed_part : (txt : Qualifier → List ℕ) (nms : Qualifier → List NameNo) (spells : (q : Qualifier) → Spells old txt nms q) (u : TypeUseTree) (q : Option Qualifier) → P (spell_type_use u) (λ ts. at_type txt ts u q) (spell_annotations (leading (names_of nms q) u.array) ++ spell_type_use (noted_use (names_of nms q) u))
    typed_part txt nms spells u q before ts ls others more h e w = typed text old txt nms spells u.base u.array q before ts more ls others e w

    -- marks and a type
    marked_part : (txt : Qualifier → List ℕ) (nms : Qualifier → List NameNo) (spells : (q : Qualifier) → Spells old txt nms q) (marks new : List TokenKind) (u : TypeUseTree) (q : Option Qualifier) → new ≡ marks ++ spell_annotations (leading (names_of nms q) u.array) → P (marks ++ spell_type_use u) (λ ts. at_type txt (behind ts marks) u q) (new ++ spell_type_use (noted_use (names_of nms q) u))
    marked_part txt nms spells marks new u q e =
        let notes : List TokenKind = spell_annotations (leading (names_of nms q) u.array) in
        let type' : List TokenKind = spell_type_use (noted_use (names_of nms q) u) in
        same (marks ++ spell_type_use u) (marks ++ spell_type_use u) (λ ts. at_type txt (behind ts marks) u q) (λ ts. at_type txt (behind ts marks) u q) (marks ++ (notes ++ type')) (new ++ type') refl (λ ts. refl)
        (sym (append_assoc marks notes type') ∙ ap (λ x. x ++ type') (sym e))
        (n marks (spell_type_use u) (λ ts. []) (λ ts. at_type txt ts u q) marks (notes ++ type') (k marks) (typed_part txt nms spells u q))

    -- a part and tokens after it
    ended : (sp new tail : List TokenKind) (is : List Token → List Insertion) → P sp is new → P (sp ++ tail) is (new ++ tail)
    ended sp new tail is f = same (sp ++ tail) (sp ++ tail) (λ ts. is ts ++ []) is (new ++ tail) (new ++ tail) refl (λ ts. append-nil (is ts)) refl (n sp tail is (λ ts. []) new tail f (k tail))

    -- ---- parameters

    parameter_part : (p : ParameterTree) (x : Option SlotNo) → P (spell_parameter p) (λ ts. at_type both_texts (behind ts (spell_marks p.marks)) p.type_use (inferred_qual slots s x)) (spell_parameter (noted_parameter (both_at slots s x) p))
    parameter_part p x =
        let q : Option Qualifier = inferred_qual slots s x in
        let names : List NameNo = names_of both_names q in
        let new : List TokenKind = spell_marks (p.marks ++ map AnnotationMark (leading names p.type_use.array)) in
        let type' : List TokenKind = spell_type_use (noted_use names p.type_use) in
        let tail : List TokenKind = Id p.name ∷ [] in
        same ((spell_marks p.marks ++ spell_type_use p.type_use) ++ tail) (spell_parameter p) (λ ts. at_type both_texts (behind ts (spell_marks p.marks)) p.type_use q) (λ ts. at_type both_texts (behind ts (spell_marks p.marks)) p.type_use q) ((new ++ type') ++ tail) (spell_parameter (noted_parameter names p))
        (append_assoc (spell_marks p.marks) (spell_type_use p.type_use) tail) (λ ts. refl) (append_assoc new type' tail)
        (ended (spell_marks p.marks ++ spell_type_use p.type_use) (new ++ type') tail (λ ts. at_type both_texts (behind ts (spell_marks p.marks)) p.type_use q)
        (marked_part both_texts both_names (both_spells old known) (spell_marks p.marks) new p.type_use q (local_spelled (leading names p.type_use.array) p.marks)))

    comma_first : (p : ParameterTree) (ps : List ParameterTree) (xs : List (Option SlotNo)) → Comma ∷ spell_parameters None (noted_parameters slots s (p ∷ ps) xs) ≡ spell_more_parameters (noted_parameters slots s (p ∷ ps) xs)
    comma_first p ps [] = refl
    comma_first p ps (x ∷ xs) = refl

    parameters_part : (p : ParameterTree) (ps : List ParameterTree) (xs : List (Option SlotNo)) → P (spell_parameters None (p ∷ ps)) (λ ts. at_parameters slots s ts (p ∷ ps) xs) (spell_parameters None (noted_parameters slots s (p ∷ ps) xs))
    parameters_part p ps [] = k (spell_parameters None (p ∷ ps))
    parameters_part p [] (x ∷ xs) = n (spell_parameter p) (RightParen ∷ []) (λ ts. at_type both_texts (behind ts (spell_marks p.marks)) p.type_use (inferred_qual slots s x)) (λ ts. []) (spell_parameter (noted_parameter (both_at slots s x) p)) (RightParen ∷ []) (parameter_part p x) (k (RightParen ∷ []))
    parameters_part p (r ∷ ps) (x ∷ xs) =
        let A : List Token → List Insertion = λ ts. at_type both_texts (behind ts (spell_marks p.marks)) p.type_use (inferred_qual slots s x) in
        let B : List Token → List Insertion = λ ts. at_parameters slots s ts (r ∷ ps) xs in
        let more : List TokenKind = spell_parameters None (noted_parameters slots s (r ∷ ps) xs) in
        let first : List TokenKind = spell_parameter (noted_parameter (both_at slots s x) p) in
        same (spell_parameter p ++ Comma ∷ spell_parameters None (r ∷ ps)) (spell_parameters None (p ∷ r ∷ ps)) (λ ts. A ts ++ B (drop 1 (behind ts (spell_parameter p)))) (λ ts. at_parameters slots s ts (p ∷ r ∷ ps) (x ∷ xs)) (first ++ Comma ∷ more) (spell_parameters None (noted_parameters slots s (p ∷ r ∷ ps) (x ∷ xs)))
        refl (λ ts. ap (λ y. A ts ++ B y) (sym (behind_append ts (spell_parameter p) (Comma ∷ [])))) (ap (λ y. first ++ y) (comma_first r ps xs))
        (n (spell_parameter p) (Comma ∷ spell_parameters None (r ∷ ps)) A (λ ts. B (drop 1 ts)) first (Comma ∷ more) (parameter_part p x)
        (n (Comma ∷ []) (spell_parameters None (r ∷ ps)) (λ ts. []) B (Comma ∷ []) more (k (Comma ∷ [])) (parameters_part r ps xs)))

    -- after a receiver
    more_part : (ps : List ParameterTree) (xs : List (Option SlotNo)) → P (spell_more_parameters ps) (λ ts. at_parameters slots s (drop 1 ts) ps xs) (spell_more_parameters (noted_parameters slots s ps xs))
    more_part [] xs = k (RightParen ∷ [])
    more_part (p ∷ ps) xs =
        same (Comma ∷ spell_parameters None (p ∷ ps)) (Comma ∷ spell_parameters None (p ∷ ps)) (λ ts. at_parameters slots s (drop 1 ts) (p ∷ ps) xs) (λ ts. at_parameters slots s (drop 1 ts) (p ∷ ps) xs) (Comma ∷ spell_parameters None (noted_parameters slots s (p ∷ ps) xs)) (spell_more_parameters (noted_parameters slots s (p ∷ ps) xs)) refl (λ ts. refl) (comma_first p ps xs)
        (n (Comma ∷ []) (spell_parameters None (p ∷ ps)) (λ ts. []) (λ ts. at_parameters slots s ts (p ∷ ps) xs) (Comma ∷ []) (spell_parameters None (noted_parameters slots s (p ∷ ps) xs)) (k (Comma ∷ [])) (parameters_part p ps xs))

    -- ---- receivers

    abbrev class_text : List ℕ
    class_text = piece text ct.span

    -- the words of a receiver that isn't named, after the parenthesis `t`
    put_more : (q : Qualifier) (before : List Token) (t : Token) (ts : List Token) (is : List Insertion) (ks : List TokenKind) → IsTokenAmong ct before → Weave text old (before ++ t ∷ []) ts is ks → Weave text old (before ++ t ∷ []) ts (record { at = t.span.to; words = initialization_text q ++ (class_text ++ codes " this, ") } ∷ is) (At ∷ Id (initialization_name q) ∷ Id cn ∷ This ∷ Comma ∷ ks)
    put_more q before t ts is ks h w =
        let i = init_note old known q in
        record {
          items = Put t.span.to (Receiver i.note ct true) ∷ w.items;
          kept_is = w.kept_is;
          put_is = ap (λ x. record { at = t.span.to; words = x ++ (class_text ++ codes " this, ") } ∷ put text w.items) (sym i.text_is) ∙ ap (λ x. record { at = t.span.to; words = initialization_text q ++ (class_text ++ codes " this, ") } ∷ x) w.put_is;
          woven_is = ap (λ x. At ∷ Id x ∷ ct.kind ∷ This ∷ Comma ∷ woven w.items) i.number_is ∙ ap (λ x. At ∷ Id (initialization_name q) ∷ x ∷ This ∷ Comma ∷ woven w.items) kind ∙ ap (λ x. At ∷ Id (initialization_name q) ∷ Id cn ∷ This ∷ Comma ∷ x) w.woven_is;
          are = (inr (t, before, refl, refl), (i.is_note, (among_on ct before (t ∷ []) h, (cn, kind)), tt), w.are);
        }

    -- where a closing parenthesis follows
    put_last : (q : Qualifier) (before : List Token) (t u : Token) (ts : List Token) (is : List Insertion) (ks : List TokenKind) → IsTokenAmong ct before → u.kind ≡ RightParen → Weave text old ((before ++ t ∷ []) ++ u ∷ []) ts is ks → Weave text old (before ++ t ∷ []) (u ∷ ts) (record { at = t.span.to; words = initialization_text q ++ (class_text ++ codes " this") } ∷ is) (At ∷ Id (initialization_name q) ∷ Id cn ∷ This ∷ RightParen ∷ ks)
    put_last q before t u ts is ks h e w =
        let i = init_note old known q in
        record {
          items = Put t.span.to (Receiver i.note ct false) ∷ Keep u ∷ w.items;
          kept_is = ap (λ x. u ∷ x) w.kept_is;
          put_is = ap (λ x. record { at = t.span.to; words = x ++ (class_text ++ codes " this") } ∷ put text w.items) (sym i.text_is) ∙ ap (λ x. record { at = t.span.to; words = initialization_text q ++ (class_text ++ codes " this") } ∷ x) w.put_is;
          woven_is = ap (λ x. At ∷ Id x ∷ ct.kind ∷ This ∷ u.kind ∷ woven w.items) i.number_is ∙ ap (λ x. At ∷ Id (initialization_name q) ∷ x ∷ This ∷ u.kind ∷ woven w.items) kind ∙ ap (λ x. At ∷ Id (initialization_name q) ∷ Id cn ∷ This ∷ x ∷ woven w.items) e ∙ ap (λ x. At ∷ Id (initialization_name q) ∷ Id cn ∷ This ∷ RightParen ∷ x) w.woven_is;
          are = (inr (t, before, refl, refl), (i.is_note, (among_on ct before (t ∷ []) h, (cn, kind)), (u, (w.items, refl), e)), w.are);
        }

    at_paren : (ts : List Token) (marks : List TokenKind) (c : NameNo) → behind (drop 1 ts) (marks ++ Id c ∷ This ∷ Comma ∷ []) ≡ drop 1 (drop 1 (drop 1 (behind (drop 1 ts) marks)))
    at_paren ts marks c = behind_append (drop 1 ts) marks (Id c ∷ This ∷ Comma ∷ [])

    -- from the parenthesis on
    head_part : (r : Option ReceiverTree) (q : Option Qualifier) (ps : List ParameterTree) (xs : List (Option SlotNo)) → P (LeftParen ∷ spell_parameters r ps) (λ ts. at_receiver class_text ts r ps q ++ at_parameters slots s (behind (drop 1 ts) (spell_receiver r)) ps xs) (LeftParen ∷ spell_parameters (noted_receiver cn r q) (noted_parameters slots s ps xs))
    head_part None None [] xs = k (LeftParen ∷ RightParen ∷ [])
    head_part None None (p ∷ ps) xs = n (LeftParen ∷ []) (spell_parameters None (p ∷ ps)) (λ ts. []) (λ ts. at_parameters slots s ts (p ∷ ps) xs) (LeftParen ∷ []) (spell_parameters None (noted_parameters slots s (p ∷ ps) xs)) (k (LeftParen ∷ [])) (parameters_part p ps xs)
    head_part None (Some q) [] xs = λ before ts ls others more h e w. here before ts ls others more h e w
      where
        here : (before ts : List Token) (ls others : List TokenKind) (more : List Insertion) → IsTokenAmong ct before → kinds ts ≡ LeftParen ∷ RightParen ∷ ls → Weave text old (before ++ taken ts (LeftParen ∷ RightParen ∷ [])) (drop 1 (drop 1 ts)) more others → Weave text old before ts (record { at = (front ts).to; words = initialization_text q ++ (class_text ++ codes " this") } ∷ more) (LeftParen ∷ At ∷ Id (initialization_name q) ∷ Id cn ∷ This ∷ RightParen ∷ others)
        here before [] ls others more h e w = cc
        here before (t ∷ []) ls others more h e w = cc
        here before (t ∷ u ∷ ts) ls others more h e w =
            let first : t.kind ≡ LeftParen = cc in
            let second : u.kind ≡ RightParen = cc in
            let w' = subst (λ x. Weave text old x ts more others) (sym (append_assoc before (t ∷ []) (u ∷ []))) w in
            let i : Insertion = record { at = t.span.to; words = initialization_text q ++ (class_text ++ codes " this") } in
            let inner = put_last q before t u ts more others h second w' in
            subst (λ x. Weave text old before (t ∷ u ∷ ts) (i ∷ more) (x ∷ At ∷ Id (initialization_name q) ∷ Id cn ∷ This ∷ RightParen ∷ others)) first (keep_one text old before t (u ∷ ts) (i ∷ more) (At ∷ Id (initialization_name q) ∷ Id cn ∷ This ∷ RightParen ∷ others) inner)
    head_part None (Some q) (p ∷ ps) xs = λ before ts ls others more h e w. here before ts ls others more h e w
      where
        new : List TokenKind
        new = spell_parameters None (noted_parameters slots s (p ∷ ps) xs)

        here : (before ts : List Token) (ls others : List TokenKind) (more : List Insertion) → IsTokenAmong ct before → kinds ts ≡ LeftParen ∷ (spell_parameters None (p ∷ ps) ++ ls) → Weave text old (before ++ taken ts (LeftParen ∷ spell_parameters None (p ∷ ps))) (behind (drop 1 ts) (spell_parameters None (p ∷ ps))) more others → Weave text old before ts (record { at = (front ts).to; words = initialization_text q ++ (class_text ++ codes " this, ") } ∷ (at_parameters slots s (drop 1 ts) (p ∷ ps) xs ++ more)) (LeftParen ∷ At ∷ Id (initialization_name q) ∷ Id cn ∷ This ∷ (spell_more_parameters (noted_parameters slots s (p ∷ ps) xs) ++ others))
        here before [] ls others more h e w = cc
        here before (t ∷ ts) ls others more h e w =
            let first : t.kind ≡ LeftParen = cc in
            let tail : kinds ts ≡ spell_parameters None (p ∷ ps) ++ ls = cc in
            let sp : List TokenKind = spell_parameters None (p ∷ ps) in
            let new' : List TokenKind = spell_parameters None (noted_parameters slots s (p ∷ ps) xs) in
            let w' = subst (λ x. Weave text old x (behind ts sp) more others) (sym (append_assoc before (t ∷ []) (taken ts sp))) w in
            let is : List Insertion = at_parameters slots s ts (p ∷ ps) xs ++ more in
            let i : Insertion = record { at = t.span.to; words = initialization_text q ++ (class_text ++ codes " this, ") } in
            let inner = put_more q before t ts is (new' ++ others) h (parameters_part p ps xs (before ++ t ∷ []) ts ls others more (among_on ct before (t ∷ []) h) tail w') in
            let all = keep_one text old before t ts (i ∷ is) (At ∷ Id (initialization_name q) ∷ Id cn ∷ This ∷ Comma ∷ (new' ++ others)) inner in
            weave_same text old before (t ∷ ts) (i ∷ is) (i ∷ is) (t.kind ∷ At ∷ Id (initialization_name q) ∷ Id cn ∷ This ∷ Comma ∷ (new' ++ others)) (LeftParen ∷ At ∷ Id (initialization_name q) ∷ Id cn ∷ This ∷ (spell_more_parameters (noted_parameters slots s (p ∷ ps) xs) ++ others)) refl
            (ap (λ x. x ∷ At ∷ Id (initialization_name q) ∷ Id cn ∷ This ∷ Comma ∷ (new' ++ others)) first ∙ ap (λ x. LeftParen ∷ At ∷ Id (initialization_name q) ∷ Id cn ∷ This ∷ (x ++ others)) (comma_first p ps xs)) all
    head_part (Some r) None ps xs =
        let marks : List TokenKind = spell_annotations r.annotations in
        let sp : List TokenKind = LeftParen ∷ (marks ++ Id r.class ∷ This ∷ []) in
        same (sp ++ spell_more_parameters ps) (LeftParen ∷ spell_parameters (Some r) ps) (λ ts. at_parameters slots s (drop 1 (behind ts sp)) ps xs) (λ ts. at_parameters slots s (behind (drop 1 ts) (spell_receiver (Some r))) ps xs) (sp ++ spell_more_parameters (noted_parameters slots s ps xs)) (LeftParen ∷ spell_parameters (Some r) (noted_parameters slots s ps xs))
        (ap (λ x. LeftParen ∷ x) (append_assoc marks (Id r.class ∷ This ∷ []) (spell_more_parameters ps)))
        (λ ts. ap (λ x. at_parameters slots s x ps xs) (ap (drop 1) (behind_append (drop 1 ts) marks (Id r.class ∷ This ∷ [])) ∙ sym (at_paren ts marks r.class)))
        (ap (λ x. LeftParen ∷ x) (append_assoc marks (Id r.class ∷ This ∷ []) (spell_more_parameters (noted_parameters slots s ps xs))))
        (n sp (spell_more_parameters ps) (λ ts. []) (λ ts. at_parameters slots s (drop 1 ts) ps xs) sp (spell_more_parameters (noted_parameters slots s ps xs)) (k sp) (more_part ps xs))
    head_part (Some r) (Some q) ps xs =
        let marks : List TokenKind = spell_annotations r.annotations in
        let more : List TokenKind = spell_more_parameters ps in
        let new : List TokenKind = spell_more_parameters (noted_parameters slots s ps xs) in
        let note : List TokenKind = At ∷ Id (initialization_name q) ∷ [] in
        let I : List Token → List Insertion = λ ts. record { at = (front ts).from; words = initialization_text q } ∷ [] in
        let A : List Token → List Insertion = λ ts. at_parameters slots s ts ps xs in
        same ((LeftParen ∷ marks) ++ Id r.class ∷ This ∷ more) (LeftParen ∷ spell_parameters (Some r) ps) (λ ts. I (behind (drop 1 ts) marks) ++ A (drop 1 (drop 1 (drop 1 (behind (drop 1 ts) marks))))) (λ ts. at_receiver class_text ts (Some r) ps (Some q) ++ at_parameters slots s (behind (drop 1 ts) (spell_receiver (Some r))) ps xs) ((LeftParen ∷ marks) ++ (note ++ Id r.class ∷ This ∷ new)) (LeftParen ∷ (spell_annotations (r.annotations ++ initialization_name q ∷ []) ++ Id r.class ∷ This ∷ new))
        refl (λ ts. ap (λ x. I (behind (drop 1 ts) marks) ++ A x) (sym (at_paren ts marks r.class)))
        (ap (λ x. LeftParen ∷ x) (sym (append_assoc marks note (Id r.class ∷ This ∷ new)) ∙ ap (λ x. x ++ Id r.class ∷ This ∷ new) (sym (annotations_append r.annotations (initialization_name q ∷ [])))))
        (n (LeftParen ∷ marks) (Id r.class ∷ This ∷ more) (λ ts. []) (λ ts. I ts ++ A (drop 1 (drop 1 (drop 1 ts)))) (LeftParen ∷ marks) (note ++ Id r.class ∷ This ∷ new) (k (LeftParen ∷ marks))
        (n (Id r.class ∷ []) (This ∷ more) I (λ ts. A (drop 1 (drop 1 ts))) (note ++ Id r.class ∷ []) (This ∷ new) (λ before ts ls others rest h e w. before_type text old initialization_text (λ x. initialization_name x ∷ []) (init_spells old known) q before ts (Id r.class) rest ls others e w)
        (n (This ∷ []) more (λ ts. []) (λ ts. A (drop 1 ts)) (This ∷ []) new (k (This ∷ [])) (more_part ps xs))))

    -- ---- members

    result_part : (u : Option TypeUseTree) (x : Option SlotNo) (ms : List Mark) → P (spell_all_marks ms ++ spell_result u) (λ ts. at_result slots s (behind ts (spell_all_marks ms)) u x) (spell_all_marks (noted_result_marks (both_at slots s x) u ms) ++ spell_result (noted_result (both_at slots s x) u))
    result_part None x ms = k (spell_all_marks ms ++ Void ∷ [])
    result_part (Some u) x ms = marked_part both_texts both_names (both_spells old known) (spell_all_marks ms) (spell_all_marks (noted_marks (both_at slots s x) u ms)) u (inferred_qual slots s x) (noted_spelled (leading (both_at slots s x) u.array) ms)

    member_part : (m : MemberTree) (fs : List Field) (methods : List Method) → P (spell_member m) (λ ts. at_member slots s class_text ts m fs methods) (spell_member (noted_member slots s cn m fs methods))
    member_part (FieldMember ms u d ds) fs methods =
        let q : Option Qualifier = inferred_qual slots s (first_slot fs) in
        let names : List NameNo = names_of nullity_names q in
        let marks : List TokenKind = spell_all_marks ms in
        let new : List TokenKind = spell_all_marks (noted_marks names u ms) in
        let type' : List TokenKind = spell_type_use (noted_use names u) in
        let tail : List TokenKind = spell_declarator d ++ (spell_more_declarators ds ++ Semicolon ∷ []) in
        same ((marks ++ spell_type_use u) ++ tail) (spell_field ms u d ds) (λ ts. at_type nullity_text (behind ts marks) u q) (λ ts. at_type nullity_text (behind ts marks) u q) ((new ++ type') ++ tail) (spell_field (noted_marks names u ms) (noted_use names u) d ds)
        (append_assoc marks (spell_type_use u) tail) (λ ts. refl) (append_assoc new type' tail)
        (ended (marks ++ spell_type_use u) (new ++ type') tail (λ ts. at_type nullity_text (behind ts marks) u q) (marked_part nullity_text nullity_names (nullity_spells old known) marks new u q (noted_spelled (leading names u.array) ms)))
    member_part (MethodMember ms u name r ps body) fs [] = k (spell_member (MethodMember ms u name r ps body))
    member_part (ConstructorMember ms name ps ss) fs [] = k (spell_member (ConstructorMember ms name ps ss))
    member_part (MethodMember ms u name r ps body) fs (m ∷ methods) =
        let q : Option Qualifier = inferred_qual slots s m.receiver in
        let marks : List TokenKind = spell_all_marks ms in
        let result : List TokenKind = spell_result u in
        let params : List TokenKind = LeftParen ∷ spell_parameters r ps in
        let marks' : List TokenKind = spell_all_marks (noted_result_marks (both_at slots s m.result_slot) u ms) in
        let result' : List TokenKind = spell_result (noted_result (both_at slots s m.result_slot) u) in
        let params' : List TokenKind = LeftParen ∷ spell_parameters (noted_receiver cn r q) (noted_parameters slots s ps m.param_slots) in
        let tail : List TokenKind = spell_method_body body in
        let R : List Token → List Insertion = λ ts. at_result slots s (behind ts marks) u m.result_slot in
        let H : List Token → List Insertion = λ ts. at_receiver class_text ts r ps q ++ at_parameters slots s (behind (drop 1 ts) (spell_receiver r)) ps m.param_slots in
        same (((marks ++ result) ++ Id name ∷ params) ++ tail) (spell_method_head ms u name r ps ++ tail) (λ ts. R ts ++ H (drop 1 (behind ts (marks ++ result)))) (λ ts. at_member slots s class_text ts (MethodMember ms u name r ps body) fs (m ∷ methods)) (((marks' ++ result') ++ Id name ∷ params') ++ tail) (spell_member (noted_member slots s cn (MethodMember ms u name r ps body) fs (m ∷ methods)))
        (ap (λ x. x ++ tail) (append_assoc marks result (Id name ∷ params)))
        (λ ts. ap (λ x. R ts ++ H x) (ap (drop 1) (behind_append ts marks result) ∙ sym (behind_append (behind ts marks) result (Id name ∷ []))))
        (ap (λ x. x ++ tail) (append_assoc marks' result' (Id name ∷ params')))
        (ended ((marks ++ result) ++ Id name ∷ params) ((marks' ++ result') ++ Id name ∷ params') tail (λ ts. R ts ++ H (drop 1 (behind ts (marks ++ result))))
        (n (marks ++ result) (Id name ∷ params) R (λ ts. H (drop 1 ts)) (marks' ++ result') (Id name ∷ params') (result_part u m.result_slot ms)
        (n (Id name ∷ []) params (λ ts. []) H (Id name ∷ []) params' (k (Id name ∷ [])) (head_part r q ps m.param_slots))))
    member_part (ConstructorMember ms name ps ss) fs (m ∷ methods) =
        let marks : List TokenKind = spell_all_marks ms in
        let params : List TokenKind = LeftParen ∷ spell_parameters None ps in
        let params' : List TokenKind = LeftParen ∷ spell_parameters None (noted_parameters slots s ps m.param_slots) in
        let tail : List TokenKind = LeftBrace ∷ spell_body ss in
        let H : List Token → List Insertion = λ ts. at_parameters slots s (drop 1 ts) ps m.param_slots in
        same ((marks ++ Id name ∷ params) ++ tail) (spell_constructor_head ms name ps ++ tail) (λ ts. H (drop 1 (behind ts marks))) (λ ts. at_member slots s class_text ts (ConstructorMember ms name ps ss) fs (m ∷ methods)) ((marks ++ Id name ∷ params') ++ tail) (spell_member (noted_member slots s cn (ConstructorMember ms name ps ss) fs (m ∷ methods)))
        refl (λ ts. ap (λ x. at_parameters slots s x ps m.param_slots) (sym (behind_append ts marks (Id name ∷ LeftParen ∷ [])))) refl
        (ended (marks ++ Id name ∷ params) (marks ++ Id name ∷ params') tail (λ ts. H (drop 1 (behind ts marks)))
        (n marks (Id name ∷ params) (λ ts. []) (λ ts. H (drop 1 ts)) marks (Id name ∷ params') (k marks)
        (n (Id name ∷ []) params (λ ts. []) H (Id name ∷ []) params' (k (Id name ∷ [])) (head_part None None ps m.param_slots))))

    members_part : (ms : List MemberTree) (fs : List Field) (methods : List Method) → P (spell_members ms) (λ ts. at_members slots s class_text ts ms fs methods) (spell_members (noted_members slots s cn ms fs methods))
    members_part [] fs methods = k (RightBrace ∷ [])
    members_part (m ∷ ms) fs methods = n (spell_member m) (spell_members ms) (λ ts. at_member slots s class_text ts m fs methods) (λ ts. at_members slots s class_text ts ms (drop (fields_in m) fs) (drop (methods_in m) methods)) (spell_member (noted_member slots s cn m fs methods)) (spell_members (noted_members slots s cn ms (drop (fields_in m) fs) (drop (methods_in m) methods))) (member_part m fs methods) (members_part ms (drop (fields_in m) fs) (drop (methods_in m) methods))

  -- ---- types and files

  abbrev Anywhere : List Token → Type 0
  Anywhere before = Unit {0}

  abbrev Q : List TokenKind → (List Token → List Insertion) → List TokenKind → Type 0
  Q sp is new = Part text old Anywhere sp is new

  k0 : (sp : List TokenKind) → Q sp (λ ts. []) sp
  k0 sp = keep_part text old Anywhere sp

  n0 : (sp tp : List TokenKind) (is js : List Token → List Insertion) (new others : List TokenKind) → Q sp is new → Q tp js others → Q (sp ++ tp) (λ ts. is ts ++ js (behind ts sp)) (new ++ others)
  n0 = next text old Anywhere (λ before more h. tt)

  same0 : (sp tp : List TokenKind) (is js : List Token → List Insertion) (new others : List TokenKind) → sp ≡ tp → ((ts : List Token) → is ts ≡ js ts) → new ≡ others → Q sp is new → Q tp js others
  same0 = part_same text old Anywhere

  -- from a type's name on, to which its members' words refer
  inside_part : (cn : NameNo) (tail : List TokenKind) (ms : List MemberTree) (fs : List Field) (methods : List Method) → Q (Id cn ∷ (tail ++ spell_members ms)) (λ name. at_members slots s (piece text (front name)) (behind (drop 1 name) tail) ms fs methods) (Id cn ∷ (tail ++ spell_members (noted_members slots s cn ms fs methods)))
  inside_part cn tail ms fs methods before [] ls others more h e w = cc
  inside_part cn tail ms fs methods before (t ∷ ts) ls others more h e w =
      let head : t.kind ≡ Id cn = cc in
      let rest : kinds ts ≡ (tail ++ spell_members ms) ++ ls = cc in
      let new : List TokenKind = tail ++ spell_members (noted_members slots s cn ms fs methods) in
      let is : List Insertion = at_members slots s (piece text t.span) (behind ts tail) ms fs methods in
      let w' = subst (λ x. Weave text old x (behind ts (tail ++ spell_members ms)) more others) (sym (append_assoc before (t ∷ []) (taken ts (tail ++ spell_members ms)))) w in
      let inner = n t cn head tail (spell_members ms) (λ x. []) (λ x. at_members slots s (piece text t.span) x ms fs methods) tail (spell_members (noted_members slots s cn ms fs methods)) (k t cn head tail) (members_part t cn head ms fs methods) (before ++ t ∷ []) ts ls others more (among_last t before) rest w' in
      subst (λ x. Weave text old before (t ∷ ts) (is ++ more) (x ∷ (new ++ others))) head (keep_one text old before t ts (is ++ more) (new ++ others) inner)

  type_part : (t : TypeDeclaration) (fs : List Field) (methods : List Method) → Q (spell_type t) (λ ts. in_type slots s text ts t fs methods) (spell_type (noted_type slots s t fs methods))
  type_part (ClassType ms cn parent interfaces members) fs methods =
      let head : List TokenKind = spell_all_marks ms ++ Class ∷ [] in
      let tail : List TokenKind = spell_parent parent ++ (spell_names Implements interfaces ++ LeftBrace ∷ []) in
      let new : List TokenKind = spell_members (noted_members slots s cn members fs methods) in
      same0 (head ++ Id cn ∷ (tail ++ spell_members members)) (spell_type (ClassType ms cn parent interfaces members)) (λ ts. at_members slots s (piece text (front (behind ts head))) (behind (drop 1 (behind ts head)) tail) members fs methods) (λ ts. in_type slots s text ts (ClassType ms cn parent interfaces members) fs methods) (head ++ Id cn ∷ (tail ++ new)) (spell_type (ClassType ms cn parent interfaces (noted_members slots s cn members fs methods)))
      (regroup (spell_all_marks ms) (Class ∷ []) (Id cn ∷ tail) (spell_members members)) (λ ts. refl) (regroup (spell_all_marks ms) (Class ∷ []) (Id cn ∷ tail) new)
      (n0 head (Id cn ∷ (tail ++ spell_members members)) (λ ts. []) (λ name. at_members slots s (piece text (front name)) (behind (drop 1 name) tail) members fs methods) head (Id cn ∷ (tail ++ new)) (k0 head) (inside_part cn tail members fs methods))
    where
      regroup : (as' bs cs ds : List TokenKind) → (as' ++ bs) ++ (cs ++ ds) ≡ (as' ++ (bs ++ cs)) ++ ds
      regroup as' bs cs ds = sym (append_assoc (as' ++ bs) cs ds) ∙ ap (λ x. x ++ ds) (append_assoc as' bs cs)
  type_part (InterfaceType ms cn parents members) fs methods =
      let head : List TokenKind = spell_all_marks ms ++ Interface ∷ [] in
      let tail : List TokenKind = spell_names Extends parents ++ LeftBrace ∷ [] in
      let new : List TokenKind = spell_members (noted_members slots s cn members fs methods) in
      same0 (head ++ Id cn ∷ (tail ++ spell_members members)) (spell_type (InterfaceType ms cn parents members)) (λ ts. at_members slots s (piece text (front (behind ts head))) (behind (drop 1 (behind ts head)) tail) members fs methods) (λ ts. in_type slots s text ts (InterfaceType ms cn parents members) fs methods) (head ++ Id cn ∷ (tail ++ new)) (spell_type (InterfaceType ms cn parents (noted_members slots s cn members fs methods)))
      (regroup (spell_all_marks ms) (Interface ∷ []) (Id cn ∷ tail) (spell_members members)) (λ ts. refl) (regroup (spell_all_marks ms) (Interface ∷ []) (Id cn ∷ tail) new)
      (n0 head (Id cn ∷ (tail ++ spell_members members)) (λ ts. []) (λ name. at_members slots s (piece text (front name)) (behind (drop 1 name) tail) members fs methods) head (Id cn ∷ (tail ++ new)) (k0 head) (inside_part cn tail members fs methods))
    where
      regroup : (as' bs cs ds : List TokenKind) → (as' ++ bs) ++ (cs ++ ds) ≡ (as' ++ (bs ++ cs)) ++ ds
      regroup as' bs cs ds = sym (append_assoc (as' ++ bs) cs ds) ∙ ap (λ x. x ++ ds) (append_assoc as' bs cs)

  types_part : (types : List TypeDeclaration) (fs : List Field) (methods : List Method) → Q (spell_types types) (λ ts. in_types slots s text ts types fs methods) (spell_types (noted_types slots s types fs methods))
  types_part [] fs methods = k0 []
  types_part (t ∷ types) fs methods = n0 (spell_type t) (spell_types types) (λ ts. in_type slots s text ts t fs methods) (λ ts. in_types slots s text ts types (drop (type_fields t) fs) (drop (type_methods t) methods)) (spell_type (noted_type slots s t fs methods)) (spell_types (noted_types slots s types (drop (type_fields t) fs) (drop (type_methods t) methods))) (type_part t fs methods) (types_part types (drop (type_fields t) fs) (drop (type_methods t) methods))

  file_part : (f : SourceTree) (fs : List Field) (methods : List Method) → Q (spell_file f) (λ ts. in_file slots s text ts f fs methods) (spell_file (noted_file slots s f fs methods))
  file_part f fs methods =
      let a : List TokenKind = spell_package_line f.package_line in
      let b : List TokenKind = spell_imports f.imports in
      let new : List TokenKind = spell_types (noted_types slots s f.types fs methods) in
      same0 ((a ++ b) ++ spell_types f.types) (spell_file f) (λ ts. in_file slots s text ts f fs methods) (λ ts. in_file slots s text ts f fs methods) ((a ++ b) ++ new) (spell_file (noted_file slots s f fs methods)) (append_assoc a b (spell_types f.types)) (λ ts. refl) (append_assoc a b new)
      (n0 (a ++ b) (spell_types f.types) (λ ts. []) (λ ts. in_types slots s text ts f.types fs methods) (a ++ b) new (k0 (a ++ b)) (types_part f.types fs methods))

  -- all tokens of a file, with words between them
  whole_weave : (sp new : List TokenKind) (is : List Token → List Insertion) (ts : List Token) → Q sp is new → kinds ts ≡ sp → Weave text old [] ts (is ts) new
  whole_weave sp new is ts part e =
      let whole : kinds ts ≡ sp ++ [] = e ∙ sym (append-nil sp) in
      let none = nothing (behind ts sp) (behind_kinds ts sp [] whole) in
      let end = subst (λ x. Weave text old (taken ts sp) x [] []) (sym none) (weave_nil text old (taken ts sp)) in
      weave_same text old [] ts (is ts ++ []) (is ts) (new ++ []) new (append-nil (is ts)) (append-nil new) (part [] ts [] [] [] tt whole end)
    where
      nothing : (us : List Token) → kinds us ≡ [] → us ≡ []
      nothing [] e = refl
      nothing (u ∷ us) e = cc

  -- with the words of its inferred slots
  pub file_weave : (ts : List Token) (f : SourceTree) (fs : List Field) (methods : List Method) → kinds ts ≡ spell_file f → Weave text old [] ts (in_file slots s text ts f fs methods) (spell_file (noted_file slots s f fs methods))
  file_weave ts f fs methods e = whole_weave (spell_file f) (spell_file (noted_file slots s f fs methods)) (λ x. in_file slots s text x f fs methods) ts (file_part f fs methods) e

  -- ---- lines after the package line

  abbrev line_at : ℕ → Package → Insertion
  line_at at p = record { at = at; words = line_end text ++ import_line p }

  lines_behind : (ps : List Package) (at : ℕ) (before first : List Token) (t : Token) → before ≡ first ++ t ∷ [] → at ≡ t.span.to → (ts : List Token) (is : List Insertion) (ks : List TokenKind) → Weave text old before ts is ks → Weave text old before ts (map (line_at at) ps ++ is) (spell_imports (map import_of ps) ++ ks)
  lines_behind [] at before first t b a ts is ks w = w
  lines_behind (p ∷ ps) at before first t b a ts is ks w =
      let r = lines_behind ps at before first t b a ts is ks w in
      record {
        items = Put at (ImportLine (line_end text) org_note (rest_notes p)) ∷ r.items;
        kept_is = r.kept_is;
        put_is = ap (λ x. record { at = at; words = line_end text ++ x } ∷ put text r.items) (line_is p) ∙ ap (λ x. line_at at p ∷ x) r.put_is;
        woven_is = ap (λ x. import_kinds org_note (rest_notes p) ++ x) r.woven_is ∙ ap (λ x. x ++ (spell_imports (map import_of ps) ++ ks)) (line_kinds p) ∙ sym (append_assoc (spell_import (import_of p)) (spell_imports (map import_of ps)) ks);
        are = (inr (t, first, b, a), (line_end_is text, notes_known old known p), r.are);
      }

  semicolon_part : (ps : List Package) → Q (Semicolon ∷ []) (λ rest. map (line_at (front rest).to) ps) (Semicolon ∷ spell_imports (map import_of ps))
  semicolon_part ps before [] ls others more h e w = cc
  semicolon_part ps before (t ∷ us) ls others more h e w =
      let head : t.kind ≡ Semicolon = cc in
      let new : List TokenKind = spell_imports (map import_of ps) ++ others in
      let is : List Insertion = map (line_at t.span.to) ps ++ more in
      let r = lines_behind ps t.span.to (before ++ t ∷ []) before t refl refl us more others w in
      subst (λ x. Weave text old before (t ∷ us) is (x ∷ new)) head (keep_one text old before t us is new r)

  imports_append : (xs ys : List ImportTree) → spell_imports (xs ++ ys) ≡ spell_imports xs ++ spell_imports ys
  imports_append [] ys = refl
  imports_append (x ∷ xs) ys = ap (λ z. spell_import x ++ z) (imports_append xs ys) ∙ sym (append_assoc (spell_import x) (spell_imports xs) (spell_imports ys))

  lines_part : (ps : List Package) (q : DottedName) → Q (spell_package q) (λ ts. map (put_line text ts (Some q)) ps) (spell_package q ++ spell_imports (map import_of ps))
  lines_part ps q =
      let name : List TokenKind = PackageWord ∷ spell_dotted q in
      let lines : List TokenKind = spell_imports (map import_of ps) in
      same0 (name ++ Semicolon ∷ []) (spell_package q) (λ ts. map (line_at (front (behind ts name)).to) ps) (λ ts. map (put_line text ts (Some q)) ps) (name ++ Semicolon ∷ lines) (spell_package q ++ lines)
      refl (λ ts. refl) (sym (append_assoc name (Semicolon ∷ []) lines))
      (n0 name (Semicolon ∷ []) (λ ts. []) (λ rest. map (line_at (front rest).to) ps) name (Semicolon ∷ lines) (k0 name) (semicolon_part ps))

  file_lines_part : (ps : List Package) (q : DottedName) (imports : List ImportTree) (types : List TypeDeclaration) (fs : List Field) (methods : List Method) → let f : SourceTree = record { package_line = Some q; imports = imports; types = types } in Q (spell_file f) (λ ts. map (put_line text ts (Some q)) ps ++ in_file slots s text ts f fs methods) (spell_file (with_imports ps (noted_file slots s f fs methods)))
  file_lines_part ps q imports types fs methods =
      let f : SourceTree = record { package_line = Some q; imports = imports; types = types } in
      let a : List TokenKind = spell_package q in
      let b : List TokenKind = spell_imports imports in
      let lines : List TokenKind = spell_imports (map import_of ps) in
      let new : List TokenKind = spell_types (noted_types slots s types fs methods) in
      let L : List Token → List Insertion = λ ts. map (put_line text ts (Some q)) ps in
      let T : List Token → List Insertion = λ ts. in_types slots s text (behind ts b) types fs methods in
      same0 (a ++ (b ++ spell_types types)) (spell_file f) (λ ts. L ts ++ T (behind ts a)) (λ ts. L ts ++ in_file slots s text ts f fs methods) ((a ++ lines) ++ (b ++ new)) (spell_file (with_imports ps (noted_file slots s f fs methods)))
      refl (λ ts. ap (λ x. L ts ++ in_types slots s text x types fs methods) (sym (behind_append ts a b)))
      (append_assoc a lines (b ++ new) ∙ ap (λ x. a ++ x) (sym (append_assoc lines b new) ∙ ap (λ x. x ++ new) (sym (imports_append (map import_of ps) imports))))
      (n0 a (b ++ spell_types types) L T (a ++ lines) (b ++ new) (lines_part ps q) (n0 b (spell_types types) (λ ts. []) (λ ts. in_types slots s text ts types fs methods) b new (k0 b) (types_part types fs methods)))

  -- and with lines that import annotations
  pub file_lines_weave : (ps : List Package) (q : DottedName) (imports : List ImportTree) (types : List TypeDeclaration) (ts : List Token) (fs : List Field) (methods : List Method) → let f : SourceTree = record { package_line = Some q; imports = imports; types = types } in kinds ts ≡ spell_file f → Weave text old [] ts (map (put_line text ts (Some q)) ps ++ in_file slots s text ts f fs methods) (spell_file (with_imports ps (noted_file slots s f fs methods)))
  file_lines_weave ps q imports types ts fs methods e =
      let f : SourceTree = record { package_line = Some q; imports = imports; types = types } in
      whole_weave (spell_file f) (spell_file (with_imports ps (noted_file slots s f fs methods))) (λ x. map (put_line text x (Some q)) ps ++ in_file slots s text x f fs methods) ts (file_lines_part ps q imports types fs methods) e
