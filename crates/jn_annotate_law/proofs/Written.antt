-- All slots of annotated files are written as they were inferred.
use Rattle.std.proofs.Common.{◌≡◌, ℕ, suc, ◌+◌, List, [], ◌∷◌, ◌++◌, length, refl, sym, ap, ◌∙◌, subst, arith, append_assoc, length-append}
use Rattle.std.specs.Prelude.{drop, map}
use Rattle.std.proofs.lemmas.List.{append-nil}
use Rattle.jn_base.specs.declared.infer.Infer.{Infer}
use Rattle.jn_heads.specs.Inferred.{class_marks, marks, slots_by}
use Rattle.jn_annotate_law.proofs.Marked.{marks_at}
use Rattle.jn_annotate_law.proofs.Tabled.{table_by}
use Rattle.jn_quals.specs.Qualifier.{Qualifier}
use Rattle.jn_points.specs.declared.program.Field.{Field}
use Rattle.jn_points.specs.declared.program.Method.{Method}
use Rattle.jn_points.specs.declared.program.SlotInfo.{SlotInfo}
use Rattle.jn_trees.specs.declared.token.Token.{Token}
use Rattle.jn_trees.specs.Trees.{TypeDeclaration, SourceTree}
use Rattle.jn_trees.specs.WellFormed.{GoodTypes}
use Rattle.jn_trees.specs.Spelling.{spell_type, spell_package_line, spell_imports}
use Rattle.jn_places.specs.Placed.{PlacedFile}
use Rattle.jn_places.specs.Places.{behind, place_file, place_type, place_each}
use Rattle.jn_places.specs.Forget.{forget_file}
use Rattle.jn_heads.specs.declared.head.ClassHead.{ClassHead}
use Rattle.jn_heads.specs.Types.{fields_slots, class_slots, slots_of_all}
use Rattle.jn_classtable.specs.Table.{fields_of, fields_from, methods_of, methods_from, bodies_of, bodies_of_all}
use Rattle.jn_heads.specs.Extract.{class_head, heads}
use Rattle.jn_annotate.specs.Insertions.{type_fields, type_methods, file_fields, file_methods}
use Rattle.jn_annotate_law.specs.Trees.{noted_types, noted_file, noted_files}
use Rattle.jn_annotate_law.specs.Meaning.{AllPlaced}
use Rattle.jn_heads_law.specs.Plain.{plain_head}
use Rattle.jn_annotate_law.specs.Worded.{Narrows, worded_from}
use Rattle.jn_annotate_law.specs.Says.{AllSpelled, FilesSay}
use Rattle.jn_annotate_law.proofs.Extracting.{heads_plain}
use Rattle.jn_annotate_law.proofs.Positions.{Stands, in_all, stands_left, stands_right, slots_append}
use Rattle.jn_annotate_law.proofs.Classes.{Parts, marked_fields_long, marked_methods_long, parts, type_methods_long, types_walk}

pub slots_all_append : (hs : List ClassHead) (xs ys : List ClassHead) → slots_of_all hs (xs ++ ys) ≡ slots_of_all hs xs ++ slots_of_all hs ys
slots_all_append hs [] ys = refl
slots_all_append hs (x ∷ xs) ys = ap (λ t. class_slots hs x ++ t) (slots_all_append hs xs ys) ∙ sym (append_assoc (class_slots hs x) (slots_of_all hs xs) (slots_of_all hs ys))

pub fields_from_append : (hs : List ClassHead) (c k : ℕ) (xs ys : List ClassHead) → fields_from hs c k (xs ++ ys) ≡ fields_from hs c k xs ++ fields_from hs (c + length xs) (k + length (slots_of_all hs xs)) ys
fields_from_append hs c k [] ys = ap (λ n. fields_from hs n k ys) (omega arith) ∙ ap (λ n. fields_from hs (c + 0) n ys) (omega arith)
fields_from_append hs c k (x ∷ xs) ys =
    let k1 : ℕ = k + length (class_slots hs x) in
    let e : k1 + length (slots_of_all hs xs) ≡ k + length (class_slots hs x ++ slots_of_all hs xs) = (let l = length-append (class_slots hs x) (slots_of_all hs xs) in omega (arith, l)) in
    let f : suc c + length xs ≡ c + suc (length xs) = omega arith in
    ap (λ t. fields_of hs c k x.fields ++ t) (fields_from_append hs (suc c) k1 xs ys ∙ ap (λ n. fields_from hs (suc c) k1 xs ++ fields_from hs (suc c + length xs) n ys) e ∙ ap (λ n. fields_from hs (suc c) k1 xs ++ fields_from hs n (k + length (class_slots hs x ++ slots_of_all hs xs)) ys) f)
    ∙ sym (append_assoc (fields_of hs c k x.fields) (fields_from hs (suc c) k1 xs) (fields_from hs (c + suc (length xs)) (k + length (class_slots hs x ++ slots_of_all hs xs)) ys))

pub methods_from_append : (hs : List ClassHead) (c k b : ℕ) (xs ys : List ClassHead) → methods_from hs c k b (xs ++ ys) ≡ methods_from hs c k b xs ++ methods_from hs (c + length xs) (k + length (slots_of_all hs xs)) (b + bodies_of_all xs) ys
methods_from_append hs c k b [] ys = ap (λ n. methods_from hs n k b ys) (omega arith) ∙ ap (λ n. methods_from hs (c + 0) n b ys) (omega arith) ∙ ap (λ n. methods_from hs (c + 0) (k + 0) n ys) (omega arith)
methods_from_append hs c k b (x ∷ xs) ys =
    let k1 : ℕ = k + length (class_slots hs x) in
    let b1 : ℕ = b + bodies_of x.methods in
    let D : List Method = methods_of hs c (k + length (fields_slots hs x.fields)) b x.methods in
    let e : k1 + length (slots_of_all hs xs) ≡ k + length (class_slots hs x ++ slots_of_all hs xs) = (let l = length-append (class_slots hs x) (slots_of_all hs xs) in omega (arith, l)) in
    let f : suc c + length xs ≡ c + suc (length xs) = omega arith in
    let g : b1 + bodies_of_all xs ≡ b + (bodies_of x.methods + bodies_of_all xs) = omega arith in
    let k2 : ℕ = k + length (class_slots hs x ++ slots_of_all hs xs) in
    ap (λ t. D ++ t)
    (methods_from_append hs (suc c) k1 b1 xs ys
    ∙ ap (λ n. methods_from hs (suc c) k1 b1 xs ++ methods_from hs (suc c + length xs) n (b1 + bodies_of_all xs) ys) e
    ∙ ap (λ n. methods_from hs (suc c) k1 b1 xs ++ methods_from hs n k2 (b1 + bodies_of_all xs) ys) f
    ∙ ap (λ n. methods_from hs (suc c) k1 b1 xs ++ methods_from hs (c + suc (length xs)) k2 n ys) g)
    ∙ sym (append_assoc D (methods_from hs (suc c) k1 b1 xs) (methods_from hs (c + suc (length xs)) k2 (b + (bodies_of x.methods + bodies_of_all xs)) ys))

abbrev pub heads_at : List Token → List TypeDeclaration → List ClassHead
heads_at ts types = map class_head (place_each place_type spell_type ts types)

pub marked_from_long : (infer : Infer) (hs : List ClassHead) (c k : ℕ) (types : List TypeDeclaration) (ts : List Token) → length (fields_from hs c k (marks_at infer ts types)) ≡ file_fields types
marked_from_long infer hs c k [] ts = refl
marked_from_long infer hs c k (t ∷ types) ts =
    let x : ClassHead = class_marks infer (place_type ts t) in
    let later : List Field = fields_from hs (suc c) (k + length (class_slots hs x)) (marks_at infer (behind ts (spell_type t)) types) in
    length-append (fields_of hs c k x.fields) later
    ∙ ap (λ n. n + length later) (marked_fields_long infer hs c k t ts)
    ∙ ap (λ n. type_fields t + n) (marked_from_long infer hs (suc c) (k + length (class_slots hs x)) types (behind ts (spell_type t)))

pub marked_methods_from_long : (infer : Infer) (hs : List ClassHead) (c k b : ℕ) (types : List TypeDeclaration) (ts : List Token) → GoodTypes types → length (methods_from hs c k b (marks_at infer ts types)) ≡ file_methods types
marked_methods_from_long infer hs c k b [] ts g = refl
marked_methods_from_long infer hs c k b (t ∷ types) ts g =
    let x : ClassHead = class_marks infer (place_type ts t) in
    let later : List Method = methods_from hs (suc c) (k + length (class_slots hs x)) (b + bodies_of x.methods) (marks_at infer (behind ts (spell_type t)) types) in
    length-append (methods_of hs c (k + length (fields_slots hs x.fields)) b x.methods) later
    ∙ ap (λ n. n + length later) (marked_methods_long infer hs c (k + length (fields_slots hs x.fields)) b t ts g.0)
    ∙ ap (λ n. type_methods t + n) (marked_methods_from_long infer hs (suc c) (k + length (class_slots hs x)) (b + bodies_of x.methods) types (behind ts (spell_type t)) g.1)

pub methods_from_long : (hs : List ClassHead) (c k b : ℕ) (types : List TypeDeclaration) (ts : List Token) → GoodTypes types → length (methods_from hs c k b (heads_at ts types)) ≡ file_methods types
methods_from_long hs c k b [] ts g = refl
methods_from_long hs c k b (t ∷ types) ts g =
    let x : ClassHead = class_head (place_type ts t) in
    let later : List Method = methods_from hs (suc c) (k + length (class_slots hs x)) (b + bodies_of x.methods) (heads_at (behind ts (spell_type t)) types) in
    length-append (methods_of hs c (k + length (fields_slots hs x.fields)) b x.methods) later
    ∙ ap (λ n. n + length later) (type_methods_long hs c (k + length (fields_slots hs x.fields)) b t ts g.0)
    ∙ ap (λ n. type_methods t + n) (methods_from_long hs (suc c) (k + length (class_slots hs x)) (b + bodies_of x.methods) types (behind ts (spell_type t)) g.1)

-- of the first of files
pub file_parts : (infer : Infer) (hs : List ClassHead) (types : List TypeDeclaration) (ys : List ClassHead) (c k b : ℕ) (fs restf : List Field) (ms restm : List Method) (ts : List Token) → let xs : List ClassHead = marks_at infer ts types in let c' : ℕ = c + length xs in let k' : ℕ = k + length (slots_of_all hs xs) in
    fs ≡ fields_from hs c k (xs ++ ys) ++ restf → ms ≡ methods_from hs c k b (xs ++ ys) ++ restm → GoodTypes types →
    Parts fs (fields_from hs c k xs) (fields_from hs c' k' ys ++ restf) ms (methods_from hs c k b xs) (methods_from hs c' k' (b + bodies_of_all xs) ys ++ restm) (file_fields types) (file_methods types)
file_parts infer hs types ys c k b fs restf ms restm ts f m g =
    let xs : List ClassHead = marks_at infer ts types in
    let c' : ℕ = c + length xs in
    let k' : ℕ = k + length (slots_of_all hs xs) in
    let b' : ℕ = b + bodies_of_all xs in
    let A : List Field = fields_from hs c k xs in
    let D : List Method = methods_from hs c k b xs in
    parts fs A (fields_from hs c' k' ys ++ restf) ms D (methods_from hs c' k' b' ys ++ restm) (file_fields types) (file_methods types)
    (f ∙ ap (λ x. x ++ restf) (fields_from_append hs c k xs ys) ∙ append_assoc A (fields_from hs c' k' ys) restf) (m ∙ ap (λ x. x ++ restm) (methods_from_append hs c k b xs ys) ∙ append_assoc D (methods_from hs c' k' b' ys) restm)
    (marked_from_long infer hs c k types ts) (marked_methods_from_long infer hs c k b types ts g)

module _ (slots : List SlotInfo) (s : List Qualifier) (hs gs : List ClassHead) (same : map plain_head hs ≡ map plain_head gs) (sp : AllSpelled slots s) (infer : Infer) where
  files_walk : (tokens others : List (List Token)) (trees places : List PlacedFile) (c k b : ℕ) (fs restf : List Field) (ms restm : List Method) → AllPlaced tokens trees → AllPlaced others places → map forget_file places ≡ noted_files slots s (map forget_file trees) fs ms → fs ≡ fields_from hs c k (marks infer trees) ++ restf → ms ≡ methods_from hs c k b (marks infer trees) ++ restm → FilesSay slots s (map forget_file trees) fs ms → Stands slots s k (slots_of_all hs (marks infer trees)) → slots_of_all gs (marks infer places) ≡ worded_from slots s k (slots_of_all hs (marks infer trees))
  files_walk [] others [] [] c k b fs restf ms restm p q e ef em say h = refl
  files_walk [] others [] (place ∷ places) c k b fs restf ms restm p q e ef em say h = cc
  files_walk [] others (tree ∷ trees) places c k b fs restf ms restm p q e ef em say h = absurd p
  files_walk (ts ∷ tokens) others [] places c k b fs restf ms restm p q e ef em say h = absurd p
  files_walk (ts ∷ tokens) [] (tree ∷ trees) [] c k b fs restf ms restm p q e ef em say h = cc
  files_walk (ts ∷ tokens) [] (tree ∷ trees) (place ∷ places) c k b fs restf ms restm p q e ef em say h = absurd q
  files_walk (ts ∷ tokens) (us ∷ others) (tree ∷ trees) [] c k b fs restf ms restm p q e ef em say h = cc
  files_walk (ts ∷ tokens) (us ∷ others) (tree ∷ trees) (place ∷ places) c k b fs restf ms restm p q e ef em say h =
      let bare : SourceTree = forget_file tree in
      let at : List Token → List Token = λ x. behind (behind x (spell_package_line bare.package_line)) (spell_imports bare.imports) in
      let xs : List ClassHead = marks_at infer (at ts) bare.types in
      let ys : List ClassHead = marks infer trees in
      let head_is : marks infer (tree ∷ trees) ≡ xs ++ ys = ap (λ (x : PlacedFile). map (class_marks infer) x.types ++ ys) p.0.1 in
      let first : forget_file place ≡ noted_file slots s bare fs ms = cc in
      let others_is : map forget_file places ≡ noted_files slots s (map forget_file trees) (drop (file_fields bare.types) fs) (drop (file_methods bare.types) ms) = cc in
      let zs : List ClassHead = marks_at infer (at us) (noted_types slots s bare.types fs ms) in
      let new_is : marks infer (place ∷ places) ≡ zs ++ marks infer places = ap (λ (x : PlacedFile). map (class_marks infer) x.types ++ marks infer places) q.0.1 ∙ ap (λ (x : SourceTree). map (class_marks infer) (place_file us x).types ++ marks infer places) first in
      let c' : ℕ = c + length xs in
      let k' : ℕ = k + length (slots_of_all hs xs) in
      let b' : ℕ = b + bodies_of_all xs in
      let A : List Field = fields_from hs c k xs in
      let B : List Field = fields_from hs c' k' ys ++ restf in
      let D : List Method = methods_from hs c k b xs in
      let E : List Method = methods_from hs c' k' b' ys ++ restm in
      let cut = file_parts infer hs bare.types ys c k b fs restf ms restm (at ts) (ef ∙ ap (λ x. fields_from hs c k x ++ restf) head_is) (em ∙ ap (λ x. methods_from hs c k b x ++ restm) head_is) p.0.0.0 in
      let whole : Stands slots s k (slots_of_all hs xs ++ slots_of_all hs ys) = subst (Stands slots s k) (ap (slots_of_all hs) head_is ∙ slots_all_append hs xs ys) h in
      let one = types_walk slots s hs gs same sp infer bare.types c k b fs B ms E (at ts) (at us) cut.cut_f cut.cut_m p.0.0.0 say.0 (stands_left slots s k (slots_of_all hs xs) (slots_of_all hs ys) whole) in
      let two = files_walk tokens others trees places c' k' b' (drop (file_fields bare.types) fs) restf (drop (file_methods bare.types) ms) restm p.1 q.1 others_is cut.rest_f cut.rest_m say.1 (stands_right slots s k (slots_of_all hs xs) (slots_of_all hs ys) whole) in
      ap (slots_of_all gs) new_is ∙ slots_all_append gs zs (marks infer places)
      ∙ slots_append slots s k (slots_of_all hs xs) (slots_of_all hs ys) (slots_of_all gs zs) (slots_of_all gs (marks infer places)) one two
      ∙ ap (λ x. worded_from slots s k x) (sym (ap (slots_of_all hs) head_is ∙ slots_all_append hs xs ys))

-- ---- all slots

-- the slots by a choice are those of the heads in which members that are inferred count as private
pub all_written : (infer : Infer) (tokens others : List (List Token)) (trees places : List PlacedFile) (said : List SlotInfo) (s : List Qualifier) → let slots = slots_by infer trees in let P = table_by infer trees in Narrows said slots → AllSpelled said s → AllPlaced tokens trees → AllPlaced others places → map forget_file places ≡ noted_files said s (map forget_file trees) P.fields (drop 1 P.methods) → FilesSay said s (map forget_file trees) P.fields (drop 1 P.methods) → slots_by infer places ≡ worded_from said s 0 slots
all_written infer tokens others trees places said s narrow sp p q e say =
    let hs : List ClassHead = heads trees in
    let gs : List ClassHead = heads places in
    let xs : List ClassHead = marks infer trees in
    let slots : List SlotInfo = slots_of_all hs xs in
    let fs : List Field = fields_from hs 2 0 xs in
    let ms : List Method = methods_from hs 2 0 1 xs in
    let same = heads_plain said s tokens others trees places fs ms p q e in
    let stands : Stands said s 0 (slots_of_all hs xs) = record { whole = slots; there = in_all slots; narrow = narrow } in
    files_walk said s hs gs same sp infer tokens others trees places 2 0 1 fs [] ms [] p q e (sym (append-nil fs)) (sym (append-nil ms)) say stands
