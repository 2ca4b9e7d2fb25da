-- Annotated files have no row J5 outside bodies where they had none.
use Rattle.std.proofs.Common.{◌≡◌, ℕ, ◌+◌, Bool, true, false, not, ◌&&◌, List, [], ◌∷◌, ◌++◌, length, Option, Some, None, refl, sym, ap, ◌∙◌, subst}
use Rattle.std.specs.Prelude.{drop, map, eqb}
use Rattle.std.proofs.lemmas.List.{append-nil}
use Rattle.jn_base.specs.declared.place.Row.{Row}
use Rattle.jn_base.specs.declared.number.NameNo.{NameNo}
use Rattle.jn_base.specs.declared.infer.Infer.{Infer}
use Rattle.jn_heads.specs.Inferred.{class_marks, marks}
use Rattle.jn_annotate_law.proofs.Marked.{marks_at}
use Rattle.jn_annotate_law.proofs.Tabled.{table_by}
use Rattle.jn_quals.specs.Qualifier.{Qualifier}
use Rattle.jn_known.specs.Known.{org_name}
use Rattle.jn_points.specs.declared.program.Field.{Field}
use Rattle.jn_points.specs.declared.program.Method.{Method}
use Rattle.jn_points.specs.declared.program.SlotInfo.{SlotInfo}
use Rattle.jn_trees.specs.declared.token.Token.{Token}
use Rattle.jn_trees.specs.declared.expression.Identifier.{Identifier}
use Rattle.jn_trees.specs.Trees.{DottedName, ImportTree, SourceTree}
use Rattle.jn_trees.specs.Spelling.{spell_type, spell_import, spell_package_line, spell_imports}
use Rattle.jn_places.specs.Placed.{PlacedDotted, PlacedFile}
use Rattle.jn_places.specs.Places.{behind, spell_next_name, place_next_names, place_dotted, place_package, place_import, place_file, place_type, place_each}
use Rattle.jn_places.specs.Forget.{forget_file}
use Rattle.jn_heads.specs.declared.head.ClassHead.{ClassHead}
use Rattle.jn_heads.specs.Types.{slots_of_all}
use Rattle.jn_classtable.specs.Table.{fields_from, methods_from, bodies_of_all}
use Rattle.jn_heads.specs.Extract.{heads}
use Rattle.jn_lowering.specs.FileRows.{types_rows, is_under, import_row, import_rows, same_names, same_package, package_row, package_behind, files_rows, outside_rows}
use Rattle.jn_annotate.specs.Insertions.{file_fields, file_methods}
use Rattle.jn_annotate_law.specs.Trees.{noted_types, noted_file, noted_files}
use Rattle.jn_annotate_law.specs.Meaning.{AllPlaced}
use Rattle.jn_annotate_law.specs.Worded.{Narrows}
use Rattle.jn_annotate_law.proofs.Positions.{Stands, in_all, stands_left, stands_right}
use Rattle.jn_annotate_law.proofs.Written.{file_parts, slots_all_append}
use Rattle.jn_annotate_law.proofs.NoteRows.{no_rows_left, no_rows_right, no_rows_both}
use Rattle.jn_annotate_law.proofs.MemberRows.{when_stays}
use Rattle.jn_annotate_law.proofs.TypeRows.{types_stay}

-- ---- names of packages and imports

abbrev pub ids : List Identifier → List ℕ
ids [] = []
ids (x ∷ xs) = x.name.0 ∷ ids xs

ids_same : (ts us : List Token) (ns : List NameNo) → ids (place_next_names ts ns) ≡ ids (place_next_names us ns)
ids_same ts us [] = refl
ids_same ts us (n ∷ ns) = ap (λ z. n.0 ∷ z) (ids_same (behind ts (spell_next_name n)) (behind us (spell_next_name n)) ns)

abbrev same_ids : List ℕ → List ℕ → Bool
same_ids [] [] = true
same_ids [] (y ∷ ys) = false
same_ids (x ∷ xs) [] = false
same_ids (x ∷ xs) (y ∷ ys) = eqb x y && same_ids xs ys

names_are : (xs ys : List Identifier) → same_names xs ys ≡ same_ids (ids xs) (ids ys)
names_are [] [] = refl
names_are [] (y ∷ ys) = refl
names_are (x ∷ xs) [] = refl
names_are (x ∷ xs) (y ∷ ys) = ap (λ b. eqb x.name.0 y.name.0 && b) (names_are xs ys)

abbrev pub whole : PlacedDotted → List ℕ
whole d = d.first.name.0 ∷ ids d.more

abbrev pub whole_of : Option PlacedDotted → Option (List ℕ)
whole_of None = None
whole_of (Some d) = Some (whole d)

whole_same : (ts us : List Token) (q : DottedName) → whole (place_dotted ts q) ≡ whole (place_dotted us q)
whole_same ts us q = ap (λ z. q.first.0 ∷ z) (ids_same (drop 1 ts) (drop 1 us) q.more)

package_is : (a b : PlacedDotted) → same_package a b ≡ same_ids (whole a) (whole b)
package_is a b = ap (λ x. eqb a.first.name.0 b.first.name.0 && x) (names_are a.more b.more)

pub package_stays : (f g : Option PlacedDotted) (p : Option DottedName) (ts us : List Token) → whole_of f ≡ whole_of g → package_row f (place_package ts p) ≡ [] → package_row g (place_package us p) ≡ []
package_stays f g None ts us w e = refl
package_stays None None (Some q) ts us w e = refl
package_stays None (Some b) (Some q) ts us w e = absurd (let h : ◌≡◌ {A = Option (List ℕ)} None (Some (whole b)) = w in cc)
package_stays (Some a) None (Some q) ts us w e = absurd (let h : ◌≡◌ {A = Option (List ℕ)} (Some (whole a)) None = w in cc)
package_stays (Some a) (Some b) (Some q) ts us w e =
    let same : whole a ≡ whole b = (let h : ◌≡◌ {A = Option (List ℕ)} (Some (whole a)) (Some (whole b)) = w in cc) in
    let old : PlacedDotted = place_dotted (drop 1 ts) q in
    let new : PlacedDotted = place_dotted (drop 1 us) q in
    when_stays (not (same_package a old)) (not (same_package b new)) _ _
    (ap not (package_is a old ∙ ap (λ x. same_ids x (whole old)) same ∙ ap (same_ids (whole b)) (whole_same (drop 1 ts) (drop 1 us) q) ∙ sym (package_is b new))) e

pub behind_same : (f g : Option PlacedDotted) (p : Option DottedName) (ts us : List Token) → whole_of f ≡ whole_of g → whole_of (package_behind f (place_package ts p)) ≡ whole_of (package_behind g (place_package us p))
behind_same (Some a) (Some b) p ts us w = w
behind_same None None None ts us w = refl
behind_same None None (Some q) ts us w = ap {B = Option (List ℕ)} (λ z. Some z) (whole_same (drop 1 ts) (drop 1 us) q)
behind_same None (Some b) p ts us w = absurd (let h : ◌≡◌ {A = Option (List ℕ)} None (Some (whole b)) = w in cc)
behind_same (Some a) None p ts us w = absurd (let h : ◌≡◌ {A = Option (List ℕ)} (Some (whole a)) None = w in cc)

under_same : (ts us : List Token) (ns : List NameNo) (all : Bool) → is_under (place_next_names ts ns) all ≡ is_under (place_next_names us ns) all
under_same ts us [] all = refl
under_same ts us (n ∷ []) all = refl
under_same ts us (n ∷ m ∷ ns) all = refl

pub imports_stay : (ts us : List Token) (is : List ImportTree) → import_rows (place_each place_import spell_import ts is) ≡ [] → import_rows (place_each place_import spell_import us is) ≡ []
imports_stay ts us [] e = refl
imports_stay ts us (i ∷ is) e =
    let A : List Row = import_row (place_import ts i) in
    let B : List Row = import_rows (place_each place_import spell_import (behind ts (spell_import i)) is) in
    no_rows_both (import_row (place_import us i)) (import_rows (place_each place_import spell_import (behind us (spell_import i)) is))
    (when_stays _ _ _ _ (ap (λ x. not (eqb i.name.first.0 org_name && x)) (under_same (drop 1 (drop 1 ts)) (drop 1 (drop 1 us)) i.name.more i.all)) (no_rows_left A B e))
    (imports_stay (behind ts (spell_import i)) (behind us (spell_import i)) is (no_rows_right A B e))

-- ---- files

module _ (slots : List SlotInfo) (s : List Qualifier) (hs : List ClassHead) (infer : Infer) where
  files_stay : (tokens others : List (List Token)) (trees places : List PlacedFile) (f g : Option PlacedDotted) (c k b : ℕ) (fs restf : List Field) (ms restm : List Method) → AllPlaced tokens trees → AllPlaced others places → map forget_file places ≡ noted_files slots s (map forget_file trees) fs ms → fs ≡ fields_from hs c k (marks infer trees) ++ restf → ms ≡ methods_from hs c k b (marks infer trees) ++ restm → Stands slots s k (slots_of_all hs (marks infer trees)) → whole_of f ≡ whole_of g → files_rows f trees ≡ [] → files_rows g places ≡ []
  files_stay [] others [] [] f g c k b fs restf ms restm p q e ef em h w r = refl
  files_stay [] others [] (place ∷ places) f g c k b fs restf ms restm p q e ef em h w r = cc
  files_stay [] others (tree ∷ trees) places f g c k b fs restf ms restm p q e ef em h w r = absurd p
  files_stay (ts ∷ tokens) others [] places f g c k b fs restf ms restm p q e ef em h w r = absurd p
  files_stay (ts ∷ tokens) [] (tree ∷ trees) [] f g c k b fs restf ms restm p q e ef em h w r = cc
  files_stay (ts ∷ tokens) [] (tree ∷ trees) (place ∷ places) f g c k b fs restf ms restm p q e ef em h w r = absurd q
  files_stay (ts ∷ tokens) (us ∷ others) (tree ∷ trees) [] f g c k b fs restf ms restm p q e ef em h w r = cc
  files_stay (ts ∷ tokens) (us ∷ others) (tree ∷ trees) (place ∷ places) f g c k b fs restf ms restm p q e ef em h w r =
      let bare : SourceTree = forget_file tree in
      let line : List Token → List Token = λ x. behind x (spell_package_line bare.package_line) in
      let at : List Token → List Token = λ x. behind (line x) (spell_imports bare.imports) in
      let xs : List ClassHead = marks_at infer (at ts) bare.types in
      let ys : List ClassHead = marks infer trees in
      let head_is : marks infer (tree ∷ trees) ≡ xs ++ ys = ap (λ (x : PlacedFile). map (class_marks infer) x.types ++ ys) p.0.1 in
      let first : forget_file place ≡ noted_file slots s bare fs ms = cc in
      let others_is : map forget_file places ≡ noted_files slots s (map forget_file trees) (drop (file_fields bare.types) fs) (drop (file_methods bare.types) ms) = cc in
      let noted : SourceTree = noted_file slots s bare fs ms in
      let new_is : place ≡ place_file us noted = q.0.1 ∙ ap (place_file us) first in
      let c' : ℕ = c + length xs in
      let k' : ℕ = k + length (slots_of_all hs xs) in
      let b' : ℕ = b + bodies_of_all xs in
      let A : List Field = fields_from hs c k xs in
      let B : List Field = fields_from hs c' k' ys ++ restf in
      let D : List Method = methods_from hs c k b xs in
      let E : List Method = methods_from hs c' k' b' ys ++ restm in
      let cut = file_parts infer hs bare.types ys c k b fs restf ms restm (at ts) (ef ∙ ap (λ x. fields_from hs c k x ++ restf) head_is) (em ∙ ap (λ x. methods_from hs c k b x ++ restm) head_is) p.0.0.0 in
      let stands : Stands slots s k (slots_of_all hs xs ++ slots_of_all hs ys) = subst (Stands slots s k) (ap (slots_of_all hs) head_is ∙ slots_all_append hs xs ys) h in
      let r' = subst (λ x. files_rows f (x ∷ trees) ≡ []) p.0.1 r in
      let F : List Row = package_row f (place_package ts bare.package_line) in
      let G : List Row = import_rows (place_each place_import spell_import (line ts) bare.imports) in
      let H : List Row = types_rows (place_each place_type spell_type (at ts) bare.types) in
      let K : List Row = files_rows (package_behind f (place_package ts bare.package_line)) trees in
      let one = no_rows_left (F ++ (G ++ H)) K r' in
      let two = no_rows_right F (G ++ H) one in
      let F' : List Row = package_row g (place_package us bare.package_line) in
      let G' : List Row = import_rows (place_each place_import spell_import (line us) bare.imports) in
      let H' : List Row = types_rows (place_each place_type spell_type (at us) (noted_types slots s bare.types fs ms)) in
      let K' : List Row = files_rows (package_behind g (place_package us bare.package_line)) places in
      let here : F' ++ (G' ++ H') ≡ [] =
      no_rows_both F' (G' ++ H') (package_stays f g bare.package_line ts us w (no_rows_left F (G ++ H) one))
      (no_rows_both G' H' (imports_stay (line ts) (line us) bare.imports (no_rows_left G H two))
      (types_stay slots s hs infer bare.types c k b fs B ms E (at ts) (at us) cut.cut_f cut.cut_m p.0.0.0 (stands_left slots s k (slots_of_all hs xs) (slots_of_all hs ys) stands) (no_rows_right G H two))) in
      let later : K' ≡ [] =
      files_stay tokens others trees places (package_behind f (place_package ts bare.package_line)) (package_behind g (place_package us bare.package_line)) c' k' b' (drop (file_fields bare.types) fs) restf (drop (file_methods bare.types) ms) restm p.1 q.1 others_is cut.rest_f cut.rest_m (stands_right slots s k (slots_of_all hs xs) (slots_of_all hs ys) stands) (behind_same f g bare.package_line ts us w) (no_rows_right (F ++ (G ++ H)) K r') in
      subst (λ x. files_rows g (x ∷ places) ≡ []) (sym new_is) (no_rows_both (F' ++ (G' ++ H')) K' here later)

pub outside_stays : (infer : Infer) (tokens others : List (List Token)) (trees places : List PlacedFile) (said : List SlotInfo) (s : List Qualifier) → let P = table_by infer trees in Narrows said P.slots → AllPlaced tokens trees → AllPlaced others places → map forget_file places ≡ noted_files said s (map forget_file trees) P.fields (drop 1 P.methods) → outside_rows trees ≡ [] → outside_rows places ≡ []
outside_stays infer tokens others trees places said s narrow p q e r =
    let hs : List ClassHead = heads trees in
    let xs : List ClassHead = marks infer trees in
    let slots : List SlotInfo = slots_of_all hs xs in
    let fs : List Field = fields_from hs 2 0 xs in
    let ms : List Method = methods_from hs 2 0 1 xs in
    files_stay said s hs infer tokens others trees places None None 2 0 1 fs [] ms [] p q e (sym (append-nil fs)) (sym (append-nil ms)) (record { whole = slots; there = in_all slots; narrow = narrow }) refl r
