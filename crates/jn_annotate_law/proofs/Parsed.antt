-- Annotated texts have the annotated trees.
use Rattle.std.proofs.Common.{◌≡◌, ℕ, List, [], ◌∷◌, ◌++◌, refl, sym, ap, ◌∙◌, subst, append_assoc}
use Rattle.std.specs.Prelude.{map, Option, Some, None}
use Rattle.jn_base.specs.declared.number.FileNo.{FileNo}
use Rattle.jn_quals.specs.Qualifier.{Qualifier}
use Rattle.jn_points.specs.declared.program.Field.{Field}
use Rattle.jn_points.specs.declared.program.Method.{Method}
use Rattle.jn_points.specs.declared.program.SlotInfo.{SlotInfo}
use Rattle.jn_lexer.specs.Lexed.{Lexed}
use Rattle.jn_trees.specs.Pieces.{kinds, Shallow, IsFile}
use Rattle.jn_trees.specs.Spelling.{spell_file, spell_import, spell_imports, spell_types}
use Rattle.jn_trees.specs.Trees.{DottedName, ImportTree, SourceTree, TypeDeclaration}
use Rattle.jn_trees.specs.declared.token.Token.{Token}
use Rattle.jn_trees.specs.declared.token.TokenKind.{TokenKind}
use Rattle.jn_splice_law.specs.Inserted.{inserted, Insertion, put_in}
use Rattle.jn_splice_law.specs.Woven.{import_kinds, import_text}
use Rattle.jn_splice_law.proofs.Lines.{import_before}
use Rattle.jn_splice_law.proofs.Weaving.{woven_text}
use Rattle.jn_annotate_law.specs.Fits.{TypesFit}
use Rattle.jn_annotate.specs.declared.imports.Package.{Package}
use Rattle.jn_annotate.specs.Imports.{import_line, import_of, line_end, put_line}
use Rattle.jn_annotate.specs.Insertions.{in_file}
use Rattle.jn_annotate_law.specs.Trees.{noted_file, with_imports}
use Rattle.jn_annotate_law.proofs.Notes.{HasKnown, line_end_is, line_is, line_kinds, notes_known, org_note, rest_notes}
use Rattle.jn_annotate_law.proofs.Members.{file_weave, file_lines_weave}
use Rattle.jn_annotate_law.proofs.Good.{file_good}
use Rattle.jn_annotate_law.proofs.Opening.{import_shallow, woven_shallow}

pub parsed : (file : FileNo) (text : List ℕ) (old new : List (List ℕ)) (ts : List Token) (f : SourceTree) (slots : List SlotInfo) (s : List Qualifier) (fs : List Field) (methods : List Method) → HasKnown old → Lexed file text old ts new → IsFile ts f → TypesFit slots s f.types methods → (us : List Token) × Lexed file (inserted text (in_file slots s text ts f fs methods)) old us new × IsFile us (noted_file slots s f fs methods)
parsed file text old new ts f slots s fs methods known l h fits =
    let w = file_weave text old known slots s ts f fs methods h.1 in
    let r = woven_text file text old new ts w.items l w.kept_is w.are in
    let spelled : kinds r.0 ≡ spell_file (noted_file slots s f fs methods) = r.2 ∙ w.woven_is in
    let shallow : Shallow (kinds r.0) = subst Shallow (sym r.2) (woven_shallow old w.items w.are (subst (λ x. Shallow (kinds x)) (sym w.kept_is) h.2)) in
    (r.0, subst (λ x. Lexed file (inserted text x) old r.0 new) w.put_is r.1, (file_good slots s f fs methods fits h.0, spelled, shallow))

-- ---- with lines that import annotations

put_first : (words text : List ℕ) → put_in 0 words text ≡ words ++ text
put_first words [] = refl
put_first words (c ∷ cs) = refl

-- before a text
module _ (file : FileNo) (text : List ℕ) (old new : List (List ℕ)) (ts : List Token) (known : HasKnown old) (is : List Insertion) (us : List Token) (l : Lexed file (inserted text is) old us new) where
  first_lines : (ps : List Package) → (vs : List Token) × Lexed file (inserted text (map (put_line text ts None) ps ++ is)) old vs new × (kinds vs ≡ spell_imports (map import_of ps) ++ kinds us)
  first_lines [] = (us, l, refl)
  first_lines (p ∷ ps) =
      let r = first_lines ps in
      let below : List ℕ = inserted text (map (put_line text ts None) ps ++ is) in
      let o = import_before file below old new r.0 (line_end text) org_note (rest_notes p) r.1 (line_end_is text) (notes_known old known p) in
      let same : (import_text org_note (rest_notes p) ++ line_end text) ++ below ≡ put_in 0 (import_line p ++ line_end text) below = ap (λ x. (x ++ line_end text) ++ below) (line_is p) ∙ sym (put_first (import_line p ++ line_end text) below) in (
        o.0,
        subst (λ x. Lexed file x old o.0 new) same o.1,
        o.2 ∙ ap (λ x. import_kinds org_note (rest_notes p) ++ x) r.2 ∙ ap (λ x. x ++ (spell_imports (map import_of ps) ++ kinds us)) (line_kinds p) ∙ sym (append_assoc (spell_import (import_of p)) (spell_imports (map import_of ps)) (kinds us)),
      )

imports_shallow : (ps : List Package) (ks : List TokenKind) → Shallow ks → Shallow (spell_imports (map import_of ps) ++ ks)
imports_shallow [] ks h = h
imports_shallow (p ∷ ps) ks h =
    let below : List TokenKind = spell_imports (map import_of ps) ++ ks in
    let one : Shallow (spell_import (import_of p) ++ below) = subst (λ x. Shallow (x ++ below)) (line_kinds p) (import_shallow org_note (rest_notes p) below (imports_shallow ps ks h)) in
    subst Shallow (sym (append_assoc (spell_import (import_of p)) (spell_imports (map import_of ps)) ks)) one

imports_append : (xs ys : List ImportTree) → spell_imports (xs ++ ys) ≡ spell_imports xs ++ spell_imports ys
imports_append [] ys = refl
imports_append (x ∷ xs) ys = ap (λ z. spell_import x ++ z) (imports_append xs ys) ∙ sym (append_assoc (spell_import x) (spell_imports xs) (spell_imports ys))

module _ (file : FileNo) (text : List ℕ) (old new : List (List ℕ)) (ts : List Token) (imports : List ImportTree) (types : List TypeDeclaration) (slots : List SlotInfo) (s : List Qualifier) (fs : List Field) (methods : List Method) (ps : List Package) (known : HasKnown old) (l : Lexed file text old ts new) (fits : TypesFit slots s types methods) where
  abbrev tree : Option DottedName → SourceTree
  tree line = record { package_line = line; imports = imports; types = types }

  abbrev HasLines : Option DottedName → Type 0
  HasLines line = (us : List Token) × Lexed file (inserted text (map (put_line text ts line) ps ++ in_file slots s text ts (tree line) fs methods)) old us new × IsFile us (with_imports ps (noted_file slots s (tree line) fs methods))

  with_lines_of : (line : Option DottedName) → IsFile ts (tree line) → HasLines line
  with_lines_of (Some q) h =
      let f : SourceTree = tree (Some q) in
      let w = file_lines_weave text old known slots s ps q imports types ts fs methods h.1 in
      let r = woven_text file text old new ts w.items l w.kept_is w.are in
      let spelled : kinds r.0 ≡ spell_file (with_imports ps (noted_file slots s f fs methods)) = r.2 ∙ w.woven_is in
      let shallow : Shallow (kinds r.0) = subst Shallow (sym r.2) (woven_shallow old w.items w.are (subst (λ x. Shallow (kinds x)) (sym w.kept_is) h.2)) in
      (r.0, subst (λ x. Lexed file (inserted text x) old r.0 new) w.put_is r.1, (file_good slots s f fs methods fits h.0, spelled, shallow))
  with_lines_of None h =
      let f : SourceTree = tree None in
      let g : SourceTree = noted_file slots s f fs methods in
      let r = parsed file text old new ts f slots s fs methods known l h fits in
      let v = first_lines file text old new ts known (in_file slots s text ts f fs methods) r.0 r.1 ps in
      let lines : List TokenKind = spell_imports (map import_of ps) in
      let spelled : kinds v.0 ≡ spell_file (with_imports ps g) =
      v.2 ∙ ap (λ x. lines ++ x) r.2.1 ∙ sym (append_assoc lines (spell_imports imports) (spell_types g.types)) ∙ ap (λ x. x ++ spell_types g.types) (sym (imports_append (map import_of ps) imports)) in
      (v.0, v.1, (r.2.0, spelled, subst Shallow (sym v.2) (imports_shallow ps (kinds r.0) r.2.2)))

-- a file's text with such lines has them before its imports
pub parsed_lines : (file : FileNo) (text : List ℕ) (old new : List (List ℕ)) (ts : List Token) (f : SourceTree) (slots : List SlotInfo) (s : List Qualifier) (fs : List Field) (methods : List Method) (ps : List Package) → HasKnown old → Lexed file text old ts new → IsFile ts f → TypesFit slots s f.types methods → (us : List Token) × Lexed file (inserted text (map (put_line text ts f.package_line) ps ++ in_file slots s text ts f fs methods)) old us new × IsFile us (with_imports ps (noted_file slots s f fs methods))
parsed_lines file text old new ts f slots s fs methods ps known l h fits = with_lines_of file text old new ts f.imports f.types slots s fs methods ps known l fits f.package_line h
