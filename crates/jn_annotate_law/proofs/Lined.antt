-- Files with more imports of annotations have the programs and the rows of the files: nothing but rows of imports reads imports, and these have none.
use Rattle.std.proofs.Common.{◌≡◌, true, cond, List, [], ◌∷◌, ◌++◌, Option, None, refl, sym, ap, ◌∙◌, append_assoc}
use Rattle.std.specs.Prelude.{flat_map, map}
use Rattle.jn_base.specs.declared.infer.Infer.{Infer}
use Rattle.jn_base.specs.declared.place.Row.{Row}
use Rattle.jn_points.specs.declared.program.Program.{Program}
use Rattle.jn_trees.specs.Pieces.{kinds}
use Rattle.jn_trees.specs.Spelling.{spell_file, spell_import, spell_imports, spell_package_line, spell_type, spell_types}
use Rattle.jn_trees.specs.Trees.{ImportTree, SourceTree}
use Rattle.jn_trees.specs.declared.token.Token.{Token}
use Rattle.jn_trees.specs.declared.token.TokenKind.{TokenKind}
use Rattle.jn_places.specs.Placed.{PlacedDotted, PlacedFile, PlacedType}
use Rattle.jn_places.specs.Places.{behind, place_each, place_file, place_import, place_type}
use Rattle.jn_heads.specs.declared.head.ClassHead.{ClassHead}
use Rattle.jn_heads.specs.Extract.{class_head, heads}
use Rattle.jn_heads.specs.Inferred.{class_marks, marks}
use Rattle.jn_declaration_rules.specs.Rows.{no_rows}
use Rattle.jn_classtable.specs.Rows.{t_rows}
use Rattle.jn_heads.specs.Heads.{all_heads}
use Rattle.jn_classtable.specs.Table.{table}
use Rattle.jn_heads.specs.Types.{slots_of_all}
use Rattle.jn_lowering.specs.Bodies.{with_bodies}
use Rattle.jn_lowering.specs.BodyRows.{rows_of_bodies}
use Rattle.jn_lowering.specs.FileRows.{files_rows, import_rows, outside_rows, package_behind, package_row, types_rows}
use Rattle.jn_program_law.specs.FileProgram.{inferring, j_rows, program_of_files, rows_of_files}
use Rattle.jn_program_law.specs.FileSources.{numbered, sources, type_trees, types_of, unwritten_tree}
use Rattle.jn_annotate.specs.declared.imports.Package.{Package}
use Rattle.jn_annotate.specs.Imports.{import_of}
use Rattle.jn_annotate.proofs.Cursors.{behind_append}
use Rattle.jn_annotate_law.specs.Trees.{with_imports}
use Rattle.jn_annotate_law.proofs.AllRows.{none_of_either}
use Rattle.jn_annotate_law.proofs.NoteRows.{no_rows_left, no_rows_right, no_rows_both}
use Rattle.jn_annotate_law.proofs.OutsideRows.{behind_same, imports_stay, package_stays, whole_of}
use Rattle.jn_annotate_law.proofs.Weaves.{behind_kinds, taken}

-- ---- a file's tokens without those of the imports

taken_kinds : (us : List Token) (ks ls : List TokenKind) → kinds us ≡ ks ++ ls → kinds (taken us ks) ≡ ks
taken_kinds us [] ls e = refl
taken_kinds [] (k ∷ ks) ls e = cc
taken_kinds (u ∷ us) (k ∷ ks) ls e =
    let head : u.kind ≡ k = cc in
    let tail : kinds us ≡ ks ++ ls = cc in
    ap (λ x. x ∷ kinds (taken us ks)) head ∙ ap (λ x. k ∷ x) (taken_kinds us ks ls tail)

behind_taken : (us more : List Token) (ks ls : List TokenKind) → kinds us ≡ ks ++ ls → behind (taken us ks ++ more) ks ≡ more
behind_taken us more [] ls e = refl
behind_taken [] more (k ∷ ks) ls e = cc
behind_taken (u ∷ us) more (k ∷ ks) ls e = behind_taken us more ks ls (let tail : kinds us ≡ ks ++ ls = cc in tail)

kinds_both : (ts us : List Token) → kinds (ts ++ us) ≡ kinds ts ++ kinds us
kinds_both [] us = refl
kinds_both (t ∷ ts) us = ap (λ x. t.kind ∷ x) (kinds_both ts us)

imports_both : (xs ys : List ImportTree) → spell_imports (xs ++ ys) ≡ spell_imports xs ++ spell_imports ys
imports_both [] ys = refl
imports_both (x ∷ xs) ys = ap (λ z. spell_import x ++ z) (imports_both xs ys) ∙ sym (append_assoc (spell_import x) (spell_imports xs) (spell_imports ys))

-- ---- one file

-- a file with imports more
pub record Lined (plain place : PlacedFile) : Type 0 where
  pub types : place.types ≡ plain.types
  pub imports : import_rows plain.imports ≡ [] → import_rows place.imports ≡ []
  pub package_rows : (f g : Option PlacedDotted) → whole_of f ≡ whole_of g → package_row f plain.package_line ≡ [] → package_row g place.package_line ≡ []
  pub behind_it : (f g : Option PlacedDotted) → whole_of f ≡ whole_of g → whole_of (package_behind f plain.package_line) ≡ whole_of (package_behind g place.package_line)

import_none : (ts us : List Token) (ps : List Package) (is : List ImportTree) → import_rows (place_each place_import spell_import ts is) ≡ [] → import_rows (place_each place_import spell_import us (map import_of ps ++ is)) ≡ []
import_none ts us [] is e = imports_stay ts us is e
import_none ts us (p ∷ ps) is e = import_none ts (behind us (spell_import (import_of p))) ps is e

module _ (us : List Token) (ps : List Package) (g : SourceTree) (e : kinds us ≡ spell_file (with_imports ps g)) where
  abbrev line : List TokenKind
  line = spell_package_line g.package_line

  abbrev lines : List TokenKind
  lines = spell_imports (map import_of ps)

  abbrev rest : List TokenKind
  rest = spell_imports g.imports ++ spell_types g.types

  abbrev below : List Token
  below = behind (behind us line) lines

  -- its tokens without those of these imports
  abbrev pub plain_tokens : List Token
  plain_tokens = taken us line ++ below

  parts : kinds us ≡ line ++ (lines ++ rest)
  parts = e ∙ ap (λ x. line ++ x) (ap (λ x. x ++ spell_types g.types) (imports_both (map import_of ps) g.imports) ∙ append_assoc lines (spell_imports g.imports) (spell_types g.types))

  pub plain_kinds : kinds plain_tokens ≡ spell_file g
  plain_kinds =
      kinds_both (taken us line) below ∙ ap (λ x. x ++ kinds below) (taken_kinds us line (lines ++ rest) parts)
      ∙ ap (λ x. line ++ x) (behind_kinds (behind us line) lines rest (behind_kinds us line (lines ++ rest) parts))

  pub lined : Lined (place_file plain_tokens g) (place_file us (with_imports ps g))
  lined =
      let above : behind plain_tokens line ≡ below = behind_taken us below line (lines ++ rest) parts in
      let there : behind (behind us line) (spell_imports (map import_of ps ++ g.imports)) ≡ behind (behind plain_tokens line) (spell_imports g.imports) =
      ap (behind (behind us line)) (imports_both (map import_of ps) g.imports) ∙ behind_append (behind us line) lines (spell_imports g.imports) ∙ ap (λ x. behind x (spell_imports g.imports)) (sym above) in
      record {
        types = ap (λ x. place_each place_type spell_type x g.types) there;
        imports = λ h. import_none (behind plain_tokens line) (behind us line) ps g.imports h;
        package_rows = λ f f' w h. package_stays f f' g.package_line plain_tokens us w h;
        behind_it = λ f f' w. behind_same f f' g.package_line plain_tokens us w;
      }

-- ---- files

abbrev pub AllLined : List PlacedFile → List PlacedFile → Type 0
AllLined [] [] = Unit {0}
AllLined [] (y ∷ ys) = ⊥
AllLined (x ∷ xs) [] = ⊥
AllLined (x ∷ xs) (y ∷ ys) = Lined x y × AllLined xs ys

by_types : {A : Type 0} (G : List PlacedType → List A) (xs ys : List PlacedFile) → AllLined xs ys → flat_map (λ (f : PlacedFile). G f.types) ys ≡ flat_map (λ (f : PlacedFile). G f.types) xs
by_types G [] [] h = refl
by_types G [] (y ∷ ys) h = absurd h
by_types G (x ∷ xs) [] h = absurd h
by_types G (x ∷ xs) (y ∷ ys) h = ap (λ t. G t ++ flat_map (λ (f : PlacedFile). G f.types) ys) h.0.types ∙ ap (λ r. G x.types ++ r) (by_types G xs ys h.1)

-- a program by what is read of files
abbrev built : List ClassHead → List ClassHead → List PlacedType → Program
built hs ms types = record (with_bodies (table hs) (numbered 0 (unwritten_tree [] ∷ flat_map type_trees types))) { slots = slots_of_all hs (all_heads ms) }

module _ (xs ys : List PlacedFile) (h : AllLined xs ys) where
  heads_same : heads ys ≡ heads xs
  heads_same = by_types (map class_head) xs ys h

  types_same : types_of ys ≡ types_of xs
  types_same = by_types (λ t. t) xs ys h

  pub program_same : (infer : Infer) → inferring infer ys ≡ inferring infer xs
  program_same infer =
      ap (λ z. built z (marks infer ys) (types_of ys)) heads_same
      ∙ ap (λ z. built (heads xs) z (types_of ys)) (by_types (map (class_marks infer)) xs ys h)
      ∙ ap (built (heads xs) (marks infer xs)) types_same

  pub files_same : program_of_files ys ≡ program_of_files xs
  files_same = ap (λ z. with_bodies (table z) (sources ys)) heads_same ∙ ap (λ z. with_bodies (table (heads xs)) (numbered 0 (unwritten_tree [] ∷ flat_map type_trees z))) types_same

  bodies_same : rows_of_bodies (table (heads ys)) (sources ys) ≡ rows_of_bodies (table (heads xs)) (sources xs)
  bodies_same = ap (λ z. rows_of_bodies (table z) (sources ys)) heads_same ∙ ap (λ z. rows_of_bodies (table (heads xs)) (numbered 0 (unwritten_tree [] ∷ flat_map type_trees z))) types_same

outside_none : (f g : Option PlacedDotted) (xs ys : List PlacedFile) → AllLined xs ys → whole_of f ≡ whole_of g → files_rows f xs ≡ [] → files_rows g ys ≡ []
outside_none f g [] [] h w e = refl
outside_none f g [] (y ∷ ys) h w e = absurd h
outside_none f g (x ∷ xs) [] h w e = absurd h
outside_none f g (x ∷ xs) (y ∷ ys) h w e =
    let A : List Row = package_row f x.package_line in
    let B : List Row = import_rows x.imports in
    let C : List Row = types_rows x.types in
    let D : List Row = files_rows (package_behind f x.package_line) xs in
    let one = no_rows_left (A ++ (B ++ C)) D e in
    let two = no_rows_right A (B ++ C) one in
    no_rows_both (package_row g y.package_line ++ (import_rows y.imports ++ types_rows y.types)) (files_rows (package_behind g y.package_line) ys)
    (no_rows_both (package_row g y.package_line) (import_rows y.imports ++ types_rows y.types) (h.0.package_rows f g w (no_rows_left A (B ++ C) one))
    (no_rows_both (import_rows y.imports) (types_rows y.types) (h.0.imports (no_rows_left B C two)) (ap types_rows h.0.types ∙ no_rows_right B C two)))
    (outside_none (package_behind f x.package_line) (package_behind g y.package_line) xs ys h.1 (h.0.behind_it f g w) (no_rows_right (A ++ (B ++ C)) D e))

-- files without rows stay without
pub lined_rows : (xs ys : List PlacedFile) → AllLined xs ys → rows_of_files xs ≡ [] → rows_of_files ys ≡ []
lined_rows xs ys h e =
    let old = none_of_either (t_rows (heads xs)) (j_rows xs) e in
    let bodies : List Row = rows_of_bodies (table (heads xs)) (sources xs) in
    let good : no_rows (t_rows (heads ys)) ≡ true = ap (λ z. no_rows (t_rows z)) (heads_same xs ys h) ∙ old.0 in
    let outside : outside_rows ys ≡ [] = outside_none None None xs ys h refl (no_rows_left (outside_rows xs) bodies old.1) in
    ap (λ b. cond b (j_rows ys) (t_rows (heads ys))) good
    ∙ no_rows_both (outside_rows ys) (rows_of_bodies (table (heads ys)) (sources ys)) outside (bodies_same xs ys h ∙ no_rows_right (outside_rows xs) bodies old.1)
