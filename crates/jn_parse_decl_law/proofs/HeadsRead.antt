-- Lines and heads of types are read, and only they.
use Rattle.std.proofs.Common.{◌≡◌, List, [], ◌∷◌, ◌++◌, refl, sym, ap, ◌∙◌, subst, append_assoc, Option, Some, None, Bool, true, false, ◌&&◌}
use Rattle.jn_base.specs.declared.number.NameNo.{NameNo}
use Rattle.jn_trees.specs.declared.token.TokenKind.{TokenKind}
use Rattle.jn_trees.specs.declared.token.TokenKind.TheVariants.{Id, Abstract, Class, Extends, Final, Implements, Import, Interface, Package, Private, Protected, Public, Static, LeftBrace, Semicolon, Comma, Dot, At, Star}
use Rattle.jn_trees.specs.Trees.{Mark, NoteMark, PublicMark, ProtectedMark, PrivateMark, StaticMark, ConstantMark, AbstractMark, DottedName, ImportTree}
use Rattle.jn_trees.specs.Spelling.{spell_all_marks, spell_more_names, spell_names, spell_parent, spell_dots, spell_import, spell_package, spell_star}
use Rattle.jn_trees.specs.WellFormed.{every, no_clash, GoodMarks, marks_type, marks_interface}
use Rattle.jn_trees.specs.Pieces.{Piece, PackagePiece, ImportPiece, ClassHead, InterfaceHead, spell_piece, MayHead, MayImport, MayPackage}
use Rattle.jn_parse_decl_law.specs.PieceReader.{TryPiece, checked, add_mark, read_all_marks, good_marks, add_name, read_more_names, read_dots, read_implements, read_extends, read_parent, package_end, read_package, import_end, read_import, class_end, class_interfaces, read_class, interface_end, read_interface, type_behind, read_type_head, read_line, read_first}

-- what is read stands there
abbrev pub SoundBy : (Piece → Type 0) → List TokenKind → TryPiece → Type 0
SoundBy May ts None = Unit {0}
SoundBy May ts (Some r) = (ts ≡ spell_piece r.0 ++ r.1) × May r.0

pub checked_sound : (May : Piece → Type 0) (all : List TokenKind) (b : Bool) (p : Piece) (ts : List TokenKind) → all ≡ spell_piece p ++ ts → (b ≡ true → May p) → SoundBy May all (checked b p ts)
checked_sound May all true p ts e m = (e, m refl)
checked_sound May all false p ts e m = tt

pub checked_full : (b : Bool) (p : Piece) (ts : List TokenKind) → b ≡ true → checked b p ts ≡ Some (p, ts)
checked_full b p ts e = ap (λ x. checked x p ts) e

pub both_true : (a b : Bool) → (a && b) ≡ true → (a ≡ true) × (b ≡ true)
both_true true b e = (refl, e)
both_true false b e = absurd (cc)

pub both_are : (a b : Bool) → a ≡ true → b ≡ true → (a && b) ≡ true
both_are true b e f = f
both_are false b e f = e

pub marks_good : (may : Mark → Bool) (ms : List Mark) → good_marks may ms ≡ true → GoodMarks may ms
marks_good may ms e = both_true (every may ms) (no_clash ms) e

pub marks_test : (may : Mark → Bool) (ms : List Mark) → GoodMarks may ms → good_marks may ms ≡ true
marks_test may ms g = both_are (every may ms) (no_clash ms) g.0 g.1

-- marks
pub all_marks_sound : (ts : List TokenKind) → ts ≡ spell_all_marks (read_all_marks ts).0 ++ (read_all_marks ts).1
all_marks_sound (At ∷ Id n ∷ ts) = ap (λ x. At ∷ Id n ∷ x) (all_marks_sound ts)
all_marks_sound (Public ∷ ts) = ap (λ x. Public ∷ x) (all_marks_sound ts)
all_marks_sound (Protected ∷ ts) = ap (λ x. Protected ∷ x) (all_marks_sound ts)
all_marks_sound (Private ∷ ts) = ap (λ x. Private ∷ x) (all_marks_sound ts)
all_marks_sound (Static ∷ ts) = ap (λ x. Static ∷ x) (all_marks_sound ts)
all_marks_sound (Final ∷ ts) = ap (λ x. Final ∷ x) (all_marks_sound ts)
all_marks_sound (Abstract ∷ ts) = ap (λ x. Abstract ∷ x) (all_marks_sound ts)
all_marks_sound ts = refl

pub all_marks_exact : (ms : List Mark) (rest : List TokenKind) → read_all_marks rest ≡ ([], rest) → read_all_marks (spell_all_marks ms ++ rest) ≡ (ms, rest)
all_marks_exact [] rest e = e
all_marks_exact (NoteMark n ∷ ms) rest e = ap (add_mark (NoteMark n)) (all_marks_exact ms rest e)
all_marks_exact (PublicMark ∷ ms) rest e = ap (add_mark PublicMark) (all_marks_exact ms rest e)
all_marks_exact (ProtectedMark ∷ ms) rest e = ap (add_mark ProtectedMark) (all_marks_exact ms rest e)
all_marks_exact (PrivateMark ∷ ms) rest e = ap (add_mark PrivateMark) (all_marks_exact ms rest e)
all_marks_exact (StaticMark ∷ ms) rest e = ap (add_mark StaticMark) (all_marks_exact ms rest e)
all_marks_exact (ConstantMark ∷ ms) rest e = ap (add_mark ConstantMark) (all_marks_exact ms rest e)
all_marks_exact (AbstractMark ∷ ms) rest e = ap (add_mark AbstractMark) (all_marks_exact ms rest e)

-- names
more_names_sound : (ts : List TokenKind) → ts ≡ spell_more_names (read_more_names ts).0 ++ (read_more_names ts).1
more_names_sound (Comma ∷ Id n ∷ ts) = ap (λ x. Comma ∷ Id n ∷ x) (more_names_sound ts)
more_names_sound ts = refl

more_names_exact : (ns : List NameNo) (us : List TokenKind) → read_more_names (spell_more_names ns ++ LeftBrace ∷ us) ≡ (ns, LeftBrace ∷ us)
more_names_exact [] us = refl
more_names_exact (n ∷ ns) us = ap (add_name n) (more_names_exact ns us)

dots_sound : (ts : List TokenKind) → ts ≡ spell_dots (read_dots ts).0 ++ (read_dots ts).1
dots_sound (Dot ∷ Id n ∷ ts) = ap (λ x. Dot ∷ Id n ∷ x) (dots_sound ts)
dots_sound ts = refl

dots_exact : (ns : List NameNo) (rest : List TokenKind) → read_dots rest ≡ ([], rest) → read_dots (spell_dots ns ++ rest) ≡ (ns, rest)
dots_exact [] rest e = e
dots_exact (n ∷ ns) rest e = ap (add_name n) (dots_exact ns rest e)

implements_sound : (ts : List TokenKind) → ts ≡ spell_names Implements (read_implements ts).0 ++ (read_implements ts).1
implements_sound (Implements ∷ Id n ∷ ts) = ap (λ x. Implements ∷ Id n ∷ x) (more_names_sound ts)
implements_sound ts = refl

implements_exact : (ns : List NameNo) (us : List TokenKind) → read_implements (spell_names Implements ns ++ LeftBrace ∷ us) ≡ (ns, LeftBrace ∷ us)
implements_exact [] us = refl
implements_exact (n ∷ ns) us = ap (add_name n) (more_names_exact ns us)

extends_sound : (ts : List TokenKind) → ts ≡ spell_names Extends (read_extends ts).0 ++ (read_extends ts).1
extends_sound (Extends ∷ Id n ∷ ts) = ap (λ x. Extends ∷ Id n ∷ x) (more_names_sound ts)
extends_sound ts = refl

extends_exact : (ns : List NameNo) (us : List TokenKind) → read_extends (spell_names Extends ns ++ LeftBrace ∷ us) ≡ (ns, LeftBrace ∷ us)
extends_exact [] us = refl
extends_exact (n ∷ ns) us = ap (add_name n) (more_names_exact ns us)

parent_sound : (ts : List TokenKind) → ts ≡ spell_parent (read_parent ts).0 ++ (read_parent ts).1
parent_sound (Extends ∷ Id n ∷ ts) = refl
parent_sound ts = refl

parent_exact : (parent : Option NameNo) (ns : List NameNo) (us : List TokenKind) → read_parent (spell_parent parent ++ (spell_names Implements ns ++ LeftBrace ∷ us)) ≡ (parent, spell_names Implements ns ++ LeftBrace ∷ us)
parent_exact (Some n) ns us = refl
parent_exact None [] us = refl
parent_exact None (n ∷ ns) us = refl

-- the package line
package_regroup : (n : NameNo) (dots ts : List TokenKind) → Package ∷ Id n ∷ (dots ++ Semicolon ∷ ts) ≡ (Package ∷ Id n ∷ (dots ++ Semicolon ∷ [])) ++ ts
package_regroup n dots ts = ap (λ x. Package ∷ Id n ∷ x) (sym (append_assoc dots (Semicolon ∷ []) ts))

package_end_sound : (n : NameNo) (more : List NameNo) (ts : List TokenKind) → SoundBy MayPackage (Package ∷ Id n ∷ (spell_dots more ++ ts)) (package_end n more ts)
package_end_sound n more (Semicolon ∷ ts) = (package_regroup n (spell_dots more) ts, tt)
package_end_sound n more _ = tt

package_sound : (ts : List TokenKind) → SoundBy MayPackage (Package ∷ ts) (read_package ts)
package_sound (Id n ∷ ts) = subst (λ x. SoundBy MayPackage (Package ∷ Id n ∷ x) (package_end n (read_dots ts).0 (read_dots ts).1)) (sym (dots_sound ts)) (package_end_sound n (read_dots ts).0 (read_dots ts).1)
package_sound _ = tt

pub package_full : (q : DottedName) (rest : List TokenKind) → read_first (spell_package q ++ rest) ≡ Some (PackagePiece q, rest)
package_full q rest =
    ap (λ x. read_package (Id q.first ∷ x)) (append_assoc (spell_dots q.more) (Semicolon ∷ []) rest)
    ∙ ap (λ (r : List NameNo × List TokenKind). package_end q.first r.0 r.1) (dots_exact q.more (Semicolon ∷ rest) refl)

-- imports
import_regroup : (n : NameNo) (dots star ts : List TokenKind) → Import ∷ Id n ∷ (dots ++ (star ++ Semicolon ∷ ts)) ≡ (Import ∷ ((Id n ∷ dots) ++ (star ++ Semicolon ∷ []))) ++ ts
import_regroup n dots star ts = ap (λ x. Import ∷ Id n ∷ (dots ++ x)) (sym (append_assoc star (Semicolon ∷ []) ts)) ∙ ap (λ x. Import ∷ Id n ∷ x) (sym (append_assoc dots (star ++ Semicolon ∷ []) ts))

import_end_sound : (n : NameNo) (more : List NameNo) (ts : List TokenKind) → SoundBy MayImport (Import ∷ Id n ∷ (spell_dots more ++ ts)) (import_end n more ts)
import_end_sound n more (Semicolon ∷ ts) = (import_regroup n (spell_dots more) [] ts, tt)
import_end_sound n more (Dot ∷ Star ∷ Semicolon ∷ ts) = (import_regroup n (spell_dots more) (Dot ∷ Star ∷ []) ts, tt)
import_end_sound n more _ = tt

import_sound : (ts : List TokenKind) → SoundBy MayImport (Import ∷ ts) (read_import ts)
import_sound (Id n ∷ ts) = subst (λ x. SoundBy MayImport (Import ∷ Id n ∷ x) (import_end n (read_dots ts).0 (read_dots ts).1)) (sym (dots_sound ts)) (import_end_sound n (read_dots ts).0 (read_dots ts).1)
import_sound _ = tt

import_read : (q : DottedName) (all : Bool) (rest : List TokenKind) → read_import ((Id q.first ∷ spell_dots q.more) ++ (spell_star all ++ Semicolon ∷ rest)) ≡ Some (ImportPiece (record { name = q; all = all }), rest)
import_read q true rest = ap (λ (r : List NameNo × List TokenKind). import_end q.first r.0 r.1) (dots_exact q.more (Dot ∷ Star ∷ Semicolon ∷ rest) refl)
import_read q false rest = ap (λ (r : List NameNo × List TokenKind). import_end q.first r.0 r.1) (dots_exact q.more (Semicolon ∷ rest) refl)

pub import_full : (i : ImportTree) (rest : List TokenKind) → read_line (spell_import i ++ rest) ≡ Some (ImportPiece i, rest)
import_full i rest = ap read_line (sym (import_regroup i.name.first (spell_dots i.name.more) (spell_star i.all) rest)) ∙ import_read i.name i.all rest

-- heads of classes
class_regroup : (marks parent interfaces : List TokenKind) (n : NameNo) (ts : List TokenKind) → marks ++ Class ∷ Id n ∷ (parent ++ (interfaces ++ LeftBrace ∷ ts)) ≡ (marks ++ Class ∷ Id n ∷ (parent ++ (interfaces ++ LeftBrace ∷ []))) ++ ts
class_regroup marks parent interfaces n ts = simp append_assoc

class_end_sound : (ms : List Mark) (n : NameNo) (parent : Option NameNo) (interfaces : List NameNo) (ts : List TokenKind) → SoundBy MayHead (spell_all_marks ms ++ Class ∷ Id n ∷ (spell_parent parent ++ (spell_names Implements interfaces ++ ts))) (class_end ms n parent interfaces ts)
class_end_sound ms n parent interfaces (LeftBrace ∷ ts) =
    checked_sound MayHead (spell_all_marks ms ++ Class ∷ Id n ∷ (spell_parent parent ++ (spell_names Implements interfaces ++ LeftBrace ∷ ts))) (good_marks marks_type ms) (ClassHead ms n parent interfaces) ts
    (class_regroup (spell_all_marks ms) (spell_parent parent) (spell_names Implements interfaces) n ts) (marks_good marks_type ms)
class_end_sound ms n parent interfaces _ = tt

class_sound : (ms : List Mark) (ts : List TokenKind) → SoundBy MayHead (spell_all_marks ms ++ Class ∷ ts) (read_class ms ts)
class_sound ms (Id n ∷ ts) =
    let p = read_parent ts in
    let is = read_implements p.1 in
    let spelled : ts ≡ spell_parent p.0 ++ (spell_names Implements is.0 ++ is.1) = parent_sound ts ∙ ap (λ x. spell_parent p.0 ++ x) (implements_sound p.1) in
    subst (λ x. SoundBy MayHead (spell_all_marks ms ++ Class ∷ Id n ∷ x) (class_end ms n p.0 is.0 is.1)) (sym spelled) (class_end_sound ms n p.0 is.0 is.1)
class_sound ms _ = tt

class_read : (ms : List Mark) (n : NameNo) (parent : Option NameNo) (interfaces : List NameNo) (rest : List TokenKind) → GoodMarks marks_type ms → read_class ms (Id n ∷ (spell_parent parent ++ (spell_names Implements interfaces ++ LeftBrace ∷ rest))) ≡ Some (ClassHead ms n parent interfaces, rest)
class_read ms n parent interfaces rest g =
    ap (λ (r : Option NameNo × List TokenKind). class_interfaces ms n r.0 r.1) (parent_exact parent interfaces rest)
    ∙ ap (λ (r : List NameNo × List TokenKind). class_end ms n parent r.0 r.1) (implements_exact interfaces rest)
    ∙ checked_full (good_marks marks_type ms) (ClassHead ms n parent interfaces) rest (marks_test marks_type ms g)

-- heads of interfaces
interface_regroup : (marks parents : List TokenKind) (n : NameNo) (ts : List TokenKind) → marks ++ Interface ∷ Id n ∷ (parents ++ LeftBrace ∷ ts) ≡ (marks ++ Interface ∷ Id n ∷ (parents ++ LeftBrace ∷ [])) ++ ts
interface_regroup marks parents n ts = simp append_assoc

interface_end_sound : (ms : List Mark) (n : NameNo) (parents : List NameNo) (ts : List TokenKind) → SoundBy MayHead (spell_all_marks ms ++ Interface ∷ Id n ∷ (spell_names Extends parents ++ ts)) (interface_end ms n parents ts)
interface_end_sound ms n parents (LeftBrace ∷ ts) =
    checked_sound MayHead (spell_all_marks ms ++ Interface ∷ Id n ∷ (spell_names Extends parents ++ LeftBrace ∷ ts)) (good_marks marks_interface ms) (InterfaceHead ms n parents) ts
    (interface_regroup (spell_all_marks ms) (spell_names Extends parents) n ts) (marks_good marks_interface ms)
interface_end_sound ms n parents _ = tt

interface_sound : (ms : List Mark) (ts : List TokenKind) → SoundBy MayHead (spell_all_marks ms ++ Interface ∷ ts) (read_interface ms ts)
interface_sound ms (Id n ∷ ts) =
    let ps = read_extends ts in
    subst (λ x. SoundBy MayHead (spell_all_marks ms ++ Interface ∷ Id n ∷ x) (interface_end ms n ps.0 ps.1)) (sym (extends_sound ts)) (interface_end_sound ms n ps.0 ps.1)
interface_sound ms _ = tt

interface_read : (ms : List Mark) (n : NameNo) (parents : List NameNo) (rest : List TokenKind) → GoodMarks marks_interface ms → read_interface ms (Id n ∷ (spell_names Extends parents ++ LeftBrace ∷ rest)) ≡ Some (InterfaceHead ms n parents, rest)
interface_read ms n parents rest g =
    ap (λ (r : List NameNo × List TokenKind). interface_end ms n r.0 r.1) (extends_exact parents rest)
    ∙ checked_full (good_marks marks_interface ms) (InterfaceHead ms n parents) rest (marks_test marks_interface ms g)

-- heads of types
type_behind_sound : (ms : List Mark) (ts : List TokenKind) → SoundBy MayHead (spell_all_marks ms ++ ts) (type_behind ms ts)
type_behind_sound ms (Class ∷ ts) = class_sound ms ts
type_behind_sound ms (Interface ∷ ts) = interface_sound ms ts
type_behind_sound ms _ = tt

pub type_head_sound : (ts : List TokenKind) → SoundBy MayHead ts (read_type_head ts)
type_head_sound ts = subst (λ x. SoundBy MayHead x (read_type_head ts)) (sym (all_marks_sound ts)) (type_behind_sound (read_all_marks ts).0 (read_all_marks ts).1)

-- a head of a type that may stand there is read, and just it
pub head_full : (p : Piece) (rest : List TokenKind) → MayHead p → read_type_head (spell_piece p ++ rest) ≡ Some (p, rest)
head_full (ClassHead ms n parent interfaces) rest g =
    let more = spell_parent parent ++ (spell_names Implements interfaces ++ LeftBrace ∷ rest) in
    ap read_type_head (sym (class_regroup (spell_all_marks ms) (spell_parent parent) (spell_names Implements interfaces) n rest))
    ∙ ap (λ (r : List Mark × List TokenKind). type_behind r.0 r.1) (all_marks_exact ms (Class ∷ Id n ∷ more) refl)
    ∙ class_read ms n parent interfaces rest g
head_full (InterfaceHead ms n parents) rest g =
    let more = spell_names Extends parents ++ LeftBrace ∷ rest in
    ap read_type_head (sym (interface_regroup (spell_all_marks ms) (spell_names Extends parents) n rest))
    ∙ ap (λ (r : List Mark × List TokenKind). type_behind r.0 r.1) (all_marks_exact ms (Interface ∷ Id n ∷ more) refl)
    ∙ interface_read ms n parents rest g
head_full _ rest g = absurd g

-- what no head of a type begins with
abbrev starts_line : List TokenKind → Bool
starts_line (Package ∷ ts) = true
starts_line (Import ∷ ts) = true
starts_line _ = false

marks_no_line : (ms : List Mark) (rest : List TokenKind) → starts_line rest ≡ false → starts_line (spell_all_marks ms ++ rest) ≡ false
marks_no_line [] rest e = e
marks_no_line (NoteMark n ∷ ms) rest e = refl
marks_no_line (PublicMark ∷ ms) rest e = refl
marks_no_line (ProtectedMark ∷ ms) rest e = refl
marks_no_line (PrivateMark ∷ ms) rest e = refl
marks_no_line (StaticMark ∷ ms) rest e = refl
marks_no_line (ConstantMark ∷ ms) rest e = refl
marks_no_line (AbstractMark ∷ ms) rest e = refl

head_no_line : (p : Piece) (rest : List TokenKind) → MayHead p → starts_line (spell_piece p ++ rest) ≡ false
head_no_line (ClassHead ms n parent interfaces) rest g =
    ap starts_line (sym (class_regroup (spell_all_marks ms) (spell_parent parent) (spell_names Implements interfaces) n rest))
    ∙ marks_no_line ms (Class ∷ Id n ∷ (spell_parent parent ++ (spell_names Implements interfaces ++ LeftBrace ∷ rest))) refl
head_no_line (InterfaceHead ms n parents) rest g =
    ap starts_line (sym (interface_regroup (spell_all_marks ms) (spell_names Extends parents) n rest))
    ∙ marks_no_line ms (Interface ∷ Id n ∷ (spell_names Extends parents ++ LeftBrace ∷ rest)) refl
head_no_line _ rest g = absurd g

line_is_head : (ts : List TokenKind) → starts_line ts ≡ false → read_line ts ≡ read_type_head ts
line_is_head (Import ∷ ts) e = cc
line_is_head ts e = refl

first_is_line : (ts : List TokenKind) → starts_line ts ≡ false → read_first ts ≡ read_line ts
first_is_line (Package ∷ ts) e = cc
first_is_line ts e = refl

-- what may stand after the package line, and first in a file
may_import : (p : Piece) → MayHead p → MayImport p
may_import (ClassHead ms n parent interfaces) g = g
may_import (InterfaceHead ms n parents) g = g
may_import _ g = absurd g

may_package : (p : Piece) → MayImport p → MayPackage p
may_package (ImportPiece i) g = g
may_package (ClassHead ms n parent interfaces) g = g
may_package (InterfaceHead ms n parents) g = g
may_package _ g = absurd g

weaker : (May Also : Piece → Type 0) → ((p : Piece) → May p → Also p) → (ts : List TokenKind) (o : TryPiece) → SoundBy May ts o → SoundBy Also ts o
weaker May Also h ts None s = tt
weaker May Also h ts (Some r) s = (s.0, h r.0 s.1)

pub line_sound : (ts : List TokenKind) → SoundBy MayImport ts (read_line ts)
line_sound (Import ∷ ts) = import_sound ts
line_sound ts = weaker MayHead MayImport may_import ts (read_type_head ts) (type_head_sound ts)

pub first_sound : (ts : List TokenKind) → SoundBy MayPackage ts (read_first ts)
first_sound (Package ∷ ts) = package_sound ts
first_sound ts = weaker MayImport MayPackage may_package ts (read_line ts) (line_sound ts)

pub line_full : (p : Piece) (rest : List TokenKind) → MayImport p → read_line (spell_piece p ++ rest) ≡ Some (p, rest)
line_full (ImportPiece i) rest g = import_full i rest
line_full (ClassHead ms n parent interfaces) rest g = let p = ClassHead ms n parent interfaces in line_is_head (spell_piece p ++ rest) (head_no_line p rest g) ∙ head_full p rest g
line_full (InterfaceHead ms n parents) rest g = let p = InterfaceHead ms n parents in line_is_head (spell_piece p ++ rest) (head_no_line p rest g) ∙ head_full p rest g
line_full _ rest g = absurd g

pub first_full : (p : Piece) (rest : List TokenKind) → MayPackage p → read_first (spell_piece p ++ rest) ≡ Some (p, rest)
first_full (PackagePiece q) rest g = package_full q rest
first_full (ImportPiece i) rest g = import_full i rest
first_full (ClassHead ms n parent interfaces) rest g = let p = ClassHead ms n parent interfaces in first_is_line (spell_piece p ++ rest) (head_no_line p rest g) ∙ line_full p rest g
first_full (InterfaceHead ms n parents) rest g = let p = InterfaceHead ms n parents in first_is_line (spell_piece p ++ rest) (head_no_line p rest g) ∙ line_full p rest g
first_full _ rest g = absurd g
