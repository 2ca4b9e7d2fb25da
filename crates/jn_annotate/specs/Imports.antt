-- The lines that import annotations: for each package of annotations of which a file gets a word that it doesn't import, one of all its
-- annotations (JLS 8, 7.5.2).
use Rattle.std.specs.Prelude.{ℕ, Bool, true, false, not, cond, ◌&&◌, ◌||◌, eqb, List, [], ◌∷◌, ◌++◌, map, codes, Option, Some, None}
use Rattle.jn_base.specs.declared.number.NameNo.{NameNo}
use Rattle.jn_known.specs.Known.{org_name, checkerframework_name, checker_name, nullness_name, initialization_name, qual_name, non_null_name, nullable_name, initialized_name, under_name, unknown_name}
use Rattle.jn_points.specs.Members.{some_of}
use Rattle.jn_trees.specs.declared.token.Token.{Token}
use Rattle.jn_trees.specs.declared.token.TokenKind.TheVariants.{Package as PackageWord}
use Rattle.jn_trees.specs.Trees.{DottedName, ImportTree, SourceTree}
use Rattle.jn_trees.specs.Spelling.{spell_dotted}
use Rattle.jn_places.specs.Places.{behind, front}
use Rattle.jn_splice_law.specs.Inserted.{Insertion}
use Rattle.jn_annotate.specs.declared.imports.Package.{Package}
use Rattle.jn_annotate.specs.declared.imports.Package.TheVariants.{Nullness, Initialization}

-- ---- what an import imports

abbrev pub package_name : Package → ℕ
package_name Nullness = nullness_name
package_name Initialization = initialization_name

abbrev pub name_of : ℕ → NameNo
name_of n = record { 0 = n }

-- the package is `org.checkerframework.checker.NAME.qual`: its names after the first
abbrev pub package_rest : Package → List NameNo
package_rest p = name_of checkerframework_name ∷ name_of checker_name ∷ name_of (package_name p) ∷ name_of qual_name ∷ []

-- the import of all its annotations
abbrev pub import_of : Package → ImportTree
import_of p = record { name = record { first = name_of org_name; more = package_rest p }; all = true }

abbrev pub same_names : List NameNo → List NameNo → Bool
same_names [] [] = true
same_names [] (y ∷ ys) = false
same_names (x ∷ xs) [] = false
same_names (x ∷ xs) (y ∷ ys) = eqb x.0 y.0 && same_names xs ys

-- the import is of all that a package has, or of one annotation (JLS 8, 7.5.1)
abbrev pub imported_names : Bool → Package → ℕ → List NameNo
imported_names true p word = package_rest p
imported_names false p word = package_rest p ++ name_of word ∷ []

abbrev pub imports_word : Package → ℕ → ImportTree → Bool
imports_word p word i = eqb i.name.first.0 org_name && same_names i.name.more (imported_names i.all p word)

-- ---- what a file gets

abbrev pub begins_with : List ℕ → List ℕ → Bool
begins_with [] text = true
begins_with (w ∷ ws) [] = false
begins_with (w ∷ ws) (c ∷ cs) = eqb w c && begins_with ws cs

-- the word stands somewhere in the text
abbrev pub has_word : List ℕ → List ℕ → Bool
has_word word [] = false
has_word word (c ∷ cs) = begins_with word (c ∷ cs) || has_word word cs

-- the words of some insertion have it
abbrev pub gets_word : List ℕ → List Insertion → Bool
gets_word word is = some_of (λ (i : Insertion). has_word word i.words) is

-- it is put into the file, and no import is of it
abbrev pub lacks_word : List ImportTree → List Insertion → Package → List ℕ → ℕ → Bool
lacks_word imports is p word number = gets_word word is && not (some_of (imports_word p number) imports)

-- some word of the package is (Checker Framework manual, 3.2 and 3.8)
abbrev pub lacks : List ImportTree → List Insertion → Package → Bool
lacks imports is Nullness = lacks_word imports is Nullness (codes "@NonNull ") non_null_name || lacks_word imports is Nullness (codes "@Nullable ") nullable_name
lacks imports is Initialization =
    lacks_word imports is Initialization (codes "@Initialized ") initialized_name || lacks_word imports is Initialization (codes "@UnderInitialization ") under_name
    || lacks_word imports is Initialization (codes "@UnknownInitialization ") unknown_name

abbrev pub package_if : Bool → Package → List Package
package_if b p = cond b (p ∷ []) []

-- the packages of which a line is put; none where no import is asked for
abbrev pub packages : Bool → List ImportTree → List Insertion → List Package
packages false imports is = []
packages true imports is = package_if (lacks imports is Nullness) Nullness ++ package_if (lacks imports is Initialization) Initialization

-- ---- lines

abbrev pub line_feed : List ℕ → List ℕ
line_feed [] = []
line_feed (c ∷ cs) = cond (eqb c 10) (10 ∷ []) []

-- how lines of a text end (JLS 8, 3.4): as its first one does; by a line feed where it has one line
abbrev pub line_end : List ℕ → List ℕ
line_end [] = 10 ∷ []
line_end (c ∷ cs) = cond (eqb c 10) (10 ∷ []) (cond (eqb c 13) (13 ∷ line_feed cs) (line_end cs))

abbrev pub import_line : Package → List ℕ
import_line Nullness = codes "import org.checkerframework.checker.nullness.qual.*;"
import_line Initialization = codes "import org.checkerframework.checker.initialization.qual.*;"

-- after the semicolon of the package line, on a line of its own; where there is none, at the file's first byte
abbrev pub put_line : List ℕ → List Token → Option DottedName → Package → Insertion
put_line text ts None p = record { at = 0; words = import_line p ++ line_end text }
put_line text ts (Some q) p = record { at = (front (behind ts (PackageWord ∷ spell_dotted q))).to; words = line_end text ++ import_line p }

-- the lines that stand before what is put into the file
abbrev pub lines_before : Bool → List ℕ → List Token → SourceTree → List Insertion → List Insertion
lines_before imports text ts f is = map (put_line text ts f.package_line) (packages imports f.imports is)

-- all that is put into it
unfoldable pub with_lines : Bool → List ℕ → List Token → SourceTree → List Insertion → List Insertion
with_lines imports text ts f is = lines_before imports text ts f is ++ is
