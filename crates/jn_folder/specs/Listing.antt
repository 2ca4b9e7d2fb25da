-- What folders list, and the paths of what stands in them.
use Rattle.std.specs.Prelude.{ℕ, ◌≡◌, ◌==◌, ◌++◌, ◌&&◌, ◌||◌, Bool, true, false, List, [], ◌∷◌, Option, Some, None, Result, Ok, Err, bytes_eq, codes, eqb, if◌then◌else◌, not, option_and_then}
use Rattle.std.specs.List.{ends_with, flat_map, fold, list_any}
use Rattle.jn_base.specs.declared.refusal.Fail.{Fail}
use Rattle.jn_base.specs.declared.refusal.Fail.TheVariants.{Refused, OutOfMemory}
use Rattle.jn_outside.specs.declared.files.Failed.{Failed}
use Rattle.jn_folder.specs.declared.listed.Entry.{Entry}
use Rattle.jn_folder.specs.declared.listed.Kind.{Kind}
use Rattle.jn_folder.specs.declared.listed.Kind.TheVariants.{File, Folder, Other, Unnamed, Real}
use Rattle.jn_folder.specs.declared.listed.Listed.{Listed}

abbrev pub listed : List ℕ → List Entry → Listed
listed path entries = record { path = path; entries = entries }

-- a folder more
abbrev pub with_listed : List Listed → List ℕ → List Entry → List Listed
with_listed before path entries = before ++ listed path entries ∷ []

-- the entry by which a folder says where it really is; none where that can't be said
abbrev pub real_entries : Option (List ℕ) → List Entry
real_entries None = []
real_entries (Some real) = record { name = real; kind = Real } ∷ []

-- so a folder said where it really is
abbrev pub with_real : List Listed → List ℕ → Option (List ℕ) → List Listed
with_real before path real = with_listed before path (real_entries real)

-- the folder couldn't be listed
abbrev pub CannotList : {A : Type 0} → Result A (Fail Failed) → Type 0
CannotList (Ok entries) = ⊥
CannotList (Err (Refused failed)) = Unit {0}
CannotList (Err OutOfMemory) = ⊥

-- the name begins with a dot
abbrev pub is_hidden : List ℕ → Bool
is_hidden [] = false
is_hidden (byte ∷ bytes) = byte == 46

-- the name ends in `.java`
abbrev pub is_java : List ℕ → Bool
is_java name = ends_with eqb name (codes ".java")

-- the path of a name in a folder: after the folder's path and a slash, where that doesn't end with one
abbrev pub joined : List ℕ → List ℕ → List ℕ
joined path name = if ends_with eqb path (codes "/") then path ++ name else path ++ codes "/" ++ name

-- the name is one of these
abbrev pub is_among : List (List ℕ) → List ℕ → Bool
is_among names name = list_any (λ other. bytes_eq other name) names

-- the names, each where it stands first
abbrev pub with_name : List (List ℕ) → List ℕ → List (List ℕ)
with_name names name = if is_among names name then names else names ++ name ∷ []

abbrev pub each_once : List (List ℕ) → List (List ℕ)
each_once names = fold with_name [] names

-- the name is hidden, or is one of those that are left out
abbrev pub is_skipped : List (List ℕ) → List ℕ → Bool
is_skipped skipped name = is_hidden name || is_among skipped name

-- the paths of the Java files that an entry is; none of a hidden one
abbrev pub file_at : List ℕ → List ℕ → Kind → List (List ℕ)
file_at path name File = if not (is_hidden name) && is_java name then joined path name ∷ [] else []
file_at path name Folder = []
file_at path name Other = []
file_at path name Unnamed = []
file_at path name Real = []

-- those of the folders; none of one that is left out
abbrev pub folder_at : List (List ℕ) → List ℕ → List ℕ → Kind → List (List ℕ)
folder_at skipped path name File = []
folder_at skipped path name Folder = if is_skipped skipped name then [] else joined path name ∷ []
folder_at skipped path name Other = []
folder_at skipped path name Unnamed = []
folder_at skipped path name Real = []

-- the folder's own path, where an entry's name is no text
abbrev pub unnamed_at : List ℕ → Kind → List (List ℕ)
unnamed_at path File = []
unnamed_at path Folder = []
unnamed_at path Other = []
unnamed_at path Unnamed = path ∷ []
unnamed_at path Real = []

-- those that a folder lists, in its order
abbrev pub files_in : List ℕ → List Entry → List (List ℕ)
files_in path entries = flat_map (λ (entry : Entry). file_at path entry.name entry.kind) entries

abbrev pub folders_in : List (List ℕ) → List ℕ → List Entry → List (List ℕ)
folders_in skipped path entries = flat_map (λ (entry : Entry). folder_at skipped path entry.name entry.kind) entries

abbrev pub unnamed_in : List ℕ → List Entry → List (List ℕ)
unnamed_in path entries = flat_map (λ (entry : Entry). unnamed_at path entry.kind) entries

-- those that folders list
abbrev pub files_of : List Listed → List (List ℕ)
files_of told = flat_map (λ (l : Listed). files_in l.path l.entries) told

abbrev pub folders_of : List (List ℕ) → List Listed → List (List ℕ)
folders_of skipped told = flat_map (λ (l : Listed). folders_in skipped l.path l.entries) told

abbrev pub unnamed_of : List Listed → List (List ℕ)
unnamed_of told = flat_map (λ (l : Listed). unnamed_in l.path l.entries) told

-- the entries of the first of these folders that has this path
abbrev pub entries_at : List Listed → List ℕ → Option (List Entry)
entries_at [] path = None
entries_at (folder ∷ folders) path = if bytes_eq folder.path path then Some folder.entries else entries_at folders path

abbrev pub is_real : Kind → Bool
is_real File = false
is_real Folder = false
is_real Other = false
is_real Unnamed = false
is_real Real = true

-- where the entries say that their folder really is
abbrev pub real_in : List Entry → Option (List ℕ)
real_in [] = None
real_in (entry ∷ entries) = if is_real entry.kind then Some entry.name else real_in entries

abbrev pub real_at : List Listed → List ℕ → Option (List ℕ)
real_at folders path = option_and_then real_in (entries_at folders path)
