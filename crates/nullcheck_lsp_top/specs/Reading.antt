-- Files that are read, and warnings of those that aren't.
use Rattle.std.specs.Prelude.{ℕ, ◌+◌, ◌≡◌, ◌≤◌, ◌⊎◌, ◌++◌, Bool, true, false, not, List, [], ◌∷◌, Option, Some, None, bytes_eq, codes, filter, length, map, nat_lt, take, if◌then◌else◌}
use Rattle.std.specs.List.{list_any}
use Rattle.jn_outside.specs.declared.given.Given.{Given}
use Rattle.jn_outside.specs.Causes.{Rose}
use Rattle.jn_outside.specs.Files.{Gives, Holding}
use Rattle.jn_outside.specs.Gave.{GivesLittle, GivesTooMany, given}
use Rattle.jn_front.specs.declared.source.SourceFile.{SourceFile}
use Rattle.jn_front.specs.Files.{file_limit, most_files}
use Rattle.jn_folder.specs.Listing.{each_once}
use Rattle.jn_lsp.specs.Stand.{spaces}
use Rattle.jn_lsp_text.specs.declared.reply.Reply.{Reply}
use Rattle.jn_lsp_text.specs.declared.reply.Reply.TheVariants.{Show}

-- what a source of files tells: what its calls gave, and the count of its faults
pub record Source : Type 0 where
  pub gave : List Given
  pub faults : ℕ

abbrev pub source : List Given → ℕ → Source
source gave faults = record { gave = gave; faults = faults }

-- ---- one file

-- the text is the file's, whole; of one that is too large spaces, one more than a file may have
abbrev pub IsReadAs : Option Holding → List ℕ → List Given → List Given → List ℕ → Type 0
IsReadAs held name old new text =
    (Gives held name text × (length text ≤ file_limit) × (new ≡ old ++ given name text ∷ []))
    ⊎ (GivesTooMany held name file_limit old new × (text ≡ spaces (file_limit + 1)))

-- the file was read; or it can't be read, and the count of faults rose
abbrev pub IsText : Option Holding → List ℕ → Source → Source → Option (List ℕ) → Type 0
IsText held name old new (Some text) = IsReadAs held name old.gave new.gave text × (new.faults ≡ old.faults)
IsText held name old new None = GivesLittle name (file_limit + 1) old.gave new.gave × Rose old.faults new.faults

-- ---- all files

abbrev pub file_of : List ℕ → List ℕ → SourceFile
file_of name text = record { name = name; bytes = text }

-- the file of each of these names was read, or it is among the lost ones, in their order
abbrev pub AreRead : Option Holding → List (List ℕ) → Source → Source → List SourceFile → List (List ℕ) → Type 0
AreRead held [] old new files lost = (new ≡ old) × (files ≡ []) × (lost ≡ [])
AreRead held (name ∷ names) old new files lost =
    ((mid : Source) × (text : List ℕ) × (others : List SourceFile) × IsText held name old mid (Some text) × (files ≡ file_of name text ∷ others) × AreRead held names mid new others lost)
    ⊎ ((mid : Source) × (others : List (List ℕ)) × IsText held name old mid None × (lost ≡ name ∷ others) × AreRead held names mid new files others)

-- there are more of these names than files that are checked
abbrev pub is_many : List (List ℕ) → Bool
is_many names = nat_lt most_files (length names)

-- of files that are too many none is read: the first 65 stand without their texts, so that their report says that there are too many
abbrev pub nameless_text : List ℕ → SourceFile
nameless_text name = file_of name []

abbrev pub AreTaken : Option Holding → Bool → List (List ℕ) → Source → Source → List SourceFile → List (List ℕ) → Type 0
AreTaken held false names old new files lost = AreRead held names old new files lost
AreTaken held true names old new files lost = (files ≡ map nameless_text (take 65 names)) × (lost ≡ []) × (new ≡ old)

-- of these names nothing was given, or of the first one so much as is read of a file at most
abbrev pub GivesNext : List (List ℕ) → List Given → List Given → Type 0
GivesNext [] old new = new ≡ old
GivesNext (name ∷ names) old new = GivesLittle name (file_limit + 1) old new

-- the first of these names were read, in their order, and at most one more in part
pub record ReadsFirst (held : Option Holding) (names : List (List ℕ)) (old : Source) (new : List Given) : Type 0 where
  pub done : List (List ℕ)
  pub left : List (List ℕ)
  pub parts : names ≡ done ++ left
  pub mid : Source
  pub files : List SourceFile
  pub lost : List (List ℕ)
  pub read : AreRead held done old mid files lost
  pub next : GivesNext left mid.gave new

-- none of them where they are too many
abbrev pub names_taken : Bool → List (List ℕ) → List (List ℕ)
names_taken false names = names
names_taken true names = []

-- so were these, and put after those that were read before
pub record ReadsMore (held : Option Holding) (names : List (List ℕ)) (old new : Source) (files_old files_new : List SourceFile) (lost_old lost_new : List (List ℕ)) : Type 0 where
  pub added : List SourceFile
  pub lost : List (List ℕ)
  pub read : AreRead held names old new added lost
  pub files : files_new ≡ files_old ++ added
  pub missed : lost_new ≡ lost_old ++ lost

-- ---- warnings

abbrev pub many_words : List ℕ
many_words = codes "nullcheck: there are more than 64 files, so none is checked; name those that are wanted in initializationOptions.files"

abbrev pub unlisted_words : List ℕ → List ℕ
unlisted_words path = codes "nullcheck: " ++ path ++ codes ": this folder can't be listed"

abbrev pub unnamed_words : List ℕ → List ℕ
unnamed_words path = codes "nullcheck: " ++ path ++ codes ": a name in this folder is no text (UTF-8), so it is left out"

abbrev pub unread_words : List ℕ → List ℕ
unread_words path = codes "nullcheck: " ++ path ++ codes ": this file can't be read"

-- too many files, then the folders that couldn't be listed, those in which a name is no text, and the files that couldn't be read
abbrev pub warned_many : ℕ → List (List ℕ)
warned_many count = if nat_lt most_files count then many_words ∷ [] else []

abbrev pub warnings_of : ℕ → List (List ℕ) → List (List ℕ) → List (List ℕ) → List (List ℕ)
warnings_of count missed unnamed lost = warned_many count ++ map unlisted_words missed ++ map unnamed_words (each_once unnamed) ++ map unread_words lost

abbrev pub is_among : List (List ℕ) → List ℕ → Bool
is_among texts text = list_any (λ other. bytes_eq other text) texts

-- a reply for each warning that wasn't among those of the last reading
abbrev pub shows : List (List ℕ) → List (List ℕ) → List Reply
shows shown warnings = map Show (filter (λ words. not (is_among shown words)) warnings)
