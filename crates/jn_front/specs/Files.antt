-- Source files, and what is read of them.
use Rattle.std.specs.Prelude.{◌≡◌, ◌⊎◌, ℕ, ◌+◌, ◌≤◌, ◌<◌, Bool, true, false, List, [], ◌∷◌, ◌++◌, length, map, take, Option, Some, None, Result, Ok, Err}
use Rattle.jn_base.specs.declared.refusal.Fail.{Fail}
use Rattle.jn_base.specs.declared.refusal.Fail.TheVariants.{Refused, OutOfMemory}
use Rattle.jn_outside.specs.declared.files.Failed.{Failed}
use Rattle.jn_outside.specs.Files.{Holding, Holds}
use Rattle.jn_outside.specs.declared.given.Given.{Given}
use Rattle.jn_outside.specs.Gave.{given}
use Rattle.jn_front.specs.declared.source.SourceFile.{SourceFile}
use Rattle.jn_front.specs.declared.source.SourceRead.{SourceRead}

-- bytes of a file that is read whole
abbrev pub file_limit : ℕ
file_limit = 1048576

-- files that are read
abbrev pub most_files : ℕ
most_files = 64

-- the names of files, in order, each as the codes of its characters
abbrev pub names_of : List SourceFile → List (List ℕ)
names_of files = map (λ (file : SourceFile). file.name) files

-- the bytes are those that the source tells, where it tells
abbrev pub AreHeld : Option Holding → List SourceFile → Type 0
AreHeld None files = Unit {0}
AreHeld (Some held) [] = Unit {0}
AreHeld (Some held) (file ∷ files) = (held file.name ≡ Some file.bytes) × AreHeld (Some held) files

-- what the reads of a file gave: its bytes, of one that is too large one byte more than the limit
abbrev pub given_of : SourceFile → Given
given_of file = given file.name (take (file_limit + 1) file.bytes)

-- what was given more is these files, one for one
abbrev pub AreGiven : List Given → List Given → List SourceFile → Type 0
AreGiven old new files = new ≡ old ++ map given_of files

-- of these names only the first ones were started, in their order
pub record StartsOnly (names : List (List ℕ)) (old new : List Given) : Type 0 where
  pub added : List Given
  pub gave : new ≡ old ++ added
  pub named : map (λ (g : Given). g.name) added ≡ take (length added) names

-- every file is held
abbrev pub AllHeld : Option Holding → List (List ℕ) → Type 0
AllHeld held [] = Unit {0}
AllHeld held (name ∷ names) = Holds held name × AllHeld held names

-- what was read of a file: its name, these bytes, and whether it was read whole
abbrev pub IsReadAs : List ℕ → List ℕ → Bool → SourceRead → Type 0
IsReadAs name bytes whole read = (read.file ≡ record { name = name; bytes = bytes }) × (read.whole ≡ whole)

-- the file was read whole, or its name alone where it is larger than the limit
abbrev pub IsReadOf : SourceRead → SourceFile → Type 0
IsReadOf read file = ((read.whole ≡ true) × (read.file ≡ file) × (length file.bytes ≤ file_limit)) ⊎ ((read.whole ≡ false) × (read.file ≡ record { name = file.name; bytes = [] }) × (file_limit < length file.bytes))

-- these were read of these files, one for one
abbrev pub AreReads : List SourceRead → List SourceFile → Type 0
AreReads [] [] = Unit {0}
AreReads [] (file ∷ files) = ⊥
AreReads (read ∷ reads) [] = ⊥
AreReads (read ∷ reads) (file ∷ files) = IsReadOf read file × AreReads reads files

-- what was read are files of these names, with the bytes that the source tells, and that its reads gave
pub record ReadFrom (held : Option Holding) (names : List (List ℕ)) (old new : List Given) (reads : List SourceRead) : Type 0 where
  pub files : List SourceFile
  pub named : names_of files ≡ names
  pub told : AreHeld held files
  pub given : AreGiven old new files
  pub are : AreReads reads files

-- the files with the bytes that were read of them
abbrev pub files_of_reads : List SourceRead → List SourceFile
files_of_reads reads = map (λ (read : SourceRead). read.file) reads

-- each file was read whole
abbrev pub AllWhole : List SourceRead → Type 0
AllWhole [] = Unit {0}
AllWhole (read ∷ reads) = (read.whole ≡ true) × (length read.file.bytes ≤ file_limit) × AllWhole reads

-- a file could not be read
abbrev pub CannotRead : {A : Type 0} → Result A (Fail Failed) → Type 0
CannotRead (Ok a) = ⊥
CannotRead (Err (Refused failed)) = Unit {0}
CannotRead (Err OutOfMemory) = ⊥
