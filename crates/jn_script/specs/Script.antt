-- The form of a script: lines that set a name to a file, drop a name, or ask for a check.
use Rattle.std.specs.Prelude.{ℕ, ◌+◌, ◌≡◌, ◌≢◌, Bool, true, false, List, [], ◌∷◌, ◌++◌, length, cond, eqb, bytes_eq, codes, IsUtf8}
use Rattle.jn_script.specs.declared.step.Step.{Step}
use Rattle.jn_script.specs.declared.step.Step.TheVariants.{Empty, Set, Remove, Check}

-- what stands between separators; one piece more than there are separators
abbrev pub put_first : ℕ → List (List ℕ) → List (List ℕ)
put_first byte [] = (byte ∷ []) ∷ []
put_first byte (piece ∷ pieces) = (byte ∷ piece) ∷ pieces

abbrev pub pieces : ℕ → List ℕ → List (List ℕ)
pieces separator [] = [] ∷ []
pieces separator (byte ∷ bytes) = cond (eqb byte separator) ([] ∷ pieces separator bytes) (put_first byte (pieces separator bytes))

-- the last piece is no line where it is empty: each line ends at a line feed or at the script's end
abbrev pub without_empty_end : List (List ℕ) → List (List ℕ)
without_empty_end [] = []
without_empty_end ([] ∷ []) = []
without_empty_end ((byte ∷ bytes) ∷ []) = (byte ∷ bytes) ∷ []
without_empty_end (piece ∷ (next ∷ rest)) = piece ∷ without_empty_end (next ∷ rest)

abbrev pub lines : List ℕ → List (List ℕ)
lines script = without_empty_end (pieces 10 script)

-- the words of a line, with one space between two, are those of the step
abbrev pub words_of : Step → List (List ℕ)
words_of Empty = [] ∷ []
words_of (Set name file) = codes "set" ∷ name ∷ file ∷ []
words_of (Remove name) = codes "drop" ∷ name ∷ []
words_of Check = codes "check" ∷ []

-- a name is some text; a line is UTF-8 where its words are
pub record IsName (name : List ℕ) : Type 0 where
  pub some : name ≢ []
  pub utf8 : IsUtf8 name

abbrev pub HasNames : Step → Type 0
HasNames Empty = Unit {0}
HasNames (Set name file) = IsName name × IsName file
HasNames (Remove name) = IsName name
HasNames Check = Unit {0}

pub record IsStep (line : List ℕ) (step : Step) : Type 0 where
  pub words : pieces 32 line ≡ words_of step
  pub names : HasNames step

-- names that stand after a step: a set one goes in where it is new, a dropped one out
abbrev pub has : List ℕ → List (List ℕ) → Bool
has name [] = false
has name (other ∷ names) = cond (bytes_eq other name) true (has name names)

abbrev pub without : List ℕ → List (List ℕ) → List (List ℕ)
without name [] = []
without name (other ∷ names) = cond (bytes_eq other name) names (other ∷ without name names)

abbrev pub names_behind : List (List ℕ) → Step → List (List ℕ)
names_behind names Empty = names
names_behind names (Set name file) = cond (has name names) names (names ++ name ∷ [])
names_behind names (Remove name) = without name names
names_behind names Check = names

-- a step can be taken: what is dropped stands there
abbrev pub CanTake : List (List ℕ) → Step → Type 0
CanTake names Empty = Unit {0}
CanTake names (Set name file) = Unit {0}
CanTake names (Remove name) = has name names ≡ true
CanTake names Check = Unit {0}

-- the lines are these steps, from a line with these names on
abbrev pub AreSteps : List (List ℕ) → List (List ℕ) → List Step → Type 0
AreSteps names [] [] = Unit {0}
AreSteps names [] (step ∷ steps) = ⊥
AreSteps names (line ∷ lines) [] = ⊥
AreSteps names (line ∷ lines) (step ∷ steps) = IsStep line step × CanTake names step × AreSteps (names_behind names step) lines steps

abbrev pub behind_all : List (List ℕ) → List Step → List (List ℕ)
behind_all names [] = names
behind_all names (step ∷ steps) = behind_all (names_behind names step) steps

-- line n, counted from 1, is the first that is no step that can be taken
pub record IsFirstBad (script : List ℕ) (n : ℕ) : Type 0 where
  pub front : List (List ℕ)
  pub steps : List Step
  pub line : List ℕ
  pub back : List (List ℕ)
  pub split : lines script ≡ front ++ line ∷ back
  pub place : n ≡ length front + 1
  pub good : AreSteps [] front steps
  pub bad : (step : Step) → IsStep line step → CanTake (behind_all [] steps) step → ⊥

-- the script is these steps
abbrev pub IsScript : List ℕ → List Step → Type 0
IsScript script steps = AreSteps [] (lines script) steps
