-- What is told of a line, by its words.
use Rattle.std.specs.Prelude.{ℕ, ◌≡◌, ◌++◌, Bool, true, false, List, [], ◌∷◌, Option, Some, None}
use Rattle.jn_base.specs.declared.refusal.Fail.{Fail}
use Rattle.jn_base.specs.declared.refusal.Fail.TheVariants.{Refused, OutOfMemory}
use Rattle.jn_script.specs.declared.lines.Words.{Words}
use Rattle.jn_script.specs.declared.lines.Words.TheVariants.{One, Two, Three, More}
use Rattle.jn_script.specs.declared.step.Step.{Step}
use Rattle.jn_script.specs.Script.{CanTake, HasNames, IsStep, names_behind, pieces, words_of}

-- at least four
pub record HasMore (line : List ℕ) : Type 0 where
  pub one : List ℕ
  pub two : List ℕ
  pub three : List ℕ
  pub four : List ℕ
  pub rest : List (List ℕ)
  pub are : pieces 32 line ≡ one ∷ two ∷ three ∷ four ∷ rest

-- these are the line's words
abbrev pub AreWordsIn : List ℕ → Words → Type 0
AreWordsIn line (One one) = pieces 32 line ≡ one.now ∷ []
AreWordsIn line (Two one two) = pieces 32 line ≡ one.now ∷ two.now ∷ []
AreWordsIn line (Three one two three) = pieces 32 line ≡ one.now ∷ two.now ∷ three.now ∷ []
AreWordsIn line More = HasMore line

abbrev pub AreWordsOf : List (List ℕ) → Step → Type 0
AreWordsOf words step = (words ≡ words_of step) × HasNames step

-- the words are those of the step, or of none
abbrev pub IsToldOf : List (List ℕ) → Option Step → Type 0
IsToldOf words None = (step : Step) → AreWordsOf words step → ⊥
IsToldOf words (Some step) = AreWordsOf words step

-- the line is the step, or none
abbrev pub IsStepOr : List ℕ → Option Step → Type 0
IsStepOr line None = (step : Step) → IsStep line step → ⊥
IsStepOr line (Some step) = IsStep line step

-- the line is no step that can be taken where these names stand
abbrev pub IsBad : List (List ℕ) → List ℕ → Type 0
IsBad names line = (step : Step) → IsStep line step → CanTake names step → ⊥

-- whether a step can be taken where these names stand, and the names after it
abbrev pub Takes : List (List ℕ) → Step → Bool → List (List ℕ) → Type 0
Takes names step true new = CanTake names step × (new ≡ names_behind names step)
Takes names step false new = CanTake names step → ⊥

-- whether a line is a step that can be taken; it is then put after the others
abbrev pub TakesLine : List (List ℕ) → List Step → List ℕ → Bool → List (List ℕ) → List Step → Type 0
TakesLine names steps line true new more = (step : Step) × IsStep line step × CanTake names step × (new ≡ names_behind names step) × (more ≡ steps ++ step ∷ [])
TakesLine names steps line false new more = IsBad names line

abbrev pub IfRefused : Fail ℕ → (ℕ → Type 0) → Type 0
IfRefused (Refused n) P = P n
IfRefused OutOfMemory P = Unit {0}
