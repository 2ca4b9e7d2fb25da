-- A system of bodies over words of bits, and the least words that all its outputs leave as they are.
use Rattle.std.specs.Prelude.{◌≡◌, ℕ, zero, suc, ◌+◌, ◌-◌, ◌*◌, ◌<◌, ◌≤◌, ◌^◌, ◌==◌, ◌||◌, Bool, true, false, if◌then◌else◌, List, [], ◌∷◌, length, map, slice_index, bit_or}
use Rattle.std.specs.List.{range_with_len}
use Rattle.std.specs.Int.{bit_at}
use lib.ListN.{get_elem?}
use mathlib.Core.Option.{some}
use Rattle.jn_fixpoint.specs.Climb.{rounds, IsLeastFixpoint}
use Rattle.jn_base.specs.declared.number.WordNo.{WordNo}

-- how many bodies and words there are, whether a body reads a word, and what a body outputs on a list of words
pub record System : Type 0 where
  pub bodies : ℕ
  pub words : ℕ
  pub reads : ℕ → ℕ → Bool
  pub output : ℕ → List ℕ → List (WordNo × ℕ)

-- each bit of a is one of b
abbrev pub Within : ℕ → ℕ → Type 0
Within a b = (i : ℕ) → bit_at a i ≤ bit_at b i

-- the bits that a list of outputs has for one word
abbrev pub bits_for : List (WordNo × ℕ) → ℕ → ℕ
bits_for [] word = 0
bits_for (o ∷ os) word = if o.0.0 == word then bit_or o.1 (bits_for os word) else bits_for os word

-- each of the first n words of xs is within that of ys
abbrev pub Covers : ℕ → List ℕ → List ℕ → Type 0
Covers n xs ys = (w : ℕ) → w < n → Within (slice_index xs w) (slice_index ys w)

-- two lists of words agree where the body reads
abbrev pub AgreesFor : System → ℕ → List ℕ → List ℕ → Type 0
AgreesFor sys b xs ys = (w : ℕ) → w < sys.words → sys.reads b w ≡ true → slice_index xs w ≡ slice_index ys w

-- no two outputs name one word
abbrev pub NamesOnce : List (WordNo × ℕ) → Type 0
NamesOnce os = (i j : ℕ) (o p : WordNo × ℕ) → get_elem? os i ≡ some o → get_elem? os j ≡ some p → o.0.0 ≡ p.0.0 → i ≡ j

-- the laws of a system: outputs grow with the words, depend on what the body reads alone, and name each word at most once and only words that there are.
-- On words of 64 bits they have no further bit
pub record IsLawful (sys : System) : Type 0 where
  pub monotone : (b : ℕ) (xs ys : List ℕ) → b < sys.bodies → length xs ≡ sys.words → length ys ≡ sys.words → Covers sys.words xs ys
      → (w : ℕ) → w < sys.words → Within (bits_for (sys.output b xs) w) (bits_for (sys.output b ys) w)
  pub reads_only : (b : ℕ) (xs ys : List ℕ) → b < sys.bodies → length xs ≡ sys.words → length ys ≡ sys.words → AgreesFor sys b xs ys
      → sys.output b xs ≡ sys.output b ys
  pub named : (b : ℕ) (xs : List ℕ) → b < sys.bodies → length xs ≡ sys.words → (i : ℕ) (o : WordNo × ℕ) → get_elem? (sys.output b xs) i ≡ some o → o.0.0 < sys.words
  pub once : (b : ℕ) (xs : List ℕ) → b < sys.bodies → length xs ≡ sys.words → NamesOnce (sys.output b xs)
  pub bounded : (b : ℕ) (xs : List ℕ) → b < sys.bodies → length xs ≡ sys.words → ((w : ℕ) → slice_index xs w < 2 ^ 64) → (w : ℕ) → bits_for (sys.output b xs) w < 2 ^ 64

-- all that the body outputs on these words stands in them
abbrev pub ClosedAt : System → ℕ → List ℕ → List ℕ → Type 0
ClosedAt sys b on words = (w : ℕ) → w < sys.words → Within (bits_for (sys.output b on) w) (slice_index words w)

-- closed words, as many as the system has
pub record IsClosed (sys : System) (words : List ℕ) : Type 0 where
  pub count : length words ≡ sys.words
  pub closed : (b : ℕ) → b < sys.bodies → ClosedAt sys b words words

-- the word with the outputs of the first n bodies added
abbrev pub added : System → ℕ → List ℕ → ℕ → ℕ
added sys zero words w = slice_index words w
added sys (suc n) words w = bit_or (added sys n words w) (bits_for (sys.output n words) w)

-- one whole round of all outputs
abbrev pub round : System → List ℕ → List ℕ
round sys words = map (added sys sys.bodies words) (range_with_len 0 sys.words)

-- the least words above a start: whole rounds until nothing changes. Each round that changes something adds a bit, and there are 64 to a word
abbrev pub least : System → List ℕ → List ℕ
least sys start = rounds (round sys) (64 * sys.words) start

-- what makes words the least ones: rounds from the start end in them, they are closed and have all bits of the start, and are within all closed words that have these
pub record IsLeast (sys : System) (start words : List ℕ) : Type 0 where
  pub fixpoint : IsLeastFixpoint (round sys) start words
  pub closed : IsClosed sys words
  pub above : Covers sys.words start words
  pub below : (others : List ℕ) → IsClosed sys others → Covers sys.words start others → Covers sys.words words others

-- the word is in the list
abbrev pub lists_word : List WordNo → ℕ → Bool
lists_word [] w = false
lists_word (x ∷ xs) w = x.0 == w || lists_word xs w

-- no word stands twice
abbrev pub WordsOnce : List WordNo → Type 0
WordsOnce [] = Unit {0}
WordsOnce (x ∷ xs) = (lists_word xs x.0 ≡ false) × WordsOnce xs

-- the words that body b reads, each once
pub record IsReadList (sys : System) (b : ℕ) (words : List WordNo) : Type 0 where
  pub only : (w : ℕ) → lists_word words w ≡ true → (w < sys.words) × (sys.reads b w ≡ true)
  pub all : (w : ℕ) → w < sys.words → sys.reads b w ≡ true → lists_word words w ≡ true
  pub once : WordsOnce words

-- how many of the first n bits are set
unfoldable pub ones_below : ℕ → ℕ → ℕ
ones_below zero a = 0
ones_below (suc n) a = ones_below n a + bit_at a n

-- how many bits are set in the first n words
unfoldable pub ones_in : ℕ → List ℕ → ℕ
ones_in zero words = 0
ones_in (suc n) words = ones_in n words + ones_below 64 (slice_index words n)

-- how many bits the words have above the start
abbrev pub risen : System → List ℕ → List ℕ → ℕ
risen sys start words = ones_in sys.words words - ones_in sys.words start

-- each body is taken at the start, and at most once more for each bit that can be raised
abbrev pub limit_of : System → List ℕ → ℕ
limit_of sys start = sys.bodies * (1 + risen sys start (least sys start))
