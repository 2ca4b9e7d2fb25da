-- Who reads which word, and bits of bodies.
use Rattle.std.specs.Prelude.{◌≡◌, ◌⊎◌, ℕ, ◌/◌, ◌%◌, ◌<◌, ◌≤◌, true, false, Bool, cond, List, [], ◌∷◌, ◌++◌, length, get_or, map, filter, slice_index}
use Rattle.std.specs.List.{range_with_len}
use Rattle.std.specs.Int.{bit_at}
use Rattle.std.proofs.Math.Path.{fun_ext}
use Rattle.std.proofs.Math.Nat.{ℕ_set}
use mathlib.Core.List.{is_set}
use Rattle.jn_base.specs.declared.number.BodyNo.{BodyNo}
use Rattle.jn_base.specs.declared.number.WordNo.{WordNo}
use Rattle.jn_sigtable.specs.System.{System, lists_word}

abbrev pub body_no : ℕ → BodyNo
body_no n = record { 0 = n }

-- the bodies that read the word, in order
abbrev pub readers_of : System → ℕ → List BodyNo
readers_of sys w = filter (λ b. sys.reads b.0 w) (map body_no (range_with_len 0 sys.bodies))

-- for each word, the bodies that read it
abbrev pub plan_of : System → List (List BodyNo)
plan_of sys = map (readers_of sys) (range_with_len 0 sys.words)

-- two proofs that one plan is another are one
pub plans_set : IsSet (List (List BodyNo))
plans_set = is_set (is_set body_set)
  where
    body_set : IsSet BodyNo
    body_set = hlevel ℕ_set

-- the body is in the list
abbrev pub Lists : List BodyNo → ℕ → Type 0
Lists [] x = ⊥
Lists (b ∷ bs) x = (b.0 ≡ x) ⊎ Lists bs x

-- the body's bit is set in these words: bit p of word d is body 64 * d + p
abbrev pub IsDue : List ℕ → ℕ → Type 0
IsDue due x = bit_at (slice_index due (x / 64)) (x % 64) ≡ 1

-- no body's bit is set in these words
abbrev pub IsNoneDue : List ℕ → Type 0
IsNoneDue due = (x : ℕ) → IsDue due x → ⊥

pub none_due_prop : (due : List ℕ) → IsProp (IsNoneDue due)
none_due_prop due p q = fun_ext (λ x. fun_ext (λ is. absurd (p x is)))

-- the body reads a word of the outputs from the first on, whose flag is set
abbrev pub IsDueBy : List (List BodyNo) → List (WordNo × ℕ) → List Bool → ℕ → ℕ → Type 0
IsDueBy plan os new first x = (j : ℕ) × (first ≤ j) × (get_or new j false ≡ true) × Lists (get_or plan (get_or os j (record { 0 = 0 }, 0)).0.0 []) x

-- for each word its readers among the bodies below n, and body n where the word is among those that were added
pub record ArePlanned (sys : System) (n : ℕ) (added : List WordNo) (readers : List (List BodyNo)) : Type 0 where
  pub count : length readers ≡ sys.words
  pub each : (w : ℕ) → w < sys.words → get_or readers w [] ≡ filter (λ b. sys.reads b.0 w) (map body_no (range_with_len 0 n)) ++ cond (lists_word added w) (body_no n ∷ []) []
