-- A step that climbs in an order of bounded height, and the fixpoint that its rounds end in (Kildall, POPL 1973; Nielson, Nielson and Hankin, Principles of Program Analysis, appendix A).
use Rattle.std.specs.Prelude.{ℕ, zero, suc, ◌≡◌, ◌≤◌, Bool, IsTrue}

-- n rounds from a
abbrev pub rounds : {A : Type 0} → (A → A) → ℕ → A → A
rounds step zero a = a
rounds step (suc n) a = step (rounds step n a)

-- some number of rounds from start made x, and one round more changes nothing
pub record IsLeastFixpoint {A : Type 0} (step : A → A) (start x : A) : Type 0 where
  pub turns : ℕ
  pub made : x ≡ rounds step turns start
  pub stable : step x ≡ x

-- the order's weight rises wherever the order does, is at most top, and a step of what is valid climbs
pub record Climb {A : Type 0} (Valid : A → Type 0) (Within : A → A → Type 0) (weight : A → ℕ) (top : ℕ) (step : A → A) : Type 0 where
  pub self : (a : A) → Within a a
  pub chain : (a b c : A) → Within a b → Within b c → Within a c
  pub lighter : (a b : A) → Within a b → weight a ≤ weight b
  pub equal : (a b : A) → Within a b → weight b ≤ weight a → a ≡ b
  pub bounded : (a : A) → Valid a → weight a ≤ top
  pub kept : (a : A) → Valid a → Valid (step a)
  pub climbs : (a : A) → Valid a → Within a (step a)

-- one round more keeps what is valid and within y within y
abbrev pub Bounds : {A : Type 0} → (A → Type 0) → (A → A → Type 0) → (A → A) → A → Type 0
Bounds {A = A} Valid Within step y = (a : A) → Valid a → Within a y → Within (step a) y

-- a step keeps the order of what is valid
abbrev pub Monotone : {A : Type 0} → (A → Type 0) → (A → A → Type 0) → (A → A) → Type 0
Monotone {A = A} Valid Within step = (a b : A) → Valid a → Valid b → Within a b → Within (step a) (step b)

-- a Bool relation, and a set, as types
abbrev pub Holds : {A : Type 0} → (A → Bool) → A → Type 0
Holds set a = IsTrue (set a)

abbrev pub Relates : {A : Type 0} → (A → A → Bool) → A → A → Type 0
Relates relation a b = IsTrue (relation a b)
