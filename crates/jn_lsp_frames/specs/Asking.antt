-- When an input is asked for more bytes.
use Rattle.std.specs.Prelude.{ℕ, ◌≡◌, List, [], ◌∷◌, ◌++◌, Option}
use Rattle.std.specs.List.{All}
use Rattle.jn_lsp_frames.specs.declared.asking.Asking.{Asking}

-- one call more, where the input gave and the output took so much before
abbrev pub with_asking : List Asking → List ℕ → Option (List ℕ) → List Asking
with_asking before given written = before ++ record { given = given; written = written } ∷ []

-- when the input was asked, what was pending and what it gave since was such bytes, and the output stood as it does
pub record IsAsked (Such : List ℕ → Type 0) (gave pending : List ℕ) (written : Option (List ℕ)) (asking : Asking) : Type 0 where
  pub more : List ℕ
  pub given : asking.given ≡ gave ++ more
  pub such : Such (pending ++ more)
  pub stands : asking.written ≡ written

-- the input was asked only then
pub record Asks (Such : List ℕ → Type 0) (gave pending : List ℕ) (written : Option (List ℕ)) (old new : List Asking) : Type 0 where
  pub own : List Asking
  pub all : new ≡ old ++ own
  pub each : All (IsAsked Such gave pending written) own
