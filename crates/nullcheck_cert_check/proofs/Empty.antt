-- No certificate is empty.
use Rattle.std.proofs.Common.{◌≡◌, ℕ, List, [], ◌∷◌}
use Rattle.jn_points.specs.declared.program.Program.{Program}
use Rattle.jn_cert_law.specs.Certificate.{CertHolds}

-- a certificate begins with its first byte
pub has_bytes : (P : Program) → CertHolds P [] → ⊥
has_bytes P h = no_first _ h.form.text
  where
    no_first : (rest : List ℕ) → [] ≡ 74 ∷ rest → ⊥
    no_first rest e = cc
