-- What the reads of a certificate and of files gave.
use Rattle.std.proofs.Common.{◌≡◌, ℕ, ◌+◌, ◌≤◌, ◌<◌, Bool, true, false, List, [], ◌∷◌, ◌++◌, length, map, take, Option, Some, None, Err, inl, inr, refl, sym, ap, ◌∙◌, subst, arith, append_assoc, append-nil}
use Rattle.std.proofs.lemmas.List.{take_all, length-take}
use Rattle.jn_base.specs.declared.refusal.Fail.{Fail}
use Rattle.jn_base.specs.declared.refusal.Fail.TheVariants.{Refused, OutOfMemory}
use Rattle.jn_outside.specs.declared.files.Failed.{Failed}
use Rattle.jn_outside.specs.declared.given.Given.{Given}
use Rattle.jn_outside.specs.Files.{Holding, Gives}
use Rattle.jn_outside.specs.Gave.{given, Begins, BeginsWith, GivesLittle, GivesTooMany}
use Rattle.jn_front.specs.declared.source.SourceRead.{SourceRead}
use Rattle.jn_front.specs.Files.{AreHeld, CannotRead, ReadFrom, StartsOnly, given_of}
use Rattle.nullcheck_cert_check.specs.declared.certificate.CertRead.{CertRead}
use Rattle.nullcheck_cert_check.specs.Inputs.{CertFrom, InputsFrom, cert_limit, given_cert}

abbrev pub cert_as : List ℕ → Bool → CertRead
cert_as bytes whole = record { bytes = bytes; whole = whole }

-- ---- the certificate

pub whole_cert : (held : Option Holding) (old new : List Given) (name bytes : List ℕ) (read : CertRead) → read ≡ cert_as bytes true → Gives held name bytes → length bytes ≤ cert_limit → new ≡ old ++ given name bytes ∷ [] → CertFrom held name old new read
whole_cert held old new name bytes read is g le gave = subst (CertFrom held name old new) (sym is) (record {
  cert = bytes;
  told = g;
  given = gave ∙ ap (λ front. old ++ given name front ∷ []) (sym (take_all (cert_limit + 1) bytes (omega (arith, le))));
  is = inl (refl, refl, le);
})

-- of a certificate that is too large the first bytes were given
longer_cert : (held : Option Holding) (old new : List Given) (name bytes front : List ℕ) → Gives held name bytes → cert_limit < length bytes → front ≡ take (cert_limit + 1) bytes → new ≡ old ++ given name front ∷ [] → CertFrom held name old new (cert_as [] false)
longer_cert held old new name bytes front g lt first gave = record {
  cert = bytes;
  told = g;
  given = gave ∙ ap (λ bytes. old ++ given name bytes ∷ []) first;
  is = inr (refl, refl, lt);
}

longer_held : (h : Holding) (old new : List Given) (name front : List ℕ) (o : Option (List ℕ)) → h name ≡ o → length front ≡ cert_limit + 1 → BeginsWith o front → new ≡ old ++ given name front ∷ [] → CertFrom (Some h) name old new (cert_as [] false)
longer_held h old new name front None e many first gave = absurd first
longer_held h old new name front (Some bytes) e many first gave =
    let same : front ≡ take (cert_limit + 1) bytes = sym first ∙ ap (λ n. take n bytes) many in
    let long : length front ≡ length (take (cert_limit + 1) bytes) = ap length same in
    longer_cert (Some h) old new name bytes front e (omega (arith, long, many, length-take (cert_limit + 1) bytes)) same gave

large_from : (held : Option Holding) (old new : List Given) (name front : List ℕ) → length front ≡ cert_limit + 1 → Begins held name front → new ≡ old ++ given name front ∷ [] → CertFrom held name old new (cert_as [] false)
large_from None old new name front many first gave = longer_cert None old new name front front tt (omega (arith, many)) (sym (take_all (cert_limit + 1) front (omega (arith, many)))) gave
large_from (Some h) old new name front many first gave = longer_held h old new name front (h name) refl many first gave

pub large_cert : (held : Option Holding) (old new : List Given) (name : List ℕ) (read : CertRead) → read ≡ cert_as [] false → GivesTooMany held name cert_limit old new → CertFrom held name old new read
large_cert held old new name read is m = subst (CertFrom held name old new) (sym is) (large_from held old new name m.front m.many m.first m.gave)

-- ---- the certificate and the files

pub inputs_from : (held now : Option Holding) (name : List ℕ) (names : List (List ℕ)) (old mid new : List Given) (read : CertRead) (reads : List SourceRead) → now ≡ held → CertFrom held name old mid read → ReadFrom now names mid new reads → InputsFrom held name names old new read reads
inputs_from held now name names old mid new read reads same c from = record {
  cert = c.cert;
  files = from.files;
  named = from.named;
  told_cert = c.told;
  told = subst (λ h. AreHeld h from.files) same from.told;
  given = from.given ∙ ap (λ g. g ++ map given_of from.files) c.given ∙ append_assoc old (given_cert name c.cert ∷ []) (map given_of from.files);
  is = c.is;
  are = from.are;
}

-- ---- what was started

-- nothing
starts_none : (names : List (List ℕ)) (old new : List Given) → new ≡ old → StartsOnly names old new
starts_none names old new same = record { added = []; gave = same ∙ sym (append-nil old); named = refl }

-- the certificate alone, or not even that
pub starts_cert : (name : List ℕ) (names : List (List ℕ)) (most : ℕ) (old new : List Given) → GivesLittle name most old new → StartsOnly (name ∷ names) old new
starts_cert name names most old new (inl same) = starts_none (name ∷ names) old new same
starts_cert name names most old new (inr one) = record { added = given name one.bytes ∷ []; gave = one.gave; named = refl }

-- the certificate, and the first files
pub starts_inputs : (held : Option Holding) (name : List ℕ) (names : List (List ℕ)) (old mid new : List Given) (read : CertRead) → CertFrom held name old mid read → StartsOnly names mid new → StartsOnly (name ∷ names) old new
starts_inputs held name names old mid new read c s = record {
  added = given_cert name c.cert ∷ s.added;
  gave = s.gave ∙ ap (λ g. g ++ s.added) c.given ∙ append_assoc old (given_cert name c.cert ∷ []) s.added;
  named = ap (λ ns. name ∷ ns) s.named;
}

-- ---- faults

pub cannot_read : (A B : Type 0) (fail : Fail Failed) → CannotRead {A = A} (Err fail) → CannotRead {A = B} (Err fail)
cannot_read A B (Refused failed) c = tt
cannot_read A B OutOfMemory c = absurd c
