-- What is read: a certificate, and the files that it is of.
use Rattle.std.specs.Prelude.{ℕ, ◌+◌, ◌≤◌, ◌<◌, ◌≡◌, ◌⊎◌, true, false, List, [], ◌∷◌, ◌++◌, length, map, take, Option}
use Rattle.jn_outside.specs.declared.given.Given.{Given}
use Rattle.jn_outside.specs.Files.{Holding, Gives}
use Rattle.jn_outside.specs.Gave.{given}
use Rattle.jn_command.specs.Answer.{Reading}
use Rattle.jn_front.specs.declared.source.SourceFile.{SourceFile}
use Rattle.jn_front.specs.declared.source.SourceRead.{SourceRead}
use Rattle.jn_front.specs.Files.{names_of, most_files, given_of, AreHeld, AreReads}
use Rattle.nullcheck_cert_check.specs.declared.certificate.CertRead.{CertRead}
use Rattle.jn_cli.specs.Cert.{Command}

-- bytes of a certificate that is read whole
abbrev pub cert_limit : ℕ
cert_limit = 67108864

-- what the reads of a certificate gave: its bytes, of one that is too large one byte more than the limit
abbrev pub given_cert : List ℕ → List ℕ → Given
given_cert name cert = given name (take (cert_limit + 1) cert)

-- the certificate and files of these names have the bytes that the source tells, and that its reads gave, the certificate first; where the files are too many, nothing is read
pub record AreInputs (read : Reading) (c : Command) (cert : List ℕ) (files : List SourceFile) : Type 0 where
  pub named : names_of files ≡ c.files
  pub told_cert : length c.files ≤ most_files → Gives read.held c.cert cert
  pub told : length c.files ≤ most_files → AreHeld read.held files
  pub given : length c.files ≤ most_files → read.now ≡ read.before ++ given_cert c.cert cert ∷ map given_of files

-- the certificate was read whole, or nothing of it is kept
abbrev pub IsCertRead : CertRead → List ℕ → Type 0
IsCertRead read cert = ((read.whole ≡ true) × (read.bytes ≡ cert) × (length cert ≤ cert_limit)) ⊎ ((read.whole ≡ false) × (read.bytes ≡ []) × (cert_limit < length cert))

-- what was read is a certificate with the bytes that the source tells, and that its reads gave
pub record CertFrom (held : Option Holding) (name : List ℕ) (old new : List Given) (read : CertRead) : Type 0 where
  pub cert : List ℕ
  pub told : Gives held name cert
  pub given : new ≡ old ++ given_cert name cert ∷ []
  pub is : IsCertRead read cert

-- what was read are a certificate and files of these names
pub record InputsFrom (held : Option Holding) (name : List ℕ) (names : List (List ℕ)) (old new : List Given) (read : CertRead) (reads : List SourceRead) : Type 0 where
  pub cert : List ℕ
  pub files : List SourceFile
  pub named : names_of files ≡ names
  pub told_cert : Gives held name cert
  pub told : AreHeld held files
  pub given : new ≡ old ++ given_cert name cert ∷ map given_of files
  pub is : IsCertRead read cert
  pub are : AreReads reads files
