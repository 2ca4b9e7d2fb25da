-- A certificate that is refused has one fault.
use Rattle.std.proofs.Common.{◌≡◌, ◌⊎◌, inl, inr, ℕ, ◌<◌, ◌≤◌, List, Option, Some, None, sym, ap, ◌∙◌, subst, arith}
use Rattle.std.proofs.lemmas.Bool.{cases_lt}
use Rattle.jn_base.specs.declared.refusal.Fail.TheVariants.{Refused}
use Rattle.jn_quals.specs.Qualifier.{Qualifier}
use Rattle.jn_points.specs.declared.program.Program.{Program}
use Rattle.jn_transfer.specs.Rules.{pairs_rows}
use Rattle.jn_diag.specs.Order.{HasOneOrder}
use Rattle.jn_cert_form.specs.Form.{IsBadAt}
use Rattle.jn_cert_form.specs.Counted.{IsCounted}
use Rattle.jn_cert_form.proofs.OneReading.{same_signature, same_tables}
use Rattle.jn_cert_judge.specs.declared.fault.CertFault.{CertFault}
use Rattle.jn_cert_judge.specs.declared.fault.CertFault.TheVariants.{BadForm}
use Rattle.jn_cert_judge.specs.Judging.{IsFirstFault, IsFoundAfter, broken, first_fault}
use Rattle.jn_cert.specs.Checking.{IsFaultOf, IsWhyRefused}

-- two longest fronts that begin a form are equally long
same_at : (P : Program) (cert : List ℕ) (m n : ℕ) → IsBadAt P cert m → IsBadAt P cert n → m ≡ n
same_at P cert m n a b = by (cases_lt m n) (cases_lt n m)
  where
    by : (m < n) ⊎ (n ≤ m) → (n < m) ⊎ (m ≤ n) → m ≡ n
    by (inl lt) other = absurd (a.longest n lt b.inside b.begins)
    by (inr ge) (inl lt) = absurd (b.longest m lt a.inside a.begins)
    by (inr ge) (inr le) = omega (ge, le, arith)

some_same : (x y : CertFault) → Some x ≡ Some y → x ≡ y
some_same x y e = cc

-- what is found after a first fault, or after none, is one
one_after : HasOneOrder → (P : Program) (s : List Qualifier) (first : Option CertFault) (one other : CertFault) → IsFoundAfter P s first (Some one) → IsFoundAfter P s first (Some other) → one ≡ other
one_after order P s None one other a b = some_same one other (a.2 ∙ ap broken (order (pairs_rows P s) a.0 b.0 a.1 b.1) ∙ sym b.2)
one_after order P s (Some fault) one other a b = some_same one other (a ∙ sym b)

one_of_forms : HasOneOrder → (P : Program) (cert : List ℕ) (one other : CertFault) → IsCounted P → IsFaultOf P cert one → IsFaultOf P cert other → one ≡ other
one_of_forms order P cert one other counted f g =
    let s = same_signature P counted f.sig g.sig f.tables g.tables cert f.form g.form in
    let t = same_tables P counted f.sig g.sig f.tables g.tables cert f.form g.form in
    let first : IsFirstFault P f.sig f.tables (Some other) = subst (λ z. IsFirstFault P z f.tables (Some other)) (sym s) (subst (λ z. IsFirstFault P g.sig z (Some other)) (sym t) g.first) in
    one_after order P f.sig (first_fault P f.sig f.tables) one other f.first first

pub one_fault : HasOneOrder → (P : Program) (cert : List ℕ) (one other : CertFault) → IsCounted P → IsWhyRefused P cert (Refused one) → IsWhyRefused P cert (Refused other) → one ≡ other
one_fault order P cert one other counted (inl a) (inl b) = a.is ∙ ap BadForm (same_at P cert a.at b.at a.bad b.bad) ∙ sym b.is
one_fault order P cert one other counted (inl a) (inr g) = absurd (a.bad.none g.sig g.tables g.form)
one_fault order P cert one other counted (inr f) (inl b) = absurd (b.bad.none f.sig f.tables f.form)
one_fault order P cert one other counted (inr f) (inr g) = one_of_forms order P cert one other counted f g
