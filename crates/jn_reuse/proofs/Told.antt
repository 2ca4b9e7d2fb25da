-- What is told of bodies, names and signatures before they are compared.
use Rattle.std.proofs.Common.{◌≡◌, ℕ, zero, suc, ◌+◌, ◌<◌, Bool, true, false, List, [], ◌∷◌, length, Option, refl, sym, ap, ◌∙◌, subst, arith}
use mathlib.Core.Logic.{dite}
use native.Mathlib.Decide.{ℕ_discrete}
use Rattle.std.specs.Prelude.{◌↔◌, slice_get, slice_index_or}
use Rattle.std.proofs.lemmas.Option.{same_Some}
use Rattle.jn_quals.specs.Order.{no_qual}
use Rattle.jn_quals.specs.Qualifier.{Qualifier}
use Rattle.jn_points.specs.declared.program.Body.{Body}
use Rattle.jn_points.specs.declared.program.Program.{Program}
use Rattle.jn_points.specs.Lookup.{body_at}
use Rattle.jn_recheck_law.specs.Alike.{ActsAlike, AllAlike, SameBody, SameKind, SamePoint}
use Rattle.jn_recheck_law.specs.Reusable.{ActAlike, SameBodies}
use Rattle.jn_recheck_law.specs.Slots.{Agree}
use Rattle.jn_sigs.specs.Packed.{ArePacked, unpacked}
use Rattle.jn_sigs.proofs.Unique.{unique}

never : false ≡ true → ⊥
never e = cc

-- what holds is told
pub holds : {X : Type 0} → X → (true ≡ true) ↔ X
holds x = ((λ e. x), (λ y. refl))

-- ---- a body is the same as itself, and acts as itself

pub alike_self : {A : Type 0} (R : ℕ → A → A → Type 0) → ((i : ℕ) (x : A) → R i x x) → (i : ℕ) (xs : List A) → AllAlike R i xs xs
alike_self R same i [] = tt
alike_self R same i (x ∷ xs) = (same i x, alike_self R same (i + 1) xs)

same_self : (names : List (List ℕ)) (x : Body) → SameBody names names x x
same_self names x = record { method = refl; regs = refl; locals = refl; points = alike_self (SamePoint names names) (λ i y. record { span = refl; kind = refl; string = refl }) 0 x.points }

acts_self : (x : Body) → ActsAlike x x
acts_self x = record { method = refl; regs = refl; locals = refl; points = alike_self SameKind (λ i y. record { kind = refl }) 0 x.points }

bodies_self : (names : List (List ℕ)) (bodies : List Body) (b : ℕ) → b < length bodies → SameBodies names names (slice_get bodies b) (slice_get bodies b)
bodies_self names [] b lt = absurd (omega (arith, lt))
bodies_self names (x ∷ bodies) zero lt = same_self names x
bodies_self names (x ∷ bodies) (suc b) lt = bodies_self names bodies b (omega (arith, lt))

acting_self : (bodies : List Body) (b : ℕ) → b < length bodies → ActAlike (slice_get bodies b) (slice_get bodies b)
acting_self [] b lt = absurd (omega (arith, lt))
acting_self (x ∷ bodies) zero lt = acts_self x
acting_self (x ∷ bodies) (suc b) lt = acting_self bodies b (omega (arith, lt))

-- a body that another program has, too
pub told_same : (names more : List (List ℕ)) (P Q : Program) (b : ℕ) → b < length Q.bodies → (names ≡ more) × (body_at P b ≡ body_at Q b) → SameBodies names more (body_at P b) (body_at Q b)
told_same names more P Q b lt e =
    subst (λ (ns : List (List ℕ)). SameBodies names ns (body_at P b) (body_at Q b)) e.0
    (subst (λ (o : Option Body). SameBodies names names o (body_at Q b)) (sym e.1) (bodies_self names Q.bodies b lt))

pub told_acts : (P Q : Program) (b : ℕ) → b < length P.bodies → body_at P b ≡ body_at Q b → ActAlike (body_at P b) (body_at Q b)
told_acts P Q b lt e = subst (ActAlike (body_at P b)) e (acting_self P.bodies b lt)

-- equal signatures agree on all slots
pub agree_same : (s t : List Qualifier) (slots : List ℕ) → s ≡ t → Agree s t slots
agree_same s t [] e = tt
agree_same s t (i ∷ slots) e = (ap (λ (u : List Qualifier). slice_index_or u i no_qual) e, agree_same s t slots e)

-- ---- names

pub names_none : (xs ys : List (List ℕ)) (i : ℕ) → i < 0 → slice_get xs i ≡ slice_get ys i
names_none xs ys i lt = absurd (omega (arith, lt))

pub names_more : (xs ys : List (List ℕ)) (n : ℕ) → slice_get xs n ≡ slice_get ys n → ((i : ℕ) → i < n → slice_get xs i ≡ slice_get ys i) → (i : ℕ) → i < n + 1 → slice_get xs i ≡ slice_get ys i
names_more xs ys n here h i lt = dite (ℕ_discrete i n)
    (λ at. subst (λ (k : ℕ). slice_get xs k ≡ slice_get ys k) (sym at) here)
    (λ ne. h i (omega (arith, lt, ne)))

same_texts : (xs ys : List (List ℕ)) → length xs ≡ length ys → ((i : ℕ) → i < length xs → slice_get xs i ≡ slice_get ys i) → xs ≡ ys
same_texts [] [] e h = refl
same_texts [] (y ∷ ys) e h = absurd (omega (arith, e))
same_texts (x ∷ xs) [] e h = absurd (omega (arith, e))
same_texts (x ∷ xs) (y ∷ ys) e h =
    let first : x ≡ y = same_Some x y (h 0 (omega arith)) in
    let rest : xs ≡ ys = same_texts xs ys (omega (arith, e)) (λ i lt. h (suc i) (omega (arith, lt))) in
    (λ i. first i ∷ rest i)

pub names_all : (xs ys : List (List ℕ)) (n : ℕ) → length xs ≡ length ys → n ≡ length xs → ((i : ℕ) → i < n → slice_get xs i ≡ slice_get ys i) → xs ≡ ys
names_all xs ys n e f h = same_texts xs ys e (λ i lt. h i (omega (arith, lt, f)))

-- other names differ in number or at a place
pub names_longer : (xs ys : List (List ℕ)) → (length xs ≡ length ys → ⊥) → xs ≡ ys → false ≡ true
names_longer xs ys other e = absurd (other (ap (λ (l : List (List ℕ)). length l) e))

pub names_other : (xs ys : List (List ℕ)) (n : ℕ) → (slice_get xs n ≡ slice_get ys n → ⊥) → xs ≡ ys → false ≡ true
names_other xs ys n other e = absurd (other (ap (λ (l : List (List ℕ)). slice_get l n) e))

-- ---- signatures by their words

pub sigs_longer : (s t : List Qualifier) (n m : ℕ) → n ≡ length s → m ≡ length t → (n ≡ m → ⊥) → (false ≡ true) ↔ (s ≡ t)
sigs_longer s t n m en em other = ((λ e. absurd (never e)), (λ e. absurd (other (en ∙ ap (λ (l : List Qualifier). length l) e ∙ sym em))))

pub sigs_same : (s t : List Qualifier) (ws vs : List ℕ) (n m : ℕ) (r : Bool) → n ≡ length s → m ≡ length t → n ≡ m → ArePacked ws (length s) → ArePacked vs (length t)
    → unpacked ws (length s) ≡ s → unpacked vs (length t) ≡ t → (r ≡ true) ↔ (ws ≡ vs) → (r ≡ true) ↔ (s ≡ t)
sigs_same s t ws vs n m r en em e packed others one two same =
    let long : length s ≡ length t = sym en ∙ e ∙ em in (
      (λ told. sym one ∙ (λ i. unpacked (same.0 told i) (long i)) ∙ two),
      (λ equal. same.1 (unique ws vs (length t) (subst (ArePacked ws) long packed) others (subst (λ (k : ℕ). unpacked ws k ≡ s) long one ∙ equal ∙ sym two))),
    )
