-- What reads give after a name that was started.
use Rattle.std.proofs.Common.{◌≡◌, ℕ, ◌+◌, ◌≤◌, ◌++◌, List, [], ◌∷◌, length, take, Option, Some, None, inr, refl, ap, subst, ◌∙◌, append-nil, arith, length-append}
use Rattle.std.proofs.Math.Seq.{take-append_seam}
use Rattle.jn_outside.specs.declared.given.Given.{Given}
use Rattle.jn_outside.specs.Files.{Holding, HasRead, LeftOf}
use Rattle.jn_outside.specs.Gave.{given, with_read, GivesBehind, GivesLittle, BeginsWith, Begins}

-- a read of no byte gives nothing
pub none_more : (gave : List Given) → with_read gave [] ≡ gave
none_more [] = refl
none_more (last ∷ []) = ap (λ bytes. given last.name bytes ∷ []) (append-nil last.bytes)
none_more (first ∷ next ∷ others) = ap (λ gs. first ∷ gs) (none_more (next ∷ others))

-- a read after a name that was started gives more of it
pub more_behind : (old : List Given) (name bytes more : List ℕ) → with_read (old ++ given name bytes ∷ []) more ≡ old ++ given name (bytes ++ more) ∷ []
more_behind [] name bytes more = refl
more_behind (first ∷ []) name bytes more = refl
more_behind (first ∷ next ∷ others) name bytes more = ap (λ gs. first ∷ gs) (more_behind (next ∷ others) name bytes more)

-- more was given of the name that was started last
pub behind : (old now new : List Given) (name bytes more : List ℕ) (room : ℕ) → now ≡ old ++ given name bytes ∷ [] → GivesBehind now new room more → new ≡ old ++ given name (bytes ++ more) ∷ []
behind old now new name bytes more room e b = b.gave ∙ ap (λ gs. with_read gs more) e ∙ more_behind old name bytes more

pub little_behind : (old now new : List Given) (name bytes more : List ℕ) (room most : ℕ) → now ≡ old ++ given name bytes ∷ [] → GivesBehind now new room more → length bytes + room ≤ most → GivesLittle name most old new
little_behind old now new name bytes more room most e b le =
    inr record { bytes = bytes ++ more; few = omega (arith, length-append bytes more, b.few, le); gave = behind old now new name bytes more room e b }

front_of : (bytes : Option (List ℕ)) (front : List ℕ) (left : Option (List ℕ)) → LeftOf bytes front left → BeginsWith bytes front
front_of None front left h = absurd h
front_of (Some bytes) front None h = absurd h
front_of (Some bytes) front (Some left) h = subst (λ whole. take (length front) whole ≡ front) h (take-append_seam front left)

-- what was read is what the name begins with
pub begins : (held : Option Holding) (name front : List ℕ) (left : Option (List ℕ)) → HasRead held name front left → Begins held name front
begins None name front left h = tt
begins (Some held) name front left h = front_of (held name) front left h
