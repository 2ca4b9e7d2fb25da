-- A union of bits is a join of environments, and inclusion is their order.
use Rattle.std.proofs.Common.{◌≡◌, ℕ, Bool, true, false, not, ◌||◌, ◌&&◌, List, [], ◌∷◌, ◌++◌, length, map, refl, sym, ap, ◌∙◌, subst, arith}
use Rattle.jn_quals.specs.Qualifier.{Qualifier}
use Rattle.jn_env.specs.Environment.{Env}
use Rattle.jn_env.specs.Order.{QualsWithin, BitsAbove, EnvWithin, join_quals, meet_bits, join_env}
use Rattle.jn_env.specs.Size.{SameSize}
use Rattle.jn_env.specs.Packed.{either_bits}
use Rattle.jn_env.specs.Flat.{env_of}
use Rattle.jn_env.proofs.Order.{env_refl, env_join_left, env_join_right, env_join_least, length-join_quals, length-meet_bits}
use Rattle.jn_env.proofs.Weight.{env_antisym}
use Rattle.jn_env.proofs.Laid.{quals_flat, flat, Laid, view_of, length_laid}

quals_join : (xs ys : List Qualifier) (r s : List Bool) → length xs ≡ length ys → either_bits (quals_flat xs ++ r) (quals_flat ys ++ s) ≡ quals_flat (join_quals xs ys) ++ either_bits r s
quals_join [] [] r s l = refl
quals_join [] (y ∷ ys) r s l = absurd (omega (arith, l))
quals_join (x ∷ xs) [] r s l = absurd (omega (arith, l))
quals_join (x ∷ xs) (y ∷ ys) r s l = ap (λ zs. (x.null || y.null) ∷ ((x.committed || y.committed) ∷ ((x.free || y.free) ∷ zs))) (quals_join xs ys r s (omega (arith, l)))

either_not : (a b : Bool) → (not a || not b) ≡ not (a && b)
either_not true b = refl
either_not false b = refl

bits_join : (xs ys r s : List Bool) → length xs ≡ length ys → either_bits (map not xs ++ r) (map not ys ++ s) ≡ map not (meet_bits xs ys) ++ either_bits r s
bits_join [] [] r s l = refl
bits_join [] (y ∷ ys) r s l = absurd (omega (arith, l))
bits_join (x ∷ xs) [] r s l = absurd (omega (arith, l))
bits_join (x ∷ xs) (y ∷ ys) r s l = ap (λ z. z ∷ either_bits (map not xs ++ r) (map not ys ++ s)) (either_not x y) ∙ ap (λ zs. not (x && y) ∷ zs) (bits_join xs ys r s (omega (arith, l)))

last_join : (xs ys : List Bool) → length xs ≡ length ys → either_bits (map not xs) (map not ys) ≡ map not (meet_bits xs ys)
last_join [] [] l = refl
last_join [] (y ∷ ys) l = absurd (omega (arith, l))
last_join (x ∷ xs) [] l = absurd (omega (arith, l))
last_join (x ∷ xs) (y ∷ ys) l = ap (λ z. z ∷ either_bits (map not xs) (map not ys)) (either_not x y) ∙ ap (λ zs. not (x && y) ∷ zs) (last_join xs ys (omega (arith, l)))

flat_join : (a b : Env) → SameSize a b → either_bits (flat a) (flat b) ≡ flat (join_env a b)
flat_join a b s =
    quals_join a.quals b.quals (map not a.facts ++ map not a.assigned) (map not b.facts ++ map not b.assigned) s.quals
    ∙ ap (λ z. quals_flat (join_quals a.quals b.quals) ++ z) (bits_join a.facts b.facts (map not a.assigned) (map not b.assigned) s.facts ∙ ap (λ z. map not (meet_bits a.facts b.facts) ++ z) (last_join a.assigned b.assigned s.assigned))

module _ (bits others : List Bool) (r f r' f' : ℕ) (a b : Env) (l : Laid bits r f a) (m : Laid others r' f' b) (s : SameSize a b) where
  pub joined_laid : Laid (either_bits bits others) r f (join_env a b)
  joined_laid = record {
    is = ap (λ z. either_bits z others) l.is ∙ ap (either_bits (flat a)) m.is ∙ flat_join a b s;
    quals = length-join_quals a.quals b.quals s.quals ∙ sym s.quals ∙ l.quals;
    facts = length-meet_bits a.facts b.facts s.facts ∙ sym s.facts ∙ l.facts;
  }

  pub joined_view : env_of (either_bits bits others) r f ≡ join_env a b
  joined_view = view_of (either_bits bits others) r f (join_env a b) joined_laid

  pub joined_back : join_env a b ≡ a → either_bits bits others ≡ bits
  joined_back e = joined_laid.is ∙ ap flat e ∙ sym l.is

  pub included : either_bits bits others ≡ bits → EnvWithin b a
  included e =
      let same : join_env a b ≡ a = sym joined_view ∙ ap (λ z. env_of z r f) e ∙ view_of bits r f a l in
      subst (λ z. EnvWithin b z) same (env_join_right a b s)

  pub included_back : EnvWithin b a → either_bits bits others ≡ bits
  included_back w = joined_back (env_antisym (join_env a b) a (env_join_least a b a (env_refl a) w) (env_join_left a b s))

  pub same_length : length bits ≡ length others
  same_length = omega (arith, length_laid bits r f a l, length_laid others r' f' b m, l.quals, l.facts, m.quals, m.facts, s.quals, s.facts, s.assigned)

module _ (bits others : List Bool) (r f r' f' : ℕ) (a b : Env) (l : Laid bits r f a) (m : Laid others r' f' b) where
  pub sizes_from : r ≡ r' → f ≡ f' → length bits ≡ length others → SameSize a b
  sizes_from e g h = record {
    quals = l.quals ∙ e ∙ sym m.quals;
    facts = l.facts ∙ g ∙ sym m.facts;
    assigned = omega (arith, e, g, h, length_laid bits r f a l, length_laid others r' f' b m);
  }

  pub sizes_to : SameSize a b → (r ≡ r') × (f ≡ f') × (length bits ≡ length others)
  sizes_to s =
      (sym l.quals ∙ s.quals ∙ m.quals, sym l.facts ∙ s.facts ∙ m.facts, same_length bits others r f r' f' a b l m s)

quals_long : (xs ys : List Qualifier) → QualsWithin xs ys → length xs ≡ length ys
quals_long [] [] w = refl
quals_long [] (y ∷ ys) w = absurd w
quals_long (x ∷ xs) [] w = absurd w
quals_long (x ∷ xs) (y ∷ ys) w = omega (arith, quals_long xs ys w.1)

bits_long : (xs ys : List Bool) → BitsAbove xs ys → length xs ≡ length ys
bits_long [] [] w = refl
bits_long [] (y ∷ ys) w = absurd w
bits_long (x ∷ xs) [] w = absurd w
bits_long (x ∷ xs) (y ∷ ys) w = omega (arith, bits_long xs ys w.1)

pub same_size : (a b : Env) → EnvWithin a b → SameSize a b
same_size a b w = record { quals = quals_long a.quals b.quals w.quals; facts = bits_long a.facts b.facts w.facts; assigned = bits_long a.assigned b.assigned w.assigned }

pub other_way : (a b : Env) → SameSize a b → SameSize b a
other_way a b s = record { quals = sym s.quals; facts = sym s.facts; assigned = sym s.assigned }
