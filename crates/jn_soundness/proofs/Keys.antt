-- A constructor's own keys are fields of its class.
use Rattle.std.proofs.Common.{◌≡◌, ℕ, Bool, true, false, ◌&&◌, List, [], ◌∷◌, length, filter, refl, cond}
use Rattle.std.specs.Prelude.{eqb}
use Rattle.std.proofs.lemmas.Bool.{eqb-true}
use Rattle.jn_points.specs.declared.program.Method.{Method}
use Rattle.std.specs.Prelude.{Option}
use Rattle.jn_points.specs.Lookup.{class_of, ctor_of, method_in, owner, ref_field}
use Rattle.jn_points.specs.Members.{below}
use Rattle.jn_env.specs.Keys.{is_own, own_keys}
use Rattle.jn_soundness.specs.World.{World}
use Rattle.jn_soundness.specs.Checked.{AllOwn}

module _ (W : World) where
  own_class : (m : Option Method) (f : ℕ) → is_own W.program m f ≡ true → owner W.program f ≡ class_of m
  own_class m f h = eqb-true (owner W.program f) (class_of m) (middle (ctor_of m) (eqb (owner W.program f) (class_of m)) (ref_field W.program f) h)
    where
      middle : (a b c : Bool) → a && b && c ≡ true → b ≡ true
      middle a true c h = refl
      middle true false c h = cc
      middle false false c h = cc

  kept_own : (m : Option Method) (fs : List ℕ) → AllOwn W (class_of m) (filter (is_own W.program m) fs)
  kept_own m [] = tt
  kept_own m (f ∷ fs) = by (is_own W.program m f) refl (kept_own m fs)
    where
      by : (t : Bool) → is_own W.program m f ≡ t → AllOwn W (class_of m) (filter (is_own W.program m) fs) → AllOwn W (class_of m) (cond t (f ∷ filter (is_own W.program m) fs) (filter (is_own W.program m) fs))
      by true h rest = (own_class m f h, rest)
      by false h rest = rest

  -- the keys are fields of the constructor's class
  pub keys_own : (b : ℕ) → AllOwn W (class_of (method_in W.program b)) (own_keys W.program b)
  keys_own b = kept_own (method_in W.program b) (below (length W.program.fields))
