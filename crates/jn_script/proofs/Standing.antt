-- Names that stand, and lines that are steps.
use Rattle.std.proofs.Common.{◌≡◌, ℕ, suc, ◌+◌, ◌<◌, ◌≤◌, Bool, true, false, List, [], ◌∷◌, ◌++◌, length, take, drop, get_or, refl, sym, ap, ◌∙◌, subst, arith, append-nil}
use Rattle.std.specs.Prelude.{cond, bytes_eq}
use Rattle.std.specs.List.{remove}
use Rattle.std.proofs.lemmas.List.{drop_more, take_more}
use Rattle.jn_script.specs.declared.step.Step.{Step}
use Rattle.jn_script.specs.declared.step.Step.TheVariants.{Remove}
use Rattle.jn_script.specs.Script.{AreSteps, CanTake, IsStep, behind_all, has, lines, names_behind, without}
use Rattle.jn_script.specs.Telling.{Takes}

-- ---- names

module _ (name : List ℕ) (names : List (List ℕ)) where
  -- the name doesn't stand before this place
  pub record NotBefore (at : ℕ) : Type 0 where
    pub has_left : has name names ≡ has name (drop at names)
    pub without_left : without name names ≡ take at names ++ without name (drop at names)

  pub not_first : NotBefore 0
  not_first = record { has_left = refl; without_left = refl }

  module _ (at : ℕ) (d : List ℕ) (lt : at < length names) (none : NotBefore at) where
    next_has : has name names ≡ cond (bytes_eq (get_or names at d) name) true (has name (drop (at + 1) names))
    next_has = none.has_left ∙ ap (has name) (drop_more names at d lt)

    next_without : without name names ≡ take at names ++ cond (bytes_eq (get_or names at d) name) (drop (at + 1) names) (get_or names at d ∷ without name (drop (at + 1) names))
    next_without = none.without_left ∙ ap (λ ns. take at names ++ without name ns) (drop_more names at d lt)

    pub found_here : bytes_eq (get_or names at d) name ≡ true → (at < length names) × (has name names ≡ true) × (without name names ≡ remove names at)
    found_here e =
        let s : at + 1 ≡ suc at = omega arith in (
          lt,
          (next_has ∙ ap (λ b. cond b true (has name (drop (at + 1) names))) e),
          next_without ∙ ap (λ b. take at names ++ cond b (drop (at + 1) names) (get_or names at d ∷ without name (drop (at + 1) names))) e ∙ ap (λ n. take at names ++ drop n names) s,
        )

    pub found_later : bytes_eq (get_or names at d) name ≡ false → NotBefore (at + 1)
    found_later e = record {
      has_left = next_has ∙ ap (λ b. cond b true (has name (drop (at + 1) names))) e;
      without_left =
          next_without
          ∙ ap (λ b. take at names ++ cond b (drop (at + 1) names) (get_or names at d ∷ without name (drop (at + 1) names))) e
          ∙ regroup (take at names) (without name (drop (at + 1) names))
          ∙ ap (λ front. front ++ without name (drop (at + 1) names)) (sym (take_more names at d lt));
    }
      where
        regroup : (front back : List (List ℕ)) → front ++ get_or names at d ∷ back ≡ (front ++ get_or names at d ∷ []) ++ back
        regroup [] back = refl
        regroup (x ∷ xs) back = ap (λ ys. x ∷ ys) (regroup xs back)

  pub found_nowhere : NotBefore (length names) → (has name names ≡ false) × (without name names ≡ names)
  found_nowhere none = (
    none.has_left ∙ ap (has name) (gone names),
    none.without_left ∙ (λ i. all names i ++ without name (gone names i)) ∙ append-nil names,
  )
    where
      all : (xs : List (List ℕ)) → take (length xs) xs ≡ xs
      all [] = refl
      all (x ∷ xs) = ap (λ ys. x ∷ ys) (all xs)

      gone : (xs : List (List ℕ)) → drop (length xs) xs ≡ []
      gone [] = refl
      gone (x ∷ xs) = gone xs

differ : true ≡ false → ⊥
differ e = cc

-- a name that is taken out
pub removed : (name : List ℕ) (names new : List (List ℕ)) (there : Bool) → there ≡ has name names → new ≡ without name names → Takes names (Remove name) there new
removed name names new true is out = (sym is, out)
removed name names new false is out = λ h. differ (sym h ∙ sym is)

-- ---- steps, line by line

steps_more : (names : List (List ℕ)) (front : List (List ℕ)) (steps : List Step) (line : List ℕ) (step : Step) → AreSteps names front steps → IsStep line step → CanTake (behind_all names steps) step → AreSteps names (front ++ line ∷ []) (steps ++ step ∷ [])
steps_more names [] [] line step are is can = (is, can, tt)
steps_more names [] (s ∷ ss) line step are is can = absurd are
steps_more names (l ∷ ls) [] line step are is can = absurd are
steps_more names (l ∷ ls) (s ∷ ss) line step are is can = (are.0, are.1, steps_more (names_behind names s) ls ss line step are.2 is can)

behind_more : (names : List (List ℕ)) (steps : List Step) (step : Step) → behind_all names (steps ++ step ∷ []) ≡ names_behind (behind_all names steps) step
behind_more names [] step = refl
behind_more names (s ∷ ss) step = behind_more (names_behind names s) ss step

one_longer : (front : List (List ℕ)) (line : List ℕ) → length (front ++ line ∷ []) ≡ length front + 1
one_longer [] line = refl
one_longer (x ∷ xs) line = let e = one_longer xs line in omega (arith, e)

regroup : (front back : List (List ℕ)) (line : List ℕ) → front ++ line ∷ back ≡ (front ++ line ∷ []) ++ back
regroup [] back line = refl
regroup (x ∷ xs) back line = ap (λ ys. x ∷ ys) (regroup xs back line)

-- the lines before this one are these steps, with these names after them
pub record ReadTo (script rest : List ℕ) (names : List (List ℕ)) (steps : List Step) (line : ℕ) : Type 0 where
  pub front : List (List ℕ)
  pub split : lines script ≡ front ++ lines rest
  pub good : AreSteps [] front steps
  pub behind : names ≡ behind_all [] steps
  pub place : line ≡ length front + 1
  pub room : line + length rest ≤ length script + 1

pub read_none : (script : List ℕ) (names : List (List ℕ)) (steps : List Step) → names ≡ [] → steps ≡ [] → ReadTo script script names steps 1
read_none script names steps no_names no_steps = subst (λ (ns : List (List ℕ)). ReadTo script script ns steps 1) (sym no_names) (subst (λ (ss : List Step). ReadTo script script [] ss 1) (sym no_steps) (first script))
  where
    first : (script : List ℕ) → ReadTo script script [] [] 1
    first script = record { front = []; split = refl; good = tt; behind = refl; place = refl; room = omega arith }

module _ (script rest behind text : List ℕ) (names : List (List ℕ)) (steps : List Step) (line : ℕ) (to : ReadTo script rest names steps line) (cut : lines rest ≡ text ∷ lines behind) where
  split : lines script ≡ to.front ++ text ∷ lines behind
  split = to.split ∙ ap (λ ls. to.front ++ ls) cut

  pub read_more : (new : List (List ℕ)) (more : List Step) (step : Step) → length behind < length rest → IsStep text step → CanTake names step → new ≡ names_behind names step → more ≡ steps ++ step ∷ [] → ReadTo script behind new more (line + 1)
  read_more new more step less is can names_are steps_are = record {
    front = to.front ++ text ∷ [];
    split = split ∙ regroup to.front (lines behind) text;
    good = subst (AreSteps [] (to.front ++ text ∷ [])) (sym steps_are) (steps_more [] to.front steps text step to.good is (subst (λ ns. CanTake ns step) to.behind can));
    behind = names_are ∙ ap (λ ns. names_behind ns step) to.behind ∙ sym (behind_more [] steps step) ∙ ap (behind_all []) (sym steps_are);
    place = ap (λ n. n + 1) (to.place ∙ sym (one_longer to.front text));
    room = (let r = to.room in omega (arith, r, less));
  }
