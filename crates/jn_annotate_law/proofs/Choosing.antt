-- What counts as inferred among slots of which only those do that get words.
use Rattle.std.proofs.Common.{◌≡◌, ℕ, zero, suc, ◌+◌, Bool, true, false, not, cond, ◌&&◌, List, [], ◌∷◌, Option, Some, None, refl, sym, ap, ◌∙◌, subst, arith}
use Rattle.std.specs.Prelude.{option_map, slice_get, slice_index_or}
use Rattle.std.proofs.lemmas.Bool.{and_parts, false≢true, true≢false}
use Rattle.jn_base.specs.declared.number.SlotNo.{SlotNo}
use Rattle.jn_quals.specs.Qualifier.{Qualifier}
use Rattle.jn_quals.specs.Order.{no_qual}
use Rattle.jn_points.specs.declared.program.SlotInfo.{SlotInfo}
use Rattle.jn_points.specs.declared.program.Program.{Program}
use Rattle.jn_transfer.specs.Contributions.{is_inferred}
use Rattle.jn_annotate.specs.Words.{is_unspelled}
use Rattle.jn_annotate.specs.Chosen.{chosen_from, gets_words, is_default}
use Rattle.jn_annotate.specs.Annotated.{HasNone, has_no_spelling}
use Rattle.jn_annotate.specs.Insertions.{inferred_qual}
use Rattle.jn_annotate_law.specs.Again.{NoneInferred}
use Rattle.jn_annotate_law.specs.Says.{AllSpelled}
use Rattle.jn_annotate_law.specs.Worded.{AreLeft, Narrows, worded_from}
use Rattle.jn_annotate_law.proofs.PartlyWritten.{worded_at}
use Rattle.jn_annotate_law.proofs.Positions.{counted_is, counts}

not_true : (b : Bool) → not b ≡ true → b ≡ false
not_true true e = absurd (false≢true e)
not_true false e = refl

module _ (terse : Bool) (s : List Qualifier) where
  chosen_later : (k i : ℕ) (xs : List SlotInfo) → is_inferred (slice_get (chosen_from terse s k xs) i) ≡ (is_inferred (slice_get xs i) && gets_words terse (slice_index_or s (k + i) no_qual))
  chosen_later k i [] = refl
  chosen_later k zero (x ∷ xs) = ap (λ n. x.inferred && gets_words terse (slice_index_or s n no_qual)) (let e : k ≡ k + 0 = omega arith in e)
  chosen_later k (suc i) (x ∷ xs) = chosen_later (k + 1) i xs ∙ ap (λ n. is_inferred (slice_get xs i) && gets_words terse (slice_index_or s n no_qual)) (let e : (k + 1) + i ≡ k + suc i = omega arith in e)

  module _ (slots : List SlotInfo) where
    abbrev said : List SlotInfo
    said = chosen_from terse s 0 slots

    pub chosen_at : (i : ℕ) → is_inferred (slice_get said i) ≡ (is_inferred (slice_get slots i) && gets_words terse (slice_index_or s i no_qual))
    chosen_at i = chosen_later 0 i slots ∙ ap (λ n. is_inferred (slice_get slots i) && gets_words terse (slice_index_or s n no_qual)) (let e : 0 + i ≡ i = omega arith in e)

    both_at : (i : ℕ) → is_inferred (slice_get said i) ≡ true → (is_inferred (slice_get slots i) ≡ true) × (gets_words terse (slice_index_or s i no_qual) ≡ true)
    both_at i e = and_parts (is_inferred (slice_get slots i)) (gets_words terse (slice_index_or s i no_qual)) (sym (chosen_at i) ∙ e)

    pub narrows : Narrows said slots
    narrows i e = (both_at i e).0

    -- what gets words has a spelling
    pub chosen_spelled : AllSpelled said s
    chosen_spelled None q e = absurd (let f : ◌≡◌ {A = Option Qualifier} None (Some q) = e in cc)
    chosen_spelled (Some i) q e =
        let c = counts said s i.0 q e in
        let gets = (both_at i.0 c.0).1 in
        subst (λ (x : Qualifier). is_unspelled x ≡ false) c.1 (not_true (is_unspelled (slice_index_or s i.0 no_qual)) (and_parts (not (is_unspelled (slice_index_or s i.0 no_qual))) (not (terse && is_default (slice_index_or s i.0 no_qual))) gets).0)

    -- a slot's qualifier, where words are put for it
    abbrev pub kept : Option Qualifier → Option Qualifier
    kept None = None
    kept (Some q) = cond (gets_words terse q) (Some q) None

    pub chosen_qual : (x : Option SlotNo) → inferred_qual said s x ≡ kept (inferred_qual slots s x)
    chosen_qual None = refl
    chosen_qual (Some i) =
        let q : Qualifier = slice_index_or s i.0 no_qual in
        counted_is said s i.0 ∙ ap (λ b. cond b (Some q) None) (chosen_at i.0) ∙ go (is_inferred (slice_get slots i.0)) ∙ ap kept (sym (counted_is slots s i.0))
      where
        go : (b : Bool) → cond (b && gets_words terse (slice_index_or s i.0 no_qual)) (Some (slice_index_or s i.0 no_qual)) None ≡ kept (cond b (Some (slice_index_or s i.0 no_qual)) None)
        go true = refl
        go false = refl

  -- choosing again among those that are left chooses none
  pub none_again : (slots new : List SlotInfo) → AreLeft (chosen_from terse s 0 slots) slots new → NoneInferred (chosen_from terse s 0 new)
  none_again slots new left i =
      let g = gets_words terse (slice_index_or s i no_qual) in
      chosen_at new i ∙ ap (λ b. b && g) (left i ∙ ap (λ b. is_inferred (slice_get slots i) && not b) (chosen_at slots i)) ∙ go (is_inferred (slice_get slots i)) g
    where
      go : (a g : Bool) → ((a && not (a && g)) && g) ≡ false
      go true true = refl
      go true false = refl
      go false true = refl
      go false false = refl

-- ---- slots after words were put

pub left_of : (said : List SlotInfo) (s : List Qualifier) (old new : List SlotInfo) → new ≡ worded_from said s 0 old → AreLeft said old new
left_of said s old new e i = ap (λ xs. is_inferred (slice_get xs i)) e ∙ ap is_inferred (worded_at said s 0 i old) ∙ go (slice_get old i) (is_inferred (slice_get said (0 + i))) refl ∙ ap (λ n. is_inferred (slice_get old i) && not (is_inferred (slice_get said n))) (let f : 0 + i ≡ i = omega arith in f)
  where
    flag : (b : Bool) (x : SlotInfo) → (cond b (record { start = slice_index_or s (0 + i) no_qual; inferred = false }) x).inferred ≡ (x.inferred && not b)
    flag true x = go x.inferred
      where
        go : (a : Bool) → false ≡ (a && false)
        go true = refl
        go false = refl
    flag false x = go x.inferred
      where
        go : (a : Bool) → a ≡ (a && true)
        go true = refl
        go false = refl

    go : (o : Option SlotInfo) (b : Bool) → is_inferred (slice_get said (0 + i)) ≡ b → is_inferred (option_map (λ (info : SlotInfo). cond (is_inferred (slice_get said (0 + i))) (record { start = slice_index_or s (0 + i) no_qual; inferred = false }) info) o) ≡ (is_inferred o && not (is_inferred (slice_get said (0 + i))))
    go None b f = refl
    go (Some x) b f = flag (is_inferred (slice_get said (0 + i))) x

-- where each inferred slot has a spelling, and words aren't terse, all of them are chosen
pub all_chosen : (P : Program) (s : List Qualifier) → HasNone (has_no_spelling P s) → chosen_from false s 0 P.slots ≡ P.slots
all_chosen P s none = go 0 P.slots (λ i. ap (λ n. is_inferred (slice_get P.slots i) && is_unspelled (slice_index_or s n no_qual)) (let e : 0 + i ≡ i = omega arith in e) ∙ none i)
  where
    flag : (a u : Bool) → (a && u) ≡ false → (a && (not u && true)) ≡ a
    flag true true e = absurd (true≢false e)
    flag true false e = refl
    flag false u e = refl

    go : (k : ℕ) (xs : List SlotInfo) → ((i : ℕ) → (is_inferred (slice_get xs i) && is_unspelled (slice_index_or s (k + i) no_qual)) ≡ false) → chosen_from false s k xs ≡ xs
    go k [] h = refl
    go k (x ∷ xs) h =
        let here : (x.inferred && is_unspelled (slice_index_or s k no_qual)) ≡ false = ap (λ n. x.inferred && is_unspelled (slice_index_or s n no_qual)) (let e : k ≡ k + 0 = omega arith in e) ∙ h 0 in
        ap (λ b. record { start = x.start; inferred = b } ∷ chosen_from false s (k + 1) xs) (flag x.inferred (is_unspelled (slice_index_or s k no_qual)) here)
        ∙ ap (λ r. x ∷ r) (go (k + 1) xs (λ i. ap (λ n. is_inferred (slice_get xs i) && is_unspelled (slice_index_or s n no_qual)) (let e : (k + 1) + i ≡ k + suc i = omega arith in e) ∙ h (suc i)))
