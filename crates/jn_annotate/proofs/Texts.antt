-- The texts of files, one after the other, and what is refused.
use Rattle.std.proofs.Common.{◌≡◌, ℕ, suc, ◌+◌, Bool, ◌<◌, ◌≤◌, List, [], ◌∷◌, ◌++◌, length, Some, refl, sym, ap, ◌∙◌, subst, arith, append_assoc}
use Rattle.std.specs.Prelude.{drop}
use Rattle.jn_base.specs.declared.refusal.Fail.{Fail}
use Rattle.jn_base.specs.declared.refusal.Fail.TheVariants.{Refused, OutOfMemory}
use Rattle.jn_quals.specs.Qualifier.{Qualifier}
use Rattle.jn_points.specs.declared.program.Field.{Field}
use Rattle.jn_points.specs.declared.program.Method.{Method}
use Rattle.jn_points.specs.declared.program.SlotInfo.{SlotInfo}
use Rattle.jn_points.specs.declared.program.Program.{Program}
use Rattle.jn_trees.specs.declared.token.Token.{Token}
use Rattle.jn_trees.specs.Trees.{SourceTree}
use Rattle.jn_annotate.specs.declared.annotating.AnnotateFault.{AnnotateFault}
use Rattle.jn_annotate.specs.declared.annotating.AnnotateFault.TheVariants.{NameTaken, SharedType, TooLarge}
use Rattle.jn_annotate.specs.Insertions.{file_fields, file_methods}
use Rattle.jn_annotate.specs.Annotated.{annotated_from, AreWorded, has_taken_name, is_too_large, HasNone, IsFirst, IsSharedType}
use Rattle.jn_annotate.specs.Chosen.{chosen_from, chosen_slots}
use Rattle.jn_annotate.specs.Answers.{IsWhyRefused, IsLargeOf}
use Rattle.jn_annotate.specs.Shared.{shared_slots, IsLeast}
use Rattle.jn_annotate.proofs.Sharing.{first_is, none_is}

-- what is left of the texts after the next one
pub next_text : (done new left : List (List ℕ)) (text : List ℕ) (whole : List (List ℕ)) → new ≡ done ++ text ∷ [] → done ++ (text ∷ left) ≡ whole → new ++ left ≡ whole
next_text done new left text whole h k = ap (λ x. x ++ left) h ∙ append_assoc done (text ∷ []) left ∙ k

module _ (imports : Bool) (slots : List SlotInfo) (s : List Qualifier) where
  -- there are no more texts than there were
  long : (texts : List (List ℕ)) (tss : List (List Token)) (trees : List SourceTree) (fs : List Field) (ms : List Method) → length (annotated_from imports slots s texts tss trees fs ms) ≤ length texts
  long [] tss trees fs ms = omega arith
  long (text ∷ texts) [] trees fs ms = omega arith
  long (text ∷ texts) (ts ∷ tss) [] fs ms = omega arith
  long (text ∷ texts) (ts ∷ tss) (f ∷ trees) fs ms = let l = long texts tss trees (drop (file_fields f.types) fs) (drop (file_methods f.types) ms) in omega (arith, l)

pub few_texts : (imports : Bool) (slots : List SlotInfo) (s : List Qualifier) (texts : List (List ℕ)) (tss : List (List Token)) (trees : List SourceTree) (fs : List Field) (ms : List Method) (new : List (List ℕ)) (n : ℕ) → new ≡ annotated_from imports slots s texts tss trees fs ms → length texts < n → length new < n
few_texts imports slots s texts tss trees fs ms new n e l = let a = long imports slots s texts tss trees fs ms in let b : length new ≡ length (annotated_from imports slots s texts tss trees fs ms) = ap length e in omega (arith, a, b, l)

module _ (said : List SlotInfo) (imports : Bool) (P : Program) (s : List Qualifier) (texts : List (List ℕ)) (tss : List (List Token)) (trees : List SourceTree) (named : HasNone (has_taken_name imports said P s trees)) where
  pub is_shared : (n : ℕ) → IsLeast (Some n) (shared_slots P s trees P.fields) → IsSharedType said imports P s trees n
  is_shared n h = (named, first_is P s trees n h)

  module _ (alone : shared_slots P s trees P.fields ≡ []) (made : List (List ℕ)) (is : made ≡ annotated_from imports said s texts tss trees P.fields (drop 1 P.methods)) where
    pub is_worded : (new : List (List ℕ)) → new ≡ made → HasNone (is_too_large made) → AreWorded said imports P s texts tss trees new
    is_worded new e h = record {
      named = named;
      alone = none_is P s trees alone;
      are = e ∙ is;
      small = subst (λ x. HasNone (is_too_large x)) (sym e) h;
    }

    pub is_large : (fail : Fail AnnotateFault) → IsLargeOf made fail → IsWhyRefused said imports P s texts tss trees fail
    is_large (Refused (TooLarge k)) h = (named, none_is P s trees alone, subst (λ x. IsFirst (is_too_large x) k.0) is h)
    is_large (Refused (NameTaken n)) h = absurd h
    is_large (Refused (SharedType n)) h = absurd h
    is_large OutOfMemory h = tt

-- as many slots are chosen from as there are
chosen_long : (terse : Bool) (s : List Qualifier) (k : ℕ) (slots : List SlotInfo) → length (chosen_from terse s k slots) ≡ length slots
chosen_long terse s k [] = refl
chosen_long terse s k (info ∷ slots) = ap suc (chosen_long terse s (k + 1) slots)

pub chosen_many : (terse : Bool) (P : Program) (s : List Qualifier) (said : List SlotInfo) → said ≡ chosen_slots terse P s → length s ≡ length P.slots → length s ≡ length said
chosen_many terse P s said e long = long ∙ sym (ap length e ∙ chosen_long terse s 0 P.slots)
