-- An edited program's system is an edit of the old one's.
use Rattle.std.proofs.Common.{◌≡◌, ℕ, zero, suc, ◌+◌, ◌-◌, ◌^◌, ◌<◌, ◌≤◌, Bool, true, false, List, [], ◌∷◌, length, ⊎_elim, refl, sym, ap, ◌∙◌, subst, arith}
use Rattle.std.specs.Prelude.{slice_index_or}
use Rattle.std.proofs.lemmas.Bool.{cases_lt, lt-ltb, ltb-true}
use Rattle.jn_quals.specs.Qualifier.{Qualifier}
use Rattle.jn_points.specs.declared.program.Program.{Program}
use Rattle.jn_sigs.specs.Packed.{ArePacked, unpacked}
use Rattle.jn_sigs.specs.Signature.{start_signature}
use Rattle.jn_contrib.specs.declared.listed.Overrider.{Overrider}
use Rattle.jn_contrib.specs.Entries.{AreOverriders}
use Rattle.jn_env.specs.ClassFields.{AreOwnFields}
use Rattle.jn_env.specs.Order.{QualsWithin}
use Rattle.jn_transfer.specs.Pairs.{overriders, under}
use Rattle.jn_tables_law.specs.Inferable.{IsInferable}
use Rattle.jn_tables_law.specs.Tasks.{is_body_task, task_count, task_method}
use Rattle.jn_inference_law.specs.Inference.{inference}
use Rattle.jn_inference_law.specs.Solution.{IsLeastSignature}
use Rattle.jn_inference_law.proofs.InferenceLaws.{inference_lawful}
use Rattle.jn_inference_law.proofs.LeastSignature.{length-start}
use Rattle.jn_recheck_law.specs.Alike.{SameDeclarations}
use Rattle.jn_resume.specs.Keepable.{AreSmall, IsEditOf}
use Rattle.jn_again.specs.Losing.{told}
use Rattle.jn_recheck_law.specs.Carried.{DoesTheSame, HaveSameTasks}
use Rattle.jn_recheck_law.proofs.LeastWords.{words_are_least}
use Rattle.jn_recheck_law.proofs.SameOutputs.{count_alike, outputs_alike, words_alike}
use Rattle.jn_system.specs.Ready.{AreTasks}
use Rattle.jn_system.proofs.TaskSteps.{as_many, is_overrider}
use Rattle.jn_again.specs.Edits.{AreReady}
use Rattle.jn_again.specs.Flags.{AreChangedBelow}
use Rattle.jn_again.proofs.Going.{last_long}

never : true ≡ false → ⊥
never e = cc

packed_small : (words : List ℕ) (n : ℕ) → ArePacked words n → AreSmall words
packed_small words n h w = let s = h.top w in omega (arith, s)

item_at : {A : Type 0} (xs : List A) (j : ℕ) (d : A) → j < length xs → (e : A) → slice_index_or xs j d ≡ slice_index_or xs j e
item_at [] j d lt e = absurd (omega (arith, lt))
item_at (x ∷ xs) zero d lt e = refl
item_at (x ∷ xs) (suc j) d lt e = item_at xs j d (omega (arith, lt)) e

module _ (P Q : Program) (names more : List (List ℕ)) (same : SameDeclarations names more P Q) (bodies : length P.bodies ≡ length Q.bodies)
    (list others : List Overrider) (of_P : AreOverriders P list) (of_Q : AreOverriders Q others) (lists : list ≡ others) where
  -- the lists of methods that override are one
  one_list : AreOverriders Q list
  one_list = subst (AreOverriders Q) (sym lists) of_Q

  same_overriders : overriders P ≡ overriders Q
  same_overriders = sym of_P.methods ∙ one_list.methods

  pub same_tasks : HaveSameTasks names more P Q
  same_tasks = record { declarations = same; bodies = bodies; overriders = same_overriders }

  same_under : (t : ℕ) → t < task_count P → is_body_task P t ≡ false → under P (task_method P t) ≡ under Q (task_method P t)
  same_under t lt e = by list of_P one_list (as_many P list of_P)
    where
      behind : length P.bodies ≤ t
      behind = ⊎_elim (λ (l : t < length P.bodies). absurd (no l)) (λ (l : length P.bodies ≤ t). l) (cases_lt t (length P.bodies))
        where
          no : t < length P.bodies → ⊥
          no l = never (sym (lt-ltb t (length P.bodies) l) ∙ e)

      by : (os : List Overrider) → AreOverriders P os → AreOverriders Q os → length os ≡ length (overriders P) → under P (task_method P t) ≡ under Q (task_method P t)
      by [] p q n = absurd (omega (arith, lt, behind, n))
      by (o ∷ os) p q n =
          let d : Overrider = slice_index_or (o ∷ os) (t - length P.bodies) o in
          let low : t - length P.bodies < length (o ∷ os) = omega (arith, lt, behind, n) in
          let i = is_overrider P (o ∷ os) t d p lt behind (item_at (o ∷ os) (t - length P.bodies) o low d) in
          let k = is_overrider Q (o ∷ os) t d q (subst (λ (m : ℕ). t < m) (count_alike names more P Q same_tasks) lt) (subst (λ (m : ℕ). m ≤ t) bodies behind) (ap (λ (m : ℕ). slice_index_or (o ∷ os) (t - m) o) bodies ∙ item_at (o ∷ os) (t - length Q.bodies) o (subst (λ (m : ℕ). t - m < length (o ∷ os)) bodies low) d) in
          ap (under P) (sym i.method) ∙ sym i.under ∙ k.under ∙ ap (under Q) i.method

  module _ (p : IsInferable P) (q : IsInferable Q) (flags : List Bool) (told_flags : AreChangedBelow (task_count P) P Q flags) where
    does_same : (t : ℕ) → t < task_count P → told flags t ≡ false → DoesTheSame P Q t
    does_same t lt c = record {
      body = λ e. (told_flags t lt (ltb-true t (length P.bodies) e)).0 c;
      under = same_under t lt;
    }

    pub is_edit : (s : List Qualifier) (before start last : List ℕ) → IsLeastSignature P s → ArePacked before (length P.slots) → unpacked before (length P.slots) ≡ start_signature P → ArePacked start (length Q.slots)
        → ArePacked last (length P.slots) → unpacked last (length P.slots) ≡ s → IsEditOf (inference P) (inference Q) before start last (told flags)
    is_edit s before start last is packed_before before_is packed_start packed_last last_is = record {
      old_lawful = inference_lawful P p;
      new_lawful = inference_lawful Q q;
      agrees = record {
        words = words_alike names more P Q same_tasks;
        bodies = count_alike names more P Q same_tasks;
        same = λ t lt c ws long. outputs_alike names more P Q same_tasks t p q (does_same t lt c) ws;
      };
      before_count = packed_before.enough;
      before_small = packed_small before (length P.slots) packed_before;
      start_count = packed_start.enough;
      start_small = packed_small start (length Q.slots) packed_start;
      was = words_are_least P p before packed_before before_is s is last packed_last last_is;
    }

-- the words of a start
pub start_words : (P : Program) (first : List Qualifier) (words : List ℕ) → first ≡ start_signature P → ArePacked words (length first) → unpacked words (length first) ≡ first → ArePacked words (length P.slots) × (unpacked words (length P.slots) ≡ start_signature P)
start_words P first words e packed same =
    let long : length first ≡ length P.slots = ap (λ (s : List Qualifier). length s) e ∙ length-start P in
    (subst (ArePacked words) long packed, subst (λ (n : ℕ). unpacked words n ≡ start_signature P) long (same ∙ e))

quals_long : (s t : List Qualifier) → QualsWithin s t → length t ≡ length s
quals_long [] [] w = refl
quals_long [] (q ∷ t) w = absurd w
quals_long (p ∷ s) [] w = absurd w
quals_long (p ∷ s) (q ∷ t) w = ap suc (quals_long s t w.1)

-- those of a least signature
pub least_words : (P : Program) (s : List Qualifier) (words : List ℕ) → IsLeastSignature P s → ArePacked words (length s) → unpacked words (length s) ≡ s → ArePacked words (length P.slots) × (unpacked words (length P.slots) ≡ s)
least_words P s words is packed same =
    let long : length s ≡ length P.slots = quals_long (start_signature P) s is.starts ∙ length-start P in
    (subst (ArePacked words) long packed, subst (λ (n : ℕ). unpacked words n ≡ s) long same)

-- systems of programs that are others by an equation are ready to be solved on
pub is_ready : (P Q R S T : Program) (before start last : List ℕ) (flags : List Bool) → R ≡ P → S ≡ Q → T ≡ P → length flags ≡ task_count P → IsEditOf (inference P) (inference Q) before start last (told flags)
    → AreReady (inference R) (inference S) (inference T) before start last flags
is_ready P Q R S T before start last flags r s t long e =
    let moved : IsEditOf (inference R) (inference S) before start last (told flags) = subst (λ (X : Program). IsEditOf (inference X) (inference S) before start last (told flags)) (sym r) (subst (λ (X : Program). IsEditOf (inference P) (inference X) before start last (told flags)) (sym s) e) in
    record {
      edit = moved;
      reach = ap inference (t ∙ sym r);
      flags = long ∙ ap task_count (sym r);
      last_count = last_long (inference R) (inference S) before start last flags moved;
    }

pub task_list : (P : Program) (own : List (List ℕ)) (list : List Overrider) (b n : ℕ) → IsInferable P → AreOwnFields P own → AreOverriders P list → b ≡ length P.bodies → n ≡ length list → b + n < 2 ^ 32 → AreTasks P own list
task_list P own list b n can fields are e f few = record {
  ready = record { inferable = can; fields = fields };
  overriders = are;
  few = let k = as_many P list are in omega (arith, e, f, few, k);
}

-- as many flags as tasks
pub tasks_are : (P : Program) (list : List Overrider) (b n : ℕ) → AreOverriders P list → b ≡ length P.bodies → n ≡ length list → b + n ≡ task_count P
tasks_are P list b n are e f = let k = as_many P list are in omega (arith, e, f, k)
