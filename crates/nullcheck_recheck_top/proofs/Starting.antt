-- Which files are started.
use Rattle.std.proofs.Common.{◌≡◌, ℕ, zero, suc, ◌+◌, ◌<◌, ◌≤◌, List, [], ◌∷◌, ◌++◌, length, map, take, drop, get_or, Option, inl, inr, refl, sym, ap, ◌∙◌, subst, arith, append_assoc, append-nil}
use Rattle.std.proofs.lemmas.List.{take_all}
use Rattle.jn_base.specs.declared.infer.Infer.{Infer}
use Rattle.jn_outside.specs.declared.given.Given.{Given}
use Rattle.jn_outside.specs.Files.{Holding}
use Rattle.jn_outside.specs.Gave.{GivesLittle, given}
use Rattle.jn_command.specs.declared.status.Status.{Status}
use Rattle.jn_command.specs.declared.status.Status.TheVariants.{Ok}
use Rattle.jn_front.specs.declared.source.SourceFile.{SourceFile}
use Rattle.jn_front.specs.Files.{StartsOnly, given_of, names_of}
use Rattle.jn_recheck.specs.Sessions.{SessionOf}
use Rattle.jn_script.specs.declared.step.Step.{Step}
use Rattle.jn_script.specs.declared.step.Step.TheVariants.{Empty, Set, Remove, Check}
use Rattle.nullcheck_recheck_top.specs.Answer.{IsGood, StartsScript, given_script}
use Rattle.nullcheck_recheck_top.specs.Carrying.{Does, DoAll, file_of, files_of, new_session}
use Rattle.nullcheck_recheck_top.specs.Stepping.{DidAll, World}

abbrev names_given : List Given → List (List ℕ)
names_given gave = map (λ (g : Given). g.name) gave

-- nothing, or one file
pub starts_none : (names : List (List ℕ)) (old new : List Given) → new ≡ old → StartsOnly names old new
starts_none names old new same = record { added = []; gave = same ∙ sym (append-nil old); named = refl }

pub starts_one : (name : List ℕ) (names : List (List ℕ)) (most : ℕ) (old new : List Given) → GivesLittle name most old new → StartsOnly (name ∷ names) old new
starts_one name names most old new (inl same) = starts_none (name ∷ names) old new same
starts_one name names most old new (inr one) = record { added = given name one.bytes ∷ []; gave = one.gave; named = refl }

-- ---- steps that were carried out read their files

files_given : (files : List SourceFile) → names_given (map given_of files) ≡ names_of files
files_given [] = refl
files_given (f ∷ fs) = ap (λ ns. f.name ∷ ns) (files_given fs)

names_both : (xs ys : List SourceFile) → names_of (xs ++ ys) ≡ names_of xs ++ names_of ys
names_both [] ys = refl
names_both (x ∷ xs) ys = ap (λ ns. x.name ∷ ns) (names_both xs ys)

read_by : (s : SessionOf) (last : Status) (step : Step) (read : List SourceFile) (bytes : List ℕ) (end : Status) (t : SessionOf) → Does s last step read bytes end t → names_of read ≡ file_of step
read_by s last Empty read bytes end t d = ap names_of d.0
read_by s last (Set name file) read bytes end t d = ap names_of d.0.are
read_by s last (Remove name) read bytes end t d = ap names_of d.0
read_by s last Check read bytes end t d = ap names_of d.0

read_by_all : (s : SessionOf) (last : Status) (steps : List Step) (read : List SourceFile) (bytes : List ℕ) (end : Status) (t : SessionOf) → DoAll s last steps read bytes end t → names_of read ≡ files_of steps
read_by_all s last [] read bytes end t d = ap names_of d.0
read_by_all s last (step ∷ steps) read bytes end t (one, others, front, back, status, mid, read_are, bytes_are, does, goes) =
    ap names_of read_are ∙ names_both one others ∙ ap (λ ns. ns ++ names_of others) (read_by s last step one front status mid does) ∙ ap (λ ns. file_of step ++ ns) (read_by_all mid status steps others back end t goes)

-- ---- all steps

take_front : (A : Type 0) (xs ys : List A) (n : ℕ) → take (length xs + n) (xs ++ ys) ≡ xs ++ take n ys
take_front A [] ys n = let s : length {A = A} [] + n ≡ n = omega arith in ap (λ m. take m ys) s
take_front A (x ∷ xs) ys n = let s : length (x ∷ xs) + n ≡ suc (length xs + n) = omega arith in ap (λ m. take m (x ∷ (xs ++ ys))) s ∙ ap (λ zs. x ∷ zs) (take_front A xs ys n)

take_within : (A : Type 0) (xs ys : List A) (n : ℕ) → n ≤ length xs → take n (xs ++ ys) ≡ take n xs
take_within A xs ys zero le = refl
take_within A [] ys (suc n) le = absurd (omega (arith, le))
take_within A (x ∷ xs) ys (suc n) le = ap (λ zs. x ∷ zs) (take_within A xs ys n (omega (arith, le)))

many_given : (gave : List Given) → length (names_given gave) ≡ length gave
many_given [] = refl
many_given (g ∷ gs) = ap suc (many_given gs)

take_few : (A : Type 0) (n : ℕ) (xs : List A) → length (take n xs) ≤ length xs
take_few A zero xs = omega arith
take_few A (suc n) [] = omega arith
take_few A (suc n) (x ∷ xs) = let r = take_few A n xs in omega (arith, r)

few_added : (names : List (List ℕ)) (added : List Given) → names_given added ≡ take (length added) names → length added ≤ length names
few_added names added e =
    let few = take_few (List ℕ) (length added) names in
    let same : length added ≡ length (take (length added) names) = sym (many_given added) ∙ ap length e in
    omega (arith, few, same)

names_given_both : (fs gs : List Given) → names_given (fs ++ gs) ≡ names_given fs ++ names_given gs
names_given_both [] gs = refl
names_given_both (f ∷ fs) gs = ap (λ ns. f.name ∷ ns) (names_given_both fs gs)

long_both : (A : Type 0) (xs ys : List A) → length (xs ++ ys) ≡ length xs + length ys
long_both A [] ys = omega arith
long_both A (x ∷ xs) ys = let e = long_both A xs ys in omega (arith, e)

-- all of the first names were started, and some of the next
started_more : (first next behind : List (List ℕ)) (old mid new : List Given) (one : List Given) → mid ≡ old ++ one → names_given one ≡ first → StartsOnly next mid new → StartsOnly (first ++ (next ++ behind)) old new
started_more first next behind old mid new one gave named s = record {
  added = one ++ s.added;
  gave = s.gave ∙ ap (λ g. g ++ s.added) gave ∙ append_assoc old one s.added;
  named =
      let many : length (one ++ s.added) ≡ length first + length s.added = long_both Given one s.added ∙ ap (λ n. n + length s.added) (sym (many_given one) ∙ ap length named) in
      names_given_both one s.added
      ∙ ap (λ ns. ns ++ names_given s.added) named
      ∙ ap (λ ns. first ++ ns) (s.named ∙ sym (take_within (List ℕ) next behind (length s.added) (few_added next s.added s.named)))
      ∙ sym (take_front (List ℕ) first (next ++ behind) (length s.added))
      ∙ ap (λ n. take n (first ++ (next ++ behind))) (sym many);
}

split : (steps : List Step) (i : ℕ) (step : Step) → i < length steps → step ≡ get_or steps i step → files_of steps ≡ files_of (take i steps) ++ (file_of step ++ files_of (drop (i + 1) steps))
split [] i step lt is = absurd (omega (arith, lt))
split (x ∷ xs) zero step lt is = ap (λ (y : Step). file_of y ++ files_of xs) (sym is)
split (x ∷ xs) (suc i) step lt is =
    let next : suc (i + 1) ≡ suc i + 1 = omega arith in
    ap (λ ns. file_of x ++ ns) (split xs i step (omega (arith, lt)) is)
    ∙ sym (append_assoc (file_of x) (files_of (take i xs)) (file_of step ++ files_of (drop (i + 1) xs)))
    ∙ ap (λ n. files_of (take (suc i) (x ∷ xs)) ++ (file_of step ++ files_of (drop n (x ∷ xs)))) next

-- the steps before were carried out, and what this one starts is started
pub starts_at : (infer : Infer) (held : Option Holding) (old mid : World) (steps : List Step) (i : ℕ) (step : Step) (last : Status) (t : SessionOf) (new : List Given) → i < length steps → step ≡ get_or steps i step → DidAll infer held old mid (take i steps) last t → StartsOnly (file_of step) mid.gave new → StartsOnly (files_of steps) old.gave new
starts_at infer held old mid steps i step last t new lt is did s =
    subst (λ names. StartsOnly names old.gave new) (sym (split steps i step lt is))
    (started_more (files_of (take i steps)) (file_of step) (files_of (drop (i + 1) steps)) old.gave mid.gave new (map given_of did.files) did.moves.given
    (files_given did.files ∙ read_by_all (new_session infer) Ok (take i steps) did.files did.bytes last t did.does) s)

-- all were carried out
pub starts_all : (infer : Infer) (held : Option Holding) (old new : World) (steps done : List Step) (last : Status) (t : SessionOf) → done ≡ steps → DidAll infer held old new done last t → StartsOnly (files_of steps) old.gave new.gave
starts_all infer held old new steps done last t same did =
    let named : names_given (map given_of did.files) ≡ files_of done = files_given did.files ∙ read_by_all (new_session infer) Ok done did.files did.bytes last t did.does in
    subst (λ (ss : List Step). StartsOnly (files_of ss) old.gave new.gave) same (record {
      added = map given_of did.files;
      gave = did.moves.given;
      named = named ∙ sym (take_all (length (map given_of did.files)) (files_of done) (let many = sym (many_given (map given_of did.files)) ∙ ap length named in omega (arith, many)));
    })

-- ---- the script

pub starts_script : (held : Option Holding) (name : List ℕ) (most : ℕ) (old new : List Given) → GivesLittle name most old new → StartsScript held name old new
starts_script held name most old new g = inl (starts_one name [] most old new g)

pub starts_steps : (held : Option Holding) (name script : List ℕ) (steps : List Step) (old mid new : List Given) → IsGood held name script steps → mid ≡ old ++ given_script name script ∷ [] → StartsOnly (files_of steps) mid new → StartsScript held name old new
starts_steps held name script steps old mid new good gave s = inr (script, steps, good, subst (λ from. StartsOnly (files_of steps) from new) gave s)
