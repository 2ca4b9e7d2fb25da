-- What a pass knows between the steps of one body, and when the body has been run.
use Rattle.std.specs.Prelude.{◌≡◌, ◌⊎◌, ◌↔◌, ℕ, ◌-◌, true, Some, None, Option, List, [], ◌∷◌, take, length, replicate, slice_index}
use Rattle.jn_base.specs.declared.number.WordNo.{WordNo}
use Rattle.jn_sigtable.specs.declared.view.View.{View}
use Rattle.jn_sigtable.specs.declared.table.SigTable.{SigTable}
use Rattle.jn_sigtable.specs.declared.table.Pass.{Pass}
use Rattle.jn_sigtable.specs.System.{System, Within, bits_for, lists_word}
use Rattle.jn_sigtable.specs.Machine.{Has, HasReadAll, HasRaisedAll, dirty_words}
use Rattle.jn_sigtable.specs.Words.{system_of, view_of, IsPassOf}
use Rattle.jn_worklist.specs.Plans.{IsDue}

-- bits of the word were raised
abbrev pub Raised : List (WordNo × ℕ) → ℕ → Type 0
Raised [] w = ⊥
Raised (o ∷ os) w = (o.0.0 ≡ w) ⊎ Raised os w

module _ {C : Type 0} where
  -- the body raised bits of a word that it reads
  abbrev pub RaisedOwn : System → View C → ℕ → Type 0
  RaisedOwn sys v b = (w : ℕ) × Raised v.raised w × (sys.reads b w ≡ true)

  -- the body has just been taken
  pub record IsFresh (sys : System) (b : ℕ) (v : View C) : Type 0 where
    pub body : v.body ≡ Some b
    pub owed : v.owed ≡ []
    pub raised : v.raised ≡ []
    pub are : v.values ≡ replicate sys.words 0

  -- the body was run: it is finished in the pass, or marked again for a bit that it raised where it reads. It counts as taken
  pub record HasRun (sys : System) (b : ℕ) (v w : View C) : Type 0 where
    pub taken : w.taken ≡ v.taken
    pub body : (w.body ≡ Some b) ⊎ ((w.body ≡ None) × RaisedOwn sys w b)

  -- the body was given back: the last step marked it, the pass runs none, and it counts no longer as taken
  pub record HasGivenBack (v w : View C) : Type 0 where
    pub taken : w.taken ≡ v.taken - 1
    pub body : w.body ≡ None

  -- the body has read the words in `done`, and these are the values
  pub record IsReading (sys : System) (b : ℕ) (from v : View C) (values : List ℕ) (done : List WordNo) : Type 0 where
    pub body : v.body ≡ Some b
    pub owed : v.owed ≡ []
    pub raised : v.raised ≡ []
    pub same_share : v.share ≡ from.share
    pub same_taken : v.taken ≡ from.taken
    pub are : v.values ≡ values
    pub count : length v.values ≡ sys.words
    pub read : (u : ℕ) → lists_word done u ≡ true → Has v.read u
    pub rest : (u : ℕ) → (slice_index values u ≡ 0) ⊎ (lists_word done u ≡ true)

  -- the body has raised the first outputs, and the marks that it owes are those in `due`
  pub record IsRaising (sys : System) (b : ℕ) (from : View C) (values : List ℕ) (v : View C) (os : List (WordNo × ℕ)) (done : ℕ) (due : List ℕ) : Type 0 where
    pub body : v.body ≡ Some b
    pub same_share : v.share ≡ from.share
    pub same_taken : v.taken ≡ from.taken
    pub are : v.values ≡ values
    pub read : HasReadAll sys v b
    pub raised : (w : ℕ) → Within (bits_for (take done os) w) (bits_for v.raised w)
    pub count : length due ≡ dirty_words sys
    pub owes : (x : ℕ) → Has v.owed x ↔ IsDue due x
    pub own : IsDue due b → RaisedOwn sys v b

  -- the body has raised all its output, and the marks that it still owes are those in `due`
  pub record IsMarking (sys : System) (b : ℕ) (from v : View C) (due : List ℕ) : Type 0 where
    pub same_share : v.share ≡ from.share
    pub same_taken : v.taken ≡ from.taken
    pub body : (v.body ≡ Some b) ⊎ ((v.body ≡ None) × RaisedOwn sys v b)
    pub read : HasReadAll sys v b
    pub raised : HasRaisedAll sys v b
    pub owes : (x : ℕ) → Has v.owed x ↔ IsDue due x
    pub own : IsDue due b → RaisedOwn sys v b

-- ---- the same of a pass on its table
module _ {C : Type 0} {K : _} (describe : C → System) (table : SigTable C K) (b : ℕ) (from : View (Option C)) (pass : Pass C) where
  pub record IsReadingOn (values : List ℕ) (done : List WordNo) : Type 0 where
    pub own : IsPassOf describe table pass
    pub reading : IsReading (describe (system_of table)) b from (view_of pass) values done

  pub record IsRaisingOn (values : List ℕ) (os : List (WordNo × ℕ)) (done : ℕ) (due : List ℕ) : Type 0 where
    pub own : IsPassOf describe table pass
    pub raising : IsRaising (describe (system_of table)) b from values (view_of pass) os done due

  pub record IsMarkingOn (due : List ℕ) : Type 0 where
    pub own : IsPassOf describe table pass
    pub count : length due ≡ dirty_words (describe (system_of table))
    pub marking : IsMarking (describe (system_of table)) b from (view_of pass) due
