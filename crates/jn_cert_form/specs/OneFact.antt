-- Each of the facts that contexts keep is one fact.
use Rattle.std.specs.Prelude.{ℕ, Bool, List}
use Rattle.std.specs.Coded.{le_prop}
use Rattle.std.proofs.Math.Nat.{ℕ_set}
use mathlib.Core.Bool.{Bool-set}
use mathlib.Core.List.{is_set}
use Rattle.jn_points.specs.declared.program.Program.{Program}
use Rattle.jn_env.specs.ClassFields.{AreOwnFields}
use Rattle.jn_env.specs.Code.{AreKeys}
use Rattle.jn_env.specs.Keys.{Key}
use Rattle.jn_env.specs.declared.keys.Keys.{Keys}
use Rattle.jn_cert_form.specs.Around.{IsAround}
use Rattle.jn_cert_form.specs.Chosen.{SmallFields, SmallKeys}
use Rattle.jn_cert_form.specs.Pieces.{AreAllowed}

pub number_lists_set : IsSet (List ℕ)
number_lists_set = is_set ℕ_set

texts_set : IsSet (List (List ℕ))
texts_set = is_set number_lists_set

key_set : IsSet Key
key_set = hlevel ℕ_set

pub key_lists_set : IsSet (List Key)
key_lists_set = is_set key_set

pub keys_prop : (P : Program) (b : ℕ) (keys : Keys) → IsProp (AreKeys P b keys)
keys_prop P b keys = hlevel (key_lists_set, number_lists_set)

pub own_fields_prop : (P : Program) (lists : List (List ℕ)) → IsProp (AreOwnFields P lists)
own_fields_prop P lists = hlevel (ℕ_set, number_lists_set)

allowed_prop : (P : Program) (b : ℕ) (allowed : List Bool) → IsProp (AreAllowed P b allowed)
allowed_prop P b allowed = hlevel (ℕ_set, Bool-set)

small_prop : (ks : List Key) → IsProp (SmallKeys ks)
small_prop ks = hlevel le_prop

low_prop : (fs : List ℕ) → IsProp (SmallFields fs)
low_prop fs = hlevel le_prop

pub around_prop : (P : Program) (b : ℕ) (keys : Keys) (sorted : List Key) (keyed fielded : List (List ℕ)) (allowed : List Bool) → IsProp (IsAround P b keys sorted keyed fielded allowed)
around_prop P b keys sorted keyed fielded allowed = hlevel (keys_prop, key_lists_set, texts_set, allowed_prop, small_prop, low_prop)
