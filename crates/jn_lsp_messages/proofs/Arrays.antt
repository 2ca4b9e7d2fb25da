-- Values of a JSON array, written one by one and read one by one.
use Rattle.std.proofs.Common.{◌≡◌, ℕ, ◌+◌, ◌<◌, List, [], ◌∷◌, ◌++◌, length, take, drop, get_or, map, Option, Some, None, option_map, option_and_then, refl, sym, ap, ◌∙◌, append_assoc, append-nil, subst}
use Rattle.std.proofs.lemmas.List.{take_more, drop_more, map-append}
use Rattle.serde_json.specs.Data.{Data, item}
use Rattle.serde_json.specs.View.{items_view, view}
use Rattle.serde_json.specs.declared.value.Value.{Value}
use Rattle.jn_lsp_messages.specs.Incoming.{all_of}

-- one value more was written
pub written_more : {A : Type 0} (datum : A → Data) (xs : List A) (i : ℕ) (d : A) (written more : List Value) (value : Value) → i < length xs
    → map view written ≡ map datum (take i xs) → view value ≡ datum (get_or xs i d) → more ≡ written ++ value ∷ []
    → map view more ≡ map datum (take (i + 1) xs)
written_more datum xs i d written more value lt before is e =
    ap (map view) e ∙ map-append view written (value ∷ [])
    ∙ ap (λ front. front ++ view value ∷ []) before
    ∙ ap (λ v. map datum (take i xs) ++ v ∷ []) is
    ∙ sym (map-append datum (take i xs) (get_or xs i d ∷ []))
    ∙ ap (map datum) (sym (take_more xs i d lt))

-- what is read so far, and what is to be read
abbrev pub rest_of : {A : Type 0} → (Data → Option A) → List A → List Value → ℕ → Option (List A)
rest_of value done items i = option_map (λ rest. done ++ rest) (all_of value (items_view (drop i items)))

pub read_none : {A : Type 0} (value : Data → Option A) (done : List A) (items : List Value) → done ≡ [] → all_of value (items_view items) ≡ rest_of value done items 0
read_none value done items e = subst (λ xs. all_of value (items_view items) ≡ rest_of value xs items 0) (sym e) (same (all_of value (items_view items)))
  where
    same : {A : Type 0} (o : Option (List A)) → o ≡ option_map (λ rest. [] ++ rest) o
    same None = refl
    same (Some xs) = refl

-- the next item, where it has a value and where it has none
next_is : {A : Type 0} (value : Data → Option A) (done : List A) (items : List Value) (i : ℕ) (d : Value) → i < length items
    → rest_of value done items i ≡ option_map (λ rest. done ++ rest) (all_of value (item (view (get_or items i d)) (items_view (drop (i + 1) items))))
next_is value done items i d lt = ap (λ left. option_map (λ rest. done ++ rest) (all_of value (items_view left))) (drop_more items i d lt)

pub read_more : {A : Type 0} (value : Data → Option A) (done more : List A) (items : List Value) (i : ℕ) (d : Value) (x : A) → i < length items
    → all_of value (items_view items) ≡ rest_of value done items i → value (view (get_or items i d)) ≡ Some x → more ≡ done ++ x ∷ []
    → all_of value (items_view items) ≡ rest_of value more items (i + 1)
read_more {A = A} value done more items i d x lt before is e =
    before ∙ next_is value done items i d lt
    ∙ ap (λ o. option_map (λ rest. done ++ rest) (option_and_then (λ y. option_map (λ ys. y ∷ ys) (all_of value (items_view (drop (i + 1) items)))) o)) is
    ∙ regrouped (all_of value (items_view (drop (i + 1) items)))
    ∙ ap (λ xs. rest_of value xs items (i + 1)) (sym e)
  where
    regrouped : (o : Option (List A)) → option_map (λ rest. done ++ rest) (option_map (λ ys. x ∷ ys) o) ≡ option_map (λ rest. (done ++ x ∷ []) ++ rest) o
    regrouped None = refl
    regrouped (Some ys) = ap Some (sym (append_assoc done (x ∷ []) ys))

pub read_stop : {A : Type 0} (value : Data → Option A) (done : List A) (items : List Value) (i : ℕ) (d : Value) → i < length items
    → all_of value (items_view items) ≡ rest_of value done items i → value (view (get_or items i d)) ≡ None → all_of value (items_view items) ≡ None
read_stop value done items i d lt before is =
    before ∙ next_is value done items i d lt
    ∙ ap (λ o. option_map (λ rest. done ++ rest) (option_and_then (λ y. option_map (λ ys. y ∷ ys) (all_of value (items_view (drop (i + 1) items)))) o)) is

pub read_all : {A : Type 0} (value : Data → Option A) (done : List A) (items : List Value) (i : ℕ) → drop i items ≡ []
    → all_of value (items_view items) ≡ rest_of value done items i → Some done ≡ all_of value (items_view items)
read_all value done items i e before =
    sym (before ∙ ap (λ left. option_map (λ rest. done ++ rest) (all_of value (items_view left))) e ∙ ap Some (append-nil done))
