-- What tables know.
use Rattle.std.proofs.Common.{◌≡◌, ◌∙◌, sym, ap, subst, refl, ℕ, suc, zero, ◌+◌, ◌<◌, add-one, Bool, true, false, cond, not, ◌||◌, List, [], ◌∷◌, ◌++◌, map, length, take, get_or, Option, None, Some, is_some, is_none, bytes_eq, Result, Ok, Err, IfOk}
use Rattle.std.specs.Prelude.{find, option_map}
use Rattle.std.proofs.lemmas.List.{take-map, get_or-map, length-map}
use Rattle.bed_lang.specs.declared.word.Name.{Name}
use Rattle.bed_names.specs.Tables.{number_of, position_of, IsIndex, item_at}
use Rattle.bed_names.proofs.TableLaws.{bytes_eq_turned}
use Rattle.bed_table.specs.Layout.{is_among}
use Rattle.bed_link.specs.Seen.{Knows}

-- the names of a list, by bytes
some_at : (b : Bool) (o : Option ℕ) → is_some (cond b (Some 0) (option_map (λ n. n + 1) o)) ≡ (b || is_some o)
some_at true o = refl
some_at false None = refl
some_at false (Some n) = refl

pub some_position : (ns : List Name) (x : List ℕ) → is_some (position_of ns x) ≡ is_among ns x
some_position [] x = refl
some_position (n ∷ ns) x =
    some_at (bytes_eq x n.bytes) (position_of ns x)
    ∙ ap (λ b. b || is_some (position_of ns x)) (bytes_eq_turned x n.bytes)
    ∙ ap (λ b. bytes_eq n.bytes x || b) (some_position ns x)

pub knows_index : (table : List (List ℕ × ℕ)) (ns : List Name) → IsIndex table ns → Knows table ns
knows_index table ns is x = ap is_some (is x) ∙ some_position ns x

some_or_none : (o : Option ℕ) → not (is_none o) ≡ is_some o
some_or_none None = refl
some_or_none (Some n) = refl

pub new_or_known : (o : Option ℕ) (new : Bool) → new ≡ is_none o → is_some o ≡ not new
new_or_known o new e = sym (some_or_none o) ∙ ap not (sym e)

-- one more name
or_true : (b : Bool) → (b || true) ≡ true
or_true true = refl
or_true false = refl

or_false : (b : Bool) → (b || false) ≡ b
or_false true = refl
or_false false = refl

more_known : (t : List (List ℕ × ℕ)) (n : List ℕ) (value : ℕ) (x : List ℕ)
    → is_some (number_of (t ++ (n, value) ∷ []) x) ≡ (is_some (number_of t x) || bytes_eq x n)
more_known [] n value x = by_test (bytes_eq x n)
  where
    by_test : (b : Bool) → is_some (cond b (Some value) None) ≡ b
    by_test true = refl
    by_test false = refl
more_known (e ∷ t) n value x = by_test (bytes_eq x e.0) (more_known t n value x)
  where
    by_test : (b : Bool) → is_some (number_of (t ++ (n, value) ∷ []) x) ≡ (is_some (number_of t x) || bytes_eq x n)
        → is_some (cond b (Some e.1) (number_of (t ++ (n, value) ∷ []) x)) ≡ (is_some (cond b (Some e.1) (number_of t x)) || bytes_eq x n)
    by_test true h = refl
    by_test false h = h

or_assoc : (a b c : Bool) → ((a || b) || c) ≡ (a || (b || c))
or_assoc true b c = refl
or_assoc false b c = refl

pub among_more : (ns : List Name) (n : Name) (x : List ℕ) → is_among (ns ++ n ∷ []) x ≡ (is_among ns x || bytes_eq n.bytes x)
among_more [] n x = or_false (bytes_eq n.bytes x)
among_more (m ∷ ns) n x = ap (λ b. bytes_eq m.bytes x || b) (among_more ns n x) ∙ sym (or_assoc (bytes_eq m.bytes x) (is_among ns x) (bytes_eq n.bytes x))

pub knows_more : (t next : List (List ℕ × ℕ)) (ns : List Name) (n : Name) (value : ℕ) → Knows t ns → next ≡ t ++ (n.bytes, value) ∷ [] → Knows next (ns ++ n ∷ [])
knows_more t next ns n value k e x =
    ap (λ u. is_some (number_of u x)) e ∙ more_known t n.bytes value x ∙ ap (λ b. b || bytes_eq x n.bytes) (k x)
    ∙ ap (λ b. is_among ns x || b) (bytes_eq_turned x n.bytes) ∙ sym (among_more ns n x)

-- the item at the position of a name among the first items of a list is the first of the name there
item_step : {T : Type 0} (item : T) (items : List T) (b : Bool) (p : Option ℕ) (o : Option T)
    → item_at items p ≡ o → item_at (item ∷ items) (cond b (Some 0) (option_map (λ k. k + 1) p)) ≡ cond b (Some item) o
item_step item items true p o h = refl
item_step item items false None o h = h
item_step item items false (Some n) o h = rw add-one h

pub first_before : {T : Type 0} (name_of : T → Name) (items : List T) (i : ℕ) (x : List ℕ)
    → item_at items (position_of (map name_of (take i items)) x) ≡ find (λ t. bytes_eq (name_of t).bytes x) (take i items)
first_before name_of [] zero x = refl
first_before name_of [] (suc i) x = refl
first_before name_of (t ∷ ts) zero x = refl
first_before name_of (t ∷ ts) (suc i) x =
    item_step t ts (bytes_eq x (name_of t).bytes) (position_of (map name_of (take i ts)) x) _ (first_before name_of ts i x)
    ∙ ap (λ b. cond b (Some t) (find (λ t. bytes_eq (name_of t).bytes x) (take i ts))) (bytes_eq_turned x (name_of t).bytes)

pub first_by_table : {T : Type 0} (name_of : T → Name) (items : List T) (i : ℕ) (table : List (List ℕ × ℕ)) (x : List ℕ)
    → IsIndex table (take i (map name_of items)) → item_at items (number_of table x) ≡ find (λ t. bytes_eq (name_of t).bytes x) (take i items)
first_by_table name_of items i table x is =
    ap (item_at items) (is x ∙ ap (λ ns. position_of ns x) (take-map name_of i items)) ∙ first_before name_of items i x

-- names of items, in a list
pub name_is : {T : Type 0} (name_of : T → Name) (items : List T) (i : ℕ) (item : T) (x : Name) → i < length items → item ≡ get_or items i item
    → x ≡ name_of item → (i < length (map name_of items)) × (x ≡ get_or (map name_of items) i x)
name_is name_of items i item x lt is e = (rw length-map lt, e ∙ ap name_of is ∙ sym (get_or-map name_of items i item x lt))

pub knows_if_ok : {E : Type 0} (r : Result (List (List ℕ × ℕ)) E) (ns ms : List Name) → ns ≡ ms → IfOk r (λ t. IsIndex t ns) → IfOk r (λ t. Knows t ms)
knows_if_ok (Ok t) ns ms e is = subst (Knows t) e (knows_index t ns is)
knows_if_ok (Err x) ns ms e is = tt
