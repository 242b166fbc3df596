-- What tables hold under a name, by the names' bytes, and the items of a list by its table.
use Rattle.std.proofs.Common.{◌≡◌, ◌∙◌, sym, ap, subst, refl, ℕ, suc, ◌+◌, ◌<◌, arith, add-one, Bool, true, false, cond, ◌||◌, not, List, [], ◌∷◌, ◌++◌, map, length, take, drop, get_or, Option, None, Some, Vec, is_none, is_some}
use Rattle.std.specs.Prelude.{option_map, find}
use Rattle.std.specs.Bool.{OnTrue, OnFalse}
use Rattle.std.proofs.lemmas.List.{take_more, length-take-le, length-map, get_or-map}
use Rattle.std.proofs.lemmas.Bool.Decides.{same_from_decides}
use Rattle.std.proofs.lemmas.Slice.Eq.{bytes_eq-Decides}
use Rattle.std.specs.Str.{bytes_eq}
use Rattle.std.specs.Map.{lookup}
use Rattle.indexmap.specs.IndexMap.{insert_entry}
use Rattle.std.specs.declared.alloc.Global.{Global}
use Rattle.std.specs.Option.{option_or}
use Rattle.bed_lang.specs.declared.word.Name.{Name}
use Rattle.bed_names.specs.declared.error.NameError.{NameError}
use Rattle.bed_names.specs.declared.error.NameError.TheVariants.{Twice}
use Rattle.bed_names.specs.Names.{is_among}
use Rattle.bed_names.specs.Faults.{noted, fault_if}
use Rattle.bed_names.specs.Terms.{twice_after}
use Rattle.bed_names.proofs.NotedLemmas.{twice_name_step}
use Rattle.bed_names.specs.Tables.{by_bytes, number_of, position_of, IsIndex, item_at, Indexes}

pub lookup_bytes : (name : List ℕ) (es : List (Vec ℕ Global × ℕ)) → lookup (λ k. bytes_eq name k.items) es ≡ number_of (by_bytes es) name
lookup_bytes name [] = refl
lookup_bytes name (e ∷ es) = ap (cond (bytes_eq name e.0.items) (Some e.1)) (lookup_bytes name es)

none_of_some : (o : Option ℕ) (b : Bool) → b ≡ is_some o → (b ≡ true → false ≡ is_none o) × (b ≡ false → true ≡ is_none o)
none_of_some None b e = (λ t. cc, λ f. refl)
none_of_some (Some x) b e = (λ t. refl, λ f. cc)

-- whether a name is new
pub is_new : (name : List ℕ) (es : List (Vec ℕ Global × ℕ)) (b : Bool) → b ≡ is_some (lookup (λ k. bytes_eq name k.items) es) → (b ≡ true → false ≡ is_none (number_of (by_bytes es) name)) × (b ≡ false → true ≡ is_none (number_of (by_bytes es) name))
is_new name es b e = none_of_some (number_of (by_bytes es) name) b (e ∙ ap is_some (lookup_bytes name es))

insert_step : (b : Bool) (e : Vec ℕ Global × ℕ) (es after : List (Vec ℕ Global × ℕ)) (name : List ℕ) (value : ℕ) (x : List ℕ × ℕ) → true ≡ is_none (cond b (Some e.1) (number_of (by_bytes es) name)) → (true ≡ is_none (number_of (by_bytes es) name) → by_bytes after ≡ by_bytes es ++ x ∷ []) → by_bytes (cond b ((e.0, value) ∷ es) (e ∷ after)) ≡ (e.0.items, e.1) ∷ (by_bytes es ++ x ∷ [])
insert_step true e es after name value x new rest = cc
insert_step false e es after name value x new rest = ap (λ t. (e.0.items, e.1) ∷ t) (rest new)

-- a new name goes last
insert_new : (key : Vec ℕ Global) (value : ℕ) (es : List (Vec ℕ Global × ℕ)) → true ≡ is_none (number_of (by_bytes es) key.items) → by_bytes (insert_entry (λ x y. bytes_eq x.items y.items) es key value) ≡ by_bytes es ++ (key.items, value) ∷ []
insert_new key value [] new = refl
insert_new key value (e ∷ es) new = insert_step (bytes_eq key.items e.0.items) e es _ key.items value _ new (insert_new key value es)

pub insert_named : (key : Vec ℕ Global) (name : List ℕ) (value : ℕ) (es : List (Vec ℕ Global × ℕ)) → key.items ≡ name → true ≡ is_none (number_of (by_bytes es) name) → by_bytes (insert_entry (λ x y. bytes_eq x.items y.items) es key value) ≡ by_bytes es ++ (name, value) ∷ []
insert_named key name value es e new = subst (λ n. true ≡ is_none (number_of (by_bytes es) n) → by_bytes (insert_entry (λ x y. bytes_eq x.items y.items) es key value) ≡ by_bytes es ++ (n, value) ∷ []) e (insert_new key value es) new

abbrev some_if : Bool → ℕ → Option ℕ
some_if b n = cond b (Some n) None

shifted : (first : Bool) (p : Option ℕ) (b : Bool) (n : ℕ)
    → cond first (Some 0) (option_map (λ k. k + 1) (option_or p (some_if b n)))
    ≡ option_or (cond first (Some 0) (option_map (λ k. k + 1) p)) (some_if b (suc n))
shifted true p b n = refl
shifted false (Some k) b n = refl
shifted false None true n = rw add-one refl
shifted false None false n = refl

position_push : (xs : List Name) (x : Name) (name : List ℕ)
    → position_of (xs ++ x ∷ []) name ≡ option_or (position_of xs name) (some_if (bytes_eq name x.bytes) (length xs))
position_push [] x name = refl
position_push (y ∷ xs) x name =
    ap (λ p. cond (bytes_eq name y.bytes) (Some 0) (option_map (λ k. k + 1) p)) (position_push xs x name)
    ∙ shifted (bytes_eq name y.bytes) (position_of xs name) (bytes_eq name x.bytes) (length xs)

option_or-if : (b : Bool) (n : ℕ) (p q : Option ℕ) → cond b (Some n) (option_or p q) ≡ option_or (cond b (Some n) p) q
option_or-if true n p q = refl
option_or-if false n p q = refl

number_push : (t : List (List ℕ × ℕ)) (x : List ℕ) (n : ℕ) (name : List ℕ)
    → number_of (t ++ (x, n) ∷ []) name ≡ option_or (number_of t name) (some_if (bytes_eq name x) n)
number_push [] x n name = refl
number_push (e ∷ t) x n name =
    ap (cond (bytes_eq name e.0) (Some e.1)) (number_push t x n name)
    ∙ option_or-if (bytes_eq name e.0) e.1 (number_of t name) (some_if (bytes_eq name x) n)

-- a name that is there already adds nothing
option_or-known : (b : Bool) (n : ℕ) (p : Option ℕ) → (b ≡ true → is_none p ≡ false) → p ≡ option_or p (some_if b n)
option_or-known b n (Some k) known = refl
option_or-known true n None known = cc (known refl)
option_or-known false n None known = refl

pub index_step : (table next : List (List ℕ × ℕ)) (names : List Name) (i : ℕ) (x : Name) (new : Bool)
    → IsIndex table (take i names) → i < length names → x ≡ get_or names i x → new ≡ is_none (number_of table x.bytes)
    → OnTrue new (next ≡ table ++ (x.bytes, i) ∷ []) → OnFalse new (next ≡ table) → IsIndex next (take (i + 1) names)
index_step table next names i x true is lt e known added same =
    λ name.
    ap (λ t. number_of t name) added ∙ number_push table x.bytes i name
    ∙ ap (λ p. option_or p (some_if (bytes_eq name x.bytes) i)) (is name)
    ∙ ap (λ n. option_or (position_of (take i names) name) (some_if (bytes_eq name x.bytes) n)) (sym (length-take-le i names (omega arith)))
    ∙ sym (position_push (take i names) x name)
    ∙ ap (λ xs. position_of xs name) (sym (take_more names i x lt ∙ ap (λ y. take i names ++ y ∷ []) (sym e)))
index_step table next names i x false is lt e known added same =
    λ name.
    ap (λ t. number_of t name) same
    ∙ option_or-known (bytes_eq name x.bytes) (length (take i names)) (number_of table name)
    (λ b. ap (λ n. is_none (number_of table n)) ((bytes_eq-Decides name x.bytes).0 b) ∙ sym known)
    ∙ ap (λ p. option_or p (some_if (bytes_eq name x.bytes) (length (take i names)))) (is name)
    ∙ sym (position_push (take i names) x name)
    ∙ ap (λ xs. position_of xs name) (sym (take_more names i x lt ∙ ap (λ y. take i names ++ y ∷ []) (sym e)))

-- a name has a position where it is among the names
has_position : (b : Bool) (p : Option ℕ) → is_some (cond b (Some 0) (option_map (λ k. k + 1) p)) ≡ (b || is_some p)
has_position true p = refl
has_position false None = refl
has_position false (Some n) = refl

pub is_some-position_of : (xs : List Name) (x : Name) → is_some (position_of xs x.bytes) ≡ is_among xs x
is_some-position_of [] x = refl
is_some-position_of (y ∷ xs) x =
    has_position (bytes_eq x.bytes y.bytes) (position_of xs x.bytes) ∙ ap (λ b. bytes_eq x.bytes y.bytes || b) (is_some-position_of xs x)

item_step : {T : Type 0} (item : T) (items : List T) (b : Bool) (p : Option ℕ) (o : Option T)
    → item_at items p ≡ o → item_at (item ∷ items) (cond b (Some 0) (option_map (λ k. k + 1) p)) ≡ cond b (Some item) o
item_step item items true p o h = refl
item_step item items false None o h = h
item_step item items false (Some n) o h = rw add-one h

pub bytes_eq_turned : (a b : List ℕ) → bytes_eq a b ≡ bytes_eq b a
bytes_eq_turned a b =
    let d = bytes_eq-Decides b a in
    same_from_decides (bytes_eq a b) (bytes_eq b a) (bytes_eq-Decides a b) (λ e. sym (d.0 e), λ e. d.1 (sym e))

-- the item at the position of a name is the first item of that name
pub item_at-position_of : {T : Type 0} (name_of : T → Name) (items : List T) (name : List ℕ)
    → item_at items (position_of (map name_of items) name) ≡ find (λ t. bytes_eq (name_of t).bytes name) items
item_at-position_of name_of [] name = refl
item_at-position_of name_of (t ∷ items) name =
    item_step t items (bytes_eq name (name_of t).bytes) (position_of (map name_of items) name) _ (item_at-position_of name_of items name)
    ∙ ap (λ b. cond b (Some t) (find (λ t. bytes_eq (name_of t).bytes name) items)) (bytes_eq_turned name (name_of t).bytes)

pub indexes : {T : Type 0} (name_of : T → Name) (items : List T) (table : List (List ℕ × ℕ))
    → IsIndex table (map name_of items) → Indexes name_of table items
indexes name_of items table is name = ap (item_at items) (is name) ∙ item_at-position_of name_of items name

some_or_none : (o : Option ℕ) → not (is_none o) ≡ is_some o
some_or_none None = refl
some_or_none (Some n) = refl

-- one more item of a list is put into its table
module _ {T : Type 0} (name_of : T → Name) (items : List T) (i : ℕ) (item : T) (x : Name) (lt : i < length items)
    (is : item ≡ get_or items i item) (e : x ≡ name_of item) where
  within : i < length (map name_of items)
  within = rw length-map lt

  is_name : x ≡ get_or (map name_of items) i x
  is_name = e ∙ ap name_of is ∙ sym (get_or-map name_of items i item x lt)

  pub item_index : (table next : List (List ℕ × ℕ)) (bytes : List ℕ) (new : Bool) → IsIndex table (take i (map name_of items))
      → bytes ≡ x.bytes → new ≡ is_none (number_of table bytes) → OnTrue new (next ≡ table ++ (bytes, i) ∷ [])
      → OnFalse new (next ≡ table) → IsIndex next (take (i + 1) (map name_of items))
  item_index table next bytes new index eb known added same =
      index_step table next (map name_of items) i x new index within is_name (known ∙ ap (λ b. is_none (number_of table b)) eb)
      (subst (λ b. OnTrue new (next ≡ table ++ (b, i) ∷ [])) eb added) same

  is_again : (table : List (List ℕ × ℕ)) (bytes : List ℕ) (new : Bool) → IsIndex table (take i (map name_of items))
      → bytes ≡ x.bytes → new ≡ is_none (number_of table bytes) → not new ≡ is_among (take i (map name_of items)) x
  is_again table bytes new index eb known =
      ap not (known ∙ ap (λ b. is_none (number_of table b)) eb ∙ ap is_none (index x.bytes))
      ∙ some_or_none (position_of (take i (map name_of items)) x.bytes) ∙ is_some-position_of (take i (map name_of items)) x

  pub item_twice : (table : List (List ℕ × ℕ)) (bytes : List ℕ) (new : Bool) (before next whole : Option NameError)
      → IsIndex table (take i (map name_of items)) → bytes ≡ x.bytes → new ≡ is_none (number_of table bytes)
      → next ≡ noted before (fault_if (not new) (Twice x.at))
      → noted before (twice_after [] (take i (map name_of items)) (drop i (map name_of items))) ≡ whole
      → noted next (twice_after [] (take (i + 1) (map name_of items)) (drop (i + 1) (map name_of items))) ≡ whole
  item_twice table bytes new before next whole index eb known h w =
      twice_name_step [] before next whole (map name_of items) i x (not new) within is_name (is_again table bytes new index eb known) h w
