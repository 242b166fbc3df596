-- The bytes at the last three addresses and at 0 are there on a memory, so that no tree proves of them what is false.
use Rattle.std.proofs.Common.{◌≡◌, ℕ, zero, suc, ◌<◌, ◌≤◌, ◌⊎◌, Bool, true, false, nat_eq, if◌then◌else◌, Option, Some, None, List, [], ◌∷◌, length, cond, find, Result, Ok, Err, inl, inr, refl, sym, ◌∙◌, ap, subst, subst₂, arith}
use Rattle.std.specs.Prelude.{bytes_eq}
use Rattle.std.proofs.lemmas.Bool.{eqb-true}
use Rattle.bed_machine.specs.Memory.{Memory, empty}
use Rattle.bed_lang.specs.declared.word.Word.{Number}
use Rattle.bed_lang.specs.declared.logic.Pure.{Pure}
use Rattle.bed_lang.specs.declared.condition.Decls.{Decls}
use Rattle.bed_lang.specs.Numbers.{wrap}
use Rattle.bed_lang.specs.Values.{Values, value}
use Rattle.bed_lang.proofs.ValueLaws.{value-Number}
use Rattle.bed_sat.specs.Parts.{AreDisjoint, union}
use Rattle.bed_sat.specs.Cells.{IsByte}
use Rattle.bed_sat.proofs.PartLaws.{joins_union, to_empty}
use Rattle.bed_lang.specs.declared.word.Name.{Name}
use Rattle.bed_lang.specs.Lookups.{second_of}
use Rattle.bed_sat.specs.Valid.{LabelsFit}
use Rattle.bed_deriv.specs.Checks.{sequent}
use Rattle.bed_deriv.specs.declared.state.Remainder.{Remainder}
use Rattle.bed_check_pure.specs.States.{StateHolds, world}
use Rattle.bed_check_pure.proofs.WalkLaws.{whole_follows}
use Rattle.bed_check_heap.specs.Examples.{bytes_across, too_high, first_goal, AsksTooHighExample, NoTreeExample}
use Rattle.bed_check_heap.proofs.MemoryLaws.{one_byte, one_is_byte}

-- a byte is apart from a memory that has none at its address
apart : (m : Memory) (a b : ℕ) → m a ≡ None → AreDisjoint (one_byte a b) m
apart m a b none = record { at = λ x. by x (nat_eq x a) refl }
  where
    by : (x : ℕ) (t : Bool) → nat_eq x a ≡ t → ((if t then Some b else None) ≡ None) ⊎ (m x ≡ None)
    by x true e = inr (ap m (eqb-true x a e) ∙ none)
    by x false e = inl refl

below_wraps : (b : ℕ) → b < 256 → wrap b ≡ b
below_wraps b small = omega (arith, small)

abbrev last_two : Memory
last_two = union (one_byte 4294967295 3) (one_byte 0 4)

abbrev last_three : Memory
last_three = union (one_byte 4294967294 2) last_two

abbrev all_four : Memory
all_four = union (one_byte 4294967293 1) last_three

abbrev zeros : Values
zeros = record { words = λ x. 0; lists = λ x. [] }

is_byte : (labels : List ℕ → ℕ) (a b : ℕ) → wrap a ≡ a → b < 256 → IsByte (value labels zeros (Number a)) (value labels zeros (Number b)) (one_byte a b)
is_byte labels a b word small =
    subst₂ (λ x y. IsByte x y (one_byte a b)) (sym (value-Number labels zeros a ∙ word))
    (sym (value-Number labels zeros b ∙ below_wraps b small)) (one_is_byte a b small)

bytes_hold : (d : Decls) (codes : ℕ → Option (List ℕ)) (labels : List ℕ → ℕ) → StateHolds (world d codes labels) zeros all_four bytes_across
bytes_hold d codes labels = record {
  facts = _;
  depth = 0;
  atoms = (
    one_byte 4294967293 1,
    last_three,
    joins_union (apart last_three 4294967293 1 refl),
    is_byte labels 4294967293 1 refl (omega arith),
    (
      one_byte 4294967294 2,
      last_two,
      joins_union (apart last_two 4294967294 2 refl),
      is_byte labels 4294967294 2 refl (omega arith),
      (
        one_byte 4294967295 3,
        one_byte 0 4,
        joins_union (apart (one_byte 0 4) 4294967295 3 refl),
        is_byte labels 4294967295 3 refl (omega arith),
        (one_byte 0 4, empty, to_empty (one_byte 0 4), is_byte labels 0 4 refl (omega arith), refl),
      ),
    ),
  );
}

-- ---- each label at its place in the list, and its signature's code there

abbrev place_of : List (Name × Name) → List ℕ → ℕ
place_of [] f = 0
place_of (l ∷ ls) f = if bytes_eq l.0.bytes f then 0 else suc (place_of ls f)

abbrev code_at : List (Name × Name) → ℕ → Option (List ℕ)
code_at [] n = None
code_at (l ∷ ls) zero = Some l.1.bytes
code_at (l ∷ ls) (suc n) = code_at ls n

abbrev IsThere : List (Name × Name) → ℕ → Name → Type 0
IsThere ls n name = (code_at ls n ≡ Some name.bytes) × (n < length ls)

abbrev names_bytes : Option Name → Option (List ℕ)
names_bytes None = None
names_bytes (Some x) = Some x.bytes

label_there : (ls : List (Name × Name)) (f : List ℕ) (name : Name) → second_of (find (λ l. bytes_eq l.0.bytes f) ls) ≡ Some name
    → IsThere ls (place_of ls f) name
label_there [] f name e = absurd cc
label_there (l ∷ ls) f name e = by (bytes_eq l.0.bytes f) e (label_there ls f name)
  where
    by : (b : Bool) → second_of (cond b (Some l) (find (λ k. bytes_eq k.0.bytes f) ls)) ≡ Some name
        → (second_of (find (λ k. bytes_eq k.0.bytes f) ls) ≡ Some name → IsThere ls (place_of ls f) name)
        → IsThere (l ∷ ls) (if b then 0 else suc (place_of ls f)) name
    by true e more = (ap (λ (o : Option Name). names_bytes o) e, omega arith)
    by false e more = let k = more e in (k.0, omega arith)

labels_fit : (d : Decls) → length d.labels ≤ 4294967296 → LabelsFit (world d (code_at d.labels) (place_of d.labels))
labels_fit d few f name found =
    let k = label_there d.labels f name found in
    let small : wrap (place_of d.labels f) ≡ place_of d.labels f = omega (arith, k.1, few) in
    subst (λ n. code_at d.labels n ≡ Some name.bytes) (sym small) k.0

pub no_tree : NoTreeExample
no_tree d t last few e =
    let codes = code_at d.labels in
    let labels = place_of d.labels in
    let is = whole_follows (world d codes labels) zeros all_four (labels_fit d few) t (sequent bytes_across too_high) 1 last e (bytes_hold d codes labels) in
    let le : 4294967293 ≤ 4294967292 = subst₂ (λ a b. a ≤ b) (value-Number labels zeros 4294967293) (value-Number labels zeros 4294967292) is in
    absurd (omega (arith, le))

abbrev first_of : Result Remainder ℕ → List Pure
first_of (Ok m) = first_goal m.goals
first_of (Err p) = []

pub asks_too_high : AsksTooHighExample
asks_too_high d m e = sym (ap first_of e)
