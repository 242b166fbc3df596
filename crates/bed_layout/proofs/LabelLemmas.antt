-- The addresses of labels, modulo 2^32, and by the numbers of their blocks.
use Rattle.std.proofs.Common.{◌≡◌, ◌≢◌, ℕ, zero, suc, ◌+◌, ◌%◌, ◌<◌, Bool, true, false, nat_eq, if◌then◌else◌, Option, Some, None, List, [], ◌∷◌, ◌++◌, length, length-set, take, drop, slice_get, get_or, slice_set, get_or-set_other, get_or-set_same, inl, inr, refl, sym, ◌∙◌, ap, ap₂, subst, arith, add-one}
use Rattle.std.proofs.Math.Seq.{drop-cons}
use Rattle.std.proofs.lemmas.List.{take_more}
use Rattle.std.proofs.lemmas.Bool.{cases_lt}
use Rattle.std.proofs.lemmas.Bool.Decides.{nat_tests}
use Rattle.bed_lang.specs.Numbers.{wrap}
use Rattle.bed_il.specs.declared.blocks.Block.{Block}
use Rattle.bed_il.specs.BlockMachine.{block_at}
use Rattle.bed_il.specs.Fit.{AreDistinct}
use Rattle.bed_il.specs.Places.{block_size, blocks_size, place_of}
use Rattle.bed_il.proofs.PlaceLaws.{place_first, place_other, size_append}

-- only the address modulo 2^32 counts
pub place_wraps : (B : List Block) (x y l : ℕ) → wrap x ≡ wrap y → wrap (place_of B x l) ≡ wrap (place_of B y l)
place_wraps [] x y l e = e
place_wraps (b ∷ B) x y l e = by_test (nat_eq b.label l) (place_wraps B (x + block_size b) (y + block_size b) l (omega arith))
  where
    by_test : (t : Bool) → wrap (place_of B (x + block_size b) l) ≡ wrap (place_of B (y + block_size b) l)
        → wrap (if t then x else place_of B (x + block_size b) l) ≡ wrap (if t then y else place_of B (y + block_size b) l)
    by_test true more = e
    by_test false more = more

-- from a block with another label on to the next
pub place_step : (B : List Block) (k : ℕ) (b : Block) (next size l : ℕ) → k < length B → b ≡ get_or B k b → b.label ≢ l → size ≡ wrap (block_size b)
    → wrap (place_of (drop (k + 1) B) ((next + size) % 4294967296) l) ≡ wrap (place_of (drop k B) next l)
place_step B k b next size l lt is ne size_is =
    let cons : drop k B ≡ b ∷ drop (k + 1) B = drop-cons B k b lt ∙ ap₂ (λ x n. x ∷ drop n B) (sym is) (sym (add-one k)) in
    place_wraps (drop (k + 1) B) ((next + size) % 4294967296) (next + block_size b) l (omega arith)
    ∙ sym (ap (λ C. wrap (place_of C next l)) cons ∙ ap wrap (place_other b (drop (k + 1) B) next l ne))

none_some : {A : Type 0} {x : A} → ◌≡◌ {A = Option A} None (Some x) → ⊥
none_some e = cc

some_same : {A : Type 0} {x y : A} → ◌≡◌ {A = Option A} (Some x) (Some y) → x ≡ y
some_same e = cc

-- a label of one of the blocks has a block
get_has : (B : List Block) (i : ℕ) (b : Block) → slice_get B i ≡ Some b → block_at B b.label ≡ None → ⊥
get_has [] i b e none = none_some e
get_has (d ∷ B) zero b e none = by_test (nat_eq d.label b.label) refl
  where
    by_test : (t : Bool) → nat_eq d.label b.label ≡ t → ⊥
    by_test true t = none_some {x = d} (sym none ∙ rw t refl)
    by_test false t = let same : d.label ≡ b.label = ap (λ (x : Block). x.label) (some_same e) in grind (arith, nat_tests)
get_has (d ∷ B) (suc j) b e none = by_test (nat_eq d.label b.label) refl (get_has B j b e)
  where
    by_test : (t : Bool) → nat_eq d.label b.label ≡ t → (block_at B b.label ≡ None → ⊥) → ⊥
    by_test true t more = none_some {x = d} (sym none ∙ rw t refl)
    by_test false t more = more (sym (rw t refl) ∙ none)

-- an element by its number
get_at : {A : Type 0} (xs : List A) (i : ℕ) (x : A) → i < length xs → x ≡ get_or xs i x → slice_get xs i ≡ Some x
get_at [] i x lt is = absurd (omega arith)
get_at (y ∷ xs) zero x lt is = ap Some (sym is)
get_at (y ∷ xs) (suc i) x lt is = get_at xs i x (omega arith) is

-- where labels differ, the block with a number stands behind those before it
pub place_numbered : (B : List Block) (at l i : ℕ) (b : Block) → AreDistinct B → slice_get B i ≡ Some b → b.label ≡ l → place_of B at l ≡ at + blocks_size (take i B)
place_numbered [] at l i b distinct e same = absurd (none_some e)
place_numbered (d ∷ B) at l zero b distinct e same =
    let first : d.label ≡ l = ap (λ (x : Block). x.label) (some_same e) ∙ same in
    let z : at ≡ at + 0 = omega arith in
    place_first d B at l first ∙ z
place_numbered (d ∷ B) at l (suc j) b distinct e same =
    let other : d.label ≢ l = (λ q. get_has B j b e (subst (λ x. block_at B x ≡ None) (q ∙ sym same) distinct.0)) in
    let more = place_numbered B (at + block_size d) l j b distinct.1 e same in
    let sum : at + block_size d + blocks_size (take j B) ≡ at + (block_size d + blocks_size (take j B)) = omega arith in
    place_other d B at l other ∙ more ∙ sum

-- the address behind one block more
pub size_more : (B : List Block) (k : ℕ) (b : Block) → k < length B → b ≡ get_or B k b → blocks_size (take (k + 1) B) ≡ blocks_size (take k B) + block_size b
size_more B k b lt is =
    let e : take (k + 1) B ≡ take k B ++ (b ∷ []) = take_more B k b lt ∙ ap (λ x. take k B ++ (x ∷ [])) (sym is) in
    let z : block_size b + 0 ≡ block_size b = omega arith in
    ap blocks_size e ∙ size_append (take k B) (b ∷ []) ∙ ap (λ n. blocks_size (take k B) + n) z

-- the address in the table of the block with a number, where it has the label
pub place_at : (B : List Block) (at l i : ℕ) (b : Block) (p : ℕ) → AreDistinct B → i < length B → b ≡ get_or B i b → b.label ≡ l → p ≡ wrap (at + blocks_size (take i B)) → p ≡ wrap (place_of B at l)
place_at B at l i b p distinct lt is same address = address ∙ ap wrap (sym (place_numbered B at l i b distinct (get_at B i b lt is) same))

-- one more address in the table
pub set_more : (B : List Block) (at : ℕ) (places set : List ℕ) (i next : ℕ) → set ≡ slice_set places i next → next ≡ wrap (at + blocks_size (take i B))
    → ((k : ℕ) → k < i → k < length places → get_or places k 0 ≡ wrap (at + blocks_size (take k B)))
    → (k : ℕ) → k < i + 1 → k < length set → get_or set k 0 ≡ wrap (at + blocks_size (take k B))
set_more B at places set i next is next_is before k lt within = elim (cases_lt k i) [
  | inl less ↦ (let ne : k ≢ i = omega arith in
      let there : k < length places = omega (arith, ap length is, length-set places i next) in
      ap (λ l. get_or l k 0) is ∙ rw get_or-set_other (before k less there))
  | inr same ↦ (let e : k ≡ i = omega arith in
      let there : i < length places = omega (arith, ap length is, length-set places i next) in
      ap₂ (λ l j. get_or l j 0) is e ∙ rw get_or-set_same next_is ∙ ap (λ j. wrap (at + blocks_size (take j B))) (sym e))
]
