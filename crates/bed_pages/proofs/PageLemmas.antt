-- Memory in pages: what a change of one page is of the memory.
use Rattle.std.proofs.Common.{◌≡◌, ◌≢◌, ℕ, ◌+◌, ◌*◌, ◌/◌, ◌%◌, ◌<◌, ◌≤◌, ◌⊎◌, inl, inr, Bool, true, false, ◌&&◌, nat_le, nat_lt, if◌then◌else◌, Option, None, Some, length, slice_index_or, slice_set, IsSome, Less, Greater, refl, sym, ap, ap₂, subst, ◌∙◌, arith}
use Rattle.std.proofs.lemmas.Bool.{cases_eq, cases_lt, cases_order, eq-eqb, ne_eqb, lt-ltb, le-ltb}
use Rattle.std.proofs.lemmas.Bool.Decides.{leb_tells}
use Rattle.std.specs.Bool.{OnTrue}
use Rattle.std.specs.Option.{is_some}
use Rattle.std.specs.Cmp.{nat_cmp_is}
use Rattle.std.specs.Ordering.{nat_cmp, is_eq}
use Rattle.std.specs.BTreeMap as tree
use Rattle.std.specs.BTreeMap.{is_at}
use Rattle.std.proofs.lemmas.List.{get_or-set_same, get_or-set_other, get_or_default}
use Rattle.bed_machine.specs.Memory.{Memory, put_byte}
use Rattle.bed_machine.specs.Plain.{cell}
use Rattle.bed_pages.specs.Pages.{page_at, in_page, pages_bytes}
use Rattle.bed_pages.specs.Zeros.{zeroed, zeroed_between, with_zeros}
use Rattle.bed_pages.specs.declared.page.Page.{Page}
use Rattle.bed_pages.specs.declared.pages.Pages.{Pages}

-- Numbers between two others

abbrev between : ℕ → ℕ → ℕ → Bool
between from to i = nat_le from i && nat_lt i to

below_tells : (a b : ℕ) → ((nat_lt a b ≡ true) × (a < b)) ⊎ ((nat_lt a b ≡ false) × (b ≤ a))
below_tells a b = elim (cases_lt a b) [
  | inl lt ↦ inl (lt-ltb a b lt, lt)
  | inr le ↦ inr (le-ltb a b le, le)
]

between_tells : (from to i : ℕ) → ((between from to i ≡ true) × (from ≤ i) × (i < to)) ⊎ ((between from to i ≡ false) × ((i < from) ⊎ (to ≤ i)))
between_tells from to i = elim (leb_tells from i) [
  | inl p ↦ elim (below_tells i to) [
    | inl q ↦ inl (ap₂ (λ s t. s && t) p.0 q.0, p.1, q.1)
    | inr q ↦ inr (ap₂ (λ s t. s && t) p.0 q.0, inr (omega (arith, q.1)))
  ]
  | inr p ↦ inr (ap (λ s. s && nat_lt i to) p.0, inl (omega (arith, p.1)))
]

between_true : (from to i : ℕ) → from ≤ i → i < to → between from to i ≡ true
between_true from to i low high = elim (between_tells from to i) [
  | inl p ↦ p.0
  | inr q ↦ elim q.1 [
    | inl below ↦ absurd (omega (arith, below))
    | inr above ↦ absurd (omega (arith, above))
  ]
]

between_false : (from to i : ℕ) → (from ≤ i → i < to → ⊥) → between from to i ≡ false
between_false from to i out = elim (between_tells from to i) [
  | inl p ↦ absurd (out p.1 p.2)
  | inr q ↦ q.0
]

-- two tests of numbers that are alike
between_same : (from to i low high k : ℕ) → (from ≤ i → i < to → (low ≤ k) × (k < high)) → (low ≤ k → k < high → (from ≤ i) × (i < to))
    → between from to i ≡ between low high k
between_same from to i low high k there back = elim (between_tells from to i) [
  | inl p ↦ let h = there p.1 p.2 in p.0 ∙ sym (between_true low high k h.0 h.1)
  | inr q ↦ q.0 ∙ sym (between_false low high k (λ a b. let h = back a b in elim q.1 [
    | inl below ↦ omega (arith, below, h.0)
    | inr above ↦ omega (arith, above, h.1)
  ]))
]

-- Zeros

zeroed_no : (x : Option ℕ) → zeroed false x ≡ x
zeroed_no (Some v) = refl
zeroed_no None = refl

zeroed_both : (s t u : Bool) → (s ≡ true → u ≡ true) → (s ≡ false → t ≡ u) → (x : Option ℕ) → zeroed t (zeroed s x) ≡ zeroed u x
zeroed_both s t u h k (Some v) = refl
zeroed_both true t u h k None = sym (ap (λ b. zeroed b None) (h refl))
zeroed_both false t u h k None = ap (λ b. zeroed b None) (k refl)

both : {b : Bool} → b ≡ false → b ≡ true → ⊥
both f t = cc

zeros_at : (m : Memory) (at next count size : ℕ) → next ≡ at + count → (x : ℕ) → with_zeros (with_zeros m at count) next size x ≡ with_zeros m at (count + size) x
zeros_at m at next count size e x =
    zeroed_both (between at (at + count) x) (between next (next + size) x) (between at (at + (count + size)) x)
    (λ s. elim (between_tells at (at + count) x) [
      | inl p ↦ let low = p.1 in let high = p.2 in between_true at (at + (count + size)) x low (omega (arith, high))
      | inr q ↦ absurd (both q.0 s)
    ])
    (λ s. elim (between_tells at (at + count) x) [
      | inl p ↦ absurd (both s p.0)
      | inr q ↦ between_same next (next + size) x at (at + (count + size)) x
          (λ a b. (omega (arith, a, e), omega (arith, b, e)))
          (λ a b. elim q.1 [
            | inl below ↦ absurd (omega (arith, below, a))
            | inr above ↦ (omega (arith, above, e), omega (arith, b, e))
          ])
    ])
    (m x)

-- more zeros after the first
pub zeros_more : (m : Memory) (at next count size : ℕ) → next ≡ at + count → with_zeros (with_zeros m at count) next size ≡ with_zeros m at (count + size)
zeros_more m at next count size e = λ i x. zeros_at m at next count size e x i

zeros_none_at : (m : Memory) (at x : ℕ) → m x ≡ with_zeros m at 0 x
zeros_none_at m at x = sym (ap (λ t. zeroed t (m x)) (between_false at (at + 0) x (λ a b. omega (arith, a, b))) ∙ zeroed_no (m x))

-- no zeros at all
pub zeros_none : (m : Memory) (at : ℕ) → m ≡ with_zeros m at 0
zeros_none m at = λ i x. zeros_none_at m at x i

-- Cells

cell_in : (a v : ℕ) → a < 4294967296 → cell a (Some v) ≡ Some (v % 256)
cell_in a v small = ap (λ t. if t then Some (v % 256) else None) (lt-ltb a 4294967296 small)

-- a byte of memory is its cell
pub cell_is : (a : ℕ) (x : Option ℕ) → a < 4294967296 → ((v : ℕ) → x ≡ Some v → v < 256) → x ≡ cell a x
cell_is a None small bytes = refl
cell_is a (Some v) small bytes = let b : v < 256 = bytes v refl in let e : v % 256 ≡ v = omega arith in sym (cell_in a v small ∙ ap Some e)

cell_zeroed : (a : ℕ) (t : Bool) (x : Option ℕ) → (t ≡ true → a < 4294967296) → cell a (zeroed t x) ≡ zeroed t (cell a x)
cell_zeroed a true None small = cell_in a 0 (small refl)
cell_zeroed a false None small = refl
cell_zeroed a true (Some v) small = cell_in a v (small refl) ∙ sym (ap (zeroed true) (cell_in a v (small refl)))
cell_zeroed a false (Some v) small = sym (zeroed_no (cell a (Some v)))

-- One page of many

apart : (number n : ℕ) → n ≢ number → is_at (nat_cmp number) n ≡ false
apart number n ne = elim (cases_order number n) [
  | inl same ↦ absurd (ne (sym same))
  | inr (inl less) ↦ ap is_eq (sym (nat_cmp_is number n Less less))
  | inr (inr more) ↦ ap is_eq (sym (nat_cmp_is number n Greater more))
]

-- a page is replaced, and no other
pub record IsReplaced (p q : Pages) (number : ℕ) (old new : Page) : Type 0 where
  pub was : page_at p number ≡ Some old
  pub now : page_at q number ≡ Some new
  pub others : (n : ℕ) → n ≢ number → page_at q n ≡ page_at p n

pub replaced : (p q : Pages) (number : ℕ) (old new : Page) → Some old ≡ tree.get_by (nat_cmp number) p.pages → tree.WritesThrough nat_cmp (nat_cmp number) p.pages new q.pages
    → IsReplaced p q number old new
replaced p q number old new was written =
    let some : IsSome (tree.get_by (nat_cmp number) p.pages) = subst (λ o. IsSome o) was refl in
    let updates : tree.UpdatesBy nat_cmp (nat_cmp number) p.pages q.pages (Some new) = written.3 some in
    record {
      was = sym was;
      now = updates.1;
      others = λ n ne. updates.2 n (apart number n ne);
    }

held : {x : Option Page} {page : Page} (i : ℕ) → x ≡ Some page → in_page x i ≡ slice_index_or page.cells.items i None
held i e = ap (λ o. in_page o i) e

set_at : (p q : Pages) (old new : Page) (a v : ℕ) → IsReplaced p q (a / 4096) old new → a < 4294967296 → length old.cells.items ≡ 4096
    → new.cells.items ≡ slice_set old.cells.items (a % 4096) (Some v) → (x : ℕ) → pages_bytes q x ≡ put_byte (pages_bytes p) a v x
set_at p q old new a v r small whole set x = elim (cases_eq x a) [
  | inl e ↦
      let here : in_page (page_at q (a / 4096)) (a % 4096) ≡ Some v =
      held (a % 4096) r.now ∙ (ap (λ l. slice_index_or l (a % 4096) None) set ∙ get_or-set_same old.cells.items (a % 4096) (Some v) None (omega (arith, whole))) in
      subst (λ y. pages_bytes q y ≡ put_byte (pages_bytes p) a v y) (sym e)
      (ap (cell a) here ∙ (cell_in a v small ∙ sym (ap (λ t. if t then Some (v % 256) else pages_bytes p a) (eq-eqb a a refl))))
  | inr ne ↦
      let there : in_page (page_at q (x / 4096)) (x % 4096) ≡ in_page (page_at p (x / 4096)) (x % 4096) = elim (cases_eq (x / 4096) (a / 4096)) [
        | inl same ↦
            let other : x % 4096 ≢ a % 4096 = λ f. ne (omega (arith, same, f)) in
            held (x % 4096) (ap (page_at q) same ∙ r.now) ∙ (ap (λ l. slice_index_or l (x % 4096) None) set
            ∙ (get_or-set_other old.cells.items (a % 4096) (x % 4096) (Some v) None other ∙ sym (held (x % 4096) (ap (page_at p) same ∙ r.was))))
        | inr apart ↦ ap (λ o. in_page o (x % 4096)) (r.others (x / 4096) apart)
      ] in
      ap (cell x) there ∙ sym (ap (λ t. if t then Some (v % 256) else pages_bytes p x) (ne_eqb x a ne))
]

-- a byte is put
pub set_is : (p q : Pages) (old new : Page) (a v : ℕ) → IsReplaced p q (a / 4096) old new → a < 4294967296 → length old.cells.items ≡ 4096
    → new.cells.items ≡ slice_set old.cells.items (a % 4096) (Some v) → pages_bytes q ≡ put_byte (pages_bytes p) a v
set_is p q old new a v r small whole set = λ i x. set_at p q old new a v r small whole set x i

-- a page with the same bytes
pub same_is : (p q : Pages) (number : ℕ) (old new : Page) → IsReplaced p q number old new → new.cells.items ≡ old.cells.items → (x : ℕ) → pages_bytes q x ≡ pages_bytes p x
same_is p q number old new r same x = elim (cases_eq (x / 4096) number) [
  | inl e ↦ ap (cell x) (held (x % 4096) (ap (page_at q) e ∙ r.now) ∙ (ap (λ l. slice_index_or l (x % 4096) None) same ∙ sym (held (x % 4096) (ap (page_at p) e ∙ r.was))))
  | inr apart ↦ ap (λ o. cell x (in_page o (x % 4096))) (r.others (x / 4096) apart)
]

zero_at : (p q : Pages) (number from size : ℕ) (old new : Page) → IsReplaced p q number old new → from + size ≤ 4096 → 4096 * number + from + size ≤ 4294967296
    → ((i : ℕ) → slice_index_or new.cells.items i None ≡ zeroed_between from (from + size) i (slice_index_or old.cells.items i None))
    → (x : ℕ) → pages_bytes q x ≡ with_zeros (pages_bytes p) (4096 * number + from) size x
zero_at p q number from size old new r fits small zero x = elim (cases_eq (x / 4096) number) [
  | inl e ↦
      let t : Bool = between from (from + size) (x % 4096) in
      let same : between from (from + size) (x % 4096) ≡ between (4096 * number + from) (4096 * number + from + size) x =
      between_same from (from + size) (x % 4096) (4096 * number + from) (4096 * number + from + size) x
      (λ a b. (omega (arith, a, e), omega (arith, b, e))) (λ a b. (omega (arith, a, e), omega (arith, b, e))) in
      let now : in_page (page_at q (x / 4096)) (x % 4096) ≡ zeroed t (in_page (page_at p (x / 4096)) (x % 4096)) =
      held (x % 4096) (ap (page_at q) e ∙ r.now) ∙ (zero (x % 4096) ∙ sym (ap (zeroed t) (held (x % 4096) (ap (page_at p) e ∙ r.was)))) in
      ap (cell x) now ∙ (cell_zeroed x t (in_page (page_at p (x / 4096)) (x % 4096)) (λ is. elim (between_tells (4096 * number + from) (4096 * number + from + size) x) [
        | inl p ↦ let high = p.2 in omega (arith, high, small)
        | inr q ↦ absurd (both q.0 (sym same ∙ is))
      ]) ∙ ap (λ b. zeroed b (pages_bytes p x)) same)
  | inr apart ↦
      ap (λ o. cell x (in_page o (x % 4096))) (r.others (x / 4096) apart)
      ∙ sym (ap (λ b. zeroed b (pages_bytes p x)) (between_false (4096 * number + from) (4096 * number + from + size) x (λ a b. apart (omega (arith, a, b, fits)))) ∙ zeroed_no (pages_bytes p x))
]

-- zeros in a page
pub zero_is : (p q : Pages) (number from size : ℕ) (old new : Page) → IsReplaced p q number old new → from + size ≤ 4096 → 4096 * number + from + size ≤ 4294967296
    → ((i : ℕ) → slice_index_or new.cells.items i None ≡ zeroed_between from (from + size) i (slice_index_or old.cells.items i None))
    → pages_bytes q ≡ with_zeros (pages_bytes p) (4096 * number + from) size
zero_is p q number from size old new r fits small zero = λ i x. zero_at p q number from size old new r fits small zero x i

-- what a look-up finds

pub on_true : {P Q : Type 0} (b : Bool) → (P → Q) → OnTrue b P → OnTrue b Q
on_true true f h = f h
on_true false f h = tt

some_cell : (a : ℕ) (x : Option ℕ) → a < 4294967296 → is_some (cell a x) ≡ is_some x
some_cell a None small = refl
some_cell a (Some v) small = ap is_some (cell_in a v small)

-- an address is mapped where its cell is
pub is_mapped : (p : Pages) (page : Page) (a : ℕ) (r : Bool) → a < 4294967296 → Some page ≡ tree.get_by (nat_cmp (a / 4096)) p.pages
    → r ≡ is_some (slice_index_or page.cells.items (a % 4096) None) → r ≡ is_some (pages_bytes p a)
is_mapped p page a r small there e =
    e ∙ sym (ap (λ x. is_some (cell a x)) (held (a % 4096) (sym there)) ∙ some_cell a (slice_index_or page.cells.items (a % 4096) None) small)

-- the byte at an address is that of its cell
pub get_is : (p : Pages) (page : Page) (a : ℕ) (x : Option ℕ) → a < 4294967296 → Some page ≡ tree.get_by (nat_cmp (a / 4096)) p.pages → length page.cells.items ≡ 4096
    → x ≡ slice_index_or page.cells.items (a % 4096) x → ((v : ℕ) → x ≡ Some v → v < 256) → x ≡ pages_bytes p a
get_is p page a x small there whole read bytes =
    let cell_of : x ≡ in_page (page_at p (a / 4096)) (a % 4096) =
    read ∙ (get_or_default page.cells.items (a % 4096) x None (omega (arith, whole)) ∙ sym (held (a % 4096) (sym there))) in
    cell_is a x small bytes ∙ ap (cell a) cell_of
