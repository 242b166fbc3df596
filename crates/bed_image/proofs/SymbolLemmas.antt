-- Symbols as they are read.
use Rattle.std.proofs.Common.{◌≡◌, ℕ, zero, suc, ◌+◌, ◌%◌, ◌<◌, ◌≤◌, Bool, true, false, List, [], ◌∷◌, ◌++◌, length, Ok, refl, sym, ap, subst, arith, inl, inr}
use Rattle.std.specs.Prelude.{nat_le, ◌&&◌}
use Rattle.std.specs.List.{flat_map, AllByRecursion}
use Rattle.std.proofs.lemmas.Bool.{cases_lt}
use Rattle.std.proofs.lemmas.Bool.Decides.{nat_tests}
use Rattle.std.proofs.lemmas.List.Concat.{flat_map-cons}
use Rattle.bed_lang.specs.Numbers.{word_bytes}
use Rattle.bed_image.specs.declared.image.Symbol.{Symbol}
use Rattle.bed_image.specs.Format.{symbol_bytes, IsSymbol}
use Rattle.bed_image.specs.Faults.{is_kind, is_address, is_name_size, is_printing}
use Rattle.bed_image.specs.Reading.{Rest, ◌>>=◌, byte_at, word_at, text_at, symbol_at, symbols_at}
use Rattle.bed_image.proofs.FieldLemmas.{Reads, followed, made, byte_reads, word_reads, text_reads, IsBytes, bind_ok, ok_is, Takes, Takes-then, byte_takes, word_takes, text_takes}

-- ---- the tests say what `IsSymbol` says

kind_true : (k : ℕ) → k ≤ 3 → is_kind k ≡ true
kind_true k h = grind (arith, nat_tests)

true_kind : (k : ℕ) → is_kind k ≡ true → k ≤ 3
true_kind k h = grind (arith, nat_tests)

size_true : (n : ℕ) → 0 < n → is_name_size n ≡ true
size_true n h = grind (arith, nat_tests)

true_size : (n : ℕ) → is_name_size n ≡ true → 0 < n
true_size n h = grind (arith, nat_tests)

address_true : (base size kind a : ℕ) → kind ≤ 3 → (kind < 3 → (base ≤ a) × (a < base + size)) → is_address base size kind a ≡ true
address_true base size kind a few inside = elim (cases_lt kind 3) [
  | inl lt ↦ let h = inside lt in let low = h.0 in let high = h.1 in grind (arith, nat_tests)
  | inr le ↦ let e : kind ≡ 3 = omega arith in rw e refl
]

true_address : (base size kind a : ℕ) → is_address base size kind a ≡ true → kind < 3 → (base ≤ a) × (a < base + size)
true_address base size kind a h lt = (grind (arith, nat_tests), grind (arith, nat_tests))

printing_true : (name : List ℕ) → AllByRecursion (λ b. (0x21 ≤ b) × (b ≤ 0x7E)) name → is_printing name ≡ true
printing_true [] h = refl
printing_true (b ∷ name) h =
    let low = h.0.0 in
    let high = h.0.1 in
    let first : (nat_le 0x21 b && nat_le b 0x7E) ≡ true = grind (arith, nat_tests) in
    rw (first, printing_true name h.1) refl

and_both : (a b : Bool) → (a && b) ≡ true → (a ≡ true) × (b ≡ true)
and_both true b e = (refl, e)
and_both false b e = absurd cc

true_printing : (name : List ℕ) → is_printing name ≡ true → AllByRecursion (λ b. (0x21 ≤ b) × (b ≤ 0x7E)) name
true_printing [] h = tt
true_printing (b ∷ name) h =
    let both = and_both (nat_le 0x21 b && nat_le b 0x7E) (is_printing name) h in
    let first = and_both (nat_le 0x21 b) (nat_le b 0x7E) both.0 in
    let low = first.0 in
    let high = first.1 in
    ((grind (arith, nat_tests), grind (arith, nat_tests)), true_printing name both.1)

-- ---- what was written is read again

pub symbol_reads : (base size : ℕ) (s : Symbol) → IsSymbol base size s → Reads (symbol_at base size) (symbol_bytes s) s
unfolding symbol_at
symbol_reads base size s h =
    let n = length s.name in
    let short = h.short in
    let m : n ≡ n % 256 = omega arith in
    let kind = byte_reads is_kind s.kind (kind_true s.kind h.kind) in
    let address = word_reads (is_address base size s.kind) s.address h.address (address_true base size s.kind s.address h.kind h.inside) in
    let count = subst (λ k. Reads (byte_at is_name_size) (k ∷ []) n) m (byte_reads is_name_size n (size_true n h.named)) in
    let name = text_reads n is_printing s.name refl (printing_true s.name h.printing) in
    let whole : ℕ → ℕ → List ℕ → Symbol = λ k a t. record { kind = k; address = a; name = t } in
    followed (byte_at is_kind)
    (λ k r. word_at (is_address base size k) r >>= λ a. byte_at is_name_size a.1 >>= λ c. text_at c.0 is_printing c.1 >>= λ t. Ok (whole k a.0 t.0, t.1))
    (s.kind ∷ []) (word_bytes s.address ++ ((n % 256 ∷ []) ++ s.name)) s.kind s kind
    (followed (word_at (is_address base size s.kind))
    (λ a r. byte_at is_name_size r >>= λ c. text_at c.0 is_printing c.1 >>= λ t. Ok (whole s.kind a t.0, t.1))
    (word_bytes s.address) ((n % 256 ∷ []) ++ s.name) s.address s address
    (followed (byte_at is_name_size)
    (λ c r. text_at c is_printing r >>= λ t. Ok (whole s.kind s.address t.0, t.1))
    (n % 256 ∷ []) s.name n s count
    (made (text_at n is_printing) (λ t. whole s.kind s.address t) s.name s.name name)))

pub symbols_reads : (base size : ℕ) (ss : List Symbol) → AllByRecursion (IsSymbol base size) ss → Reads (symbols_at base size (length ss)) (flat_map symbol_bytes ss) ss
unfolding symbols_at
symbols_reads base size [] h = record {
  again = λ at rest. let e : at ≡ at + 0 = omega arith in ap (λ a. Ok ([], record { at = a; bytes = rest })) e;
  cut = λ at n lt. absurd (omega arith);
}
symbols_reads base size (s ∷ ss) h =
    let rest = made (symbols_at base size (length ss)) (λ more. s ∷ more) (flat_map symbol_bytes ss) ss (symbols_reads base size ss h.1) in
    let whole = followed (symbol_at base size) (λ first r. symbols_at base size (length ss) r >>= λ more. Ok (first ∷ more.0, more.1))
    (symbol_bytes s) (flat_map symbol_bytes ss) s (s ∷ ss) (symbol_reads base size s h.0) rest in
    subst (λ (text : List ℕ). Reads (symbols_at base size (suc (length ss))) text (s ∷ ss)) (sym (flat_map-cons symbol_bytes s ss)) whole

-- ---- what is read was written

pub symbol_takes : (base size : ℕ) (r : Rest) (x : Symbol × Rest) → IsBytes r.bytes → symbol_at base size r ≡ Ok x → Takes r (symbol_bytes x.0) x.1 × IsSymbol base size x.0
unfolding symbol_at
symbol_takes base size r x fits e =
    let whole : ℕ → ℕ → List ℕ → Symbol = λ k a t. record { kind = k; address = a; name = t } in
    let k = bind_ok (byte_at is_kind r) (λ k. word_at (is_address base size k.0) k.1 >>= λ a. byte_at is_name_size a.1 >>= λ c. text_at c.0 is_printing c.1 >>= λ t. Ok (whole k.0 a.0 t.0, t.1)) x e in
    let a = bind_ok (word_at (is_address base size k.0.0) k.0.1) (λ a. byte_at is_name_size a.1 >>= λ c. text_at c.0 is_printing c.1 >>= λ t. Ok (whole k.0.0 a.0 t.0, t.1)) x k.2 in
    let c = bind_ok (byte_at is_name_size a.0.1) (λ c. text_at c.0 is_printing c.1 >>= λ t. Ok (whole k.0.0 a.0.0 t.0, t.1)) x a.2 in
    let t = bind_ok (text_at c.0.0 is_printing c.0.1) (λ t. Ok (whole k.0.0 a.0.0 t.0, t.1)) x c.2 in
    let tk = byte_takes is_kind r k.0 fits k.1 in
    let ta = word_takes (is_address base size k.0.0) k.0.1 a.0 tk.0.rest_fits a.1 in
    let tc = byte_takes is_name_size a.0.1 c.0 ta.0.rest_fits c.1 in
    let tt' = text_takes c.0.0 is_printing c.0.1 t.0 tc.0.rest_fits t.1 in
    let below = tc.2 in
    let long = tt'.2 in
    let m : c.0.0 ≡ length t.0.0 % 256 = omega arith in
    let named = true_size c.0.0 tc.1 in
    let count = subst (λ n. Takes a.0.1 (n ∷ []) c.0.1) m tc.0 in
    let e3 = Takes-then a.0.1 (length t.0.0 % 256 ∷ []) c.0.1 t.0.0 t.0.1 count tt'.0 in
    let e2 = Takes-then k.0.1 (word_bytes a.0.0) a.0.1 ((length t.0.0 % 256 ∷ []) ++ t.0.0) t.0.1 ta.0 e3 in
    let e1 = Takes-then r (k.0.0 ∷ []) k.0.1 (word_bytes a.0.0 ++ ((length t.0.0 % 256 ∷ []) ++ t.0.0)) t.0.1 tk.0 e2 in
    let made' : Symbol × Rest = (whole k.0.0 a.0.0 t.0.0, t.0.1) in
    subst (λ (y : Symbol × Rest). Takes r (symbol_bytes y.0) y.1 × IsSymbol base size y.0) (ok_is made' x t.2) (
      e1,
      record {
        kind = true_kind k.0.0 tk.1;
        address = ta.2;
        inside = true_address base size k.0.0 a.0.0 ta.1;
        named = omega arith;
        short = omega arith;
        printing = true_printing t.0.0 tt'.1;
      },
    )

pub symbols_take : (base size n : ℕ) (r : Rest) (x : List Symbol × Rest) → IsBytes r.bytes → symbols_at base size n r ≡ Ok x
    → Takes r (flat_map symbol_bytes x.0) x.1 × (length x.0 ≡ n) × AllByRecursion (IsSymbol base size) x.0
unfolding symbols_at
symbols_take base size zero r x fits e =
    subst (λ (y : List Symbol × Rest). Takes r (flat_map symbol_bytes y.0) y.1 × (length y.0 ≡ 0) × AllByRecursion (IsSymbol base size) y.0)
    (ok_is ([], r) x e) (record { parts = refl; moves = omega arith; rest_fits = fits }, refl, tt)
symbols_take base size (suc n) r x fits e =
    let a = bind_ok (symbol_at base size r) (λ first. symbols_at base size n first.1 >>= λ more. Ok (first.0 ∷ more.0, more.1)) x e in
    let b = bind_ok (symbols_at base size n a.0.1) (λ more. Ok (a.0.0 ∷ more.0, more.1)) x a.2 in
    let first = symbol_takes base size r a.0 fits a.1 in
    let second = symbols_take base size n a.0.1 b.0 first.0.rest_fits b.1 in
    let both = Takes-then r (symbol_bytes a.0.0) a.0.1 (flat_map symbol_bytes b.0.0) b.0.1 first.0 second.0 in
    let made' : List Symbol × Rest = (a.0.0 ∷ b.0.0, b.0.1) in
    subst (λ (y : List Symbol × Rest). Takes r (flat_map symbol_bytes y.0) y.1 × (length y.0 ≡ suc n) × AllByRecursion (IsSymbol base size) y.0)
    (ok_is made' x b.2) (rw flat_map-cons both, ap suc second.1, (first.1, second.2))
