-- Whole images: what is read is an image with these bytes, what is written so is read, and every beginning of it and all
-- that goes on behind it has its fault.
use Rattle.std.proofs.Common.{◌≡◌, ℕ, ◌+◌, ◌-◌, ◌^◌, ◌<◌, ◌≤◌, true, false, List, [], ◌++◌, length, take, Result, Ok, Err, refl, sym, ap, subst, ◌∙◌, append_assoc, arith, inl, inr, length-append}
use Rattle.std.specs.Prelude.{IfOk, ◌==◌, codes}
use Rattle.std.specs.List.{AllByRecursion}
use Rattle.std.proofs.Math.Seq.{take-append-add}
use Rattle.std.proofs.lemmas.Bool.{cases_lt, eqb-true}
use Rattle.std.proofs.lemmas.Bool.Decides.{nat_tests}
use Rattle.std.proofs.lemmas.List.{append-nil, nil_from_length, take-append-le}
use Rattle.bed_lang.specs.Numbers.{word_bytes}
use Rattle.bed_machine.specs.MachineCode.{MachineCode}
use Rattle.bed_image.specs.declared.error.ImageError.{ImageError}
use Rattle.bed_image.specs.declared.error.ImageError.TheVariants.{BadImage, Memory}
use Rattle.bed_image.specs.declared.image.Symbol.{Symbol}
use Rattle.bed_image.specs.declared.image.Image.{Image}
use Rattle.bed_image.specs.declared.reading.Header.{Header}
use Rattle.bed_image.specs.Format.{IsFileOf, table_bytes, header_bytes, image_bytes, IsSymbol, IsImage}
use Rattle.bed_image.specs.Faults.{Answers, Refuses, magic_word, is_magic, is_code_size, is_count}
use Rattle.bed_image.specs.Reading.{Rest, ◌>>=◌, Gives, checked, field_at, word_at, symbols_at, header_at, code_at, image_of}
use Rattle.bed_image.proofs.FieldLemmas.{Reads, followed, made, field_reads, word_reads, IsBytes, bind_ok, checked_ok, ok_is, Takes, Takes-then, field_takes, word_takes}
use Rattle.bed_image.proofs.SymbolLemmas.{symbols_reads, symbols_take}

-- ---- what was written is read again

pub size_true : (base size : ℕ) → size ≤ 1048576 → base + size ≤ 2 ^ 32 → is_code_size base size ≡ true
size_true base size short fits = grind (arith, nat_tests)

pub true_size : (base size : ℕ) → is_code_size base size ≡ true → (size ≤ 1048576) × (base + size ≤ 2 ^ 32)
true_size base size h = (grind (arith, nat_tests), grind (arith, nat_tests))

pub count_true : (n : ℕ) → n ≤ 65536 → is_count n ≡ true
count_true n h = grind (arith, nat_tests)

pub true_count : (n : ℕ) → is_count n ≡ true → n ≤ 65536
true_count n h = grind (arith, nat_tests)

pub true_magic : (n : ℕ) → is_magic n ≡ true → n ≡ magic_word
true_magic n h = eqb-true _ _ h

abbrev pub whole_header : ℕ → ℕ → List Symbol → Header
whole_header base size ss = record { base = base; size = size; symbols = ss }

pub header_reads : (base size : ℕ) (ss : List Symbol) → base < 2 ^ 32 → size ≤ 1048576 → base + size ≤ 2 ^ 32 → length ss ≤ 65536
    → AllByRecursion (IsSymbol base size) ss → Reads header_at (header_bytes base size ss) (whole_header base size ss)
unfolding header_at
header_reads base size ss low short fits few all =
    let m = word_reads is_magic magic_word (omega arith) refl in
    let b = word_reads (λ _. true) base low refl in
    let s = word_reads (is_code_size base) size (omega arith) (size_true base size short fits) in
    let c = word_reads is_count (length ss) (omega arith) (count_true (length ss) few) in
    let t = symbols_reads base size ss all in
    let l = length ss in
    followed (word_at is_magic)
    (λ n r. word_at (λ _. true) r >>= λ b. word_at (is_code_size b.0) b.1 >>= λ s. word_at is_count s.1 >>= λ c. symbols_at b.0 s.0 c.0 c.1 >>= λ t. Ok (whole_header b.0 s.0 t.0, t.1))
    (codes "BIM1") (word_bytes base ++ (word_bytes size ++ (word_bytes l ++ table_bytes ss))) magic_word (whole_header base size ss) m
    (followed (word_at (λ _. true))
    (λ b r. word_at (is_code_size b) r >>= λ s. word_at is_count s.1 >>= λ c. symbols_at b s.0 c.0 c.1 >>= λ t. Ok (whole_header b s.0 t.0, t.1))
    (word_bytes base) (word_bytes size ++ (word_bytes l ++ table_bytes ss)) base (whole_header base size ss) b
    (followed (word_at (is_code_size base))
    (λ s r. word_at is_count r >>= λ c. symbols_at base s c.0 c.1 >>= λ t. Ok (whole_header base s t.0, t.1))
    (word_bytes size) (word_bytes l ++ table_bytes ss) size (whole_header base size ss) s
    (followed (word_at is_count)
    (λ c r. symbols_at base size c r >>= λ t. Ok (whole_header base size t.0, t.1))
    (word_bytes l) (table_bytes ss) l (whole_header base size ss) c
    (made (symbols_at base size l) (λ t. whole_header base size t) (table_bytes ss) ss t))))

-- the code, and whether something follows it
code_again : (base at : ℕ) (code rest : List ℕ) → code_at base (length code) (record { at = at; bytes = code ++ rest }) ≡ checked (length rest == 0) (at + length code) (record { base = base; bytes = code })
unfolding code_at
code_again base at code rest =
    ap (λ q. q >>= λ f. checked (length f.1.bytes == 0) f.1.at (record { base = base; bytes = f.0 })) ((field_reads (length code) code refl).again at rest)

code_cut : (base at n : ℕ) (code : List ℕ) → n < length code → code_at base (length code) (record { at = at; bytes = take n code }) ≡ Err (at + n)
unfolding code_at
code_cut base at n code lt =
    ap (λ q. q >>= λ f. checked (length f.1.bytes == 0) f.1.at (record { base = base; bytes = f.0 })) ((field_reads (length code) code refl).cut at n lt)

module _ (i : Image) (h : IsImage i) where
  abbrev head : List ℕ
  head = header_bytes i.code.base (length i.code.bytes) i.symbols

  reads : Reads header_at head (whole_header i.code.base (length i.code.bytes) i.symbols)
  reads = header_reads i.code.base (length i.code.bytes) i.symbols h.base h.size h.ends h.count h.symbols

  -- the image and more behind it
  behind : (rest : List ℕ) → image_of (image_bytes i ++ rest) ≡ (checked (length rest == 0) (length head + length i.code.bytes) i.code >>= λ code. Ok (record { code = code; symbols = i.symbols }))
  unfolding image_of
  behind rest =
      let z : 0 + length head ≡ length head = omega arith in
      ap (λ (bytes : List ℕ). image_of bytes) (append_assoc head i.code.bytes rest)
      ∙ ap (λ q. q >>= λ x. code_at x.0.base x.0.size x.1 >>= λ code. Ok (record { code = code; symbols = x.0.symbols })) (reads.again 0 (i.code.bytes ++ rest))
      ∙ ap (λ q. q >>= λ code. Ok (record { code = code; symbols = i.symbols })) (code_again i.code.base (0 + length head) i.code.bytes rest)
      ∙ ap (λ a. checked (length rest == 0) (a + length i.code.bytes) i.code >>= λ code. Ok (record { code = code; symbols = i.symbols })) z

  pub image_again : image_of (image_bytes i) ≡ Ok i
  image_again = ap image_of (sym (append-nil (image_bytes i))) ∙ behind []

  pub image_more : (rest : List ℕ) → 0 < length rest → image_of (image_bytes i ++ rest) ≡ Err (length (image_bytes i))
  image_more rest some =
      let more : (length rest == 0) ≡ false = grind (arith, nat_tests) in
      let e : length head + length i.code.bytes ≡ length (image_bytes i) = omega (arith, length-append head i.code.bytes) in
      behind rest
      ∙ ap (λ t. checked t (length head + length i.code.bytes) i.code >>= λ code. Ok (record { code = code; symbols = i.symbols })) more
      ∙ ap (λ a. Err a) e

  pub image_cut : (n : ℕ) → n < length (image_bytes i) → image_of (take n (image_bytes i)) ≡ Err n
  unfolding image_of
  image_cut n lt = elim (cases_lt n (length head)) [
    | inl early ↦
        let z : 0 + n ≡ n = omega arith in
        ap (λ (bytes : List ℕ). image_of bytes) (take-append-le n head i.code.bytes (omega arith))
        ∙ ap (λ q. q >>= λ x. code_at x.0.base x.0.size x.1 >>= λ code. Ok (record { code = code; symbols = x.0.symbols })) (reads.cut 0 n early)
        ∙ ap (λ a. Err a) z
    | inr late ↦
        let m : n ≡ length head + (n - length head) = omega arith in
        let k : 0 + length head + (n - length head) ≡ n = omega arith in
        let bytes : take n (head ++ i.code.bytes) ≡ head ++ take (n - length head) i.code.bytes = ap (λ j. take j (head ++ i.code.bytes)) m ∙ take-append-add head i.code.bytes (n - length head) in
        ap (λ (bs : List ℕ). image_of bs) bytes
        ∙ ap (λ q. q >>= λ x. code_at x.0.base x.0.size x.1 >>= λ code. Ok (record { code = code; symbols = x.0.symbols })) (reads.again 0 (take (n - length head) i.code.bytes))
        ∙ ap (λ q. q >>= λ code. Ok (record { code = code; symbols = i.symbols })) (code_cut i.code.base (0 + length head) (n - length head) i.code.bytes (omega (arith, length-append head i.code.bytes)))
        ∙ ap (λ a. Err a) k
  ]

-- ---- what is read was written

pub record IsHeader (x : Header) : Type 0 where
  pub base : x.base < 2 ^ 32
  pub size : x.size ≤ 1048576
  pub ends : x.base + x.size ≤ 2 ^ 32
  pub count : length x.symbols ≤ 65536
  pub symbols : AllByRecursion (IsSymbol x.base x.size) x.symbols

pub header_takes : (r : Rest) (x : Header × Rest) → IsBytes r.bytes → header_at r ≡ Ok x → Takes r (header_bytes x.0.base x.0.size x.0.symbols) x.1 × IsHeader x.0
unfolding header_at
header_takes r x fits e =
    let m = bind_ok (word_at is_magic r) (λ m. word_at (λ _. true) m.1 >>= λ b. word_at (is_code_size b.0) b.1 >>= λ s. word_at is_count s.1 >>= λ c. symbols_at b.0 s.0 c.0 c.1 >>= λ t. Ok (whole_header b.0 s.0 t.0, t.1)) x e in
    let b = bind_ok (word_at (λ _. true) m.0.1) (λ b. word_at (is_code_size b.0) b.1 >>= λ s. word_at is_count s.1 >>= λ c. symbols_at b.0 s.0 c.0 c.1 >>= λ t. Ok (whole_header b.0 s.0 t.0, t.1)) x m.2 in
    let s = bind_ok (word_at (is_code_size b.0.0) b.0.1) (λ s. word_at is_count s.1 >>= λ c. symbols_at b.0.0 s.0 c.0 c.1 >>= λ t. Ok (whole_header b.0.0 s.0 t.0, t.1)) x b.2 in
    let c = bind_ok (word_at is_count s.0.1) (λ c. symbols_at b.0.0 s.0.0 c.0 c.1 >>= λ t. Ok (whole_header b.0.0 s.0.0 t.0, t.1)) x s.2 in
    let t = bind_ok (symbols_at b.0.0 s.0.0 c.0.0 c.0.1) (λ t. Ok (whole_header b.0.0 s.0.0 t.0, t.1)) x c.2 in
    let tm = word_takes is_magic r m.0 fits m.1 in
    let tb = word_takes (λ _. true) m.0.1 b.0 tm.0.rest_fits b.1 in
    let ts = word_takes (is_code_size b.0.0) b.0.1 s.0 tb.0.rest_fits s.1 in
    let tc = word_takes is_count s.0.1 c.0 ts.0.rest_fits c.1 in
    let t' = symbols_take b.0.0 s.0.0 c.0.0 c.0.1 t.0 tc.0.rest_fits t.1 in
    let text : List ℕ = table_bytes t.0.0 in
    let magic : Takes r (word_bytes magic_word) m.0.1 = subst (λ n. Takes r (word_bytes n) m.0.1) (true_magic m.0.0 tm.1) tm.0 in
    let few : Takes s.0.1 (word_bytes (length t.0.0)) c.0.1 = subst (λ n. Takes s.0.1 (word_bytes n) c.0.1) (sym t'.1) tc.0 in
    let e4 = Takes-then s.0.1 (word_bytes (length t.0.0)) c.0.1 text t.0.1 few t'.0 in
    let e3 = Takes-then b.0.1 (word_bytes s.0.0) s.0.1 (word_bytes (length t.0.0) ++ text) t.0.1 ts.0 e4 in
    let e2 = Takes-then m.0.1 (word_bytes b.0.0) b.0.1 (word_bytes s.0.0 ++ (word_bytes (length t.0.0) ++ text)) t.0.1 tb.0 e3 in
    let e1 = Takes-then r (word_bytes magic_word) m.0.1 (word_bytes b.0.0 ++ (word_bytes s.0.0 ++ (word_bytes (length t.0.0) ++ text))) t.0.1 magic e2 in
    let sized = true_size b.0.0 s.0.0 ts.1 in
    let counted = true_count c.0.0 tc.1 in
    let made' : Header × Rest = (whole_header b.0.0 s.0.0 t.0.0, t.0.1) in
    subst (λ (y : Header × Rest). Takes r (header_bytes y.0.base y.0.size y.0.symbols) y.1 × IsHeader y.0) (ok_is made' x t.2)
    (e1, record { base = tb.2; size = sized.0; ends = sized.1; count = omega (arith, t'.1); symbols = t'.2 })

record IsCode (base size : ℕ) (from : List ℕ) (c : MachineCode) : Type 0 where
  is : c ≡ record { base = base; bytes = from }
  long : length from ≡ size

code_takes : (base size : ℕ) (r : Rest) (c : MachineCode) → IsBytes r.bytes → code_at base size r ≡ Ok c → IsCode base size r.bytes c
unfolding code_at
code_takes base size r c fits e =
    let f = bind_ok (field_at size r) (λ f. checked (length f.1.bytes == 0) f.1.at (record { base = base; bytes = f.0 })) c e in
    let t = field_takes size r f.0 fits f.1 in
    let g = checked_ok (length f.0.1.bytes == 0) f.0.1.at (record { base = base; bytes = f.0.0 }) c f.2 in
    let nothing : f.0.1.bytes ≡ [] = nil_from_length f.0.1.bytes (eqb-true _ _ g.0) in
    let all : r.bytes ≡ f.0.0 = t.0.parts ∙ ap (λ (more : List ℕ). f.0.0 ++ more) nothing ∙ append-nil f.0.0 in
    record { is = sym g.1 ∙ ap (λ (bs : List ℕ). let made : MachineCode = record { base = base; bytes = bs } in made) (sym all); long = ap length all ∙ t.1 }

pub image_takes : (bytes : List ℕ) (i : Image) → IsBytes bytes → image_of bytes ≡ Ok i → IsImage i × (bytes ≡ image_bytes i)
unfolding image_of
image_takes bytes i fits e =
    let x = bind_ok (header_at (record { at = 0; bytes = bytes })) (λ x. code_at x.0.base x.0.size x.1 >>= λ code. Ok (record { code = code; symbols = x.0.symbols })) i e in
    let c = bind_ok (code_at x.0.0.base x.0.0.size x.0.1) (λ code. Ok (record { code = code; symbols = x.0.0.symbols })) i x.2 in
    let t = header_takes (record { at = 0; bytes = bytes }) x.0 fits x.1 in
    let k = code_takes x.0.0.base x.0.0.size x.0.1 c.0 t.0.rest_fits c.1 in
    let head = t.1 in
    let long = k.long in
    let sizes : AllByRecursion (IsSymbol x.0.0.base (length x.0.1.bytes)) x.0.0.symbols = subst (λ n. AllByRecursion (IsSymbol x.0.0.base n) x.0.0.symbols) (sym long) head.symbols in
    let parts : bytes ≡ header_bytes x.0.0.base (length x.0.1.bytes) x.0.0.symbols ++ x.0.1.bytes = t.0.parts ∙ ap (λ n. header_bytes x.0.0.base n x.0.0.symbols ++ x.0.1.bytes) (sym long) in
    let made' : MachineCode → Image = λ code. record { code = code; symbols = x.0.0.symbols } in
    let at_code : IsImage (made' (record { base = x.0.0.base; bytes = x.0.1.bytes })) × (bytes ≡ image_bytes (made' (record { base = x.0.0.base; bytes = x.0.1.bytes }))) =
    (record { base = head.base; size = omega (arith, head.size); ends = omega (arith, head.ends); count = head.count; symbols = sizes }, parts) in
    let P : Image → Type 0 = λ y. IsImage y × (bytes ≡ image_bytes y) in
    subst P (ok_is (made' c.0) i c.2) (subst (λ (code : MachineCode). P (made' code)) (sym k.is) at_code)

-- ---- what a reader answers that gives what the fields give

pub is_read : (bytes : List ℕ) (r : Result Image ImageError) → IsBytes bytes → Gives (λ i. i) r (image_of bytes) → IfOk r (λ i. IsFileOf i bytes)
is_read bytes (Ok i) fits given = image_takes bytes i fits given
is_read bytes (Err e) fits given = tt

pub is_answer : (i : Image) (r : Result Image ImageError) → Gives (λ j. j) r (Ok i) → Answers i r
is_answer i (Ok j) given = cc
is_answer i (Err (BadImage at)) given = absurd cc
is_answer i (Err Memory) given = tt

pub is_refusal : (at : ℕ) (r : Result Image ImageError) → Gives (λ j. j) r (Err at) → Refuses at r
is_refusal at (Ok j) given = absurd cc
is_refusal at (Err (BadImage b)) given = cc
is_refusal at (Err Memory) given = tt
