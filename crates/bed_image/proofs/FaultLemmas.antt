-- Reading stops at the first fault, and where it stops is one.
use Rattle.std.proofs.Common.{◌≡◌, ℕ, zero, suc, ◌+◌, ◌<◌, ◌≤◌, ◌⊎◌, Bool, true, false, ltb, List, [], ◌∷◌, ◌++◌, length, take, drop, Result, Ok, Err, refl, sym, ap, subst, ◌∙◌, append_assoc, arith, inl, inr, length-append}
use Rattle.std.specs.Prelude.{slice_index, codes, ◌==◌}
use Rattle.std.specs.List.{flat_map, AllByRecursion}
use Rattle.std.specs.Int.{w32, from_le_bytes}
use Rattle.std.proofs.lemmas.Bool.{cases_lt, lt-ltb, le-ltb}
use Rattle.std.proofs.lemmas.Bool.Decides.{nat_tests}
use Rattle.std.proofs.lemmas.List.{append-nil, take-append-drop, length-take}
use Rattle.std.proofs.lemmas.List.Concat.{flat_map-cons}
use Rattle.bed_lang.specs.Numbers.{word_bytes}
use Rattle.bed_machine.specs.MachineCode.{MachineCode}
use Rattle.bed_image.specs.declared.image.Symbol.{Symbol}
use Rattle.bed_image.specs.declared.image.Image.{Image}
use Rattle.bed_image.specs.declared.reading.Header.{Header}
use Rattle.bed_image.specs.Format.{symbol_bytes, header_bytes, IsSymbol, IsImage, image_bytes}
use Rattle.bed_image.specs.Faults.{magic_word, is_magic, is_code_size, is_count, is_kind, is_address, is_name_size, is_printing, IsNextInSymbol, Kind, Address, NameSize, Name, IsNextInTable, InSymbol, IsNext, Magic, Base, CodeSize, Count, InTable, Code, IsFault, Ends, Bad, After}
use Rattle.bed_image.specs.Reading.{Rest, ◌>>=◌, checked, field_at, byte_at, word_at, text_at, symbol_at, symbols_at, header_at, code_at, image_of}
use Rattle.bed_image.proofs.FieldLemmas.{Reads, field_reads, byte_reads, word_reads, IsBytes, Takes, byte_takes, word_takes}
use Rattle.bed_image.proofs.SymbolLemmas.{symbol_reads, symbol_takes}
use Rattle.bed_image.proofs.ImageLemmas.{size_true, true_size, count_true, true_count, true_magic, header_reads, whole_header, image_more, IsHeader, header_takes}

-- ---- a fault is where reading stops

-- behind these bytes, reading stops where a field of so many bytes ends early or fails its test
record Stops {A : Type 0} (front : List ℕ) (r : Rest → Result A ℕ) (n : ℕ) (good : List ℕ → Bool) : Type 0 where
  ends : (at : ℕ) (rest : List ℕ) → length rest < n → r (record { at = at; bytes = front ++ rest }) ≡ Err (at + length front + length rest)
  bad : (at : ℕ) (value rest : List ℕ) → length value ≡ n → good value ≡ false → r (record { at = at; bytes = front ++ (value ++ rest) }) ≡ Err (at + length front)

field_ends : (n at : ℕ) (rest : List ℕ) → length rest < n → field_at n (record { at = at; bytes = rest }) ≡ Err (at + length rest)
unfolding field_at
field_ends n at rest lt = let test : ltb (length rest) n ≡ true = lt-ltb _ _ lt in rw test refl

-- the test of a field at this offset
abbrev judge : {A : Type 0} → (List ℕ → Bool) → (List ℕ → A) → ℕ → List ℕ × Rest → Result (A × Rest) ℕ
judge good view at f = checked (good f.0) at (view f.0, f.1)

here : {A : Type 0} (n : ℕ) (good : List ℕ → Bool) (view : List ℕ → A) → Stops {A = A × Rest} [] (λ u. field_at n u >>= judge good view u.at) n good
here {A} n good view = record {
  ends = λ at rest lt.
      let k : at + length rest ≡ at + 0 + length rest = omega arith in
      ap (λ q. q >>= judge good view at) (field_ends n at rest lt) ∙ ap (λ e. Err e) k;
  bad = λ at value rest len b.
      let k : at ≡ at + 0 = omega arith in
      let pair : A × Rest = (view value, record { at = at + length value; bytes = rest }) in
      ap (λ q. q >>= judge good view at) ((field_reads n value len).again at rest)
      ∙ ap (λ t. checked t at pair) b
      ∙ ap (λ e. Err e) k;
}

-- whatever follows the reading
first : {A B : Type 0} (front : List ℕ) (r : Rest → Result A ℕ) (k : A → Result B ℕ) (n : ℕ) (good : List ℕ → Bool) → Stops front r n good → Stops front (λ u. r u >>= k) n good
first front r k n good h = record {
  ends = λ at rest lt. ap (λ q. q >>= k) (h.ends at rest lt);
  bad = λ at value rest len b. ap (λ q. q >>= k) (h.bad at value rest len b);
}

-- behind what was read
then : {A B : Type 0} (r : Rest → Result (A × Rest) ℕ) (s : A → Rest → Result B ℕ) (text : List ℕ) (v : A) (front : List ℕ) (n : ℕ) (good : List ℕ → Bool)
    → Reads r text v → Stops front (s v) n good → Stops (text ++ front) (λ u. r u >>= λ x. s x.0 x.1) n good
then r s text v front n good read h = record {
  ends = λ at rest lt.
      let k : at + length text + length front + length rest ≡ at + length (text ++ front) + length rest = omega (arith, length-append text front) in
      ap (λ (bytes : List ℕ). r (record { at = at; bytes = bytes }) >>= λ x. s x.0 x.1) (append_assoc text front rest)
      ∙ ap (λ q. q >>= λ x. s x.0 x.1) (read.again at (front ++ rest))
      ∙ h.ends (at + length text) rest lt
      ∙ ap (λ e. Err e) k;
  bad = λ at value rest len b.
      let k : at + length text + length front ≡ at + length (text ++ front) = omega (arith, length-append text front) in
      ap (λ (bytes : List ℕ). r (record { at = at; bytes = bytes }) >>= λ x. s x.0 x.1) (append_assoc text front (value ++ rest))
      ∙ ap (λ q. q >>= λ x. s x.0 x.1) (read.again at (front ++ (value ++ rest)))
      ∙ h.bad (at + length text) value rest len b
      ∙ ap (λ e. Err e) k;
}

byte_stops : (good : ℕ → Bool) → Stops [] (byte_at good) 1 (λ f. good (slice_index f 0))
unfolding byte_at
byte_stops good = here 1 (λ f. good (slice_index f 0)) (λ f. slice_index f 0)

word_stops : (good : ℕ → Bool) → Stops [] (word_at good) 4 (λ f. good (from_le_bytes w32 f))
unfolding word_at
word_stops good = here 4 (λ f. good (from_le_bytes w32 f)) (from_le_bytes w32)

text_stops : (n : ℕ) (good : List ℕ → Bool) → Stops [] (text_at n good) n good
unfolding text_at
text_stops n good = here n good (λ f. f)

abbrev whole : ℕ → ℕ → List ℕ → Symbol
whole k a t = record { kind = k; address = a; name = t }

symbol_stops : (base size : ℕ) (front : List ℕ) (n : ℕ) (good : List ℕ → Bool) → IsNextInSymbol base size front n good → Stops front (symbol_at base size) n good
unfolding symbol_at
symbol_stops base size front n good Kind =
    first [] (byte_at is_kind)
    (λ k. word_at (is_address base size k.0) k.1 >>= λ a. byte_at is_name_size a.1 >>= λ c. text_at c.0 is_printing c.1 >>= λ t. Ok (whole k.0 a.0 t.0, t.1))
    1 (λ f. is_kind (slice_index f 0)) (byte_stops is_kind)
symbol_stops base size front n good (Address k ek) =
    then (byte_at is_kind)
    (λ k r. word_at (is_address base size k) r >>= λ a. byte_at is_name_size a.1 >>= λ c. text_at c.0 is_printing c.1 >>= λ t. Ok (whole k a.0 t.0, t.1))
    (k ∷ []) k [] 4 (λ f. is_address base size k (from_le_bytes w32 f)) (byte_reads is_kind k ek)
    (first [] (word_at (is_address base size k))
    (λ a. byte_at is_name_size a.1 >>= λ c. text_at c.0 is_printing c.1 >>= λ t. Ok (whole k a.0 t.0, t.1))
    4 (λ f. is_address base size k (from_le_bytes w32 f)) (word_stops (is_address base size k)))
symbol_stops base size front n good (NameSize k a ek low ea) =
    then (byte_at is_kind)
    (λ k r. word_at (is_address base size k) r >>= λ a. byte_at is_name_size a.1 >>= λ c. text_at c.0 is_printing c.1 >>= λ t. Ok (whole k a.0 t.0, t.1))
    (k ∷ []) k (word_bytes a ++ []) 1 (λ f. is_name_size (slice_index f 0)) (byte_reads is_kind k ek)
    (then (word_at (is_address base size k))
    (λ a r. byte_at is_name_size r >>= λ c. text_at c.0 is_printing c.1 >>= λ t. Ok (whole k a t.0, t.1))
    (word_bytes a) a [] 1 (λ f. is_name_size (slice_index f 0)) (word_reads (is_address base size k) a low ea)
    (first [] (byte_at is_name_size) (λ c. text_at c.0 is_printing c.1 >>= λ t. Ok (whole k a t.0, t.1))
    1 (λ f. is_name_size (slice_index f 0)) (byte_stops is_name_size)))
symbol_stops base size front n good (Name k a c ek low ea ec) =
    then (byte_at is_kind)
    (λ k r. word_at (is_address base size k) r >>= λ a. byte_at is_name_size a.1 >>= λ c. text_at c.0 is_printing c.1 >>= λ t. Ok (whole k a.0 t.0, t.1))
    (k ∷ []) k (word_bytes a ++ ((c ∷ []) ++ [])) c is_printing (byte_reads is_kind k ek)
    (then (word_at (is_address base size k))
    (λ a r. byte_at is_name_size r >>= λ c. text_at c.0 is_printing c.1 >>= λ t. Ok (whole k a t.0, t.1))
    (word_bytes a) a ((c ∷ []) ++ []) c is_printing (word_reads (is_address base size k) a low ea)
    (then (byte_at is_name_size) (λ c r. text_at c is_printing r >>= λ t. Ok (whole k a t.0, t.1))
    (c ∷ []) c [] c is_printing (byte_reads is_name_size c ec)
    (first [] (text_at c is_printing) (λ t. Ok (whole k a t.0, t.1)) c is_printing (text_stops c is_printing))))

symbols_stop : (base size count : ℕ) (ss : List Symbol) (front : List ℕ) (n : ℕ) (good : List ℕ → Bool) → length ss < count → AllByRecursion (IsSymbol base size) ss
    → Stops front (symbol_at base size) n good → Stops (flat_map symbol_bytes ss ++ front) (symbols_at base size count) n good
unfolding symbols_at
symbols_stop base size zero ss front n good lt all h = absurd (omega arith)
symbols_stop base size (suc c) [] front n good lt all h =
    first front (symbol_at base size) (λ s. symbols_at base size c s.1 >>= λ more. Ok (s.0 ∷ more.0, more.1)) n good h
symbols_stop base size (suc c) (s ∷ ss) front n good lt all h =
    let rest = first (flat_map symbol_bytes ss ++ front) (symbols_at base size c) (λ more. Ok (s ∷ more.0, more.1)) n good
    (symbols_stop base size c ss front n good (omega arith) all.1 h) in
    let made = then (symbol_at base size) (λ s r. symbols_at base size c r >>= λ more. Ok (s ∷ more.0, more.1))
    (symbol_bytes s) s (flat_map symbol_bytes ss ++ front) n good (symbol_reads base size s all.0) rest in
    let text : symbol_bytes s ++ (flat_map symbol_bytes ss ++ front) ≡ flat_map symbol_bytes (s ∷ ss) ++ front =
    sym (append_assoc (symbol_bytes s) (flat_map symbol_bytes ss) front) ∙ ap (λ (t : List ℕ). t ++ front) (sym (flat_map-cons symbol_bytes s ss)) in
    subst (λ (t : List ℕ). Stops t (symbols_at base size (suc c)) n good) text made

table_stops : (base size count : ℕ) (front : List ℕ) (n : ℕ) (good : List ℕ → Bool) → IsNextInTable base size count front n good → Stops front (symbols_at base size count) n good
table_stops base size count front n good (InSymbol ss f m g lt all h) = symbols_stop base size count ss f m g lt all (symbol_stops base size f m g h)

-- an image from a rest on
abbrev image_at : Rest → Result Image ℕ
image_at r = header_at r >>= λ x. code_at x.0.base x.0.size x.1 >>= λ code. Ok (record { code = code; symbols = x.0.symbols })

abbrev after_header : Header × Rest → Result Image ℕ
after_header x = code_at x.0.base x.0.size x.1 >>= λ code. Ok (record { code = code; symbols = x.0.symbols })

magic_reads : Reads (word_at is_magic) (codes "BIM1") magic_word
magic_reads = word_reads is_magic magic_word (omega arith) refl

code_stops : (base size : ℕ) → Stops [] (code_at base size) size (λ _. true)
unfolding code_at
code_stops base size = record {
  ends = λ at rest lt.
      let k : at + length rest ≡ at + 0 + length rest = omega arith in
      ap (λ q. q >>= λ f. checked (length f.1.bytes == 0) f.1.at (record { base = base; bytes = f.0 })) (field_ends size at rest lt) ∙ ap (λ e. Err e) k;
  bad = λ at value rest len b. absurd cc;
}

next_stops : (front : List ℕ) (n : ℕ) (good : List ℕ → Bool) → IsNext front n good → Stops front image_at n good
unfolding header_at
next_stops front n good Magic =
    first [] header_at after_header 4 (λ f. is_magic (from_le_bytes w32 f))
    (first [] (word_at is_magic)
    (λ m. word_at (λ _. true) m.1 >>= λ b. word_at (is_code_size b.0) b.1 >>= λ s. word_at is_count s.1 >>= λ c. symbols_at b.0 s.0 c.0 c.1 >>= λ t. Ok (whole_header b.0 s.0 t.0, t.1))
    4 (λ f. is_magic (from_le_bytes w32 f)) (word_stops is_magic))
next_stops front n good Base =
    first (codes "BIM1") header_at after_header 4 (λ _. true)
    (then (word_at is_magic)
    (λ m r. word_at (λ _. true) r >>= λ b. word_at (is_code_size b.0) b.1 >>= λ s. word_at is_count s.1 >>= λ c. symbols_at b.0 s.0 c.0 c.1 >>= λ t. Ok (whole_header b.0 s.0 t.0, t.1))
    (codes "BIM1") magic_word [] 4 (λ _. true) magic_reads
    (first [] (word_at (λ _. true))
    (λ b. word_at (is_code_size b.0) b.1 >>= λ s. word_at is_count s.1 >>= λ c. symbols_at b.0 s.0 c.0 c.1 >>= λ t. Ok (whole_header b.0 s.0 t.0, t.1))
    4 (λ _. true) (word_stops (λ _. true))))
next_stops front n good (CodeSize base low) =
    first (codes "BIM1" ++ word_bytes base) header_at after_header 4 (λ f. is_code_size base (from_le_bytes w32 f))
    (then (word_at is_magic)
    (λ m r. word_at (λ _. true) r >>= λ b. word_at (is_code_size b.0) b.1 >>= λ s. word_at is_count s.1 >>= λ c. symbols_at b.0 s.0 c.0 c.1 >>= λ t. Ok (whole_header b.0 s.0 t.0, t.1))
    (codes "BIM1") magic_word (word_bytes base ++ []) 4 (λ f. is_code_size base (from_le_bytes w32 f)) magic_reads
    (then (word_at (λ _. true))
    (λ b r. word_at (is_code_size b) r >>= λ s. word_at is_count s.1 >>= λ c. symbols_at b s.0 c.0 c.1 >>= λ t. Ok (whole_header b s.0 t.0, t.1))
    (word_bytes base) base [] 4 (λ f. is_code_size base (from_le_bytes w32 f)) (word_reads (λ _. true) base low refl)
    (first [] (word_at (is_code_size base))
    (λ s. word_at is_count s.1 >>= λ c. symbols_at base s.0 c.0 c.1 >>= λ t. Ok (whole_header base s.0 t.0, t.1))
    4 (λ f. is_code_size base (from_le_bytes w32 f)) (word_stops (is_code_size base)))))
next_stops front n good (Count base size low es) =
    let short = true_size base size es in
    let small = short.0 in
    first (codes "BIM1" ++ (word_bytes base ++ word_bytes size)) header_at after_header 4 (λ f. is_count (from_le_bytes w32 f))
    (then (word_at is_magic)
    (λ m r. word_at (λ _. true) r >>= λ b. word_at (is_code_size b.0) b.1 >>= λ s. word_at is_count s.1 >>= λ c. symbols_at b.0 s.0 c.0 c.1 >>= λ t. Ok (whole_header b.0 s.0 t.0, t.1))
    (codes "BIM1") magic_word (word_bytes base ++ (word_bytes size ++ [])) 4 (λ f. is_count (from_le_bytes w32 f)) magic_reads
    (then (word_at (λ _. true))
    (λ b r. word_at (is_code_size b) r >>= λ s. word_at is_count s.1 >>= λ c. symbols_at b s.0 c.0 c.1 >>= λ t. Ok (whole_header b s.0 t.0, t.1))
    (word_bytes base) base (word_bytes size ++ []) 4 (λ f. is_count (from_le_bytes w32 f)) (word_reads (λ _. true) base low refl)
    (then (word_at (is_code_size base))
    (λ s r. word_at is_count r >>= λ c. symbols_at base s c.0 c.1 >>= λ t. Ok (whole_header base s t.0, t.1))
    (word_bytes size) size [] 4 (λ f. is_count (from_le_bytes w32 f)) (word_reads (is_code_size base) size (omega arith) es)
    (first [] (word_at is_count)
    (λ c. symbols_at base size c.0 c.1 >>= λ t. Ok (whole_header base size t.0, t.1))
    4 (λ f. is_count (from_le_bytes w32 f)) (word_stops is_count)))))
next_stops front n good (InTable base size count f m g low es ec h) =
    let short = true_size base size es in
    let small = short.0 in
    let few = true_count count ec in
    first (codes "BIM1" ++ (word_bytes base ++ (word_bytes size ++ (word_bytes count ++ f)))) header_at after_header m g
    (then (word_at is_magic)
    (λ m r. word_at (λ _. true) r >>= λ b. word_at (is_code_size b.0) b.1 >>= λ s. word_at is_count s.1 >>= λ c. symbols_at b.0 s.0 c.0 c.1 >>= λ t. Ok (whole_header b.0 s.0 t.0, t.1))
    (codes "BIM1") magic_word (word_bytes base ++ (word_bytes size ++ (word_bytes count ++ f))) m g magic_reads
    (then (word_at (λ _. true))
    (λ b r. word_at (is_code_size b) r >>= λ s. word_at is_count s.1 >>= λ c. symbols_at b s.0 c.0 c.1 >>= λ t. Ok (whole_header b s.0 t.0, t.1))
    (word_bytes base) base (word_bytes size ++ (word_bytes count ++ f)) m g (word_reads (λ _. true) base low refl)
    (then (word_at (is_code_size base))
    (λ s r. word_at is_count r >>= λ c. symbols_at base s c.0 c.1 >>= λ t. Ok (whole_header base s t.0, t.1))
    (word_bytes size) size (word_bytes count ++ f) m g (word_reads (is_code_size base) size (omega arith) es)
    (then (word_at is_count)
    (λ c r. symbols_at base size c r >>= λ t. Ok (whole_header base size t.0, t.1))
    (word_bytes count) count f m g (word_reads is_count count (omega arith) ec)
    (first f (symbols_at base size count) (λ t. Ok (whole_header base size t.0, t.1)) m g (table_stops base size count f m g h))))))
next_stops front n good (Code base size ss low es ec all) =
    let short = true_size base size es in
    let few = true_count (length ss) ec in
    let read = header_reads base size ss low short.0 short.1 few all in
    let nothing : header_bytes base size ss ++ [] ≡ header_bytes base size ss = append-nil (header_bytes base size ss) in
    subst (λ (t : List ℕ). Stops t image_at size (λ _. true)) nothing
    (then header_at (λ x r. code_at x.base x.size r >>= λ code. Ok (record { code = code; symbols = x.symbols }))
    (header_bytes base size ss) (whole_header base size ss) [] size (λ _. true) read
    (first [] (code_at base size) (λ code. Ok (record { code = code; symbols = ss })) size (λ _. true) (code_stops base size)))

pub fault_told : (bytes : List ℕ) (at : ℕ) → IsFault bytes at → image_of bytes ≡ Err at
unfolding image_of
fault_told bytes at (Ends front rest n good h lt e) =
    let k : 0 + length front + length rest ≡ length bytes = omega (arith, ap length e, length-append front rest) in
    ap (λ (bs : List ℕ). image_at (record { at = 0; bytes = bs })) e ∙ (next_stops front n good h).ends 0 rest lt ∙ ap (λ a. Err a) k
fault_told bytes at (Bad front value rest good h b e) =
    let k : 0 + length front ≡ length front = omega arith in
    ap (λ (bs : List ℕ). image_at (record { at = 0; bytes = bs })) e ∙ (next_stops front (length value) good h).bad 0 value rest refl b ∙ ap (λ a. Err a) k
fault_told bytes at (After i rest h some e) = ap image_of e ∙ image_more i h rest some

-- ---- where reading stops is a fault

-- reading from here stops at e, where a field that comes next ends early or fails its test
data Stopped (N : List ℕ → ℕ → (List ℕ → Bool) → Type 0) (u : Rest) (e : ℕ) : Type 0 where
  TooShort : (front rest : List ℕ) (n : ℕ) (good : List ℕ → Bool) → N front n good → length rest < n → u.bytes ≡ front ++ rest → e ≡ u.at + length u.bytes → Stopped N u e
  Failed : (front value rest : List ℕ) (good : List ℕ → Bool) → N front (length value) good → good value ≡ false → u.bytes ≡ front ++ (value ++ rest) → e ≡ u.at + length front → Stopped N u e

abbrev failed : {A : Type 0} → ℕ → Result A ℕ
failed at = Err at

err_is : {A : Type 0} (a b : ℕ) → failed {A = A} a ≡ failed b → a ≡ b
err_is a b e = cc

-- which step failed
bind_err : {A B : Type 0} (r : Result A ℕ) (f : A → Result B ℕ) (e : ℕ) → (r >>= f) ≡ Err e → (r ≡ Err e) ⊎ ((x : A) × (r ≡ Ok x) × (f x ≡ Err e))
bind_err (Ok x) f e h = inr (x, refl, h)
bind_err {B = B} (Err d) f e h = inl (ap (λ a. Err a) (err_is {A = B} d e h))

checked_err : {A : Type 0} (b : Bool) (at : ℕ) (x : A) (e : ℕ) → checked b at x ≡ Err e → (b ≡ false) × (e ≡ at)
checked_err true at x e h = absurd cc
checked_err false at x e h = (refl, cc)

field_short : (n : ℕ) (u : Rest) → length u.bytes < n → field_at n u ≡ Err (u.at + length u.bytes)
field_short n u lt = field_ends n u.at u.bytes lt

field_whole : (n : ℕ) (u : Rest) → n ≤ length u.bytes → field_at n u ≡ Ok (take n u.bytes, record { at = u.at + n; bytes = drop n u.bytes })
unfolding field_at
field_whole n u le = let test : ltb (length u.bytes) n ≡ false = le-ltb _ _ le in rw test refl

module _ {A : Type 0} (N : List ℕ → ℕ → (List ℕ → Bool) → Type 0) (n : ℕ) (good : List ℕ → Bool) (view : List ℕ → A) (u : Rest) (e : ℕ) (next : N [] n good)
    (h : (field_at n u >>= judge good view u.at) ≡ Err e) where
  judged_stopped : Stopped N u e
  judged_stopped = elim (cases_lt (length u.bytes) n) [
    | inl lt ↦
        let k : failed {A = A × Rest} (u.at + length u.bytes) ≡ failed e = sym (ap (λ q. q >>= judge good view u.at) (field_short n u lt)) ∙ h in
        TooShort [] u.bytes n good next lt refl (sym (err_is {A = A × Rest} (u.at + length u.bytes) e k))
    | inr le ↦
        let value : List ℕ = take n u.bytes in
        let len : length value ≡ n = omega (arith, length-take n u.bytes) in
        let rest : Rest = record { at = u.at + n; bytes = drop n u.bytes } in
        let pair : A × Rest = (view value, rest) in
        let k : checked (good value) u.at pair ≡ Err e = sym (ap (λ q. q >>= judge good view u.at) (field_whole n u le)) ∙ h in
        let c = checked_err (good value) u.at pair e k in
        let at = c.1 in
        Failed [] value (drop n u.bytes) good (subst (λ m. N [] m good) (sym len) next) c.0 (sym (take-append-drop n u.bytes)) (omega arith)
  ]

byte_stopped : (N : List ℕ → ℕ → (List ℕ → Bool) → Type 0) (good : ℕ → Bool) (u : Rest) (e : ℕ) → N [] 1 (λ f. good (slice_index f 0)) → byte_at good u ≡ Err e → Stopped N u e
unfolding byte_at
byte_stopped N good u e next h = judged_stopped N 1 (λ f. good (slice_index f 0)) (λ f. slice_index f 0) u e next h

word_stopped : (N : List ℕ → ℕ → (List ℕ → Bool) → Type 0) (good : ℕ → Bool) (u : Rest) (e : ℕ) → N [] 4 (λ f. good (from_le_bytes w32 f)) → word_at good u ≡ Err e → Stopped N u e
unfolding word_at
word_stopped N good u e next h = judged_stopped N 4 (λ f. good (from_le_bytes w32 f)) (from_le_bytes w32) u e next h

text_stopped : (N : List ℕ → ℕ → (List ℕ → Bool) → Type 0) (n : ℕ) (good : List ℕ → Bool) (u : Rest) (e : ℕ) → N [] n good → text_at n good u ≡ Err e → Stopped N u e
unfolding text_at
text_stopped N n good u e next h = judged_stopped N n good (λ f. f) u e next h

-- behind what was taken
behind : (M : List ℕ → ℕ → (List ℕ → Bool) → Type 0) (text : List ℕ) (u v : Rest) (e : ℕ) → Takes u text v → Stopped (λ front n good. M (text ++ front) n good) v e → Stopped M u e
behind M text u v e t (TooShort front rest n good next lt parts at) =
    let moves = t.moves in
    let whole : u.bytes ≡ (text ++ front) ++ rest = t.parts ∙ ap (λ (x : List ℕ). text ++ x) parts ∙ sym (append_assoc text front rest) in
    TooShort (text ++ front) rest n good next lt whole (omega (arith, ap length t.parts, length-append text v.bytes))
behind M text u v e t (Failed front value rest good next b parts at) =
    let moves = t.moves in
    let whole : u.bytes ≡ (text ++ front) ++ (value ++ rest) = t.parts ∙ ap (λ (x : List ℕ). text ++ x) parts ∙ sym (append_assoc text front (value ++ rest)) in
    Failed (text ++ front) value rest good next b whole (omega (arith, length-append text front))

-- what comes next in a part comes next in the whole
widened : (N M : List ℕ → ℕ → (List ℕ → Bool) → Type 0) (u : Rest) (e : ℕ) → ((front : List ℕ) (n : ℕ) (good : List ℕ → Bool) → N front n good → M front n good) → Stopped N u e → Stopped M u e
widened N M u e wide (TooShort front rest n good next lt parts at) = TooShort front rest n good (wide front n good next) lt parts at
widened N M u e wide (Failed front value rest good next b parts at) = Failed front value rest good (wide front (length value) good next) b parts at

symbol_stopped : (base size : ℕ) (u : Rest) (e : ℕ) → IsBytes u.bytes → symbol_at base size u ≡ Err e → Stopped (IsNextInSymbol base size) u e
unfolding symbol_at
symbol_stopped base size u e fits h = elim (bind_err (byte_at is_kind u) (λ k. word_at (is_address base size k.0) k.1 >>= λ a. byte_at is_name_size a.1 >>= λ c. text_at c.0 is_printing c.1 >>= λ t. Ok (whole k.0 a.0 t.0, t.1)) e h) [
  | inl bad ↦ byte_stopped (IsNextInSymbol base size) is_kind u e Kind bad
  | inr k ↦
      let tk = byte_takes is_kind u k.0 fits k.1 in
      behind (IsNextInSymbol base size) (k.0.0 ∷ []) u k.0.1 e tk.0
      (elim (bind_err (word_at (is_address base size k.0.0) k.0.1) (λ a. byte_at is_name_size a.1 >>= λ c. text_at c.0 is_printing c.1 >>= λ t. Ok (whole k.0.0 a.0 t.0, t.1)) e k.2) [
        | inl bad ↦ word_stopped (λ front n good. IsNextInSymbol base size ((k.0.0 ∷ []) ++ front) n good) (is_address base size k.0.0) k.0.1 e (Address k.0.0 tk.1) bad
        | inr a ↦
            let ta = word_takes (is_address base size k.0.0) k.0.1 a.0 tk.0.rest_fits a.1 in
            behind (λ front n good. IsNextInSymbol base size ((k.0.0 ∷ []) ++ front) n good) (word_bytes a.0.0) k.0.1 a.0.1 e ta.0
            (elim (bind_err (byte_at is_name_size a.0.1) (λ c. text_at c.0 is_printing c.1 >>= λ t. Ok (whole k.0.0 a.0.0 t.0, t.1)) e a.2) [
              | inl bad ↦ byte_stopped (λ front n good. IsNextInSymbol base size ((k.0.0 ∷ []) ++ (word_bytes a.0.0 ++ front)) n good) is_name_size a.0.1 e (NameSize k.0.0 a.0.0 tk.1 ta.2 ta.1) bad
              | inr c ↦
                  let tc = byte_takes is_name_size a.0.1 c.0 ta.0.rest_fits c.1 in
                  behind (λ front n good. IsNextInSymbol base size ((k.0.0 ∷ []) ++ (word_bytes a.0.0 ++ front)) n good) (c.0.0 ∷ []) a.0.1 c.0.1 e tc.0
                  (elim (bind_err (text_at c.0.0 is_printing c.0.1) (λ t. Ok (whole k.0.0 a.0.0 t.0, t.1)) e c.2) [
                    | inl bad ↦ text_stopped (λ front n good. IsNextInSymbol base size ((k.0.0 ∷ []) ++ (word_bytes a.0.0 ++ ((c.0.0 ∷ []) ++ front))) n good) c.0.0 is_printing c.0.1 e (Name k.0.0 a.0.0 c.0.0 tk.1 ta.2 ta.1 tc.1) bad
                    | inr t ↦ let no = t.2 in absurd cc
                  ])
            ])
      ])
]

pushed : (base size c : ℕ) (s : Symbol) (front : List ℕ) (n : ℕ) (good : List ℕ → Bool) → IsSymbol base size s → IsNextInTable base size c front n good → IsNextInTable base size (suc c) (symbol_bytes s ++ front) n good
pushed base size c s front n good hs (InSymbol ss f m g lt all next) =
    let text : flat_map symbol_bytes (s ∷ ss) ++ f ≡ symbol_bytes s ++ (flat_map symbol_bytes ss ++ f) =
    ap (λ (t : List ℕ). t ++ f) (flat_map-cons symbol_bytes s ss) ∙ append_assoc (symbol_bytes s) (flat_map symbol_bytes ss) f in
    subst (λ (t : List ℕ). IsNextInTable base size (suc c) t m g) text (InSymbol (s ∷ ss) f m g (omega arith) (hs, all) next)

symbols_stopped : (base size count : ℕ) (u : Rest) (e : ℕ) → IsBytes u.bytes → symbols_at base size count u ≡ Err e → Stopped (IsNextInTable base size count) u e
unfolding symbols_at
symbols_stopped base size zero u e fits h = absurd cc
symbols_stopped base size (suc c) u e fits h = elim (bind_err (symbol_at base size u) (λ s. symbols_at base size c s.1 >>= λ more. Ok (s.0 ∷ more.0, more.1)) e h) [
  | inl bad ↦
      widened (IsNextInSymbol base size) (IsNextInTable base size (suc c)) u e (λ front n good next. InSymbol [] front n good (omega arith) tt next)
      (symbol_stopped base size u e fits bad)
  | inr s ↦
      let ts = symbol_takes base size u s.0 fits s.1 in
      elim (bind_err (symbols_at base size c s.0.1) (λ more. Ok (s.0.0 ∷ more.0, more.1)) e s.2) [
        | inl bad ↦
            behind (IsNextInTable base size (suc c)) (symbol_bytes s.0.0) u s.0.1 e ts.0
            (widened (IsNextInTable base size c) (λ front n good. IsNextInTable base size (suc c) (symbol_bytes s.0.0 ++ front) n good) s.0.1 e
            (λ front n good next. pushed base size c s.0.0 front n good ts.1 next) (symbols_stopped base size c s.0.1 e ts.0.rest_fits bad))
        | inr more ↦ let no = more.2 in absurd cc
      ]
]

header_stopped : (u : Rest) (e : ℕ) → IsBytes u.bytes → header_at u ≡ Err e → Stopped IsNext u e
unfolding header_at
header_stopped u e fits h = elim (bind_err (word_at is_magic u) (λ m. word_at (λ _. true) m.1 >>= λ b. word_at (is_code_size b.0) b.1 >>= λ s. word_at is_count s.1 >>= λ c. symbols_at b.0 s.0 c.0 c.1 >>= λ t. Ok (whole_header b.0 s.0 t.0, t.1)) e h) [
  | inl bad ↦ word_stopped IsNext is_magic u e Magic bad
  | inr m ↦
      let tm = word_takes is_magic u m.0 fits m.1 in
      let magic : Takes u (codes "BIM1") m.0.1 = subst (λ n. Takes u (word_bytes n) m.0.1) (true_magic m.0.0 tm.1) tm.0 in
      behind IsNext (codes "BIM1") u m.0.1 e magic
      (elim (bind_err (word_at (λ _. true) m.0.1) (λ b. word_at (is_code_size b.0) b.1 >>= λ s. word_at is_count s.1 >>= λ c. symbols_at b.0 s.0 c.0 c.1 >>= λ t. Ok (whole_header b.0 s.0 t.0, t.1)) e m.2) [
        | inl bad ↦ word_stopped (λ front n good. IsNext (codes "BIM1" ++ front) n good) (λ _. true) m.0.1 e Base bad
        | inr b ↦
            let tb = word_takes (λ _. true) m.0.1 b.0 tm.0.rest_fits b.1 in
            behind (λ front n good. IsNext (codes "BIM1" ++ front) n good) (word_bytes b.0.0) m.0.1 b.0.1 e tb.0
            (elim (bind_err (word_at (is_code_size b.0.0) b.0.1) (λ s. word_at is_count s.1 >>= λ c. symbols_at b.0.0 s.0 c.0 c.1 >>= λ t. Ok (whole_header b.0.0 s.0 t.0, t.1)) e b.2) [
              | inl bad ↦ word_stopped (λ front n good. IsNext (codes "BIM1" ++ (word_bytes b.0.0 ++ front)) n good) (is_code_size b.0.0) b.0.1 e (CodeSize b.0.0 tb.2) bad
              | inr s ↦
                  let ts = word_takes (is_code_size b.0.0) b.0.1 s.0 tb.0.rest_fits s.1 in
                  behind (λ front n good. IsNext (codes "BIM1" ++ (word_bytes b.0.0 ++ front)) n good) (word_bytes s.0.0) b.0.1 s.0.1 e ts.0
                  (elim (bind_err (word_at is_count s.0.1) (λ c. symbols_at b.0.0 s.0.0 c.0 c.1 >>= λ t. Ok (whole_header b.0.0 s.0.0 t.0, t.1)) e s.2) [
                    | inl bad ↦ word_stopped (λ front n good. IsNext (codes "BIM1" ++ (word_bytes b.0.0 ++ (word_bytes s.0.0 ++ front))) n good) is_count s.0.1 e (Count b.0.0 s.0.0 tb.2 ts.1) bad
                    | inr c ↦
                        let tc = word_takes is_count s.0.1 c.0 ts.0.rest_fits c.1 in
                        behind (λ front n good. IsNext (codes "BIM1" ++ (word_bytes b.0.0 ++ (word_bytes s.0.0 ++ front))) n good) (word_bytes c.0.0) s.0.1 c.0.1 e tc.0
                        (elim (bind_err (symbols_at b.0.0 s.0.0 c.0.0 c.0.1) (λ t. Ok (whole_header b.0.0 s.0.0 t.0, t.1)) e c.2) [
                          | inl bad ↦
                              widened (IsNextInTable b.0.0 s.0.0 c.0.0) (λ front n good. IsNext (codes "BIM1" ++ (word_bytes b.0.0 ++ (word_bytes s.0.0 ++ (word_bytes c.0.0 ++ front)))) n good) c.0.1 e
                              (λ front n good next. InTable b.0.0 s.0.0 c.0.0 front n good tb.2 ts.1 tc.1 next)
                              (symbols_stopped b.0.0 s.0.0 c.0.0 c.0.1 e tc.0.rest_fits bad)
                          | inr t ↦ let no = t.2 in absurd cc
                        ])
                  ])
            ])
      ])
]

stopped_fault : (bytes : List ℕ) (e : ℕ) → Stopped IsNext (record { at = 0; bytes = bytes }) e → IsFault bytes e
stopped_fault bytes e (TooShort front rest n good next lt parts at) =
    let k : length bytes ≡ e = omega arith in
    subst (IsFault bytes) k (Ends front rest n good next lt parts)
stopped_fault bytes e (Failed front value rest good next b parts at) =
    let k : length front ≡ e = omega arith in
    subst (IsFault bytes) k (Bad front value rest good next b parts)

positive : (n : ℕ) → (n == 0) ≡ false → 0 < n
positive n h = grind (arith, nat_tests)

abbrev code_from : ℕ → List ℕ × Rest → Result MachineCode ℕ
code_from base f = checked (length f.1.bytes == 0) f.1.at (record { base = base; bytes = f.0 })

-- the code isn't whole, or something stands behind it
module _ (bytes : List ℕ) (e : ℕ) (x : Header) (u : Rest) (t : Takes (record { at = 0; bytes = bytes }) (header_bytes x.base x.size x.symbols) u) (h : IsHeader x) where
  abbrev head : List ℕ
  head = header_bytes x.base x.size x.symbols

  code_fault : code_at x.base x.size u ≡ Err e → IsFault bytes e
  unfolding code_at
  code_fault bad = elim (cases_lt (length u.bytes) x.size) [
    | inl lt ↦
        let k : failed {A = MachineCode} (u.at + length u.bytes) ≡ failed e = sym (ap (λ q. q >>= code_from x.base) (field_short x.size u lt)) ∙ bad in
        let at = err_is {A = MachineCode} (u.at + length u.bytes) e k in
        let moves = t.moves in
        let all : length bytes ≡ e = omega (arith, ap length t.parts, length-append head u.bytes) in
        subst (IsFault bytes) all (Ends head u.bytes x.size (λ _. true) (Code x.base x.size x.symbols h.base (size_true x.base x.size h.size h.ends) (count_true (length x.symbols) h.count) h.symbols) lt t.parts)
    | inr le ↦
        let code : List ℕ = take x.size u.bytes in
        let rest : List ℕ = drop x.size u.bytes in
        let len : length code ≡ x.size = omega (arith, length-take x.size u.bytes) in
        let made : MachineCode = record { base = x.base; bytes = code } in
        let k : checked (length rest == 0) (u.at + x.size) made ≡ Err e = sym (ap (λ q. q >>= code_from x.base) (field_whole x.size u le)) ∙ bad in
        let c = checked_err (length rest == 0) (u.at + x.size) made e k in
        let i : Image = record { code = made; symbols = x.symbols } in
        let sizes : AllByRecursion (IsSymbol x.base (length code)) x.symbols = subst (λ n. AllByRecursion (IsSymbol x.base n) x.symbols) (sym len) h.symbols in
        let is : IsImage i = record { base = h.base; size = omega (arith, h.size); ends = omega (arith, h.ends); count = h.count; symbols = sizes } in
        let same : head ≡ header_bytes x.base (length code) x.symbols = ap (λ n. header_bytes x.base n x.symbols) (sym len) in
        let parts : bytes ≡ image_bytes i ++ rest =
        t.parts ∙ ap (λ (more : List ℕ). head ++ more) (sym (take-append-drop x.size u.bytes)) ∙ sym (append_assoc head code rest) ∙ ap (λ (front : List ℕ). (front ++ code) ++ rest) same in
        let moves = t.moves in
        let at = c.1 in
        let all : length (image_bytes i) ≡ e = ap (λ (front : List ℕ). length (front ++ code)) (sym same) ∙ omega (arith, length-append head code) in
        subst (IsFault bytes) all (After i rest is (positive (length rest) c.0) parts)
  ]

pub fault_found : (bytes : List ℕ) (e : ℕ) → IsBytes bytes → image_of bytes ≡ Err e → IsFault bytes e
unfolding image_of
fault_found bytes e fits h = elim (bind_err (header_at (record { at = 0; bytes = bytes })) after_header e h) [
  | inl bad ↦ stopped_fault bytes e (header_stopped (record { at = 0; bytes = bytes }) e fits bad)
  | inr x ↦
      let t = header_takes (record { at = 0; bytes = bytes }) x.0 fits x.1 in
      elim (bind_err (code_at x.0.0.base x.0.0.size x.0.1) (λ code. let made : Image = record { code = code; symbols = x.0.0.symbols } in Ok made) e x.2) [
        | inl bad ↦ code_fault bytes e x.0.0 x.0.1 t.0 t.1 bad
        | inr c ↦ let no = c.2 in absurd cc
      ]
]
