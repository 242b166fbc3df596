-- What each field reads: the bytes that it takes, and that bytes that were written so are read, or are a fault where they
-- end too early.
use Rattle.std.proofs.Common.{◌≡◌, ℕ, ◌+◌, ◌-◌, ◌^◌, ◌<◌, ◌≤◌, Bool, true, false, cond, ltb, List, [], ◌∷◌, ◌++◌, length, get_or, take, drop, Result, Ok, Err, refl, sym, ap, subst, ◌∙◌, append_assoc, arith, inl, inr}
use Rattle.std.specs.Prelude.{slice_index}
use Rattle.std.specs.Int.{w32, from_le_bytes, to_le_bytes}
use Rattle.std.proofs.lemmas.Bool.{cases_lt, ltb-false, le-ltb, lt-ltb}
use Rattle.std.proofs.lemmas.List.{take_at, drop_at, take-append-drop, take-append-le, length-append, length-take, get_or-drop, get_or-take, get_or_past}
use Rattle.std.proofs.Math.Seq.{take-append-add}
use Rattle.std.proofs.lemmas.Nat.{le_bytes_4, from_le_bytes-to_le_bytes_4}
use Rattle.bed_lang.specs.Numbers.{word_bytes}
use Rattle.bed_image.specs.Reading.{Rest, ◌>>=◌, checked, field_at, byte_at, word_at, text_at}

-- ---- what was written is read again

-- bytes that are read as a value, whatever follows them; each beginning of them ends too early
pub record Reads {A : Type 0} (r : Rest → Result (A × Rest) ℕ) (text : List ℕ) (v : A) : Type 0 where
  pub again : (at : ℕ) (rest : List ℕ) → r (record { at = at; bytes = text ++ rest }) ≡ Ok (v, record { at = at + length text; bytes = rest })
  pub cut : (at n : ℕ) → n < length text → r (record { at = at; bytes = take n text }) ≡ Err (at + n)

pub field_reads : (size : ℕ) (text : List ℕ) → length text ≡ size → Reads (field_at size) text text
unfolding field_at
field_reads size text len = record {
  again = λ at rest.
      let long : ltb (length (text ++ rest)) size ≡ false = le-ltb _ _ (omega (arith, length-append text rest)) in
      rw (long, take_at text rest size len, drop_at text rest size len, len) refl;
  cut = λ at n lt.
      let short : length (take n text) ≡ n = omega (arith, length-take n text) in
      let test : ltb (length (take n text)) size ≡ true = lt-ltb _ _ (omega arith) in
      rw (test, short) refl;
}

-- a field that passes its test
pub judged : {A B : Type 0} (r : Rest → Result (A × Rest) ℕ) (good : A → Bool) (view : A → B) (text : List ℕ) (v : A)
    → Reads r text v → good v ≡ true → Reads (λ u. r u >>= λ x. checked (good x.0) u.at (view x.0, x.1)) text (view v)
judged r good view text v h g = record {
  again = λ at rest.
      ap (λ q. q >>= λ x. checked (good x.0) at (view x.0, x.1)) (h.again at rest)
      ∙ ap (λ b. checked b at (view v, record { at = at + length text; bytes = rest })) g;
  cut = λ at n lt. ap (λ q. q >>= λ x. checked (good x.0) at (view x.0, x.1)) (h.cut at n lt);
}

-- one reading after another
pub followed : {A B : Type 0} (r : Rest → Result (A × Rest) ℕ) (s : A → Rest → Result (B × Rest) ℕ) (text more : List ℕ) (v : A) (w : B)
    → Reads r text v → Reads (s v) more w → Reads (λ u. r u >>= λ x. s x.0 x.1) (text ++ more) w
followed r s text more v w first second = record {
  again = λ at rest.
      let k : at + length text + length more ≡ at + length (text ++ more) = omega (arith, length-append text more) in
      ap (λ (bytes : List ℕ). r (record { at = at; bytes = bytes }) >>= λ x. s x.0 x.1) (append_assoc text more rest)
      ∙ ap (λ q. q >>= λ x. s x.0 x.1) (first.again at (more ++ rest))
      ∙ second.again (at + length text) rest
      ∙ ap (λ a. Ok (w, record { at = a; bytes = rest })) k;
  cut = λ at n lt. elim (cases_lt n (length text)) [
    | inl early ↦
        ap (λ (bytes : List ℕ). r (record { at = at; bytes = bytes }) >>= λ x. s x.0 x.1) (take-append-le n text more (omega arith))
        ∙ ap (λ q. q >>= λ x. s x.0 x.1) (first.cut at n early)
    | inr late ↦
        let m : n ≡ length text + (n - length text) = omega arith in
        let k : at + length text + (n - length text) ≡ at + n = omega arith in
        let bytes : take n (text ++ more) ≡ text ++ take (n - length text) more = ap (λ i. take i (text ++ more)) m ∙ take-append-add text more (n - length text) in
        ap (λ (bs : List ℕ). r (record { at = at; bytes = bs }) >>= λ x. s x.0 x.1) bytes
        ∙ ap (λ q. q >>= λ x. s x.0 x.1) (first.again at (take (n - length text) more))
        ∙ second.cut (at + length text) (n - length text) (omega (arith, length-append text more))
        ∙ ap (λ a. Err a) k
  ];
}

-- a value made of what was read
pub made : {A B : Type 0} (r : Rest → Result (A × Rest) ℕ) (view : A → B) (text : List ℕ) (v : A)
    → Reads r text v → Reads (λ u. r u >>= λ x. Ok (view x.0, x.1)) text (view v)
made r view text v h = record {
  again = λ at rest. ap (λ q. q >>= λ x. Ok (view x.0, x.1)) (h.again at rest);
  cut = λ at n lt. ap (λ q. q >>= λ x. Ok (view x.0, x.1)) (h.cut at n lt);
}

-- the two forms of a word's bytes
bytes_same : (n : ℕ) → to_le_bytes w32 n ≡ word_bytes n
bytes_same n = refl

word_back : (n : ℕ) → n < 2 ^ 32 → from_le_bytes w32 (word_bytes n) ≡ n
word_back n lt = ap (from_le_bytes w32) (sym (bytes_same n)) ∙ from_le_bytes-to_le_bytes_4 n lt

pub byte_reads : (good : ℕ → Bool) (b : ℕ) → good b ≡ true → Reads (byte_at good) (b ∷ []) b
unfolding byte_at
byte_reads good b g = judged (field_at 1) (λ f. good (slice_index f 0)) (λ f. slice_index f 0) (b ∷ []) (b ∷ []) (field_reads 1 (b ∷ []) refl) g

pub word_reads : (good : ℕ → Bool) (n : ℕ) → n < 2 ^ 32 → good n ≡ true → Reads (word_at good) (word_bytes n) n
unfolding word_at
word_reads good n lt g =
    let back = word_back n lt in
    subst (λ m. Reads (word_at good) (word_bytes n) m) back
    (judged (field_at 4) (λ f. good (from_le_bytes w32 f)) (from_le_bytes w32) (word_bytes n) (word_bytes n) (field_reads 4 (word_bytes n) refl) (ap good back ∙ g))

pub text_reads : (size : ℕ) (good : List ℕ → Bool) (text : List ℕ) → length text ≡ size → good text ≡ true → Reads (text_at size good) text text
unfolding text_at
text_reads size good text len g = judged (field_at size) good (λ f. f) text text (field_reads size text len) g

-- ---- what is read was written

abbrev pub IsBytes : List ℕ → Type 0
IsBytes bytes = (i : ℕ) → get_or bytes i 0 < 256

IsBytes-drop : (n : ℕ) (bytes : List ℕ) → IsBytes bytes → IsBytes (drop n bytes)
IsBytes-drop n bytes h i = rw get_or-drop (h (n + i))

IsBytes-take : (n : ℕ) (bytes : List ℕ) → IsBytes bytes → IsBytes (take n bytes)
IsBytes-take n bytes h i =
    elim (cases_lt i n) [
      | inl lt ↦ rw (get_or-take n bytes i 0 lt) (h i)
      | inr le ↦ rw (get_or_past (take n bytes) i 0 (omega (arith, length-take n bytes))) (omega arith)
    ]

-- the value of a step that did not fail
pub bind_ok : {A B : Type 0} (r : Result A ℕ) (f : A → Result B ℕ) (y : B) → (r >>= f) ≡ Ok y → (x : A) × (r ≡ Ok x) × (f x ≡ Ok y)
bind_ok (Ok x) f y e = (x, refl, e)
bind_ok (Err d) f y e = absurd cc

-- a test that did not fail
pub checked_ok : {A : Type 0} (b : Bool) (at : ℕ) (x y : A) → checked b at x ≡ Ok y → (b ≡ true) × (x ≡ y)
checked_ok true at x y e = (refl, cc)
checked_ok false at x y e = absurd cc

guard_ok : {A : Type 0} (b : Bool) (d : ℕ) (x y : A) → cond b (Err d) (Ok x) ≡ Ok y → (b ≡ false) × (x ≡ y)
guard_ok true d x y e = absurd cc
guard_ok false d x y e = (refl, cc)

abbrev done : {A : Type 0} → A → Result A ℕ
done x = Ok x

pub ok_is : {A : Type 0} (x y : A) → done x ≡ done y → x ≡ y
ok_is x y e = cc

-- what was taken from the front
pub record Takes (from : Rest) (text : List ℕ) (rest : Rest) : Type 0 where
  pub parts : from.bytes ≡ text ++ rest.bytes
  pub moves : rest.at ≡ from.at + length text
  pub rest_fits : IsBytes rest.bytes

pub Takes-then : (a : Rest) (x : List ℕ) (b : Rest) (y : List ℕ) (c : Rest) → Takes a x b → Takes b y c → Takes a (x ++ y) c
Takes-then a x b y c p q =
    let first = p.moves in
    let second = q.moves in
    record {
      parts = p.parts ∙ ap (λ (t : List ℕ). x ++ t) q.parts ∙ sym (append_assoc x y c.bytes);
      moves = omega (arith, length-append x y);
      rest_fits = q.rest_fits;
    }

pub field_takes : (size : ℕ) (r : Rest) (x : List ℕ × Rest) → IsBytes r.bytes → field_at size r ≡ Ok x → Takes r x.0 x.1 × (length x.0 ≡ size) × IsBytes x.0
unfolding field_at
field_takes size r x fits e =
    let g = guard_ok (ltb (length r.bytes) size) (r.at + length r.bytes) (take size r.bytes, record { at = r.at + size; bytes = drop size r.bytes }) x e in
    let long : size ≤ length r.bytes = ltb-false _ _ g.0 in
    let len : length (take size r.bytes) ≡ size = omega (arith, length-take size r.bytes) in
    subst (λ (y : List ℕ × Rest). Takes r y.0 y.1 × (length y.0 ≡ size) × IsBytes y.0) g.1
    (record { parts = sym (take-append-drop size r.bytes); moves = ap (λ n. r.at + n) (sym len); rest_fits = IsBytes-drop size r.bytes fits }, len, IsBytes-take size r.bytes fits)

one_byte : (f : List ℕ) → length f ≡ 1 → f ≡ slice_index f 0 ∷ []
one_byte [] e = absurd (omega arith)
one_byte (b ∷ []) e = refl
one_byte (b ∷ c ∷ f) e = absurd (omega arith)

pub byte_takes : (good : ℕ → Bool) (r : Rest) (x : ℕ × Rest) → IsBytes r.bytes → byte_at good r ≡ Ok x → Takes r (x.0 ∷ []) x.1 × (good x.0 ≡ true) × (x.0 < 256)
unfolding byte_at
byte_takes good r x fits e =
    let f = bind_ok (field_at 1 r) (λ f. checked (good (slice_index f.0 0)) r.at (slice_index f.0 0, f.1)) x e in
    let t = field_takes 1 r f.0 fits f.1 in
    let c = checked_ok (good (slice_index f.0.0 0)) r.at (slice_index f.0.0 0, f.0.1) x f.2 in
    subst (λ (y : ℕ × Rest). Takes r (y.0 ∷ []) y.1 × (good y.0 ≡ true) × (y.0 < 256)) c.1
    (subst (λ (text : List ℕ). Takes r text f.0.1) (one_byte f.0.0 t.1) t.0, c.0, t.2 0)

pub word_takes : (good : ℕ → Bool) (r : Rest) (x : ℕ × Rest) → IsBytes r.bytes → word_at good r ≡ Ok x → Takes r (word_bytes x.0) x.1 × (good x.0 ≡ true) × (x.0 < 2 ^ 32)
unfolding word_at
word_takes good r x fits e =
    let f = bind_ok (field_at 4 r) (λ f. checked (good (from_le_bytes w32 f.0)) r.at (from_le_bytes w32 f.0, f.1)) x e in
    let t = field_takes 4 r f.0 fits f.1 in
    let c = checked_ok (good (from_le_bytes w32 f.0.0)) r.at (from_le_bytes w32 f.0.0, f.0.1) x f.2 in
    let b = t.2 in
    let below : from_le_bytes w32 f.0.0 < 2 ^ 32 = omega (arith, b 0, b 1, b 2, b 3) in
    let back : word_bytes (from_le_bytes w32 f.0.0) ≡ f.0.0 = sym (bytes_same (from_le_bytes w32 f.0.0)) ∙ le_bytes_4 f.0.0 _ t.1 b refl in
    subst (λ (y : ℕ × Rest). Takes r (word_bytes y.0) y.1 × (good y.0 ≡ true) × (y.0 < 2 ^ 32)) c.1
    (subst (λ (text : List ℕ). Takes r text f.0.1) (sym back) t.0, c.0, below)

pub text_takes : (size : ℕ) (good : List ℕ → Bool) (r : Rest) (x : List ℕ × Rest) → IsBytes r.bytes → text_at size good r ≡ Ok x → Takes r x.0 x.1 × (good x.0 ≡ true) × (length x.0 ≡ size)
unfolding text_at
text_takes size good r x fits e =
    let f = bind_ok (field_at size r) (λ f. checked (good f.0) r.at f) x e in
    let t = field_takes size r f.0 fits f.1 in
    let c = checked_ok (good f.0.0) r.at f.0 x f.2 in
    subst (λ (y : List ℕ × Rest). Takes r y.0 y.1 × (good y.0 ≡ true) × (length y.0 ≡ size)) c.1 (t.0, c.0, t.1)
